use Rattle.spl_runs.proofs.Parted.{condition_parts}
use Rattle.text_tests.proofs.cores.cond_of.Goals as goal

pub returns : goal.returns
returns c = condition_parts c.args.core.now c.cond_at.ensures.known c.args.c _ c.requires c.cond_at.ensures.found
