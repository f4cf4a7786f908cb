use Rattle.spl_runs.proofs.Parted.{parts_below}
use Rattle.text_tests.proofs.cores.expr_of.Goals as goal

pub returns : goal.returns
returns c = parts_below c.args.core.now c.expr_at.ensures.known c.args.e _ c.requires c.expr_at.ensures.found
