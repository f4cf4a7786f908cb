use Rattle.std.proofs.Common.{arith}
use Rattle.std.proofs.lemmas.Grind.{common_steps}
use Rattle.std.proofs.lemmas.List.Edits.{map_over_more}
use Rattle.dec_oct.specs.Cut.{relabelled}
use Rattle.dec_oct.proofs.walk.relabel.Goals as goal

pub loop-i-preserved : goal.loop-i-preserved
loop-i-preserved c = grind (arith, common_steps, map_over_more (relabelled c.args.from c.args.to))
