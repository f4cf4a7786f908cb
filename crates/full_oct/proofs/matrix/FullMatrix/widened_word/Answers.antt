use Rattle.std.proofs.Common.{rules}
use Rattle.std.proofs.lemmas.Int.{to_z-of_z}
use Rattle.oct_def.specs.Octagon.{widen_entry}
use Rattle.full_oct.proofs.matrix.FullMatrix.widened_word.Goals as goal

pub returns : goal.returns
unfolding widen_entry
returns c = search (rules, to_z-of_z)
