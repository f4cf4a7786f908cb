use Rattle.std.proofs.Common.{rules}
use Rattle.std.proofs.lemmas.Int.{to_z-of_z}
use Rattle.oct_def.specs.Octagon.{join_entry}
use Rattle.full_oct.proofs.matrix.FullMatrix.joined_word.Goals as goal

pub returns : goal.returns
unfolding join_entry
returns c = search (rules, to_z-of_z)
