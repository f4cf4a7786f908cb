use Rattle.std.proofs.Common.{rules}
use Rattle.std.proofs.lemmas.Int.{to_z-of_z}
use Rattle.oct_def.specs.Tight.{strong_entry}
use Rattle.full_oct.proofs.matrix.FullMatrix.strong_word.Goals as goal

pub returns : goal.returns
unfolding strong_entry
returns c = search (rules, to_z-of_z, c.opposite.ensures)
