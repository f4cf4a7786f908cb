use Rattle.std.proofs.Common.{rules}
use Rattle.std.proofs.lemmas.Int.{to_z-of_z}
use Rattle.dec_oct.specs.Cut.{strong_assembly_entry}
use Rattle.dec_oct.proofs.parts.strong_word.Goals as goal

pub returns : goal.returns
unfolding strong_assembly_entry
returns c = search (rules, to_z-of_z, c.opposite.ensures, c.opposite-2.ensures)
