-- A matrix that takes listed bounds by minimum, one after the other.
use Rattle.std.specs.Prelude.{List, [], ◌∷◌}
use Rattle.oct_def.specs.Bound.{least, bound_of}
use Rattle.oct_def.specs.Table.{Matrix, at}
use Rattle.interval_form.specs.declared.constraints.OctBound.{OctBound}
use Rattle.full_oct.specs.Words.{replaced}

abbrev pub with_bound : Matrix → OctBound → Matrix
with_bound m b = replaced m b.row b.column (least (at m b.row b.column) (bound_of b.word))

abbrev pub taken : Matrix → List OctBound → Matrix
taken m [] = m
taken m (b ∷ bs) = taken (with_bound m b) bs
