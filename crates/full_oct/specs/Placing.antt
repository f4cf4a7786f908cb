-- What a listed bound stands for, put at its place and at the coherent one.
use Rattle.oct_def.specs.Bound.{bound_of}
use Rattle.interval_form.specs.declared.constraints.OctBound.{OctBound}
use Rattle.placed_bounds.specs.Bounded.{Placed}

abbrev pub placed_of : OctBound → Placed
placed_of b = record { row = b.row; column = b.column; bound = bound_of b.word }
