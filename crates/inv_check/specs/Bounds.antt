-- The bounds of a certificate as a domain takes them.
use Rattle.interval_form.specs.declared.constraints.OctBound.{OctBound}
use Rattle.inv_text.specs.declared.bound.InvBound.{InvBound}

abbrev pub oct_bound : InvBound → OctBound
oct_bound b = record { row = b.row; column = b.column; word = b.word }
