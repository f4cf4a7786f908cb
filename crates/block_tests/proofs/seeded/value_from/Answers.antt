use Rattle.std.proofs.Common.{◌∙◌, sym, subst}
use Rattle.oct_def.specs.Bound.{InRange}
use Rattle.oct_def.specs.Table.{Matrix, at}
use Rattle.half_matrix.proofs.Ranges.{in_range-top}
use Rattle.block_tests.proofs.seeded.value_from.Goals as goal

pub fill-requires : goal.fill-requires
fill-requires g c = record { in_range = λ i j. subst (λ (m : Matrix). InRange (at m i j)) (sym (c.in_ok-writing.ensures.same ∙ c.in_ok-matrix.ensures)) (in_range-top 5 i j) }
