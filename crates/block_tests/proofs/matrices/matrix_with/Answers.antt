use Rattle.std.proofs.Common.{◌∙◌, sym, subst}
use Rattle.oct_def.specs.Bound.{InRange}
use Rattle.oct_def.specs.Table.{Matrix, at}
use Rattle.half_matrix.proofs.Ranges.{in_range-top}
use Rattle.block_tests.proofs.matrices.matrix_with.Goals as goal

pub constrain_all-requires : goal.constrain_all-requires
constrain_all-requires c = record { in_range = λ i j. subst (λ (m : Matrix). InRange (at m i j)) (sym (c.in_ok-writing.ensures.same ∙ c.in_ok-matrix.ensures)) (in_range-top c.args.vars i j) }
