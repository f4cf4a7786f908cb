use Rattle.std.proofs.Common.{ℕ, length, sym, ap, subst, ◌∙◌}
use Rattle.oct_def.specs.Bound.{InRange}
use Rattle.oct_def.specs.Table.{Matrix, at}
use Rattle.oct_def.proofs.WordBounds.{in_range-word}
use Rattle.half_matrix.proofs.Ranges.{in_range-set, length-set_entry}
use Rattle.minplus_lanes.proofs.Rows.{word_again}
use Rattle.block_tests.proofs.matrices.constrain.Goals as goal

pub returns-then-j-size-clause-in_range : goal.returns-then-j-size-clause-in_range
returns-then-j-size-clause-in_range c =
    subst (λ (m : Matrix). (i j : ℕ) → InRange (at m i j)) (sym c.set.ensures)
    (in_range-set _ _ _ _ (in_range-word _ (word_again _ c.word_within.ensures)) c.requires.in_range)

pub returns-then-j-size-clause-rows : goal.returns-then-j-size-clause-rows
returns-then-j-size-clause-rows c = ap length c.set.ensures ∙ length-set_entry _ _ _ _
