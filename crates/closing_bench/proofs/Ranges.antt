-- A matrix whose bounds lie between the limits, with as many rows as another.
use Rattle.std.proofs.Common.{◌≡◌, ℕ, length, inr, ◌∙◌, arith}
use Rattle.std.specs.Prelude.{ℤ, pos, ◌≤ℤ◌}
use Rattle.std.proofs.lemmas.Int.{ints}
use Rattle.oct_def.specs.Bound.{InRange, bound_of}
use Rattle.oct_def.specs.Table.{Matrix, at}
use Rattle.oct_def.proofs.WordBounds.{in_range-word}
use Rattle.half_matrix.specs.Lending.{with_entry}
use Rattle.half_matrix.proofs.Ranges.{in_range-set, length-set_entry}

pub record Good (old now : Matrix) : Type 0 where
  pub in_range : (i j : ℕ) → InRange (at now i j)
  pub rows : length now ≡ length old

pub good-set : (old now : Matrix) (i j : ℕ) (w : ℤ) → pos 0 ≤ℤ w → w ≤ℤ pos 1023 → Good old now → Good old (with_entry now i j (bound_of w))
good-set old now i j w p q g = record {
  in_range = in_range-set now i j (bound_of w) (in_range-word w (inr (omega (arith, ints), omega (arith, ints)))) g.in_range;
  rows = length-set_entry now i j (bound_of w) ∙ g.rows;
}
