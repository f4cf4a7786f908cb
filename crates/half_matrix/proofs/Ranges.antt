-- Matrices whose bounds lie between the limits.
use Rattle.std.proofs.Common.{◌≡◌, ℕ, ◌*◌, Bool, true, false, cond, Some, None, length, arith}
use Rattle.std.specs.Prelude.{pos, nat_eq}
use Rattle.std.proofs.lemmas.Int.{ints}
use Rattle.oct_def.specs.Bound.{Bound, InRange}
use Rattle.oct_def.specs.Table.{Matrix, at}
use Rattle.oct_def.specs.Octagon.{top_entry, top_matrix}
use Rattle.oct_def.proofs.Tables.{length-table}
use Rattle.oct_def.proofs.Values.{each-table}
use Rattle.half_matrix.specs.Lending.{same_entry, set_entry, with_entry}

pub in_range-set : (m : Matrix) (i j : ℕ) (b : Bound) → InRange b → ((r c : ℕ) → InRange (at m r c)) → (r c : ℕ) → InRange (at (with_entry m i j b) r c)
unfolding with_entry set_entry
in_range-set m i j b h g = each-table InRange tt (length m) (set_entry m i j b) (λ r c p q. by (same_entry i j r c) r c)
  where
    by : (t : Bool) (r c : ℕ) → InRange (cond t b (at m r c))
    by true r c = h
    by false r c = g r c

pub length-set_entry : (m : Matrix) (i j : ℕ) (b : Bound) → length (with_entry m i j b) ≡ length m
unfolding with_entry
length-set_entry m i j b = length-table (length m) (set_entry m i j b)

pub in_range-top : (n i j : ℕ) → InRange (at (top_matrix n) i j)
unfolding top_matrix top_entry
in_range-top n = each-table InRange tt (2 * n) top_entry (λ i j p q. by (nat_eq i j))
  where
    by : (b : Bool) → InRange (cond b (Some (pos 0)) None)
    by true = (omega (arith, ints), omega (arith, ints))
    by false = tt

pub length-top : (n : ℕ) → length (top_matrix n) ≡ 2 * n
unfolding top_matrix
length-top n = length-table (2 * n) top_entry
