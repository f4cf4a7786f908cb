-- Entries with variables added, from the tests of the code.
use Rattle.std.proofs.Common.{◌≡◌, ◌≢◌, ℕ, ◌*◌, ◌<◌, Bool, true, false, ◌&&◌, cond, eqb, ltb, Some, None, refl, ap}
use Rattle.std.specs.Prelude.{pos, nat_lt}
use Rattle.std.proofs.lemmas.Bool.Decides.{Decides-eqb, Decides-ltb}
use Rattle.oct_def.specs.Table.{Matrix, at}
use Rattle.oct_def.specs.Octagon.{top_entry}
use Rattle.transfer_def.specs.Dimensions.{extended_entry}

pub extended_of : (n : ℕ) (m : Matrix) (i j : ℕ) (r : Bool) → r ≡ (nat_lt i (2 * n) && nat_lt j (2 * n)) → cond r (at m i j) (top_entry i j) ≡ extended_entry n m i j
unfolding extended_entry
extended_of n m i j r h = ap (λ (b : Bool). cond b (at m i j) (top_entry i j)) h

pub top-same : (i j : ℕ) → i ≡ j → top_entry i j ≡ Some (pos 0)
unfolding top_entry
top-same i j e = ap (λ (b : Bool). cond b (Some (pos 0)) None) ((Decides-eqb i j).1 e)

pub top-other : (i j : ℕ) → i ≢ j → top_entry i j ≡ None
unfolding top_entry
top-other i j h = by (eqb i j) refl
  where
    by : (b : Bool) → eqb i j ≡ b → cond b (Some (pos 0)) None ≡ None
    by true e = absurd (h ((Decides-eqb i j).0 e))
    by false e = refl

pub both_below : (i j n : ℕ) → true ≡ (nat_lt i n && nat_lt j n) → (i < n) × (j < n)
both_below i j n h = by (ltb i n) (ltb j n) refl refl h
  where
    by : (a b : Bool) → ltb i n ≡ a → ltb j n ≡ b → true ≡ (a && b) → (i < n) × (j < n)
    by true true e f g = ((Decides-ltb i n).0 e, (Decides-ltb j n).0 f)
    by true false e f g = cc
    by false b e f g = cc
