-- States with one more dimension, and with one dimension set.
use Rattle.std.proofs.Common.{◌≡◌, ◌≢◌, ℕ, zero, suc, ◌/◌, ◌%◌, ◌<◌, ◌≤◌, ◌++◌, ◌∷◌, List, [], length, set, ℤ, pos, refl, arith, get_or-set_other}
use Rattle.std.proofs.lemmas.List.{get_or_append_left, get_or_at}
use Rattle.oct_def.specs.Matrix.{value_at, signed_value}
use Rattle.interval_form.specs.Form.{weighted_sum}

-- the state with one more dimension of value y
abbrev pub grown : List ℤ → ℤ → List ℤ
grown s y = s ++ y ∷ []

pub value_at-grown : (s : List ℤ) (y : ℤ) (v : ℕ) → v < length s → value_at (grown s y) v ≡ value_at s v
value_at-grown s y v h = get_or_append_left s (y ∷ []) (pos 0) v h

pub value_at-grown_last : (s : List ℤ) (y : ℤ) (n : ℕ) → length s ≡ n → value_at (grown s y) n ≡ y
value_at-grown_last s y n e = get_or_at s y [] (pos 0) n e

-- signed dimensions of one parity whose variables have the same value have the same value
pub signed_value-same : (s t : List ℤ) (i k : ℕ) → i % 2 ≡ k % 2 → value_at s (i / 2) ≡ value_at t (k / 2) → signed_value s i ≡ signed_value t k
signed_value-same s t i k p e = rw (p, e)

pub signed_value-grown : (s : List ℤ) (y : ℤ) (i : ℕ) → i / 2 < length s → signed_value (grown s y) i ≡ signed_value s i
signed_value-grown s y i h = signed_value-same (grown s y) s i i refl (value_at-grown s y (i / 2) h)

pub signed_value-set_other : (s : List ℤ) (x : ℕ) (y : ℤ) (i : ℕ) → i / 2 ≢ x → signed_value (set s x y) i ≡ signed_value s i
signed_value-set_other s x y i d = signed_value-same (set s x y) s i i refl (get_or-set_other s x (i / 2) y (pos 0) d)

pub weighted_sum-grown : (n : ℕ) (factors : ℕ → ℤ) (s : List ℤ) (y : ℤ) → n ≤ length s → weighted_sum n factors (grown s y) ≡ weighted_sum n factors s
unfolding weighted_sum
weighted_sum-grown zero factors s y h = refl
weighted_sum-grown (suc n) factors s y h =
    rw (weighted_sum-grown n factors s y (omega arith), value_at-grown s y n (omega arith))
