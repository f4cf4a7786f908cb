-- Items of lists that are put together.
use Rattle.std.proofs.Common.{◌≡◌, ℕ, suc, zero, ◌<◌, ◌⊎◌, inl, inr, Bool, true, false, cond, List, [], ◌∷◌, get_or, refl, sym, ◌∙◌, subst, arith}
use Rattle.std.specs.List.{Contains, Any, flat_map, range_with_len}
use Rattle.std.proofs.lemmas.List.FromFn.{length-range_with_len, get_or-range_with_len}
use Rattle.std.proofs.lemmas.List.Elements.{Contains-append_cases}
use Rattle.std.proofs.lemmas.List.Concat.{flat_map-cons}

-- an item of a flat_map over numbers comes from one of them
pub from_flat_map : {X A : Type 0} → (f : X → List A) (xs : List X) (y : A) → Contains (flat_map f xs) y → Any (λ x. Contains (f x) y) xs
from_flat_map f [] y h = absurd (omega (arith, h.1))
from_flat_map f (x ∷ xs) y h = by (Contains-append_cases (f x) (flat_map f xs) y (subst (λ l. Contains l y) (flat_map-cons f x xs) h)) (from_flat_map f xs y)
  where
    by : Contains (f x) y ⊎ Contains (flat_map f xs) y → (Contains (flat_map f xs) y → Any (λ z. Contains (f z) y) xs) → Any (λ z. Contains (f z) y) (x ∷ xs)
    by (inl here) rest = (0, x, omega arith, refl, here)
    by (inr there) rest = let r = rest there in (suc r.0, r.1, omega (arith, r.2), r.3, r.4)

pub from_range : {A : Type 0} → (f : ℕ → List A) (n : ℕ) (y : A) → Contains (flat_map f (range_with_len 0 n)) y → (e : ℕ) × (e < n) × Contains (f e) y
from_range f n y h =
    let r = from_flat_map f (range_with_len 0 n) y h in
    let lt : r.0 < n = omega (arith, r.2, length-range_with_len 0 n) in
    let same : r.1 ≡ r.0 = sym r.3 ∙ get_or-range_with_len 0 n r.0 r.1 lt ∙ omega arith in
    (r.0, lt, subst (λ z. Contains (f z) y) same r.4)

-- an item of a list of one, and of a list that a test guards
pub of_one : {A : Type 0} → (x y : A) → Contains (x ∷ []) y → x ≡ y
of_one x y h = by h.0 h.1 h.2
  where
    by : (k : ℕ) → k < 1 → get_or (x ∷ []) k y ≡ y → x ≡ y
    by zero lt e = e
    by (suc k) lt e = absurd (omega arith)

pub guarded : {A : Type 0} → (b : Bool) (x y : A) → Contains (cond b (x ∷ []) []) y → (b ≡ true) × (x ≡ y)
guarded true x y h = (refl, of_one x y h)
guarded false x y h = absurd (omega (arith, h.1))

pub of_two : {A : Type 0} → (x z y : A) → Contains (x ∷ z ∷ []) y → (x ≡ y) ⊎ (z ≡ y)
of_two x z y h = by h.0 h.1 h.2
  where
    by : (k : ℕ) → k < 2 → get_or (x ∷ z ∷ []) k y ≡ y → (x ≡ y) ⊎ (z ≡ y)
    by zero lt e = inl e
    by (suc zero) lt e = inr e
    by (suc (suc k)) lt e = absurd (omega arith)
