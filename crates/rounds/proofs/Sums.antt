-- Sums of counts, and what holds of each index below a number.
use Rattle.std.proofs.Common.{◌≡◌, ℕ, zero, suc, ◌<◌, ◌≤◌, List, [], ◌∷◌, get_or, subst, arith}
use Rattle.std.specs.List.{All, sum_by, range_with_len}
use Rattle.std.proofs.lemmas.List.Elements.{All-tail}
use Rattle.std.proofs.lemmas.List.Sums.{sum_by-cons}
use Rattle.std.proofs.lemmas.List.FromFn.{length-range_with_len, get_or-range_with_len}

pub sum-most : {X : Type 0} → (f g : X → ℕ) (xs : List X) → All (λ x. f x ≤ g x) xs → sum_by f xs ≤ sum_by g xs
sum-most f g [] h = omega arith
sum-most f g (x ∷ xs) h = omega (arith, sum_by-cons f x xs, sum_by-cons g x xs, h 0 x (omega arith), sum-most f g xs (All-tail (λ y. f y ≤ g y) x xs h))

pub sum-same : {X : Type 0} → (f g : X → ℕ) (xs : List X) → All (λ x. f x ≤ g x) xs → sum_by g xs ≤ sum_by f xs → All (λ x. f x ≡ g x) xs
sum-same f g [] h e = λ k d lt. absurd (omega arith)
sum-same f g (x ∷ xs) h e = by (All-tail (λ y. f y ≤ g y) x xs h) (λ t le. sum-same f g xs t le)
  where
    first : f x ≤ g x
    first = h 0 x (omega arith)

    by : All (λ y. f y ≤ g y) xs → (All (λ y. f y ≤ g y) xs → sum_by g xs ≤ sum_by f xs → All (λ y. f y ≡ g y) xs) → All (λ y. f y ≡ g y) (x ∷ xs)
    by t rest zero d lt = omega (arith, sum_by-cons f x xs, sum_by-cons g x xs, first, sum-most f g xs t)
    by t rest (suc k) d lt = rest t (omega (arith, sum_by-cons f x xs, sum_by-cons g x xs, first)) k d (omega arith)

pub all-range : (P : ℕ → Type 0) (n : ℕ) → ((k : ℕ) → k < n → P k) → All P (range_with_len 0 n)
all-range P n h = λ k d lt.
    let within : k < n = omega (arith, length-range_with_len 0 n) in
    let e : k ≡ get_or (range_with_len 0 n) k d = omega (arith, get_or-range_with_len 0 n k d within) in
    subst P e (h k within)

pub from-all-range : (P : ℕ → Type 0) (n : ℕ) → All P (range_with_len 0 n) → (k : ℕ) → k < n → P k
from-all-range P n h k lt =
    let e : get_or (range_with_len 0 n) k 0 ≡ k = omega (arith, get_or-range_with_len 0 n k 0 lt) in
    subst P e (h k 0 (omega (arith, length-range_with_len 0 n)))
