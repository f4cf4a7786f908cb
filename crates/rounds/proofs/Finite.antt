-- The finite entries of a matrix.
use Rattle.std.proofs.Common.{◌≡◌, ℕ, ◌*◌, ◌<◌, ◌≤◌, Bool, true, false, cond, Some, None, length, refl, sym, subst, arith}
use Rattle.std.specs.List.{All, sum_by, count_by, range_with_len}
use Rattle.std.proofs.lemmas.List.Sums.{sum_by-le, count_by-le-length}
use Rattle.std.proofs.lemmas.List.FromFn.{length-range_with_len}
use Rattle.oct_def.specs.Bound.{Bound}
use Rattle.oct_def.specs.Table.{table, at}
use Rattle.oct_def.proofs.Tables.{length-table, at-table}
use Rattle.rounds.proofs.Sums.{sum-most, sum-same, all-range, from-all-range}

abbrev pub is_finite : Bound → Bool
is_finite None = false
is_finite (Some x) = true

-- the finite entries of the n by n entries that a function gives
unfoldable pub finite_of : ℕ → (ℕ → ℕ → Bound) → ℕ
finite_of n f = sum_by (λ i. count_by (λ j. is_finite (f i j)) (range_with_len 0 n)) (range_with_len 0 n)

abbrev one : Bool → ℕ
one b = cond b 1 0

one-most : (a b : Bool) → (a ≡ true → b ≡ true) → one a ≤ one b
one-most true b h = subst (λ (t : Bool). 1 ≤ one t) (sym (h refl)) (omega arith)
one-most false b h = omega arith

one-same : (a b : Bool) → one a ≡ one b → a ≡ b
one-same true true e = refl
one-same true false e = absurd (omega (arith, e))
one-same false true e = absurd (omega (arith, e))
one-same false false e = refl

row-most : (n : ℕ) (f g : ℕ → ℕ → Bound) (i : ℕ) → i < n → ((i j : ℕ) → i < n → j < n → is_finite (g i j) ≡ true → is_finite (f i j) ≡ true) → All (λ j. one (is_finite (g i j)) ≤ one (is_finite (f i j))) (range_with_len 0 n)
row-most n f g i lt h = all-range (λ j. one (is_finite (g i j)) ≤ one (is_finite (f i j))) n (λ j p. one-most (is_finite (g i j)) (is_finite (f i j)) (h i j lt p))

rows-most : (n : ℕ) (f g : ℕ → ℕ → Bound) → ((i j : ℕ) → i < n → j < n → is_finite (g i j) ≡ true → is_finite (f i j) ≡ true) → All (λ i. count_by (λ j. is_finite (g i j)) (range_with_len 0 n) ≤ count_by (λ j. is_finite (f i j)) (range_with_len 0 n)) (range_with_len 0 n)
rows-most n f g h = all-range (λ i. count_by (λ j. is_finite (g i j)) (range_with_len 0 n) ≤ count_by (λ j. is_finite (f i j)) (range_with_len 0 n)) n
    (λ i p. sum-most (λ j. one (is_finite (g i j))) (λ j. one (is_finite (f i j))) (range_with_len 0 n) (row-most n f g i p h))

pub finite-most : (n : ℕ) (f g : ℕ → ℕ → Bound) → ((i j : ℕ) → i < n → j < n → is_finite (g i j) ≡ true → is_finite (f i j) ≡ true) → finite_of n g ≤ finite_of n f
unfolding finite_of
finite-most n f g h = sum-most (λ i. count_by (λ j. is_finite (g i j)) (range_with_len 0 n)) (λ i. count_by (λ j. is_finite (f i j)) (range_with_len 0 n)) (range_with_len 0 n) (rows-most n f g h)

pub finite-same : (n : ℕ) (f g : ℕ → ℕ → Bound) → ((i j : ℕ) → i < n → j < n → is_finite (g i j) ≡ true → is_finite (f i j) ≡ true) → finite_of n f ≤ finite_of n g → (i j : ℕ) → i < n → j < n → is_finite (g i j) ≡ is_finite (f i j)
unfolding finite_of
finite-same n f g h le i j p q =
    let rows = sum-same (λ a. count_by (λ b. is_finite (g a b)) (range_with_len 0 n)) (λ a. count_by (λ b. is_finite (f a b)) (range_with_len 0 n)) (range_with_len 0 n) (rows-most n f g h) le in
    let row : count_by (λ b. is_finite (g i b)) (range_with_len 0 n) ≡ count_by (λ b. is_finite (f i b)) (range_with_len 0 n) =
    from-all-range (λ a. count_by (λ b. is_finite (g a b)) (range_with_len 0 n) ≡ count_by (λ b. is_finite (f a b)) (range_with_len 0 n)) n rows i p in
    one-same (is_finite (g i j)) (is_finite (f i j))
    (from-all-range (λ b. one (is_finite (g i b)) ≡ one (is_finite (f i b))) n
    (sum-same (λ b. one (is_finite (g i b))) (λ b. one (is_finite (f i b))) (range_with_len 0 n) (row-most n f g i p h) (omega (arith, row))) j q)

pub finite-within : (n : ℕ) (f : ℕ → ℕ → Bound) → finite_of n f ≤ n * n
unfolding finite_of
finite-within n f =
    let rows : All (λ i. count_by (λ j. is_finite (f i j)) (range_with_len 0 n) ≤ n) (range_with_len 0 n) =
    all-range (λ i. count_by (λ j. is_finite (f i j)) (range_with_len 0 n) ≤ n) n (λ i p. omega (arith, count_by-le-length (λ j. is_finite (f i j)) (range_with_len 0 n), length-range_with_len 0 n)) in
    subst (λ k. sum_by (λ i. count_by (λ j. is_finite (f i j)) (range_with_len 0 n)) (range_with_len 0 n) ≤ k * n) (length-range_with_len 0 n)
    (sum_by-le (λ i. count_by (λ j. is_finite (f i j)) (range_with_len 0 n)) n (range_with_len 0 n) rows)

-- those of a table
pub finite-table : (n : ℕ) (f : ℕ → ℕ → Bound) → finite_of (length (table n f)) (at (table n f)) ≤ finite_of n f
finite-table n f = subst (λ k. finite_of k (at (table n f)) ≤ finite_of n f) (sym (length-table n f))
    (finite-most n f (at (table n f)) (λ i j p q e. subst (λ b. is_finite b ≡ true) (at-table n f i j p q) e))
