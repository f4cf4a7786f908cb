-- Places of a full matrix: rows follow each other, and each place is filled once.
use Rattle.std.proofs.Common.{◌≡◌, ℕ, zero, suc, ◌+◌, ◌*◌, ◌/◌, ◌%◌, ◌<◌, ◌≤◌, ◌⊎◌, inl, inr, List, [], ◌∷◌, ◌++◌, length, get_or, refl, sym, ap, ◌∙◌, subst, arith}
use Rattle.std.specs.Prelude.{ℤ, pos}
use Rattle.std.proofs.Common.{length-append, add-one}
use Rattle.std.proofs.lemmas.Nat.{mul-add-lt, div-mul-add, mod-mul-add, div-add-mod'}
use Rattle.std.proofs.Math.Nat.{mul-le-mul_left, div-lt_iff_lt-mul, mod-lt}
use Rattle.std.proofs.lemmas.List.{ext_get_or, get_or_push, get_or_read, get_or_append_left}
use Rattle.oct_def.specs.Bound.{bound_of}
use Rattle.oct_def.specs.Table.{Matrix, at}
use Rattle.oct_def.specs.Tight.{pair_step, pair_steps}
use Rattle.oct_def.specs.Matrix.{IsSquare}
use Rattle.oct_def.proofs.Tables.{length-table, at-table, square-table}
use Rattle.oct_def.proofs.WordBounds.{same_word}
use Rattle.full_oct.specs.Words.{word_entry, matrix_of, IsFull}

pub length-matrix_of : (size : ℕ) (words : List ℤ) → length (matrix_of size words) ≡ size
unfolding matrix_of
length-matrix_of size words = length-table size (word_entry size words)

pub square-matrix_of : (size : ℕ) (words : List ℤ) → IsSquare (matrix_of size words)
unfolding matrix_of
square-matrix_of size words = square-table size (word_entry size words)

pub at-matrix_of : (size : ℕ) (words : List ℤ) (i j : ℕ) → i < size → j < size → at (matrix_of size words) i j ≡ bound_of (get_or words (i * size + j) (pos 0))
unfolding matrix_of word_entry
at-matrix_of size words i j p q = at-table size (word_entry size words) i j p q

-- the same of the matrix that a value is seen as
pub rows_of : (size : ℕ) (words : List ℤ) (m : Matrix) → matrix_of size words ≡ m → size ≡ length m
rows_of size words m e = sym (length-matrix_of size words) ∙ ap length e

pub square_of : (size : ℕ) (words : List ℤ) (m : Matrix) → matrix_of size words ≡ m → IsSquare m
square_of size words m e = subst IsSquare e (square-matrix_of size words)

pub place_within : (size : ℕ) (words : List ℤ) (i j : ℕ) → IsFull size words → i < size → j < size → i * size + j < length words
place_within size words i j f p q = omega (arith, mul-add-lt i size j size p q, f.filled)

-- no place passes 2^63
pub place_small : (size i j : ℕ) → size ≤ 1024 → i < size → j < size → i * size + j < 1048576
place_small size i j s p q =
    let a = mul-add-lt i size j size p q in
    let b = mul-le-mul_left size s in
    omega (arith, a, b)

pub bound_at : (size : ℕ) (words : List ℤ) (m : Matrix) (i j : ℕ) (w : ℤ) → matrix_of size words ≡ m → IsFull size words → i < size → j < size → w ≡ get_or words (i * size + j) w → bound_of w ≡ at m i j
bound_at size words m i j w e f p q h =
    ap bound_of (get_or_read words (i * size + j) w (place_within size words i j f p q) h (pos 0))
    ∙ sym (at-matrix_of size words i j p q) ∙ ap (λ t. at t i j) e

-- ---- places filled one after the other

-- each word that is there satisfies what is asked of its row and column
abbrev pub Filled : ℕ → (ℕ → ℕ → ℤ → Type 0) → List ℤ → Type 0
Filled size P words = (k : ℕ) → k < length words → P (k / size) (k % size) (get_or words k (pos 0))

pub filled_more : (size : ℕ) (P : ℕ → ℕ → ℤ → Type 0) (words : List ℤ) (i j : ℕ) (w : ℤ) → Filled size P words → length words ≡ i * size + j → j < size → P i j w → Filled size P (words ++ w ∷ [])
filled_more size P words i j w h e q p k lt = by (k_cases)
  where
    k_cases : (k < length words) ⊎ (k ≡ length words)
    k_cases = let l = length-append words (w ∷ []) in grind (arith, l)

    by : (k < length words) ⊎ (k ≡ length words) → P (k / size) (k % size) (get_or (words ++ w ∷ []) k (pos 0))
    by (inl r) = subst (P (k / size) (k % size)) (sym (get_or_append_left words (w ∷ []) (pos 0) k r)) (h k r)
    by (inr r) =
        let row : i ≡ k / size = sym (ap (λ n. n / size) (r ∙ e) ∙ div-mul-add i size j q) in
        let column : j ≡ k % size = sym (ap (λ n. n % size) (r ∙ e) ∙ mod-mul-add i size j q) in
        let word : w ≡ get_or (words ++ w ∷ []) k (pos 0) = sym (get_or_push words w (pos 0) k (sym r)) in
        subst (λ a. P a (k % size) (get_or (words ++ w ∷ []) k (pos 0))) row
        (subst (λ b. P i b (get_or (words ++ w ∷ []) k (pos 0))) column (subst (P i j) word p))

-- at the end each place is filled
pub filled_at : (size : ℕ) (P : ℕ → ℕ → ℤ → Type 0) (words : List ℤ) → Filled size P words → length words ≡ size * size → (i j : ℕ) → i < size → j < size → P i j (get_or words (i * size + j) (pos 0))
filled_at size P words h e i j p q =
    let lt : i * size + j < length words = omega (arith, mul-add-lt i size j size p q) in
    subst (λ a. P a j (get_or words (i * size + j) (pos 0))) (div-mul-add i size j q)
    (subst (λ b. P ((i * size + j) / size) b (get_or words (i * size + j) (pos 0))) (mod-mul-add i size j q) (h (i * size + j) lt))

-- one step more
pub pair_steps-more : (n : ℕ) (m : Matrix) → pair_step n (pair_steps n m) ≡ pair_steps (n + 1) m
unfolding pair_steps
pair_steps-more n m = rw add-one refl

-- ---- matrices of the same words

word_same : (size : ℕ) (xs ys : List ℤ) (k : ℕ) → length xs ≡ size * size → k < length xs → matrix_of size xs ≡ matrix_of size ys → get_or xs k (pos 0) ≡ get_or ys k (pos 0)
word_same size xs ys k e lt h =
    same_word (get_or xs k (pos 0)) (get_or ys k (pos 0))
    (ap (λ t. bound_of (get_or xs t (pos 0))) (sym (div-add-mod' k size)) ∙ sym (at-matrix_of size xs (k / size) (k % size) row column)
    ∙ ap (λ m. at m (k / size) (k % size)) h
    ∙ at-matrix_of size ys (k / size) (k % size) row column ∙ ap (λ t. bound_of (get_or ys t (pos 0))) (div-add-mod' k size))
  where
    some_row : (n : ℕ) → k < n * n → 0 < n
    some_row zero l = absurd (omega (arith, l))
    some_row (suc n) l = omega arith

    row : k / size < size
    row = (div-lt_iff_lt-mul (some_row size (omega (arith, lt, e)))).1 (omega (arith, lt, e))

    column : k % size < size
    column = mod-lt k (some_row size (omega (arith, lt, e)))

-- two matrices are the same where their words are
pub same_words : (s t : ℕ) (xs ys : List ℤ) (m n : Matrix) → matrix_of s xs ≡ m → matrix_of t ys ≡ n → length n ≡ length m → xs ≡ ys → m ≡ n
same_words s t xs ys m n em en e h =
    sym em ∙ ap (matrix_of s) h ∙ ap (λ k. matrix_of k ys) (rows_of s xs m em ∙ sym e ∙ sym (rows_of t ys n en)) ∙ en

pub words_same : (s t : ℕ) (xs ys : List ℤ) (m n : Matrix) → matrix_of s xs ≡ m → matrix_of t ys ≡ n → IsFull s xs → IsFull t ys → m ≡ n → xs ≡ ys
words_same s t xs ys m n em en f g h =
    let sizes : t ≡ s = rows_of t ys n en ∙ ap length (sym h) ∙ sym (rows_of s xs m em) in
    let same : matrix_of s xs ≡ matrix_of s ys = em ∙ h ∙ sym en ∙ ap (λ k. matrix_of k ys) sizes in
    ext_get_or (pos 0) xs ys (f.filled ∙ ap (λ k. k * k) (sym sizes) ∙ sym g.filled) (λ k lt. word_same s xs ys k f.filled lt same)

-- ---- lists filled element by element

-- what holds of each element, and of one more behind them, holds of each element of both
pub each_more : {A : Type 0} (P : ℕ → A → Type 0) (d : A) (xs next : List A) (w : A) → ((k : ℕ) → k < length xs → P k (get_or xs k d)) → P (length xs) w → next ≡ xs ++ w ∷ [] → (k : ℕ) → k < length next → P k (get_or next k d)
each_more P d xs next w h e en k lt = rw en (by cases)
  where
    cases : (k < length xs) ⊎ (k ≡ length xs)
    cases = let l = ap length en ∙ length-append xs (w ∷ []) in grind (arith, l)

    by : (k < length xs) ⊎ (k ≡ length xs) → P k (get_or (xs ++ w ∷ []) k d)
    by (inl p) = subst (P k) (sym (get_or_append_left xs (w ∷ []) d k p)) (h k p)
    by (inr p) = subst (P k) (sym (get_or_push xs w d k (sym p))) (subst (λ i. P i w) (sym p) e)
