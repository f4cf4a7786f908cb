-- Tables: their size, their entries, and when two matrices are equal.
use Rattle.std.proofs.Common.{◌≡◌, ℕ, ◌<◌, ◌≤◌, [], length, get_or, None, refl, sym, ap, ◌∙◌, arith}
use Rattle.std.proofs.lemmas.List.FromFn.{length-map-range_with_len, get_or-map-range_with_len, fill_by_all}
use Rattle.std.proofs.lemmas.List.{get_or_past}
use Rattle.oct_def.specs.Bound.{Bound}
use Rattle.oct_def.specs.Table.{Matrix, row_of, table, at}
use Rattle.oct_def.specs.Matrix.{IsSquare}

pub length-table : (n : ℕ) (f : ℕ → ℕ → Bound) → length (table n f) ≡ n
unfolding table
length-table n f = length-map-range_with_len (λ i. row_of n (f i)) 0 n

-- the row i of a table
pub row-table : (n : ℕ) (f : ℕ → ℕ → Bound) (i : ℕ) → i < n → get_or (table n f) i [] ≡ row_of n (f i)
unfolding table
row-table n f i h = get_or-map-range_with_len (λ i. row_of n (f i)) 0 n i i [] h (omega arith)

pub at-table : (n : ℕ) (f : ℕ → ℕ → Bound) (i j : ℕ) → i < n → j < n → at (table n f) i j ≡ f i j
unfolding at
at-table n f i j hi hj =
    ap (λ row. get_or row j None) (row-table n f i hi) ∙ get_or-map-range_with_len (f i) 0 n j j None hj (omega arith)

pub square-table : (n : ℕ) (f : ℕ → ℕ → Bound) → IsSquare (table n f)
square-table n f = record {
  columns = λ i h.
      let lt : i < n = omega (arith, length-table n f) in
      ap length (row-table n f i lt) ∙ length-map-range_with_len (f i) 0 n ∙ sym (length-table n f);
}

-- outside the rows and columns there is no bound
pub at-past_row : (m : Matrix) (i j : ℕ) → length m ≤ i → at m i j ≡ None
unfolding at
at-past_row m i j h = ap (λ row. get_or row j None) (get_or_past m i [] h) ∙ get_or_past [] j None (omega arith)

pub at-past_column : (m : Matrix) → IsSquare m → (i j : ℕ) → i < length m → length m ≤ j → at m i j ≡ None
unfolding at
at-past_column m sq i j hi hj = get_or_past (get_or m i []) j None (omega (arith, sq.columns i hi))

-- a square matrix is the table of its entries
pub table-at : (m : Matrix) → IsSquare m → m ≡ table (length m) (at m)
unfolding at table
table-at m sq = fill_by_all (λ i. row_of (length m) (at m i)) m (length m) [] refl
    (λ k h. fill_by_all (at m k) (get_or m k []) (length m) None (sq.columns k h) (λ j hj. refl))

-- tables of functions that agree are equal
pub table-same : (n : ℕ) (f g : ℕ → ℕ → Bound) → ((i j : ℕ) → i < n → j < n → f i j ≡ g i j) → table n f ≡ table n g
unfolding table
table-same n f g same = fill_by_all (λ i. row_of n (g i)) (table n f) n [] (length-table n f)
    (λ i hi. row-table n f i hi ∙ fill_by_all (g i) (row_of n (f i)) n None (length-map-range_with_len (f i) 0 n)
    (λ j hj. get_or-map-range_with_len (f i) 0 n j j None hj (omega arith) ∙ same i j hi hj))

-- square matrices of one size with the same entries are equal
pub same-matrices : (a b : Matrix) → IsSquare a → IsSquare b → length a ≡ length b → ((i j : ℕ) → i < length a → j < length a → at a i j ≡ at b i j) → a ≡ b
same-matrices a b sa sb e same =
    table-at a sa ∙ table-same (length a) (at a) (at b) same ∙ ap (λ n. table n (at b)) e ∙ sym (table-at b sb)

-- a square matrix whose entries a function gives is its table
pub is-table : (m : Matrix) (n : ℕ) (f : ℕ → ℕ → Bound) → IsSquare m → length m ≡ n → ((i j : ℕ) → i < n → j < n → at m i j ≡ f i j) → m ≡ table n f
is-table m n f sq e same = table-at m sq ∙ ap (λ k. table k (at m)) e ∙ table-same n (at m) f same
