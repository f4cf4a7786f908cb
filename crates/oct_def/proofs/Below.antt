-- Values below each other.
use Rattle.std.proofs.Common.{◌≡◌, ℕ, ◌<◌, ◌≤◌, ◌⊎◌, inl, inr, Bool, true, false, cond, List, length, Option, Some, None, refl, sym, ap, ◌∙◌, subst, arith}
use Rattle.std.specs.Prelude.{ℤ}
use Rattle.std.proofs.lemmas.Int.{ints}
use Rattle.oct_def.specs.Bound.{Bound, greatest, at_most}
use Rattle.oct_def.specs.Table.{Matrix, table, at}
use Rattle.oct_def.specs.Matrix.{IsSquare, MeetsValue}
use Rattle.oct_def.specs.Octagon.{Octagon, IsOctagon, IsValueOver, MeetsOctagon, on_either, join_entry, join_matrix, join_value, widen_bound, widen_entry, widen_matrix, widen_value}
use Rattle.oct_def.proofs.Tables.{length-table, at-table, square-table, at-past_row, at-past_column}
use Rattle.oct_def.proofs.Bounds.{within-at_most}
use Rattle.oct_def.specs.Below.{NoneAbove, IsMatrixBelow, IsBelow}

-- ---- states

meets-above : (s : List ℤ) (a b : Option Matrix) → IsMatrixBelow a b → MeetsValue s a → MeetsValue s b
meets-above s None b h m = absurd m
meets-above s (Some a) None h m = absurd h
meets-above s (Some a) (Some b) h m = record { within = λ i j. within-at_most _ (at a i j) (at b i j) (h.entries i j) (m.within i j) }

-- a state that meets a value meets each value above it
pub meets-below : (s : List ℤ) (v w : Octagon) → IsBelow v w → MeetsOctagon s v → MeetsOctagon s w
meets-below s v w h m = meets-above s v.matrix w.matrix h m

-- ---- bounds

pub at_most-same : (a : Bound) → at_most a a ≡ true
at_most-same None = refl
at_most-same (Some x) = grind (arith, ints)

pub at_most-greatest : (a b : Bound) → at_most b (greatest a b) ≡ true
at_most-greatest None b = refl
at_most-greatest (Some x) None = refl
at_most-greatest (Some x) (Some y) = grind (arith, ints)

at_most-widened : (a b : Bound) → at_most b (widen_bound a b) ≡ true
at_most-widened a b = by (at_most b a) refl
  where
    by : (t : Bool) → at_most b a ≡ t → at_most b (cond t a None) ≡ true
    by true e = e
    by false e = refl

at_most-none : (a : Bound) → at_most a None ≡ true
at_most-none None = refl
at_most-none (Some x) = refl

at_most-widened_left : (a b : Bound) → at_most a (widen_bound a b) ≡ true
at_most-widened_left a b = by (at_most b a)
  where
    by : (t : Bool) → at_most a (cond t a None) ≡ true
    by true = at_most-same a
    by false = at_most-none a

-- ---- matrices

-- a square matrix is below a table of its size whose entries are above its own
below-table : (b : Matrix) (n : ℕ) (f : ℕ → ℕ → Bound) → IsSquare b → length b ≡ n → ((i j : ℕ) → at_most (at b i j) (f i j) ≡ true) → NoneAbove b (table n f)
below-table b n f square e above = record { entries = λ i j. rows i j (side i) (side j) }
  where
    side : (i : ℕ) → (i < n) ⊎ (n ≤ i)
    side i = grind arith

    both : (i j : ℕ) → at b i j ≡ None → at (table n f) i j ≡ None → at_most (at b i j) (at (table n f) i j) ≡ true
    both i j p q = ap (λ (z : Bound). at_most z (at (table n f) i j)) p ∙ ap (at_most None) q

    rows : (i j : ℕ) → (i < n) ⊎ (n ≤ i) → (j < n) ⊎ (n ≤ j) → at_most (at b i j) (at (table n f) i j) ≡ true
    rows i j (inl p) (inl q) = ap (at_most (at b i j)) (at-table n f i j p q) ∙ above i j
    rows i j (inl p) (inr q) = both i j (at-past_column b square i j (omega (arith, e)) (omega (arith, e)))
        (at-past_column (table n f) (square-table n f) i j (omega (arith, length-table n f)) (omega (arith, length-table n f)))
    rows i j (inr p) q = both i j (at-past_row b i j (omega (arith, e))) (at-past_row (table n f) i j (omega (arith, length-table n f)))

pub below-same : (a : Option Matrix) → IsMatrixBelow a a
below-same None = tt
below-same (Some m) = record { entries = λ i j. at_most-same (at m i j) }

below-joined : (n : ℕ) (a b : Option Matrix) → IsValueOver n a → IsValueOver n b → IsMatrixBelow b (on_either join_matrix a b)
unfolding join_matrix join_entry
below-joined n None b p q = below-same b
below-joined n (Some x) None p q = tt
below-joined n (Some x) (Some y) p q =
    below-table y (length x) (join_entry x y) q.matrix.square (q.matrix.rows ∙ sym p.matrix.rows) (λ i j. at_most-greatest (at x i j) (at y i j))

below-widened : (n : ℕ) (a b : Option Matrix) → IsValueOver n a → IsValueOver n b → IsMatrixBelow b (on_either widen_matrix a b)
unfolding widen_matrix widen_entry
below-widened n None b p q = below-same b
below-widened n (Some x) None p q = tt
below-widened n (Some x) (Some y) p q =
    below-table y (length x) (widen_entry x y) q.matrix.square (q.matrix.rows ∙ sym p.matrix.rows) (λ i j. at_most-widened (at x i j) (at y i j))

widened-left : (n : ℕ) (a b : Option Matrix) → IsValueOver n a → IsMatrixBelow a (on_either widen_matrix a b)
unfolding widen_matrix widen_entry
widened-left n None b p = tt
widened-left n (Some x) None p = below-same (Some x)
widened-left n (Some x) (Some y) p =
    below-table x (length x) (widen_entry x y) p.matrix.square refl (λ i j. at_most-widened_left (at x i j) (at y i j))

-- ---- values

-- the right side is below a join, and below a widening
pub below-join : (a b : Octagon) → IsOctagon a → IsOctagon b → b.dims ≡ a.dims → IsBelow b (join_value a b)
unfolding join_value
below-join a b p q e = below-joined a.dims a.matrix b.matrix p (subst (λ n. IsValueOver n b.matrix) e q)

pub below-widen : (a b : Octagon) → IsOctagon a → IsOctagon b → b.dims ≡ a.dims → IsBelow b (widen_value a b)
unfolding widen_value
below-widen a b p q e = below-widened a.dims a.matrix b.matrix p (subst (λ n. IsValueOver n b.matrix) e q)

-- so is the left side
pub below-widen_left : (a b : Octagon) → IsOctagon a → IsBelow a (widen_value a b)
unfolding widen_value
below-widen_left a b p = widened-left a.dims a.matrix b.matrix p
