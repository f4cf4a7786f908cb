-- A join or a narrowing done again with the same right side changes nothing.
use Rattle.std.proofs.Common.{◌≡◌, ℕ, length, Option, Some, None, refl, sym, ap, ◌∙◌, arith}
use Rattle.std.specs.Prelude.{ℤ}
use Rattle.std.proofs.lemmas.Int.{ints}
use Rattle.oct_def.specs.Bound.{Bound, greatest}
use Rattle.oct_def.specs.Table.{Matrix, table, at}
use Rattle.oct_def.specs.Matrix.{IsSquare}
use Rattle.oct_def.specs.Octagon.{Octagon, IsOctagon, IsValueOver, on_either, on_both, join_entry, join_matrix, join_value, narrow_bound, narrow_entry, narrow_matrix, narrow_value}
use Rattle.oct_def.proofs.Tables.{length-table, at-table, table-same, is-table}

-- ---- bounds

greatest-again : (a b : Bound) → greatest (greatest a b) b ≡ greatest a b
greatest-again None b = refl
greatest-again (Some x) None = refl
greatest-again (Some x) (Some y) = ap (λ (z : ℤ). Some z) (grind (arith, ints))

greatest-itself : (a : Bound) → greatest a a ≡ a
greatest-itself None = refl
greatest-itself (Some x) = ap (λ (z : ℤ). Some z) (grind (arith, ints))

narrow-again : (a b : Bound) → narrow_bound (narrow_bound a b) b ≡ narrow_bound a b
narrow-again None None = refl
narrow-again None (Some y) = refl
narrow-again (Some x) b = refl

-- ---- matrices

pub again : (f g : Bound → Bound → Bound) → ((a b : Bound) → g (f a b) b ≡ f a b) → (a b : Matrix)
    → table (length (table (length a) (λ i j. f (at a i j) (at b i j)))) (λ i j. g (at (table (length a) (λ i j. f (at a i j) (at b i j))) i j) (at b i j)) ≡ table (length a) (λ i j. f (at a i j) (at b i j))
again f g law a b =
    let e : ℕ → ℕ → Bound = λ i j. f (at a i j) (at b i j) in
    ap (λ n. table n (λ i j. g (at (table (length a) e) i j) (at b i j))) (length-table (length a) e)
    ∙ table-same (length a) (λ i j. g (at (table (length a) e) i j) (at b i j)) e
    (λ i j p q. ap (λ x. g x (at b i j)) (at-table (length a) e i j p q) ∙ law (at a i j) (at b i j))

-- of a matrix with itself
pub alike : (f : Bound → Bound → Bound) → ((a : Bound) → f a a ≡ a) → (a : Matrix) → IsSquare a → table (length a) (λ i j. f (at a i j) (at a i j)) ≡ a
alike f law a sq = sym (is-table a (length a) (λ i j. f (at a i j) (at a i j)) sq refl (λ i j p q. sym (law (at a i j))))

-- ---- values

join-matrices_again : (n : ℕ) (x v : Option Matrix) → IsValueOver n v → on_either join_matrix (on_either join_matrix x v) v ≡ on_either join_matrix x v
unfolding join_matrix join_entry
join-matrices_again n None None h = refl
join-matrices_again n None (Some b) h = ap (λ (m : Matrix). Some m) (alike greatest greatest-itself b h.matrix.square)
join-matrices_again n (Some a) None h = refl
join-matrices_again n (Some a) (Some b) h = ap (λ (m : Matrix). Some m) (again greatest greatest greatest-again a b)

narrow-matrices_again : (x v : Option Matrix) → on_both narrow_matrix (on_both narrow_matrix x v) v ≡ on_both narrow_matrix x v
unfolding narrow_matrix narrow_entry
narrow-matrices_again None v = refl
narrow-matrices_again (Some a) None = refl
narrow-matrices_again (Some a) (Some b) = ap (λ (m : Matrix). Some m) (again narrow_bound narrow_bound narrow-again a b)

pub join_again : (x v : Octagon) → IsOctagon v → join_value (join_value x v) v ≡ join_value x v
unfolding join_value
join_again x v h = ap (λ (m : Option Matrix). record { dims = x.dims; matrix = m }) (join-matrices_again v.dims x.matrix v.matrix h)

pub narrow_again : (x v : Octagon) → narrow_value (narrow_value x v) v ≡ narrow_value x v
unfolding narrow_value
narrow_again x v = ap (λ (m : Option Matrix). record { dims = x.dims; matrix = m }) (narrow-matrices_again x.matrix v.matrix)
