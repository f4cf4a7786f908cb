-- The widening of the domain is one: its rank counts the finite entries.
use Rattle.std.proofs.Common.{◌≡◌, ℕ, ◌+◌, ◌*◌, ◌<◌, ◌≤◌, ◌⊎◌, inl, inr, Bool, true, false, cond, Option, Some, None, length, refl, sym, ap, subst, arith}
use Rattle.std.proofs.lemmas.Bool.{false≢true, cases_lt}
use Rattle.oct_def.specs.Bound.{Bound, greatest, at_most}
use Rattle.oct_def.specs.Table.{Matrix, table, at}
use Rattle.oct_def.specs.Octagon.{Octagon, IsOctagon, IsValueOver, bottom_value, on_either, join_entry, join_matrix, join_value, widen_bound, widen_entry, widen_matrix, widen_value}
use Rattle.oct_def.proofs.Tables.{is-table}
use Rattle.oct_def.proofs.Lattice.{octagon-widen}
use Rattle.oct_def.proofs.Below.{at_most-same, at_most-greatest, below-widen, below-widen_left}
use Rattle.rounds.specs.Widening.{IsWidening}
use Rattle.rounds.proofs.Again.{again, alike}
use Rattle.rounds.proofs.Finite.{is_finite, finite_of, finite-most, finite-same, finite-within, finite-table}

-- ---- done again

widen-kept : (a b : Bound) → at_most b a ≡ true → widen_bound a b ≡ a
widen-kept a b e = ap (λ (t : Bool). cond t a None) e

widen-again : (a b : Bound) → widen_bound (widen_bound a b) b ≡ widen_bound a b
widen-again a b = by (at_most b a) refl
  where
    by : (t : Bool) → at_most b a ≡ t → widen_bound (cond t a None) b ≡ cond t a None
    by true e = widen-kept a b e
    by false e = refl

widen-matrices_again : (n : ℕ) (x v : Option Matrix) → IsValueOver n v → on_either widen_matrix (on_either widen_matrix x v) v ≡ on_either widen_matrix x v
unfolding widen_matrix widen_entry
widen-matrices_again n None None h = refl
widen-matrices_again n None (Some b) h = ap (λ (m : Matrix). Some m) (alike widen_bound (λ x. widen-kept x x (at_most-same x)) b h.matrix.square)
widen-matrices_again n (Some a) None h = refl
widen-matrices_again n (Some a) (Some b) h = ap (λ (m : Matrix). Some m) (again widen_bound widen_bound widen-again a b)

widen-matrices_joined : (n : ℕ) (x v : Option Matrix) → IsValueOver n v → on_either widen_matrix (on_either join_matrix x v) v ≡ on_either join_matrix x v
unfolding widen_matrix widen_entry join_matrix join_entry
widen-matrices_joined n None None h = refl
widen-matrices_joined n None (Some b) h = ap (λ (m : Matrix). Some m) (alike widen_bound (λ x. widen-kept x x (at_most-same x)) b h.matrix.square)
widen-matrices_joined n (Some a) None h = refl
widen-matrices_joined n (Some a) (Some b) h = ap (λ (m : Matrix). Some m) (again greatest widen_bound (λ x y. widen-kept (greatest x y) y (at_most-greatest x y)) a b)

widen_again : (x v : Octagon) → IsOctagon v → widen_value (widen_value x v) v ≡ widen_value x v
unfolding widen_value
widen_again x v h = ap (λ (m : Option Matrix). record { dims = x.dims; matrix = m }) (widen-matrices_again v.dims x.matrix v.matrix h)

widen_joined : (x v : Octagon) → IsOctagon v → widen_value (join_value x v) v ≡ join_value x v
unfolding widen_value join_value
widen_joined x v h = ap (λ (m : Option Matrix). record { dims = x.dims; matrix = m }) (widen-matrices_joined v.dims x.matrix v.matrix h)

-- ---- the rank

-- Bottom is above every matrix over as many variables
abbrev pub size_of : ℕ → Option Matrix → ℕ
size_of n None = (2 * n) * (2 * n) + 1
size_of n (Some m) = finite_of (length m) (at m)

abbrev pub entries : Octagon → ℕ
entries v = size_of v.dims v.matrix

greatest-finite : (a b : Bound) → is_finite (greatest a b) ≡ true → is_finite a ≡ true
greatest-finite None b e = e
greatest-finite (Some x) b e = refl

widen-finite : (a b : Bound) → is_finite (widen_bound a b) ≡ true → is_finite a ≡ true
widen-finite None b h = by (at_most b None) h
  where
    by : (t : Bool) → is_finite (cond t None None) ≡ true → false ≡ true
    by true e = e
    by false e = e
widen-finite (Some x) b h = refl

widen-same : (a b : Bound) → is_finite (widen_bound a b) ≡ is_finite a → widen_bound a b ≡ a
widen-same a b h = by (at_most b a) h
  where
    none : (a : Bound) → false ≡ is_finite a → None ≡ a
    none None e = refl
    none (Some x) e = absurd (false≢true e)

    by : (t : Bool) → is_finite (cond t a None) ≡ is_finite a → cond t a None ≡ a
    by true e = refl
    by false e = none a e

size-join : (n : ℕ) (x v : Option Matrix) → IsValueOver n v → size_of n (on_either join_matrix x v) ≤ size_of n x
unfolding join_matrix join_entry
size-join n None None h = omega arith
size-join n None (Some b) h = let e : length b ≡ 2 * n = h.matrix.rows in subst (λ k. finite_of k (at b) ≤ (2 * n) * (2 * n) + 1) (sym e) (omega (arith, finite-within (2 * n) (at b)))
size-join n (Some a) None h = omega arith
size-join n (Some a) (Some b) h =
    let f : ℕ → ℕ → Bound = λ i j. greatest (at a i j) (at b i j) in
    omega (arith, finite-table (length a) f, finite-most (length a) (at a) f (λ i j p q e. greatest-finite (at a i j) (at b i j) e))

size-widen : (n : ℕ) (x v : Option Matrix) → IsValueOver n x → IsValueOver n v → (on_either widen_matrix x v ≡ x) ⊎ (size_of n (on_either widen_matrix x v) < size_of n x)
unfolding widen_matrix widen_entry
size-widen n None None g h = inl refl
size-widen n None (Some b) g h = let e : length b ≡ 2 * n = h.matrix.rows in inr (subst (λ k. finite_of k (at b) < (2 * n) * (2 * n) + 1) (sym e) (omega (arith, finite-within (2 * n) (at b))))
size-widen n (Some a) None g h = inl refl
size-widen n (Some a) (Some b) g h = by (cases_lt (finite_of (length (table (length a) f)) (at (table (length a) f))) (finite_of (length a) (at a)))
  where
    f : ℕ → ℕ → Bound
    f i j = widen_bound (at a i j) (at b i j)

    fewer : (i j : ℕ) → i < length a → j < length a → is_finite (widen_bound (at a i j) (at b i j)) ≡ true → is_finite (at a i j) ≡ true
    fewer i j p q e = widen-finite (at a i j) (at b i j) e

    by : (finite_of (length (table (length a) (λ i j. widen_bound (at a i j) (at b i j)))) (at (table (length a) (λ i j. widen_bound (at a i j) (at b i j)))) < finite_of (length a) (at a)) ⊎ (finite_of (length a) (at a) ≤ finite_of (length (table (length a) (λ i j. widen_bound (at a i j) (at b i j)))) (at (table (length a) (λ i j. widen_bound (at a i j) (at b i j)))))
        → (Some (table (length a) (λ i j. widen_bound (at a i j) (at b i j))) ≡ Some a) ⊎ (finite_of (length (table (length a) (λ i j. widen_bound (at a i j) (at b i j)))) (at (table (length a) (λ i j. widen_bound (at a i j) (at b i j)))) < finite_of (length a) (at a))
    by (inl less) = inr less
    by (inr more) =
        let e : ℕ → ℕ → Bound = λ i j. widen_bound (at a i j) (at b i j) in
        let le : finite_of (length a) (at a) ≤ finite_of (length a) e = omega (arith, finite-table (length a) e) in
        let all = finite-same (length a) (at a) e fewer le in
        inl (ap (λ (m : Matrix). Some m) (sym (is-table a (length a) e g.matrix.square refl (λ i j p q. sym (widen-same (at a i j) (at b i j) (all i j p q))))))

-- ---- a widening

falls : (x v : Octagon) → IsOctagon x → IsOctagon v → x.dims ≡ v.dims → (widen_value x v ≡ x) ⊎ (entries (widen_value x v) < entries x)
unfolding widen_value
falls x v here from e = by (size-widen x.dims x.matrix v.matrix here (subst (λ n. IsValueOver n v.matrix) (sym e) from))
  where
    by : (on_either widen_matrix x.matrix v.matrix ≡ x.matrix) ⊎ (size_of x.dims (on_either widen_matrix x.matrix v.matrix) < size_of x.dims x.matrix)
        → (record { dims = x.dims; matrix = on_either widen_matrix x.matrix v.matrix } ≡ x) ⊎ (size_of x.dims (on_either widen_matrix x.matrix v.matrix) < size_of x.dims x.matrix)
    by (inl same) = inl (ap (λ (m : Option Matrix). record { dims = x.dims; matrix = m }) same)
    by (inr less) = inr less

unraised : (x v : Octagon) → IsOctagon x → IsOctagon v → x.dims ≡ v.dims → entries (join_value x v) ≤ entries x
unfolding join_value
unraised x v here from e = size-join x.dims x.matrix v.matrix (subst (λ n. IsValueOver n v.matrix) (sym e) from)

widen-dims : (x v : Octagon) → (widen_value x v).dims ≡ x.dims
unfolding widen_value
widen-dims x v = refl

pub is_widening : IsWidening widen_value
is_widening = record {
  dims = widen-dims;
  octagon = octagon-widen;
  left = λ x v a b e. below-widen_left x v a;
  right = λ x v a b e. below-widen x v a b (sym e);
  again = widen_again;
  joined = widen_joined;
  rank = entries;
  falls = falls;
  unraised = unraised;
}

-- its rank at Bottom is within the height of a cut point
pub rank-bottom : (n : ℕ) → is_widening.rank (bottom_value n) ≤ (2 * n) * (2 * n) + 2
unfolding is_widening bottom_value
rank-bottom n = omega arith
