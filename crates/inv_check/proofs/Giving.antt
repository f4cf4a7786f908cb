-- The values that invariants give.
use Rattle.std.proofs.Common.{◌≡◌, ℕ, zero, suc, ◌+◌, ◌*◌, ◌<◌, ◌≤◌, ◌⊎◌, inl, inr, Bool, true, false, cond, List, [], ◌∷◌, ◌++◌, length, map, Option, Some, None, refl, sym, ap, subst, ◌∙◌, arith}
use Rattle.std.specs.Prelude.{ℤ, IsSomeAnd}
use Rattle.std.specs.List.{All, range_with_len}
use Rattle.std.specs.Ordering.{int_eq}
use Rattle.std.proofs.lemmas.Int.{ints}
use Rattle.std.proofs.lemmas.List.{get_or_past}
use Rattle.std.proofs.lemmas.List.FromFn.{length-map-range_with_len, get_or-map-range_with_len, map-range_with_len_more}
use Rattle.oct_def.specs.Bound.{Bound, bound_of, none_word, InRange}
use Rattle.oct_def.specs.Table.{Matrix}
use Rattle.oct_def.specs.Matrix.{IsEvenMatrix}
use Rattle.oct_def.specs.Octagon.{Octagon, IsValueOver, bottom_value}
use Rattle.spl_core.specs.Graph.{Graph, dims_at}
use Rattle.equations.specs.Equations.{value_in}
use Rattle.interval_form.specs.declared.constraints.OctBound.{OctBound}
use Rattle.placed_bounds.specs.Bounded.{Placed, IsPlacedIn, value_of_bounds}
use Rattle.full_oct.specs.Placing.{placed_of}
use Rattle.inv_text.specs.declared.bound.InvBound.{InvBound}
use Rattle.inv_text.specs.Invariants.{matrix_in, dims_in, AreInvariants}
use Rattle.inv_text.specs.Listed.{half_bounds, placed_at, listed_matrix}
use Rattle.inv_text.specs.Reading.{IsListable}
use Rattle.inv_text.proofs.Next.{AllOf, all_listable}
use Rattle.inv_text.proofs.Halves.{relisted}
use Rattle.inv_check.specs.Given.{dims_of, given_at, values_given, value_given}
use Rattle.inv_check.specs.Bounds.{oct_bound}
use Rattle.inv_check.specs.declared.verdict.Verdict.{Verdict}
use Rattle.inv_check.specs.Verdict.{AreOver, IsVerdict}

-- ---- sizes

pub length-dims_of : (g : Graph) → length (dims_of g) ≡ length g.owners
unfolding dims_of
length-dims_of g = length-map-range_with_len (dims_at g) 0 (length g.owners)

pub at-dims_of : (g : Graph) (p : ℕ) → p < length g.owners → dims_in (dims_of g) p ≡ dims_at g p
unfolding dims_of
at-dims_of g p l = get_or-map-range_with_len (dims_at g) 0 (length g.owners) p p 0 l (omega arith)

pub at-given : (g : Graph) (x : List (Option Matrix)) (p : ℕ) → p < length g.owners → value_given g x p ≡ given_at g x p
unfolding values_given
at-given g x p l = get_or-map-range_with_len (given_at g x) 0 (length g.owners) p p (bottom_value 0) l (omega arith)

length-given : (g : Graph) (x : List (Option Matrix)) → length (values_given g x) ≡ length g.owners
unfolding values_given
length-given g x = length-map-range_with_len (given_at g x) 0 (length g.owners)

pub over_given : (g : Graph) (x : List (Option Matrix)) → AreOver g (values_given g x)
over_given g x = record {
  points = length-given g x;
  dims = λ p l. ap (λ (v : Octagon). v.dims) (at-given g x p l);
}

-- beyond the points both are Bottom
pub matrix_given : (g : Graph) (x : List (Option Matrix)) (p : ℕ) → length x ≡ length g.owners → (value_given g x p).matrix ≡ matrix_in x p
unfolding bottom_value
matrix_given g x p e = by (grind arith)
  where
    by : (p < length g.owners) ⊎ (length g.owners ≤ p) → (value_given g x p).matrix ≡ matrix_in x p
    by (inl l) = ap (λ (v : Octagon). v.matrix) (at-given g x p l)
    by (inr l) =
        ap (λ (v : Octagon). v.matrix) (get_or_past (values_given g x) p (bottom_value 0) (omega (arith, length-given g x, l)))
        ∙ sym (get_or_past x p None (omega (arith, e, l)))

pub values_over : (g : Graph) (x : List (Option Matrix)) (p n : ℕ) → AreInvariants (dims_of g) x → p < length g.owners → n ≡ dims_at g p → IsValueOver n (matrix_in x p)
values_over g x p n are l e =
    subst (λ (k : ℕ). IsValueOver k (matrix_in x p)) (at-dims_of g p l ∙ sym e) (are.values p (omega (arith, l, length-dims_of g)))

-- ---- a value from its list

same_word : (w : ℤ) → InRange (Some w) → bound_of w ≡ Some w
same_word w r = by (int_eq w none_word) refl
  where
    by : (t : Bool) → int_eq w none_word ≡ t → cond t None (Some w) ≡ Some w
    by true e = let h = r.1 in absurd (grind (arith, ints))
    by false e = refl

same_placed : (n : ℕ) (bs : List InvBound) → AllOf (IsListable n) bs → map placed_of (map oct_bound bs) ≡ map placed_at bs
same_placed n [] h = refl
same_placed n (b ∷ bs) h =
    ap (λ (k : Bound). record { row = b.row; column = b.column; bound = k } ∷ map placed_of (map oct_bound bs)) (same_word b.word h.0.in_range)
    ∙ ap (λ (ps : List Placed). placed_at b ∷ ps) (same_placed n bs h.1)

placed_each : (n : ℕ) (bs : List InvBound) → AllOf (IsListable (2 * n)) bs → All (IsPlacedIn n) (map placed_at bs)
placed_each n [] h k d l = absurd (omega arith)
placed_each n (b ∷ bs) h zero d l =
    let r = h.0.row in
    let c = h.0.half in record {
      row = r;
      column = omega (arith, r, c);
      off_diagonal = h.0.off_diagonal;
      in_range = h.0.in_range;
      even = h.0.even;
    }
placed_each n (b ∷ bs) h (suc k) d l = placed_each n bs h.1 k d (omega arith)

-- the domain may take the listed bounds of a matrix
pub listed_placed : (n : ℕ) (m : Matrix) (bs : List InvBound) (octs : List OctBound) → IsEvenMatrix n m → bs ≡ half_bounds m → octs ≡ map oct_bound bs → All (IsPlacedIn n) (map placed_of octs)
listed_placed n m bs octs is e f =
    let all : AllOf (IsListable (2 * n)) bs = subst (AllOf (IsListable (2 * n))) (sym e) (all_listable n m is) in
    subst (All (IsPlacedIn n)) (sym (ap (map placed_of) f ∙ same_placed (2 * n) bs all)) (placed_each n bs all)

-- and gives the matrix back
pub listed_value : (n : ℕ) (m : Matrix) (bs : List InvBound) (octs : List OctBound) → IsEvenMatrix n m → bs ≡ half_bounds m → octs ≡ map oct_bound bs
    → value_of_bounds n (map placed_of octs) ≡ record { dims = n; matrix = Some m }
listed_value n m bs octs is e f =
    let all : AllOf (IsListable (2 * n)) bs = subst (AllOf (IsListable (2 * n))) (sym e) (all_listable n m is) in
    ap (value_of_bounds n) (ap (map placed_of) f ∙ same_placed (2 * n) bs all)
    ∙ ap (λ (k : Matrix). record { dims = n; matrix = Some k }) (ap (listed_matrix n) e ∙ relisted n m is.matrix)

-- what is given for a point, by its list
pub listed_of : (n : ℕ) (v : Option Matrix) (bs : List InvBound) (octs : List OctBound) → IsValueOver n v → IsSomeAnd v (λ m. bs ≡ half_bounds m) → octs ≡ map oct_bound bs
    → All (IsPlacedIn n) (map placed_of octs) × (value_of_bounds n (map placed_of octs) ≡ record { dims = n; matrix = v })
listed_of n None bs octs is e f = absurd e
listed_of n (Some m) bs octs is e f = (listed_placed n m bs octs is e f, listed_value n m bs octs is e f)

pub bottom_of : (n : ℕ) (v : Option Matrix) → v ≡ None → bottom_value n ≡ record { dims = n; matrix = v }
unfolding bottom_value
bottom_of n v e = ap (λ (w : Option Matrix). record { dims = n; matrix = w }) (sym e)

-- one value more of a function of points
pub mapped_more : {X : Type 0} (f : ℕ → X) (p : ℕ) (xs ys : List X) (v : X) → xs ≡ map f (range_with_len 0 p) → v ≡ f p → ys ≡ xs ++ v ∷ [] → ys ≡ map f (range_with_len 0 (p + 1))
mapped_more f p xs ys v e h k =
    k ∙ ap (λ zs. zs ++ v ∷ []) e ∙ ap (λ z. map f (range_with_len 0 p) ++ z ∷ []) h ∙ sym (map-range_with_len_more f 0 p p (omega arith))

pub same_map : (xs : List Octagon) → map (λ (v : Octagon). v) xs ≡ xs
same_map [] = refl
same_map (x ∷ xs) = ap (λ (ys : List Octagon). x ∷ ys) (same_map xs)

pub over_values : (g : Graph) (x : List (Option Matrix)) (values : List Octagon) → values ≡ values_given g x → AreOver g (map (λ (v : Octagon). v) values)
over_values g x values e = subst (AreOver g) (sym (same_map values ∙ e)) (over_given g x)

pub verdict_given : (g : Graph) (x : List (Option Matrix)) (values : List Octagon) (v : Verdict) → values ≡ values_given g x → IsVerdict g (value_in (map (λ (v : Octagon). v) values)) v → IsVerdict g (value_given g x) v
verdict_given g x values v e h = subst (λ (xs : List Octagon). IsVerdict g (value_in xs) v) (same_map values ∙ e) h
