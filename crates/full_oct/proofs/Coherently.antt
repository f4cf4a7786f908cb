-- A matrix that took a bound at its place and then at the coherent one.
use Rattle.std.proofs.Common.{◌≡◌, ℕ, ◌+◌, ◌*◌, ◌<◌, ◌%◌, ◌&&◌, ◌||◌, Bool, true, false, cond, eqb, inl, inr, List, ◌∷◌, length, map, drop, get_or, refl, sym, ap, arith, ◌∙◌, subst, eqb-true, add-one}
use Rattle.std.specs.List.{All}
use Rattle.std.proofs.Math.Seq.{drop-cons}
use Rattle.std.proofs.lemmas.List.{get_or-map, length-map}
use Rattle.oct_def.specs.Bound.{Bound, least, bound_of}
use Rattle.oct_def.specs.Table.{Matrix, at}
use Rattle.oct_def.specs.Matrix.{IsSquare, opposite}
use Rattle.oct_def.specs.Octagon.{top_entry, top_matrix}
use Rattle.oct_def.proofs.Orders.{least_assoc}
use Rattle.oct_def.proofs.Bounds.{least_is}
use Rattle.oct_def.proofs.Tables.{length-table, at-table, square-table, is-table}
use Rattle.interval_form.specs.declared.constraints.OctBound.{OctBound}
use Rattle.full_oct.specs.Words.{replaced_entry, replaced}
use Rattle.full_oct.specs.Taken.{with_bound}
use Rattle.full_oct.specs.Placing.{placed_of}
use Rattle.placed_bounds.specs.Bounded.{Placed, IsPlacedIn, bounded_entry, bounded_matrix, all_bounded}

-- ---- one entry taken by minimum

taken_at : Matrix → ℕ → ℕ → Bound → Matrix
taken_at m r c b = replaced m r c (least (at m r c) b)

length-taken_at : (m : Matrix) (r c : ℕ) (b : Bound) → length (taken_at m r c b) ≡ length m
unfolding taken_at replaced
length-taken_at m r c b = length-table (length m) (replaced_entry m r c (least (at m r c) b))

at-taken_at : (m : Matrix) (r c : ℕ) (b : Bound) (i j : ℕ) → i < length m → j < length m
    → at (taken_at m r c b) i j ≡ cond (eqb i r && eqb j c) (least (at m i j) b) (at m i j)
unfolding taken_at replaced replaced_entry
at-taken_at m r c b i j p q = at-table (length m) (replaced_entry m r c (least (at m r c) b)) i j p q ∙ by (eqb i r) (eqb j c) refl refl
  where
    by : (s t : Bool) → eqb i r ≡ s → eqb j c ≡ t → cond (s && t) (least (at m r c) b) (at m i j) ≡ cond (s && t) (least (at m i j) b) (at m i j)
    by true true e f = ap (λ (x : ℕ). least (at m x c) b) (sym (eqb-true i r e)) ∙ ap (λ (x : ℕ). least (at m i x) b) (sym (eqb-true j c f))
    by true false e f = refl
    by false t e f = refl

-- ---- both

least_same : (b : Bound) → least b b ≡ b
least_same b = elim (least_is b b) [ inl e ↦ e | inr e ↦ e ]

twice : (s t : Bool) (x b : Bound) → cond t (least (cond s (least x b) x) b) (cond s (least x b) x) ≡ cond (s || t) (least x b) x
twice true true x b = least_assoc x b b ∙ ap (least x) (least_same b)
twice true false x b = refl
twice false true x b = refl
twice false false x b = refl

square-taken_at : (m : Matrix) (r c : ℕ) (b : Bound) → IsSquare (taken_at m r c b)
unfolding taken_at replaced
square-taken_at m r c b = square-table (length m) (replaced_entry m r c (least (at m r c) b))

both : (m : Matrix) (b : Placed) → taken_at (taken_at m b.row b.column b.bound) (opposite b.column) (opposite b.row) b.bound ≡ bounded_matrix m b
unfolding bounded_matrix bounded_entry
both m b =
    let one : Matrix = taken_at m b.row b.column b.bound in
    let l : length one ≡ length m = length-taken_at m b.row b.column b.bound in
    is-table (taken_at one (opposite b.column) (opposite b.row) b.bound) (length m) (bounded_entry m b) (square-taken_at one (opposite b.column) (opposite b.row) b.bound)
    (length-taken_at one (opposite b.column) (opposite b.row) b.bound ∙ l)
    (λ i j p q.
    at-taken_at one (opposite b.column) (opposite b.row) b.bound i j (omega (arith, l)) (omega (arith, l))
    ∙ ap (λ (x : Bound). cond (eqb i (opposite b.column) && eqb j (opposite b.row)) (least x b.bound) x) (at-taken_at m b.row b.column b.bound i j p q)
    ∙ twice (eqb i b.row && eqb j b.column) (eqb i (opposite b.column) && eqb j (opposite b.row)) (at m i j) b.bound)

-- the coherent place is one of the matrix too
pub twin_within : (m n : Matrix) (row column : ℕ) (b : Bound) (size i r : ℕ) → n ≡ replaced m row column b → size ≡ length m → size % 2 ≡ 0 → i < length m → r ≡ opposite i → r < length n
unfolding replaced
twin_within m n row column b size i r e s even l t =
    let k : length n ≡ length m = ap length e ∙ length-table (length m) (replaced_entry m row column b) in
    omega (arith, k, s, even, l, t)

-- what the code does to a matrix
pub placed_twice : (m n k : Matrix) (b : OctBound) (r c : ℕ) → r ≡ opposite b.column → c ≡ opposite b.row
    → n ≡ with_bound m b → k ≡ with_bound n (record { row = r; column = c; word = b.word }) → k ≡ bounded_matrix m (placed_of b)
unfolding taken_at
placed_twice m n k b r c er ec first second =
    second
    ∙ ap (λ (x : Matrix). taken_at x r c (bound_of b.word)) first
    ∙ ap (λ (x : ℕ). taken_at (taken_at m b.row b.column (bound_of b.word)) x c (bound_of b.word)) er
    ∙ ap (λ (x : ℕ). taken_at (taken_at m b.row b.column (bound_of b.word)) (opposite b.column) x (bound_of b.word)) ec
    ∙ both m (placed_of b)

-- ---- a list

pub length-bounded_matrix : (m : Matrix) (b : Placed) → length (bounded_matrix m b) ≡ length m
unfolding bounded_matrix
length-bounded_matrix m b = length-table (length m) (bounded_entry m b)

pub bounded_more : (old m next : Matrix) (bs : List OctBound) (k : ℕ) (d : OctBound) → k < length bs → all_bounded m (map placed_of (drop k bs)) ≡ all_bounded old (map placed_of bs)
    → next ≡ bounded_matrix m (placed_of (get_or bs k d)) → all_bounded next (map placed_of (drop (k + 1) bs)) ≡ all_bounded old (map placed_of bs)
bounded_more old m next bs k d l h e =
    let q : drop k bs ≡ get_or bs k d ∷ drop (k + 1) bs = drop-cons bs k d l ∙ rw (add-one k) refl in
    ap (λ (x : Matrix). all_bounded x (map placed_of (drop (k + 1) bs))) e
    ∙ (sym (ap (λ (xs : List OctBound). all_bounded m (map placed_of xs)) q) ∙ h)

pub placed_in : (n : ℕ) (bs : List OctBound) (k : ℕ) (d : OctBound) → All (IsPlacedIn n) (map placed_of bs) → k < length bs → IsPlacedIn n (placed_of (get_or bs k d))
placed_in n bs k d h l = subst (IsPlacedIn n) (get_or-map placed_of bs k d (placed_of d) l) (h k (placed_of d) (omega (arith, length-map bs placed_of)))

pub length-top : (n : ℕ) → length (top_matrix n) ≡ 2 * n
unfolding top_matrix
length-top n = length-table (2 * n) top_entry
