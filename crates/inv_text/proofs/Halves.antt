-- A matrix and the list of its finite half entries.
use Rattle.std.proofs.Common.{◌≡◌, ℕ, ◌*◌, ◌/◌, ◌<◌, ◌⊎◌, inl, inr, Bool, true, false, cond, eqb, leb, List, [], ◌∷◌, ◌++◌, length, map, Some, None, refl, sym, ap, subst, ◌∙◌, arith}
use Rattle.std.specs.Prelude.{ℤ, pos}
use Rattle.std.proofs.lemmas.Bool.{false≢true}
use Rattle.std.proofs.lemmas.Bool.Decides.{Decides-eqb, nat_tests}
use Rattle.oct_def.specs.Bound.{Bound, least}
use Rattle.oct_def.specs.Table.{Matrix, at}
use Rattle.oct_def.specs.Matrix.{opposite, IsSquare, IsMatrix}
use Rattle.oct_def.specs.Octagon.{top_entry, top_matrix}
use Rattle.oct_def.proofs.Tables.{length-table, at-table, square-table, same-matrices}
use Rattle.oct_def.proofs.Orders.{least_assoc, least_comm}
use Rattle.oct_def.proofs.Bounds.{least_self}
use Rattle.oct_def.proofs.Indices.{opposite_twice}
use Rattle.placed_bounds.specs.Bounded.{Placed, is_hit, bounded_entry, bounded_matrix, all_bounded}
use Rattle.placed_bounds.proofs.Bounded.{Hits, hits_is}
use Rattle.inv_text.specs.declared.bound.InvBound.{InvBound}
use Rattle.inv_text.specs.CertText.{Place, place_at, places, told}
use Rattle.inv_text.specs.Listed.{bound_item, half_bounds, placed_at, listed_matrix}
use Rattle.inv_text.specs.Places.{is_before, put_in}
use Rattle.inv_text.proofs.Places.{in_rows}
use Rattle.inv_text.proofs.Values.{off}
use Rattle.inv_text.proofs.Putting.{Among, each_among, items}

-- ---- bounds in any order

pub length-bounded : (m : Matrix) (b : Placed) → length (bounded_matrix m b) ≡ length m
unfolding bounded_matrix
length-bounded m b = length-table (length m) (bounded_entry m b)

square-bounded : (m : Matrix) (b : Placed) → IsSquare (bounded_matrix m b)
unfolding bounded_matrix
square-bounded m b = square-table (length m) (bounded_entry m b)

pub at-bounded : (m : Matrix) (b : Placed) (i j : ℕ) → i < length m → j < length m → at (bounded_matrix m b) i j ≡ cond (is_hit b i j) (least (at m i j) b.bound) (at m i j)
unfolding bounded_matrix bounded_entry
at-bounded m b i j p q = at-table (length m) (bounded_entry m b) i j p q

flip : (s t : Bool) (x a b : Bound) → cond t (least (cond s (least x a) x) b) (cond s (least x a) x) ≡ cond s (least (cond t (least x b) x) a) (cond t (least x b) x)
flip true true x a b = least_assoc x a b ∙ ap (least x) (least_comm a b) ∙ sym (least_assoc x b a)
flip true false x a b = refl
flip false true x a b = refl
flip false false x a b = refl

swapped : (m : Matrix) (a b : Placed) → bounded_matrix (bounded_matrix m a) b ≡ bounded_matrix (bounded_matrix m b) a
swapped m a b =
    same-matrices (bounded_matrix (bounded_matrix m a) b) (bounded_matrix (bounded_matrix m b) a) (square-bounded (bounded_matrix m a) b) (square-bounded (bounded_matrix m b) a)
    (length-bounded (bounded_matrix m a) b ∙ length-bounded m a ∙ sym (length-bounded (bounded_matrix m b) a ∙ length-bounded m b))
    (λ i j p q.
    let la : length (bounded_matrix m a) ≡ length m = length-bounded m a in
    let lb : length (bounded_matrix m b) ≡ length m = length-bounded m b in
    let lc : length (bounded_matrix (bounded_matrix m a) b) ≡ length (bounded_matrix m a) = length-bounded (bounded_matrix m a) b in
    at-bounded (bounded_matrix m a) b i j (omega (arith, lc)) (omega (arith, lc))
    ∙ ap (λ (x : Bound). cond (is_hit b i j) (least x b.bound) x) (at-bounded m a i j (omega (arith, la, lc)) (omega (arith, la, lc)))
    ∙ flip (is_hit a i j) (is_hit b i j) (at m i j) a.bound b.bound
    ∙ sym (ap (λ (x : Bound). cond (is_hit a i j) (least x a.bound) x) (at-bounded m b i j (omega (arith, la, lc)) (omega (arith, la, lc))))
    ∙ sym (at-bounded (bounded_matrix m b) a i j (omega (arith, la, lb, lc)) (omega (arith, la, lb, lc))))

moved_out : (m : Matrix) (b : Placed) (bs : List Placed) → all_bounded (bounded_matrix m b) bs ≡ bounded_matrix (all_bounded m bs) b
moved_out m b [] = refl
moved_out m b (x ∷ bs) = ap (λ (k : Matrix). all_bounded k bs) (swapped m b x) ∙ moved_out (bounded_matrix m x) b bs

pub listed-put_in : (m : Matrix) (b : InvBound) (bs : List InvBound) → all_bounded m (map placed_at (put_in b bs)) ≡ bounded_matrix (all_bounded m (map placed_at bs)) (placed_at b)
listed-put_in m b [] = refl
listed-put_in m b (x ∷ bs) = by (is_before b x) (listed-put_in (bounded_matrix m (placed_at x)) b bs)
  where
    by : (t : Bool) → all_bounded (bounded_matrix m (placed_at x)) (map placed_at (put_in b bs)) ≡ bounded_matrix (all_bounded m (map placed_at (x ∷ bs))) (placed_at b)
        → all_bounded m (map placed_at (cond t (b ∷ x ∷ bs) (x ∷ put_in b bs))) ≡ bounded_matrix (all_bounded m (map placed_at (x ∷ bs))) (placed_at b)
    by true more = moved_out m (placed_at b) (map placed_at (x ∷ bs))
    by false more = more

-- ---- entries

length-all : (m : Matrix) (bs : List Placed) → length (all_bounded m bs) ≡ length m
length-all m [] = refl
length-all m (b ∷ bs) = length-all (bounded_matrix m b) bs ∙ length-bounded m b

square-all : (m : Matrix) (bs : List Placed) → IsSquare m → IsSquare (all_bounded m bs)
square-all m [] s = s
square-all m (b ∷ bs) s = square-all (bounded_matrix m b) bs (square-bounded m b)

-- an entry after bounds
along : List InvBound → ℕ → ℕ → Bound → Bound
along [] i j x = x
along (b ∷ bs) i j x = along bs i j (cond (is_hit (placed_at b) i j) (least x (Some b.word)) x)

at-all : (m : Matrix) (bs : List InvBound) (i j : ℕ) → i < length m → j < length m → at (all_bounded m (map placed_at bs)) i j ≡ along bs i j (at m i j)
unfolding along
at-all m [] i j p q = refl
at-all m (b ∷ bs) i j p q =
    let l : length (bounded_matrix m (placed_at b)) ≡ length m = length-bounded m (placed_at b) in
    at-all (bounded_matrix m (placed_at b)) bs i j (omega (arith, l)) (omega (arith, l))
    ∙ ap (along bs i j) (at-bounded m (placed_at b) i j p q)

-- a bound at a place changes an entry
abbrev place_hit : Place → ℕ → ℕ → Bool
place_hit q i j = is_hit (record { row = q.row; column = q.column; bound = None }) i j

-- no place with a bound changes the entry
unmoved : (f : Place → Bound) (ps : List Place) (i j : ℕ) (x : Bound) → ((q : Place) (w : ℤ) → f q ≡ Some w → place_hit q i j ≡ false) → along (items f ps) i j x ≡ x
unfolding along
unmoved f [] i j x h = refl
unmoved f (q ∷ qs) i j x h = by (f q) refl (unmoved f qs i j x h)
  where
    by : (v : Bound) → f q ≡ v → along (items f qs) i j x ≡ x → along (bound_item q v ++ items f qs) i j x ≡ x
    by None e more = more
    by (Some w) e more = ap (λ (t : Bool). along (items f qs) i j (cond t (least x (Some w)) x)) (h q w e) ∙ more

-- the places that change the entry have the bound that it has already
kept : (f : Place → Bound) (ps : List Place) (i j : ℕ) (x : Bound) → ((q : Place) → place_hit q i j ≡ true → f q ≡ x) → along (items f ps) i j x ≡ x
unfolding along
kept f [] i j x h = refl
kept f (q ∷ qs) i j x h = by (f q) refl (kept f qs i j x h)
  where
    hit : (w : ℤ) (t : Bool) → f q ≡ Some w → place_hit q i j ≡ t → cond t (least x (Some w)) x ≡ x
    hit w true e s = ap (least x) (sym e ∙ h q s) ∙ least_self x
    hit w false e s = refl

    by : (v : Bound) → f q ≡ v → along (items f qs) i j x ≡ x → along (bound_item q v ++ items f qs) i j x ≡ x
    by None e more = more
    by (Some w) e more = ap (along (items f qs) i j) (hit w (place_hit q i j) e refl) ∙ more

-- one of them is there
come : (f : Place → Bound) (ps : List Place) (i j : ℕ) (x : Bound) (p : Place) → ((q : Place) → place_hit q i j ≡ true → f q ≡ x) → place_hit p i j ≡ true → Among p ps → along (items f ps) i j None ≡ x
unfolding along
come f [] i j x p h s m = absurd m
come f (q ∷ qs) i j x p h s m = by (f q) (place_hit q i j) refl refl m (λ n. come f qs i j x p h s n) (kept f qs i j x h)
  where
    by : (v : Bound) (t : Bool) → f q ≡ v → place_hit q i j ≡ t → (q ≡ p) ⊎ Among p qs → (Among p qs → along (items f qs) i j None ≡ x) → along (items f qs) i j x ≡ x
        → along (bound_item q v ++ items f qs) i j None ≡ x
    by None t e k (inl l) more same =
        let none : None ≡ x = sym e ∙ h q (ap (λ (z : Place). place_hit z i j) l ∙ s) in
        subst (λ (z : Bound). along (items f qs) i j z ≡ x) (sym none) same
    by None t e k (inr n) more same = more n
    by (Some w) true e k m more same =
        ap (λ (z : Bool). along (items f qs) i j (cond z (Some w) None)) k
        ∙ ap (along (items f qs) i j) (sym e ∙ h q k) ∙ same
    by (Some w) false e k (inl l) more same = absurd (false≢true (sym k ∙ (ap (λ (z : Place). place_hit z i j) l ∙ s)))
    by (Some w) false e k (inr n) more same = ap (λ (z : Bool). along (items f qs) i j (cond z (Some w) None)) k ∙ more n

-- ---- the matrix of a matrix's list

hits_place : (q : Place) (i j : ℕ) → place_hit q i j ≡ true → Hits (record { row = q.row; column = q.column; bound = None }) i j
hits_place q i j e = (hits_is (record { row = q.row; column = q.column; bound = None }) i j).0 e

hit_place : (q : Place) (i j : ℕ) → Hits (record { row = q.row; column = q.column; bound = None }) i j → place_hit q i j ≡ true
hit_place q i j h = (hits_is (record { row = q.row; column = q.column; bound = None }) i j).1 h

-- the place of the two that a half matrix stores
abbrev half_place : ℕ → ℕ → Place
half_place i j = cond (leb (j / 2) (i / 2)) (place_at i j) (place_at (opposite j) (opposite i))

among_half : (n i j : ℕ) → i < 2 * n → j < 2 * n → Among (half_place i j) (places (2 * n))
unfolding places
among_half n i j p q = by (leb (j / 2) (i / 2)) refl
  where
    by : (t : Bool) → leb (j / 2) (i / 2) ≡ t → Among (cond t (place_at i j) (place_at (opposite j) (opposite i))) (places (2 * n))
    by true e = in_rows (λ r. Among r (places (2 * n))) 0 (2 * n) i j (each_among (places (2 * n))) (omega arith) (omega arith) (grind (arith, nat_tests))
    by false e =
        let l : i / 2 < j / 2 = grind (arith, nat_tests) in
        in_rows (λ r. Among r (places (2 * n))) 0 (2 * n) (opposite j) (opposite i) (each_among (places (2 * n))) (omega arith) (omega arith) (omega arith)

half_hit : (i j : ℕ) → place_hit (half_place i j) i j ≡ true
half_hit i j = by (leb (j / 2) (i / 2))
  where
    by : (t : Bool) → place_hit (cond t (place_at i j) (place_at (opposite j) (opposite i))) i j ≡ true
    by true = hit_place (place_at i j) i j (inl (refl, refl))
    by false = hit_place (place_at (opposite j) (opposite i)) i j (inr (sym (opposite_twice i), sym (opposite_twice j)))

-- a place that changes the entry has its bound
hit_told : (n : ℕ) (m : Matrix) (i j : ℕ) → IsMatrix n m → i < 2 * n → j < 2 * n → (i ≡ j → ⊥) → (q : Place) → place_hit q i j ≡ true → told m q ≡ at m i j
hit_told n m i j is p q ne r h = by (hits_place r i j h)
  where
    by : Hits (record { row = r.row; column = r.column; bound = None }) i j → told m r ≡ at m i j
    by (inl e) = off m r.row r.column (λ s. ne (e.0 ∙ s ∙ sym e.1)) ∙ ap (λ (k : ℕ). at m k r.column) (sym e.0) ∙ ap (at m i) (sym e.1)
    by (inr e) =
        let er : opposite j ≡ r.row = ap opposite e.1 ∙ opposite_twice r.row in
        let ec : opposite i ≡ r.column = ap opposite e.0 ∙ opposite_twice r.column in
        off m r.row r.column (λ s. ne (e.0 ∙ ap opposite (sym s) ∙ sym e.1))
        ∙ ap (λ (k : ℕ). at m k r.column) (sym er) ∙ ap (at m (opposite j)) (sym ec)
        ∙ sym (is.coherent.twins i j (omega (arith, is.rows)) (omega (arith, is.rows)))

-- the diagonal isn't told
diagonal_hit : (m : Matrix) (i : ℕ) (q : Place) (w : ℤ) → told m q ≡ Some w → place_hit q i i ≡ false
unfolding told
diagonal_hit m i q w e = by (place_hit q i i) refl
  where
    same_place : Hits (record { row = q.row; column = q.column; bound = None }) i i → q.row ≡ q.column
    same_place (inl h) = sym h.0 ∙ h.1
    same_place (inr h) = sym (opposite_twice q.row) ∙ ap opposite (sym h.1 ∙ h.0) ∙ opposite_twice q.column

    none : q.row ≡ q.column → told m q ≡ None
    none s = ap (λ (t : Bool). cond t None (at m q.row q.column)) ((Decides-eqb q.row q.column).1 s)

    by : (t : Bool) → place_hit q i i ≡ t → t ≡ false
    by true h = let n = none (same_place (hits_place q i i h)) in let x : None ≡ Some w = sym n ∙ e in cc
    by false h = refl

pub relisted : (n : ℕ) (m : Matrix) → IsMatrix n m → listed_matrix n (half_bounds m) ≡ m
unfolding half_bounds top_matrix top_entry
relisted n m is =
    same-matrices (listed_matrix n (half_bounds m)) m (square-all (top_matrix n) (map placed_at (half_bounds m)) (square-table (2 * n) top_entry)) is.square (size ∙ sym is.rows)
    (λ i j p q. entry i j (omega (arith, size)) (omega (arith, size)))
  where
    top_rows : length (top_matrix n) ≡ 2 * n
    top_rows = length-table (2 * n) top_entry

    size : length (listed_matrix n (half_bounds m)) ≡ 2 * n
    size = length-all (top_matrix n) (map placed_at (half_bounds m)) ∙ top_rows

    off_diagonal : (i j : ℕ) → i < 2 * n → j < 2 * n → (i ≡ j → ⊥) → along (items (told m) (places (length m))) i j None ≡ at m i j
    off_diagonal i j p q ne =
        come (told m) (places (length m)) i j (at m i j) (half_place i j) (hit_told n m i j is p q ne) (half_hit i j)
        (subst (λ (k : ℕ). Among (half_place i j) (places k)) (sym is.rows) (among_half n i j p q))

    on_diagonal : (i : ℕ) → i < 2 * n → along (items (told m) (places (length m))) i i (Some (pos 0)) ≡ at m i i
    on_diagonal i p = unmoved (told m) (places (length m)) i i (Some (pos 0)) (diagonal_hit m i) ∙ sym (is.diagonal i (omega (arith, is.rows)))

    by : (i j : ℕ) (t : Bool) → i < 2 * n → j < 2 * n → eqb i j ≡ t → along (items (told m) (places (length m))) i j (cond t (Some (pos 0)) None) ≡ at m i j
    by i j true p q e =
        let s : i ≡ j = (Decides-eqb i j).0 e in
        subst (λ (k : ℕ). along (items (told m) (places (length m))) i k (Some (pos 0)) ≡ at m i k) s (on_diagonal i p)
    by i j false p q e = off_diagonal i j p q (λ s. false≢true (sym e ∙ (Decides-eqb i j).1 s))

    entry : (i j : ℕ) → i < 2 * n → j < 2 * n → at (listed_matrix n (half_bounds m)) i j ≡ at m i j
    entry i j p q =
        at-all (top_matrix n) (half_bounds m) i j (omega (arith, top_rows)) (omega (arith, top_rows))
        ∙ ap (along (half_bounds m) i j) (at-table (2 * n) top_entry i j p q)
        ∙ by i j (eqb i j) p q refl

-- matrices with one list are one
pub same_listed : (n : ℕ) (a b : Matrix) → IsMatrix n a → IsMatrix n b → half_bounds a ≡ half_bounds b → a ≡ b
same_listed n a b ia ib e = sym (relisted n a ia) ∙ ap (listed_matrix n) e ∙ relisted n b ib
