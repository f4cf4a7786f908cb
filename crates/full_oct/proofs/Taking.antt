-- A matrix that took the bounds of a form is the matrix with these bounds.
use Rattle.std.proofs.Common.{◌≡◌, ℕ, ◌+◌, ◌*◌, ◌<◌, ◌&&◌, Bool, true, false, cond, List, [], ◌∷◌, length, drop, get_or, Option, Some, None, refl, sym, ap, arith, nat_eq, ◌∙◌, eq-eqb, eqb-true, ne_eqb, add-one}
use Rattle.std.specs.Prelude.{ℤ}
use Rattle.std.specs.List.{All}
use Rattle.std.specs.Option.{option_and_then}
use Rattle.std.proofs.Math.Seq.{drop-cons}
use Rattle.oct_def.specs.Bound.{Bound, least, bound_of}
use Rattle.oct_def.specs.Table.{Matrix, at}
use Rattle.oct_def.specs.Matrix.{IsSquare}
use Rattle.oct_def.proofs.Orders.{least_assoc}
use Rattle.oct_def.proofs.Tables.{length-table, at-table, square-table, is-table}
use Rattle.interval_form.specs.declared.constraints.OctBound.{OctBound}
use Rattle.interval_form.specs.declared.interval.Interval.{Interval}
use Rattle.interval_form.specs.Form.{Form, form_value}
use Rattle.interval_form.specs.FormBounds.{form_entry, form_matrix, is_above_zero, form_bounds, least_entry, least_matrix, with_bounds, bounded}
use Rattle.interval_form.specs.Listing.{is_at, listed}
use Rattle.interval_form.specs.Listed.{IsPlaced, Lists}
use Rattle.full_oct.specs.Words.{replaced_entry, replaced}
use Rattle.full_oct.specs.Taken.{with_bound, taken}

-- ---- one bound

pub length-with_bound : (m : Matrix) (b : OctBound) → length (with_bound m b) ≡ length m
unfolding replaced
length-with_bound m b = length-table (length m) (replaced_entry m b.row b.column (least (at m b.row b.column) (bound_of b.word)))

at-with_bound : (m : Matrix) (b : OctBound) (i j : ℕ) → i < length m → j < length m
    → at (with_bound m b) i j ≡ cond (is_at b i j) (least (at m i j) (bound_of b.word)) (at m i j)
unfolding replaced replaced_entry
at-with_bound m b i j p q =
    at-table (length m) (replaced_entry m b.row b.column (least (at m b.row b.column) (bound_of b.word))) i j p q ∙ by (nat_eq i b.row) (nat_eq j b.column) refl refl
  where
    by : (s t : Bool) → nat_eq i b.row ≡ s → nat_eq j b.column ≡ t
        → cond (s && t) (least (at m b.row b.column) (bound_of b.word)) (at m i j) ≡ cond (cond (nat_eq b.row i) (nat_eq b.column j) false) (least (at m i j) (bound_of b.word)) (at m i j)
    by true true e f =
        let r : b.row ≡ i = sym (eqb-true i b.row e) in
        let c : b.column ≡ j = sym (eqb-true j b.column f) in
        rw (eq-eqb b.row i r, eq-eqb b.column j c) (ap (λ (x : ℕ). least (at m x b.column) (bound_of b.word)) r ∙ ap (λ (x : ℕ). least (at m i x) (bound_of b.word)) c)
    by true false e f = rw (eq-eqb b.row i (sym (eqb-true i b.row e)), ne_eqb b.column j (λ z. grind arith)) refl
    by false t e f = rw (ne_eqb b.row i (λ z. grind arith)) refl

-- ---- a list of bounds

pub length-taken : (m : Matrix) (bs : List OctBound) → length (taken m bs) ≡ length m
length-taken m [] = refl
length-taken m (b ∷ bs) = length-taken (with_bound m b) bs ∙ length-with_bound m b

at-taken : (m : Matrix) (bs : List OctBound) (i j : ℕ) → i < length m → j < length m → at (taken m bs) i j ≡ least (at m i j) (listed bs i j)
at-taken m [] i j p q = sym (none (at m i j))
  where
    none : (b : Bound) → least b None ≡ b
    none None = refl
    none (Some x) = refl
at-taken m (b ∷ bs) i j p q =
    let l = length-with_bound m b in
    at-taken (with_bound m b) bs i j (omega arith) (omega arith)
    ∙ (ap (λ (x : Bound). least x (listed bs i j)) (at-with_bound m b i j p q) ∙ by (is_at b i j))
  where
    by : (t : Bool) → least (cond t (least (at m i j) (bound_of b.word)) (at m i j)) (listed bs i j) ≡ least (at m i j) (cond t (least (bound_of b.word) (listed bs i j)) (listed bs i j))
    by true = least_assoc (at m i j) (bound_of b.word) (listed bs i j)
    by false = refl

square-with_bound : (m : Matrix) (b : OctBound) → IsSquare (with_bound m b)
unfolding replaced
square-with_bound m b = square-table (length m) (replaced_entry m b.row b.column (least (at m b.row b.column) (bound_of b.word)))

square-taken : (m : Matrix) (bs : List OctBound) → IsSquare m → IsSquare (taken m bs)
square-taken m [] h = h
square-taken m (b ∷ bs) h = square-taken (with_bound m b) bs (square-with_bound m b)

-- one more of the loop
pub taken_more : (old m next : Matrix) (bs : List OctBound) (k : ℕ) (d : OctBound) → k < length bs → taken m (drop k bs) ≡ taken old bs
    → next ≡ with_bound m (get_or bs k d) → taken next (drop (k + 1) bs) ≡ taken old bs
taken_more old m next bs k d l h e =
    let q : drop k bs ≡ get_or bs k d ∷ drop (k + 1) bs = drop-cons bs k d l ∙ rw (add-one k) refl in
    ap (λ (x : Matrix). taken x (drop (k + 1) bs)) e ∙ (sym (ap (taken m) q) ∙ h)

pub next_bound : (m next : Matrix) (b : OctBound) (old word passed : ℤ) → bound_of old ≡ at m b.row b.column → bound_of word ≡ least (bound_of old) (bound_of b.word)
    → passed ≡ word → next ≡ replaced m b.row b.column (bound_of passed) → next ≡ with_bound m b
next_bound m next b old word passed e f p h = h ∙ ap (replaced m b.row b.column) (ap bound_of p ∙ (f ∙ ap (λ (x : Bound). least x (bound_of b.word)) e))

pub same_length : (next m old : Matrix) (b : OctBound) → next ≡ with_bound m b → length m ≡ length old → length next ≡ length old
same_length next m old b e h = ap length e ∙ (length-with_bound m b ∙ h)

-- the place of a bound is one of the matrix
pub placed_row : (n : ℕ) (m old : Matrix) (bs : List OctBound) (k : ℕ) (d : OctBound) → length old ≡ 2 * n → length m ≡ length old → All (IsPlaced n) bs → k < length bs → (get_or bs k d).row < length m
placed_row n m old bs k d r l h p = let b = (h k d p).row in omega arith

pub placed_column : (n : ℕ) (m old : Matrix) (bs : List OctBound) (k : ℕ) (d : OctBound) → length old ≡ 2 * n → length m ≡ length old → All (IsPlaced n) bs → k < length bs → (get_or bs k d).column < length m
placed_column n m old bs k d r l h p = let b = (h k d p).column in omega arith

-- ---- the bounds of a form

pub bounded-nothing : (ranges : List Interval) (f : Form) (m : Matrix) → is_above_zero (form_value ranges f).low ≡ true → None ≡ bounded ranges f m
unfolding bounded form_bounds
bounded-nothing ranges f m e = sym (ap (λ (b : Bool). with_bounds m (cond b None (Some (form_matrix ranges f)))) e)

at-form_matrix : (ranges : List Interval) (f : Form) (i j : ℕ) → i < 2 * length ranges → j < 2 * length ranges → at (form_matrix ranges f) i j ≡ form_entry ranges f i j
unfolding form_matrix
at-form_matrix ranges f i j p q = at-table (2 * length ranges) (form_entry ranges f) i j p q

taken-is : (ranges : List Interval) (f : Form) (m : Matrix) (bs : List OctBound) → length m ≡ 2 * length ranges → IsSquare m → Lists ranges f bs → taken m bs ≡ least_matrix m (form_matrix ranges f)
unfolding least_matrix least_entry
taken-is ranges f m bs r sq h =
    is-table (taken m bs) (length m) (least_entry m (form_matrix ranges f)) (square-taken m bs sq) (length-taken m bs)
    (λ i j p q. at-taken m bs i j p q ∙ ap (least (at m i j)) (h.entries i j (omega arith) (omega arith) ∙ sym (at-form_matrix ranges f i j (omega arith) (omega arith))))

pub bounded-few : (ranges : List Interval) (f : Form) (m t : Matrix) (bs : List OctBound) → length m ≡ 2 * length ranges → IsSquare m → Lists ranges f bs → t ≡ taken m bs → Some t ≡ bounded ranges f m
unfolding bounded form_bounds
bounded-few ranges f m t bs r sq h e =
    ap Some (e ∙ taken-is ranges f m bs r sq h) ∙ sym (ap (λ (b : Bool). with_bounds m (cond b None (Some (form_matrix ranges f)))) h.possible)

-- ---- the size of a matrix with bounds

abbrev unwrapped : Matrix → Option Matrix → Matrix
unwrapped m None = m
unwrapped m (Some k) = k

length-with_bounds : (m : Matrix) (b : Option Matrix) (k : Matrix) → Some k ≡ with_bounds m b → length k ≡ length m
unfolding least_matrix
length-with_bounds m None k e = cc
length-with_bounds m (Some b) k e = ap (λ (r : Option Matrix). length (unwrapped m r)) e ∙ length-table (length m) (least_entry m b)

pub length-bounded : (ranges : List Interval) (f : Form) (m k : Matrix) → Some k ≡ bounded ranges f m → length k ≡ length m
unfolding bounded
length-bounded ranges f m k e = length-with_bounds m (form_bounds ranges f) k e

pub length-both : (ranges : List Interval) (f g : Form) (m k : Matrix) → Some k ≡ option_and_then (bounded ranges f) (bounded ranges g m) → length k ≡ length m
length-both ranges f g m k e = by (bounded ranges g m) refl e
  where
    by : (r : Option Matrix) → bounded ranges g m ≡ r → Some k ≡ option_and_then (bounded ranges f) r → length k ≡ length m
    by None p q = cc
    by (Some j) p q = length-bounded ranges f j k q ∙ length-bounded ranges g m j (sym p)
