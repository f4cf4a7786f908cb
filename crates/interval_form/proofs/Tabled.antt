-- What all pairs of signed dimensions list at a place is the entry of the form's bounds.
use Rattle.std.proofs.Common.{◌≡◌, ◌≢◌, ℕ, zero, suc, ◌+◌, ◌*◌, ◌<◌, ◌≤◌, ◌/◌, ◌%◌, Bool, true, false, cond, List, [], ◌∷◌, refl, sym, ap, arith, nat_eq, ◌∙◌, None, eq-eqb, ne_eqb}
use Rattle.oct_def.specs.Bound.{Bound, least}
use Rattle.oct_def.specs.Matrix.{opposite}
use Rattle.interval_form.specs.declared.constraints.Sized.{Sized}
use Rattle.interval_form.specs.declared.form.Term.{Term}
use Rattle.interval_form.specs.Interval.{Interval, negated}
use Rattle.interval_form.specs.Sparse.{Sparse, IsFormOver, Terms, term_at, form_in}
use Rattle.oct_def.proofs.Indices.{opposite_twice}
use Rattle.oct_def.proofs.Orders.{least_none}
use Rattle.interval_form.specs.Form.{Form, nothing, coefficient}
use Rattle.interval_form.specs.FormBounds.{sum_bound, form_entry, signed_size, signed_coefficient, point_size}
use Rattle.interval_form.specs.Listing.{with_sized, sized_terms, AreSized, size_bound}
use Rattle.interval_form.proofs.Listings.{AreBelow, pair_entry, row_entry, rows_entry}
use Rattle.interval_form.proofs.Dense.{coefficient-in}
use Rattle.interval_form.proofs.Merging.{terms_bound}

-- the size of a signed dimension in a list; 0 where it isn't there
abbrev pub sized_at : List Sized → ℕ → ℕ
sized_at [] i = 0
sized_at (x ∷ xs) i = cond (nat_eq x.dim i) x.size (sized_at xs i)

-- sizes with rising signed dimensions from k on
abbrev pub Rising : ℕ → List Sized → Type 0
Rising k [] = Unit {0}
Rising k (x ∷ xs) = (k ≤ x.dim) × Rising (x.dim + 1) xs

pub sized_at-below : (k : ℕ) (xs : List Sized) (i : ℕ) → Rising k xs → i < k → sized_at xs i ≡ 0
sized_at-below k [] i h l = refl
sized_at-below k (x ∷ xs) i h l =
    let p = h.0 in
    ap (λ (b : Bool). cond b x.size (sized_at xs i)) (ne_eqb x.dim i (λ e. omega arith)) ∙ sized_at-below (x.dim + 1) xs i h.1 (omega arith)

-- the signed dimension i with its size
abbrev pub at_dim : List Sized → ℕ → Sized
at_dim xs i = record { dim = i; size = sized_at xs i }

sum_bound-zero : (ranges : List Interval) (f : Form) (i j : ℕ) → sum_bound ranges f 0 i j ≡ None
unfolding sum_bound
sum_bound-zero ranges f i j = refl

-- the pair whose second size is 0 bounds nothing
pair-zero : (ranges : List Interval) (f : Form) (x : Sized) (d i j : ℕ) → pair_entry ranges f x (record { dim = d; size = 0 }) i j ≡ None
pair-zero ranges f x d i j = by (cond (nat_eq (opposite x.dim) i) (nat_eq d j) false) (nat_eq x.size 0)
  where
    by : (a b : Bool) → cond a (cond b (sum_bound ranges f 0 x.dim d) None) None ≡ None
    by true true = sum_bound-zero ranges f x.dim d
    by true false = refl
    by false b = refl

pair-other : (ranges : List Interval) (f : Form) (x y : Sized) (i j : ℕ) → y.dim ≢ j → pair_entry ranges f x y i j ≡ None
pair-other ranges f x y i j h = rw (ne_eqb y.dim j h) (by (nat_eq (opposite x.dim) i))
  where
    by : (a : Bool) → cond (cond a false false) (size_bound ranges f x y) None ≡ None
    by true = refl
    by false = refl

-- a row has the entry of the pair with the signed dimension of the column
pub row-at : (ranges : List Interval) (f : Form) (x : Sized) (k : ℕ) (ys : List Sized) (i j : ℕ) → Rising k ys
    → row_entry ranges f x ys i j ≡ pair_entry ranges f x (at_dim ys j) i j
row-at ranges f x k [] i j h = sym (pair-zero ranges f x j i j)
row-at ranges f x k (y ∷ ys) i j h = by (nat_eq y.dim j) refl (row-at ranges f x (y.dim + 1) ys i j h.1)
  where
    by : (b : Bool) → nat_eq y.dim j ≡ b → row_entry ranges f x ys i j ≡ pair_entry ranges f x (at_dim ys j) i j
        → least (pair_entry ranges f x y i j) (row_entry ranges f x ys i j) ≡ pair_entry ranges f x (record { dim = j; size = cond b y.size (sized_at ys j) }) i j
    by true e r =
        let d : y.dim ≡ j = grind arith in
        let z : sized_at ys j ≡ 0 = sized_at-below (y.dim + 1) ys j h.1 (omega arith) in
        let q : row_entry ranges f x ys i j ≡ None = r ∙ (ap (λ (a : ℕ). pair_entry ranges f x (record { dim = j; size = a }) i j) z ∙ pair-zero ranges f x j i j) in
        ap (least (pair_entry ranges f x y i j)) q ∙ (least_none (pair_entry ranges f x y i j)
        ∙ ap (λ (a : ℕ). pair_entry ranges f x (record { dim = a; size = y.size }) i j) d)
    by false e r = ap (λ (b : Bound). least b (row_entry ranges f x ys i j)) (pair-other ranges f x y i j (grind arith)) ∙ r

-- ---- all rows

pair-none : (ranges : List Interval) (f : Form) (d : ℕ) (y : Sized) (i j : ℕ) → pair_entry ranges f (record { dim = d; size = 0 }) y i j ≡ None
pair-none ranges f d y i j = by (cond (nat_eq (opposite d) i) (nat_eq y.dim j) false) y.size
  where
    by : (a : Bool) (s : ℕ) → cond a (cond (nat_eq 0 s) (sum_bound ranges f s d y.dim) None) None ≡ None
    by false s = refl
    by true zero = sum_bound-zero ranges f d y.dim
    by true (suc s) = ap (λ (b : Bool). cond b (sum_bound ranges f (suc s) d y.dim) None) (ne_eqb 0 (suc s) (λ e. omega arith))

pair-row : (ranges : List Interval) (f : Form) (x y : Sized) (i j : ℕ) → opposite x.dim ≢ i → pair_entry ranges f x y i j ≡ None
pair-row ranges f x y i j h = rw (ne_eqb (opposite x.dim) i h)

ne_by : (a b : ℕ) → nat_eq a b ≡ false → a ≡ b → ⊥
ne_by a b e p = let z : true ≡ false = sym (eq-eqb a b p) ∙ e in cc

other : (a b : ℕ) → nat_eq a (opposite b) ≡ false → opposite a ≡ b → ⊥
other a b e p = ne_by a (opposite b) e (sym (opposite_twice a) ∙ ap opposite p)

pub rows-at : (ranges : List Interval) (f : Form) (k l : ℕ) (xs ys : List Sized) (i j : ℕ) → Rising k xs → Rising l ys
    → rows_entry ranges f xs ys i j ≡ pair_entry ranges f (at_dim xs (opposite i)) (at_dim ys j) i j
rows-at ranges f k l [] ys i j h r = sym (pair-none ranges f (opposite i) (at_dim ys j) i j)
rows-at ranges f k l (x ∷ xs) ys i j h r = by (nat_eq x.dim (opposite i)) refl (rows-at ranges f (x.dim + 1) l xs ys i j h.1 r)
  where
    by : (b : Bool) → nat_eq x.dim (opposite i) ≡ b → rows_entry ranges f xs ys i j ≡ pair_entry ranges f (at_dim xs (opposite i)) (at_dim ys j) i j
        → least (row_entry ranges f x ys i j) (rows_entry ranges f xs ys i j) ≡ pair_entry ranges f (record { dim = opposite i; size = cond b x.size (sized_at xs (opposite i)) }) (at_dim ys j) i j
    by true e q =
        let d : x.dim ≡ opposite i = grind arith in
        let z : sized_at xs (opposite i) ≡ 0 = sized_at-below (x.dim + 1) xs (opposite i) h.1 (omega arith) in
        let n : rows_entry ranges f xs ys i j ≡ None = q ∙ (ap (λ (a : ℕ). pair_entry ranges f (record { dim = opposite i; size = a }) (at_dim ys j) i j) z ∙ pair-none ranges f (opposite i) (at_dim ys j) i j) in
        ap (least (row_entry ranges f x ys i j)) n ∙ (least_none (row_entry ranges f x ys i j)
        ∙ (row-at ranges f x l ys i j r ∙ ap (λ (a : ℕ). pair_entry ranges f (record { dim = a; size = x.size }) (at_dim ys j) i j) d))
    by false e q =
        let o : opposite x.dim ≢ i = λ p. other x.dim i e p in
        ap (λ (b : Bound). least b (rows_entry ranges f xs ys i j)) (row-at ranges f x l ys i j r ∙ pair-row ranges f x (at_dim ys j) i j o) ∙ q

pub entry-at : (ranges : List Interval) (f : Form) (xs : List Sized) (i j : ℕ) → sized_at xs (opposite i) ≡ signed_size f (opposite i) → sized_at xs j ≡ signed_size f j
    → pair_entry ranges f (at_dim xs (opposite i)) (at_dim xs j) i j ≡ form_entry ranges f i j
unfolding form_entry
entry-at ranges f xs i j p q =
    rw (eq-eqb (opposite (opposite i)) i (opposite_twice i), eq-eqb j j refl, p, q) refl

-- ---- the sizes of a form

with-at : (d a k : ℕ) (xs : List Sized) → Rising (d + 1) xs → sized_at (with_sized d a xs) k ≡ cond (nat_eq d k) a (sized_at xs k)
with-at d zero k xs h = by (nat_eq d k) refl
  where
    by : (b : Bool) → nat_eq d k ≡ b → sized_at xs k ≡ cond b 0 (sized_at xs k)
    by true e = sized_at-below (d + 1) xs k h (grind arith)
    by false e = refl
with-at d (suc a) k xs h = refl

rising-lowered : (k l : ℕ) (xs : List Sized) → Rising l xs → k ≤ l → Rising k xs
rising-lowered k l [] h p = tt
rising-lowered k l (x ∷ xs) h p = let q = h.0 in (omega arith, h.1)

rising-with : (k d a : ℕ) (xs : List Sized) → Rising (d + 1) xs → k ≤ d → Rising k (with_sized d a xs)
rising-with k d zero xs h p = rising-lowered k (d + 1) xs h (omega arith)
rising-with k d (suc a) xs h p = (p, h)

pub rising-sizes : (m n : ℕ) (ts : List Term) → Terms m n ts → Rising (2 * m) (sized_terms ts)
rising-sizes m n [] h = tt
rising-sizes m n (t ∷ ts) h =
    let d = t.dimension in
    let p = h.0 in
    let r = rising-lowered (2 * d + 1 + 1) (2 * (d + 1)) (sized_terms ts) (rising-sizes (d + 1) n ts h.3) (omega arith) in
    rising-with (2 * m) (2 * d) (point_size t.coefficient) (with_sized (2 * d + 1) (point_size (negated t.coefficient)) (sized_terms ts))
    (rising-with (2 * d + 1) (2 * d + 1) (point_size (negated t.coefficient)) (sized_terms ts) r (omega arith)) (omega arith)

sized-with : (d a : ℕ) (xs : List Sized) → AreSized xs → AreSized (with_sized d a xs)
sized-with d zero xs h = h
sized-with d (suc a) xs h = (omega arith, h)

pub sized-sizes : (ts : List Term) → AreSized (sized_terms ts)
sized-sizes [] = tt
sized-sizes (t ∷ ts) =
    sized-with (2 * t.dimension) (point_size t.coefficient) (with_sized (2 * t.dimension + 1) (point_size (negated t.coefficient)) (sized_terms ts))
    (sized-with (2 * t.dimension + 1) (point_size (negated t.coefficient)) (sized_terms ts) (sized-sizes ts))

below-with : (n d a : ℕ) (xs : List Sized) → d < n → AreBelow n xs → AreBelow n (with_sized d a xs)
below-with n d zero xs l h = h
below-with n d (suc a) xs l h = (l, h)

pub below-sizes : (m n : ℕ) (ts : List Term) → Terms m n ts → AreBelow (2 * n) (sized_terms ts)
below-sizes m n [] h = tt
below-sizes m n (t ∷ ts) h =
    let d = t.dimension in
    let b = terms_bound (d + 1) n ts h.3 in
    below-with (2 * n) (2 * d) (point_size t.coefficient) (with_sized (2 * d + 1) (point_size (negated t.coefficient)) (sized_terms ts)) (omega arith)
    (below-with (2 * n) (2 * d + 1) (point_size (negated t.coefficient)) (sized_terms ts) (omega arith) (below-sizes (d + 1) n ts h.3))

-- ---- the size of a signed dimension by its term

part_at : Bool → Interval → ℕ
part_at even i = cond even (point_size i) (point_size (negated i))

none-part : (b : Bool) → 0 ≡ part_at b nothing
unfolding part_at negated
none-part true = refl
none-part false = refl

apart : (d k : ℕ) → 2 * d ≢ k → 2 * d + 1 ≢ k → d ≡ k / 2 → ⊥
apart d k z w u = omega arith

choose : (d k : ℕ) (c : Interval) (a : ℕ) (i : Interval) → a ≡ part_at (nat_eq (k % 2) 0) i
    → cond (nat_eq (2 * d) k) (point_size c) (cond (nat_eq (2 * d + 1) k) (point_size (negated c)) a) ≡ part_at (nat_eq (k % 2) 0) (cond (nat_eq d (k / 2)) c i)
unfolding part_at
choose d k c a i h = by (nat_eq (2 * d) k) (nat_eq (2 * d + 1) k) refl refl
  where
    by : (p q : Bool) → nat_eq (2 * d) k ≡ p → nat_eq (2 * d + 1) k ≡ q
        → cond p (point_size c) (cond q (point_size (negated c)) a) ≡ cond (nat_eq (k % 2) 0) (point_size (cond (nat_eq d (k / 2)) c i)) (point_size (negated (cond (nat_eq d (k / 2)) c i)))
    by true q e g =
        let z : 2 * d ≡ k = grind arith in
        let x : k % 2 ≡ 0 = omega arith in
        let y : d ≡ k / 2 = omega arith in
        rw (eq-eqb (k % 2) 0 x, eq-eqb d (k / 2) y) refl
    by false true e g =
        let z : 2 * d + 1 ≡ k = grind arith in
        let x : k % 2 ≢ 0 = λ w. omega arith in
        let y : d ≡ k / 2 = omega arith in
        rw (ne_eqb (k % 2) 0 x, eq-eqb d (k / 2) y) refl
    by false false e g =
        let z : 2 * d ≢ k = grind arith in
        let w : 2 * d + 1 ≢ k = grind arith in
        let y : d ≢ k / 2 = λ u. apart d k z w u in
        rw (ne_eqb d (k / 2) y) h

size-at : (m n : ℕ) (ts : List Term) (k : ℕ) → Terms m n ts → sized_at (sized_terms ts) k ≡ part_at (nat_eq (k % 2) 0) (term_at ts (k / 2))
size-at m n [] k h = none-part (nat_eq (k % 2) 0)
size-at m n (t ∷ ts) k h =
    let d = t.dimension in
    let rest = sized_terms ts in
    let r : Rising (2 * d + 1 + 1) rest = rising-lowered (2 * d + 1 + 1) (2 * (d + 1)) rest (rising-sizes (d + 1) n ts h.3) (omega arith) in
    let odd : Rising (2 * d + 1) (with_sized (2 * d + 1) (point_size (negated t.coefficient)) rest) = rising-with (2 * d + 1) (2 * d + 1) (point_size (negated t.coefficient)) rest r (omega arith) in
    with-at (2 * d) (point_size t.coefficient) k (with_sized (2 * d + 1) (point_size (negated t.coefficient)) rest) odd
    ∙ (ap (λ (a : ℕ). cond (nat_eq (2 * d) k) (point_size t.coefficient) a) (with-at (2 * d + 1) (point_size (negated t.coefficient)) k rest r)
    ∙ choose d k t.coefficient (sized_at rest k) (term_at ts (k / 2)) (size-at (d + 1) n ts k h.3))

pub signed-size : (n : ℕ) (s : Sparse) (k : ℕ) → IsFormOver n s → k < 2 * n → sized_at (sized_terms s.terms) k ≡ signed_size (form_in n s) k
unfolding signed_size signed_coefficient part_at
signed-size n s k h l =
    size-at 0 n s.terms k h
    ∙ (ap (part_at (nat_eq (k % 2) 0)) (sym (coefficient-in n s (k / 2) (omega arith)))
    ∙ last (nat_eq (k % 2) 0) (coefficient (form_in n s) (k / 2)))
  where
    last : (b : Bool) (i : Interval) → cond b (point_size i) (point_size (negated i)) ≡ point_size (cond b i (negated i))
    last true i = refl
    last false i = refl
