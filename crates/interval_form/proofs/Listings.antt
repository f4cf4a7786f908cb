-- Lists of bounds, and what they have at a place.
use Rattle.std.proofs.Common.{◌≡◌, ◌≢◌, ℕ, zero, suc, ◌+◌, ◌-◌, ◌*◌, ◌<◌, ◌≤◌, ◌/◌, Bool, true, false, cond, List, [], ◌∷◌, ◌++◌, length, take, drop, get_or, refl, sym, ap, arith, nat_eq, ◌∙◌, Some, None, ℤ, eq-eqb, eqb-true, ne_eqb, add-one, append_assoc}
use Rattle.std.specs.List.{All}
use Rattle.std.proofs.lemmas.Int.{ints, clamps}
use Rattle.std.proofs.lemmas.List.{append-nil, length-drop, take_all}
use Rattle.std.proofs.lemmas.List.Elements.{All-nil, All-cons, All-append}
use Rattle.std.proofs.Math.Seq.{drop-cons}
use Rattle.std.proofs.Math.ListN.{drop_of_length-le}
use Rattle.oct_def.specs.Bound.{Bound, InRange, least, bound_of, none_word}
use Rattle.oct_def.specs.Matrix.{opposite}
use Rattle.oct_def.proofs.Indices.{opposite_below}
use Rattle.oct_def.proofs.Orders.{least_none, least_assoc, least_swap}
use Rattle.oct_def.proofs.WordBounds.{bound_of-other}
use Rattle.interval_form.specs.declared.constraints.Sized.{Sized}
use Rattle.interval_form.specs.declared.constraints.OctBound.{OctBound}
use Rattle.interval_form.specs.Interval.{Interval}
use Rattle.interval_form.specs.Form.{Form}
use Rattle.interval_form.specs.FormBounds.{sum_bound, rest_bound, pair_bound, unary_bound}
use Rattle.interval_form.specs.Listing.{word_bound, is_at, listed, size_bound, with_twins, row_list, rows_list, AreSized}
use Rattle.interval_form.specs.Listed.{IsPlaced}
use Rattle.interval_form.proofs.Shapes.{eq-turned, sum_bound-turned, in_range-sum_bound}

-- ---- the least of several

least-twice : (a : Bound) → least a a ≡ a
least-twice None = refl
least-twice (Some x) = ap Some (omega (arith, ints, clamps))

least-four : (a b c d : Bound) → least (least a b) (least c d) ≡ least (least a c) (least b d)
least-four a b c d = least_assoc a b (least c d) ∙ (ap (least a) (least_swap b c d) ∙ sym (least_assoc a c (least b d)))

least-both : (p r c : Bound) → least (least p r) (least p c) ≡ least (least p r) c
least-both p r c = least-four p r p c ∙ (ap (λ (b : Bound). least b (least r c)) (least-twice p) ∙ sym (least_assoc p r c))

-- ---- what a list has at a place

-- the bound b at row r and column c, and none elsewhere
abbrev pub bound_at : Bound → ℕ → ℕ → ℕ → ℕ → Bound
bound_at b r c i j = cond (cond (nat_eq r i) (nat_eq c j) false) b None

abbrev no_bound : Bound
no_bound = None

none-at : (r c i j : ℕ) → bound_at None r c i j ≡ None
none-at r c i j = by (cond (nat_eq r i) (nat_eq c j) false)
  where
    by : (t : Bool) → cond t no_bound no_bound ≡ no_bound
    by true = refl
    by false = refl

pub listed-append : (xs ys : List OctBound) (i j : ℕ) → listed (xs ++ ys) i j ≡ least (listed xs i j) (listed ys i j)
listed-append [] ys i j = refl
listed-append (x ∷ xs) ys i j = by (is_at x i j) (listed-append xs ys i j)
  where
    by : (t : Bool) → listed (xs ++ ys) i j ≡ least (listed xs i j) (listed ys i j)
        → cond t (least (bound_of x.word) (listed (xs ++ ys) i j)) (listed (xs ++ ys) i j)
        ≡ least (cond t (least (bound_of x.word) (listed xs i j)) (listed xs i j)) (listed ys i j)
    by true e = ap (least (bound_of x.word)) e ∙ sym (least_assoc (bound_of x.word) (listed xs i j) (listed ys i j))
    by false e = e

listed-one : (r c : ℕ) (w : ℤ) (i j : ℕ) → listed (record { row = r; column = c; word = w } ∷ []) i j ≡ bound_at (bound_of w) r c i j
listed-one r c w i j = by (cond (nat_eq r i) (nat_eq c j) false)
  where
    by : (t : Bool) → cond t (least (bound_of w) None) None ≡ cond t (bound_of w) None
    by true = least_none (bound_of w)
    by false = refl

in_range-bound : (w : ℤ) → InRange (Some w) → bound_of w ≡ Some w
in_range-bound w h = bound_of-other w (λ e. let k = h.1 in omega (arith, ints))

listed-with_twins : (x y : ℕ) (b : Bound) (i j : ℕ) → InRange b
    → listed (with_twins x y b) i j ≡ least (bound_at b (opposite x) y i j) (bound_at b (opposite y) x i j)
listed-with_twins x y None i j h = sym (rw (none-at (opposite x) y i j, none-at (opposite y) x i j) refl)
listed-with_twins x y (Some w) i j h = by (nat_eq x y) refl
  where
    first : listed (record { row = opposite x; column = y; word = w } ∷ []) i j ≡ bound_at (Some w) (opposite x) y i j
    first = listed-one (opposite x) y w i j ∙ ap (λ (b : Bound). bound_at b (opposite x) y i j) (in_range-bound w h)

    second : listed (record { row = opposite y; column = x; word = w } ∷ []) i j ≡ bound_at (Some w) (opposite y) x i j
    second = listed-one (opposite y) x w i j ∙ ap (λ (b : Bound). bound_at b (opposite y) x i j) (in_range-bound w h)

    by : (t : Bool) → nat_eq x y ≡ t
        → listed (record { row = opposite x; column = y; word = w } ∷ cond t [] (record { row = opposite y; column = x; word = w } ∷ [])) i j
        ≡ least (bound_at (Some w) (opposite x) y i j) (bound_at (Some w) (opposite y) x i j)
    by true e =
        let same : x ≡ y = eqb-true x y e in
        let turned : bound_at (Some w) (opposite x) y i j ≡ bound_at (Some w) (opposite y) x i j = rw same refl in
        first ∙ (sym (least-twice (bound_at (Some w) (opposite x) y i j)) ∙ ap (least (bound_at (Some w) (opposite x) y i j)) turned)
    by false e =
        listed-append (record { row = opposite x; column = y; word = w } ∷ []) (record { row = opposite y; column = x; word = w } ∷ []) i j ∙ rw (first, second) refl

-- ---- what a pair of signed dimensions bounds at a place

abbrev pub pair_entry : List Interval → Form → Sized → Sized → ℕ → ℕ → Bound
pair_entry ranges f x y i j = bound_at (size_bound ranges f x y) (opposite x.dim) y.dim i j

abbrev pub row_entry : List Interval → Form → Sized → List Sized → ℕ → ℕ → Bound
row_entry ranges f x [] i j = None
row_entry ranges f x (y ∷ ys) i j = least (pair_entry ranges f x y i j) (row_entry ranges f x ys i j)

abbrev pub column_entry : List Interval → Form → List Sized → Sized → ℕ → ℕ → Bound
column_entry ranges f [] y i j = None
column_entry ranges f (x ∷ xs) y i j = least (pair_entry ranges f x y i j) (column_entry ranges f xs y i j)

-- all ordered pairs
abbrev pub rows_entry : List Interval → Form → List Sized → List Sized → ℕ → ℕ → Bound
rows_entry ranges f [] ys i j = None
rows_entry ranges f (x ∷ xs) ys i j = least (row_entry ranges f x ys i j) (rows_entry ranges f xs ys i j)

size_bound-turned : (ranges : List Interval) (f : Form) (x y : Sized) → size_bound ranges f x y ≡ size_bound ranges f y x
size_bound-turned ranges f x y = by (nat_eq x.size y.size) refl
  where
    by : (t : Bool) → nat_eq x.size y.size ≡ t
        → cond t (sum_bound ranges f y.size x.dim y.dim) None ≡ cond (nat_eq y.size x.size) (sum_bound ranges f x.size y.dim x.dim) None
    by true e =
        let same : x.size ≡ y.size = eqb-true x.size y.size e in
        sum_bound-turned ranges f y.size x.dim y.dim
        ∙ (ap (λ (a : ℕ). sum_bound ranges f a y.dim x.dim) (sym same)
        ∙ sym (ap (λ (b : Bool). cond b (sum_bound ranges f x.size y.dim x.dim) None) (sym (eq-turned x.size y.size) ∙ e)))
    by false e = sym (ap (λ (b : Bool). cond b (sum_bound ranges f x.size y.dim x.dim) None) (sym (eq-turned x.size y.size) ∙ e))

in_range-size_bound : (ranges : List Interval) (f : Form) (x y : Sized) → InRange (size_bound ranges f x y)
in_range-size_bound ranges f x y = by (nat_eq x.size y.size)
  where
    by : (t : Bool) → InRange (cond t (sum_bound ranges f y.size x.dim y.dim) None)
    by true = in_range-sum_bound ranges f y.size x.dim y.dim
    by false = tt

listed-pair : (ranges : List Interval) (f : Form) (x y : Sized) (i j : ℕ)
    → listed (with_twins x.dim y.dim (size_bound ranges f x y)) i j ≡ least (pair_entry ranges f x y i j) (pair_entry ranges f y x i j)
listed-pair ranges f x y i j =
    listed-with_twins x.dim y.dim (size_bound ranges f x y) i j (in_range-size_bound ranges f x y)
    ∙ ap (λ (b : Bound). least (pair_entry ranges f x y i j) (bound_at b (opposite y.dim) x.dim i j)) (size_bound-turned ranges f x y)

listed-row : (ranges : List Interval) (f : Form) (x : Sized) (ys : List Sized) (i j : ℕ)
    → listed (row_list ranges f x ys) i j ≡ least (row_entry ranges f x ys i j) (column_entry ranges f ys x i j)
listed-row ranges f x [] i j = refl
listed-row ranges f x (y ∷ ys) i j =
    let p = pair_entry ranges f x y i j in
    let q = pair_entry ranges f y x i j in
    let r = row_entry ranges f x ys i j in
    let c = column_entry ranges f ys x i j in
    listed-append (with_twins x.dim y.dim (size_bound ranges f x y)) (row_list ranges f x ys) i j
    ∙ (rw (listed-pair ranges f x y i j, listed-row ranges f x ys i j) (least-four p q r c))

rows-column : (ranges : List Interval) (f : Form) (xs : List Sized) (y : Sized) (ys : List Sized) (i j : ℕ)
    → rows_entry ranges f xs (y ∷ ys) i j ≡ least (column_entry ranges f xs y i j) (rows_entry ranges f xs ys i j)
rows-column ranges f [] y ys i j = refl
rows-column ranges f (x ∷ xs) y ys i j =
    ap (least (row_entry ranges f x (y ∷ ys) i j)) (rows-column ranges f xs y ys i j)
    ∙ least-four (pair_entry ranges f x y i j) (row_entry ranges f x ys i j) (column_entry ranges f xs y i j) (rows_entry ranges f xs ys i j)

-- each two of a list once, with the twins, are all ordered pairs
pub listed-rows : (ranges : List Interval) (f : Form) (xs : List Sized) (i j : ℕ) → listed (rows_list ranges f xs) i j ≡ rows_entry ranges f xs xs i j
listed-rows ranges f [] i j = refl
listed-rows ranges f (x ∷ xs) i j =
    let p = pair_entry ranges f x x i j in
    let r = row_entry ranges f x xs i j in
    let c = column_entry ranges f xs x i j in
    let more = rows_entry ranges f xs xs i j in
    listed-append (row_list ranges f x (x ∷ xs)) (rows_list ranges f xs) i j
    ∙ (ap (λ (b : Bound). least b (listed (rows_list ranges f xs) i j)) (listed-row ranges f x (x ∷ xs) i j ∙ least-both p r c)
    ∙ (ap (least (least (least p r) c)) (listed-rows ranges f xs i j)
    ∙ (least_assoc (least p r) c more ∙ ap (least (least p r)) (sym (rows-column ranges f xs x xs i j)))))

-- ---- where the bounds stand

-- each signed dimension is below n
abbrev pub AreBelow : ℕ → List Sized → Type 0
AreBelow n [] = Unit {0}
AreBelow n (x ∷ xs) = (x.dim < n) × AreBelow n xs

placed-twins : (n x y : ℕ) (b : Bound) → x < 2 * n → y < 2 * n → InRange b → All (IsPlaced n) (with_twins x y b)
placed-twins n x y None p q h = All-nil (IsPlaced n)
placed-twins n x y (Some w) p q h = All-cons (IsPlaced n) (record { row = opposite x; column = y; word = w }) (cond (nat_eq x y) [] (record { row = opposite y; column = x; word = w } ∷ [])) first (by (nat_eq x y))
  where
    first : IsPlaced n (record { row = opposite x; column = y; word = w })
    first = record { row = opposite_below n x p; column = q; low = h.0; high = h.1 }

    by : (t : Bool) → All (IsPlaced n) (cond t [] (record { row = opposite y; column = x; word = w } ∷ []))
    by true = All-nil (IsPlaced n)
    by false = All-cons (IsPlaced n) (record { row = opposite y; column = x; word = w }) [] (record { row = opposite_below n y q; column = p; low = h.0; high = h.1 }) (All-nil (IsPlaced n))

placed-row : (ranges : List Interval) (f : Form) (n : ℕ) (x : Sized) (ys : List Sized) → x.dim < 2 * n → AreBelow (2 * n) ys → All (IsPlaced n) (row_list ranges f x ys)
placed-row ranges f n x [] p h = All-nil (IsPlaced n)
placed-row ranges f n x (y ∷ ys) p h =
    All-append (IsPlaced n) (with_twins x.dim y.dim (size_bound ranges f x y)) (row_list ranges f x ys)
    (placed-twins n x.dim y.dim (size_bound ranges f x y) p h.0 (in_range-size_bound ranges f x y))
    (placed-row ranges f n x ys p h.1)

pub placed-rows : (ranges : List Interval) (f : Form) (n : ℕ) (xs : List Sized) → AreBelow (2 * n) xs → All (IsPlaced n) (rows_list ranges f xs)
placed-rows ranges f n [] h = All-nil (IsPlaced n)
placed-rows ranges f n (x ∷ xs) h =
    All-append (IsPlaced n) (row_list ranges f x (x ∷ xs)) (rows_list ranges f xs) (placed-row ranges f n x (x ∷ xs) h.0 h) (placed-rows ranges f n xs h.1)

-- ---- the loops

pub other-sizes : (ranges : List Interval) (f : Form) (x y : Sized) → x.size ≢ y.size → size_bound ranges f x y ≡ None
other-sizes ranges f x y h = rw (ne_eqb x.size y.size h)

pub same-sizes : (ranges : List Interval) (f : Form) (x y : Sized) (w : ℤ) → x.size ≡ y.size → 0 < y.size
    → bound_of w ≡ word_bound (nat_eq x.dim y.dim) y.size (rest_bound ranges f (x.dim / 2) (y.dim / 2)) → bound_of w ≡ size_bound ranges f x y
unfolding sum_bound
same-sizes ranges f x y w e p h = rw (eq-eqb x.size y.size e) (by y.size p h)
  where
    choice : (t : Bool) (a : ℕ) (b : Bound) → word_bound t a b ≡ cond t (unary_bound a b) (pair_bound a b)
    choice true a b = refl
    choice false a b = refl

    by : (a : ℕ) → 0 < a → bound_of w ≡ word_bound (nat_eq x.dim y.dim) a (rest_bound ranges f (x.dim / 2) (y.dim / 2)) → bound_of w ≡ sum_bound ranges f a x.dim y.dim
    by zero q k = absurd (omega arith)
    by (suc a) q k = k ∙ choice (nat_eq x.dim y.dim) (suc a) (rest_bound ranges f (x.dim / 2) (y.dim / 2))

-- nothing more is listed where there is no bound
pub none-more : (xs : List OctBound) (x y : ℕ) (b : Bound) → b ≡ None → xs ≡ xs ++ with_twins x y b
none-more xs x y b e = sym (ap (λ (c : Bound). xs ++ with_twins x y c) e ∙ append-nil xs)

pub none-bound : (w : ℤ) → w ≡ none_word → bound_of w ≡ None
none-bound w e = ap bound_of e

pub some-bound : (w : ℤ) (b : Bound) → w ≢ none_word → bound_of w ≡ b → b ≡ Some w
some-bound w b h e = sym e ∙ bound_of-other w h

pub sized_index : (xs : List Sized) (k : ℕ) (d : Sized) → AreSized xs → k < length xs → 0 < (get_or xs k d).size
sized_index [] k d h l = absurd (omega arith)
sized_index (x ∷ xs) zero d h l = h.0
sized_index (x ∷ xs) (suc k) d h l = sized_index xs k d h.1 (omega arith)

pub sized-drop : (xs : List Sized) (k : ℕ) → AreSized xs → AreSized (drop k xs)
sized-drop [] zero h = h
sized-drop [] (suc k) h = h
sized-drop (x ∷ xs) zero h = h
sized-drop (x ∷ xs) (suc k) h = sized-drop xs k h.1

pub drop-sized : (xs : List Sized) (k : ℕ) (d : Sized) → k < length xs → drop k xs ≡ get_or xs k d ∷ drop (k + 1) xs
drop-sized xs k d h = drop-cons xs k d h ∙ rw (add-one k) refl

-- the slice from an index on
pub slice-from : (xs : List Sized) (k : ℕ) → take (length xs - k) (drop k xs) ≡ drop k xs
slice-from xs k = take_all (length xs - k) (drop k xs) (omega (arith, length-drop k xs))

-- one more of a list
pub row_more : (ranges : List Interval) (f : Form) (x : Sized) (ys : List Sized) (k : ℕ) (d : Sized) (out more : List OctBound) (whole : List OctBound) → k < length ys
    → out ++ row_list ranges f x (drop k ys) ≡ whole
    → more ≡ out ++ with_twins x.dim (get_or ys k d).dim (size_bound ranges f x (get_or ys k d))
    → more ++ row_list ranges f x (drop (k + 1) ys) ≡ whole
row_more ranges f x ys k d out more whole l h e =
    let y = get_or ys k d in
    let pair = with_twins x.dim y.dim (size_bound ranges f x y) in
    let rest = row_list ranges f x (drop (k + 1) ys) in
    let q : row_list ranges f x (drop k ys) ≡ pair ++ rest = ap (row_list ranges f x) (drop-sized ys k d l) in
    ap (λ (zs : List OctBound). zs ++ rest) e ∙ (append_assoc out pair rest ∙ (ap (λ (zs : List OctBound). out ++ zs) (sym q) ∙ h))

pub rows_more : (ranges : List Interval) (f : Form) (xs : List Sized) (k : ℕ) (d : Sized) (out more : List OctBound) (whole : List OctBound) → k < length xs
    → out ++ rows_list ranges f (drop k xs) ≡ whole
    → more ≡ out ++ row_list ranges f (get_or xs k d) (take (length xs - k) (drop k xs))
    → more ++ rows_list ranges f (drop (k + 1) xs) ≡ whole
rows_more ranges f xs k d out more whole l h e =
    let x = get_or xs k d in
    let row = row_list ranges f x (x ∷ drop (k + 1) xs) in
    let rest = rows_list ranges f (drop (k + 1) xs) in
    let q : rows_list ranges f (drop k xs) ≡ row ++ rest = ap (rows_list ranges f) (drop-sized xs k d l) in
    let p : more ≡ out ++ row = e ∙ ap (λ (zs : List Sized). out ++ row_list ranges f x zs) (slice-from xs k ∙ drop-sized xs k d l) in
    ap (λ (zs : List OctBound). zs ++ rest) p ∙ (append_assoc out row rest ∙ (ap (λ (zs : List OctBound). out ++ zs) (sym q) ∙ h))

pub row-done : (ranges : List Interval) (f : Form) (x : Sized) (ys : List Sized) (k : ℕ) (out whole : List OctBound) → length ys ≤ k
    → out ++ row_list ranges f x (drop k ys) ≡ whole → out ≡ whole
row-done ranges f x ys k out whole l h =
    sym (append-nil out) ∙ (sym (ap (λ (zs : List Sized). out ++ row_list ranges f x zs) (drop_of_length-le ys l)) ∙ h)

pub rows-done : (ranges : List Interval) (f : Form) (xs : List Sized) (k : ℕ) (out whole : List OctBound) → length xs ≤ k
    → out ++ rows_list ranges f (drop k xs) ≡ whole → out ≡ whole
rows-done ranges f xs k out whole l h =
    sym (append-nil out) ∙ (sym (ap (λ (zs : List Sized). out ++ rows_list ranges f zs) (drop_of_length-le xs l)) ∙ h)
