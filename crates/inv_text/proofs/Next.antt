-- The next bound of a line.
use Rattle.std.proofs.Common.{◌≡◌, ℕ, zero, suc, ◌+◌, ◌-◌, ◌*◌, ◌<◌, ◌≤◌, ◌⊎◌, inl, inr, Bool, true, false, cond, eqb, List, [], ◌∷◌, ◌++◌, length, get_or, Some, None, refl, sym, ap, subst, ◌∙◌, arith}
use Rattle.std.specs.Prelude.{ℤ}
use Rattle.std.proofs.lemmas.Bool.{false≢true}
use Rattle.std.proofs.lemmas.Bool.Decides.{Decides-eqb, nat_tests}
use Rattle.oct_def.specs.Bound.{Bound, InRange, IsEven}
use Rattle.oct_def.specs.Table.{Matrix, at}
use Rattle.oct_def.specs.Matrix.{IsEvenMatrix}
use Rattle.inv_text.specs.declared.bound.InvBound.{InvBound}
use Rattle.inv_text.specs.CertText.{Place, place_at, columns, places, told}
use Rattle.inv_text.specs.Listed.{bound_item, half_bounds}
use Rattle.inv_text.specs.Given.{TakesBound, with_bound}
use Rattle.inv_text.specs.Places.{order_key, is_before}
use Rattle.inv_text.specs.Reading.{IsShortItem, IsListable, AllBefore}
use Rattle.inv_text.proofs.Places.{Each, in_rows, each_rows}
use Rattle.inv_text.proofs.Values.{off, short_bound}
use Rattle.inv_text.proofs.Putting.{key_at, bound_place, Among, each_among, items, InOrder, put_last}
use Rattle.inv_text.proofs.Keeping.{half-with_bound, in_order-half}

-- ---- bounds before a place

pub before_at : (key : ℕ) (bs : List InvBound) (i : ℕ) (d : InvBound) → AllBefore key bs → i < length bs → order_key (get_or bs i d) < key
before_at key [] i d h l = absurd (omega arith)
before_at key (b ∷ bs) zero d h l = h.0
before_at key (b ∷ bs) (suc i) d h l = before_at key bs i d h.1 (omega arith)

pub all_before : (a key : ℕ) (bs : List InvBound) (d : InvBound) → InOrder a bs → ((k : ℕ) → k + 1 ≡ length bs → order_key (get_or bs k d) < key) → AllBefore key bs
all_before a key [] d r h = tt
all_before a key (b ∷ []) d r h = (h 0 (omega arith), tt)
all_before a key (b ∷ x ∷ bs) d r h =
    let rest = all_before (order_key b + 1) key (x ∷ bs) d r.1 (λ k e. h (suc k) (omega arith)) in
    let up : order_key b + 1 ≤ order_key x = r.1.0 in
    let below : order_key x < key = rest.0 in
    (omega (arith, up, below), rest)

above_member : (a : ℕ) (xs : List InvBound) (b : InvBound) (ys : List InvBound) → InOrder a (xs ++ b ∷ ys) → a ≤ order_key b
above_member a [] b ys r = r.0
above_member a (x ∷ xs) b ys r = let k = above_member (order_key x + 1) xs b ys r.1 in let h = r.0 in omega (arith, h, k)

pub order_before : (a : ℕ) (xs : List InvBound) (b : InvBound) (ys : List InvBound) → InOrder a (xs ++ b ∷ ys) → AllBefore (order_key b) xs
order_before a [] b ys r = tt
order_before a (x ∷ xs) b ys r = let k = above_member (order_key x + 1) xs b ys r.1 in (omega (arith, k), order_before (order_key x + 1) xs b ys r.1)

-- a place behind all bounds has none
free_at : (f : Place → Bound) (ps : List Place) (p : Place) → Among p ps → AllBefore (key_at p) (items f ps) → f p ≡ None
free_at f [] p m h = absurd m
free_at f (q ∷ qs) p m h = by (f q) refl m h (free_at f qs p)
  where
    by : (v : Bound) → f q ≡ v → (q ≡ p) ⊎ Among p qs → AllBefore (key_at p) (bound_item q v ++ items f qs) → (Among p qs → AllBefore (key_at p) (items f qs) → f p ≡ None) → f p ≡ None
    by None e (inl s) k more = ap f (sym s) ∙ e
    by None e (inr n) k more = more n k
    by (Some w) e (inl s) k more = let same = ap key_at s in let less = k.0 in absurd (omega (arith, same, less))
    by (Some w) e (inr n) k more = more n k.1

-- ---- each bound of a matrix may be listed

abbrev pub AllOf : (InvBound → Type 0) → List InvBound → Type 0
AllOf P [] = Unit {0}
AllOf P (b ∷ bs) = P b × AllOf P bs

pub all_at : (P : InvBound → Type 0) (xs : List InvBound) (b : InvBound) (ys : List InvBound) → AllOf P (xs ++ b ∷ ys) → P b
all_at P [] b ys h = h.0
all_at P (x ∷ xs) b ys h = all_at P xs b ys h.1

items_all : (P : InvBound → Type 0) (f : Place → Bound) (ps : List Place) → Each (λ p. (w : ℤ) → f p ≡ Some w → P (record { row = p.row; column = p.column; word = w })) ps → AllOf P (items f ps)
items_all P f [] h = tt
items_all P f (p ∷ ps) h = by (f p) refl (items_all P f ps h.1)
  where
    by : (v : Bound) → f p ≡ v → AllOf P (items f ps) → AllOf P (bound_item p v ++ items f ps)
    by None e more = more
    by (Some w) e more = (h.0 w e, more)

told_some : (m : Matrix) (r c : ℕ) (w : ℤ) → told m (place_at r c) ≡ Some w → (r ≡ c → ⊥) × (at m r c ≡ Some w)
unfolding told
told_some m r c w e = by (eqb r c) refl e
  where
    by : (t : Bool) → eqb r c ≡ t → cond t None (at m r c) ≡ Some w → (r ≡ c → ⊥) × (at m r c ≡ Some w)
    by true s h = absurd cc
    by false s h = (λ k. let t = (Decides-eqb r c).1 k in let u : true ≡ false = sym t ∙ s in cc, h)

listable : (n : ℕ) (m : Matrix) → IsEvenMatrix n m → (r c : ℕ) → r < 2 * n → c < columns r → (w : ℤ) → told m (place_at r c) ≡ Some w → IsListable (2 * n) (record { row = r; column = c; word = w })
listable n m is r c lr lc w e =
    let both = told_some m r c w e in record {
      row = lr;
      half = omega (arith, lc);
      off_diagonal = both.0;
      in_range = subst InRange both.1 (is.matrix.in_range r c);
      even = λ k. subst IsEven (ap (at m r) (sym k) ∙ both.1) (is.even r);
    }

pub all_listable : (n : ℕ) (m : Matrix) → IsEvenMatrix n m → AllOf (IsListable (2 * n)) (half_bounds m)
unfolding half_bounds places
all_listable n m is =
    subst (λ (k : ℕ). AllOf (IsListable (2 * n)) (items (told m) (places k))) (sym is.matrix.rows)
    (items_all (IsListable (2 * n)) (told m) (places (2 * n))
    (each_rows (λ p. (w : ℤ) → told m p ≡ Some w → IsListable (2 * n) (record { row = p.row; column = p.column; word = w })) 0 (2 * n) (2 * n) (omega arith) (listable n m is)))

pub short_item : (n : ℕ) (b : InvBound) → n ≤ 256 → IsListable (2 * n) b → IsShortItem b
short_item n b l h =
    let r = h.row in
    let k = h.half in record {
      row = omega (arith, r, l);
      column = omega (arith, r, k, l);
      word = short_bound (Some b.word) h.in_range;
    }

-- ---- the next bound

free_takes : (n : ℕ) (m : Matrix) (b : InvBound) → n ≤ 256 → IsEvenMatrix n m → IsListable (2 * n) b → AllBefore (order_key b) (half_bounds m) → TakesBound m b
unfolding half_bounds places
free_takes n m b l is can before =
    let r = can.row in
    let h = can.half in
    let k = is.matrix.rows in record {
      row = omega (arith, r, k);
      column = omega (arith, r, h, k);
      off_diagonal = can.off_diagonal;
      free = sym (off m b.row b.column can.off_diagonal)
          ∙ free_at (told m) (places (2 * n)) (bound_place b)
          (in_rows (λ q. Among q (places (2 * n))) 0 (2 * n) b.row b.column (each_among (places (2 * n))) (omega arith) (omega (arith, r)) (omega (arith, h)))
          (subst (λ (z : ℕ). AllBefore (order_key b) (items (told m) (places z))) k before);
      in_range = can.in_range;
      even = can.even;
    }

-- it is put behind the others
pub takes_next : (n : ℕ) (m : Matrix) (b : InvBound) → n ≤ 256 → IsEvenMatrix n m → IsListable (2 * n) b → ((k : ℕ) → k + 1 ≡ length (half_bounds m) → is_before (get_or (half_bounds m) k b) b ≡ true)
    → TakesBound m b × (half_bounds (with_bound m b) ≡ half_bounds m ++ b ∷ [])
takes_next n m b l is can last = (takes, sym (half-with_bound n m b l is.matrix can.half takes) ∙ put_last b (half_bounds m) (λ i k. let p = before_at (order_key b) (half_bounds m) i b before k in omega (arith, p)))
  where
    before : AllBefore (order_key b) (half_bounds m)
    before = all_before 0 (order_key b) (half_bounds m) b (in_order-half n m l is.matrix.rows) (λ k e. let h = last k e in grind (arith, nat_tests))

    takes : TakesBound m b
    takes = free_takes n m b l is can before

pub not_next : (n : ℕ) (whole : Matrix) (bs : List InvBound) (b : InvBound) (todo : List InvBound) → n ≤ 256 → IsEvenMatrix n whole → (bs ++ b ∷ todo) ≡ half_bounds whole
    → IsListable (2 * n) b × AllBefore (order_key b) bs
not_next n whole bs b todo l is e = (
  all_at (IsListable (2 * n)) bs b todo (subst (AllOf (IsListable (2 * n))) (sym e) (all_listable n whole is)),
  order_before 0 bs b todo (subst (InOrder 0) (sym e) (in_order-half n whole l is.matrix.rows)),
)

-- bounds that come before a place have a last one that does
pub behind_last : (bs : List InvBound) (b : InvBound) → AllBefore (order_key b) bs → 0 < length bs → is_before (get_or bs (length bs - 1) b) b ≡ false → ⊥
behind_last bs b h l e =
    let p = before_at (order_key b) bs (length bs - 1) b h (omega arith) in
    let t : is_before (get_or bs (length bs - 1) b) b ≡ true = grind (arith, nat_tests) in
    false≢true (sym e ∙ t)
