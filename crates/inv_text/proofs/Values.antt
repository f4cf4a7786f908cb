-- The text of a value determines it.
use Rattle.std.proofs.Common.{◌≡◌, ℕ, ◌*◌, ◌^◌, ◌<◌, ◌≤◌, ◌⊎◌, inl, inr, Bool, true, false, cond, eqb, List, [], ◌∷◌, ◌++◌, length, codes, decimal, Option, Some, None, refl, sym, ap, subst, ◌∙◌, arith, append_assoc}
use Rattle.std.specs.Prelude.{ℤ, pos, negsuc}
use Rattle.std.specs.Fmt.{signed_decimal}
use Rattle.std.specs.List.{flat_map}
use Rattle.std.proofs.lemmas.Int.{ints}
use Rattle.std.proofs.lemmas.Bool.Decides.{Decides-eqb}
use Rattle.oct_def.specs.Bound.{Bound, InRange}
use Rattle.oct_def.specs.Table.{Matrix, at}
use Rattle.oct_def.specs.Matrix.{opposite, IsMatrix}
use Rattle.oct_def.specs.Octagon.{IsValueOver}
use Rattle.oct_def.proofs.Tables.{same-matrices}
use Rattle.inv_text.specs.CertText.{Place, place_at, columns, places, told, bound_text, value_text}
use Rattle.inv_text.specs.Words.{Stops, IsShort}
use Rattle.inv_text.proofs.Words.{number_split, integer_split, decimal_first}
use Rattle.inv_text.proofs.Places.{Apart, Distinct, distinct_rows, Each, in_rows, each_rows}

-- a place of small numbers, and a bound of 63 bits
abbrev pub IsSmallPlace : Place → Type 0
IsSmallPlace p = (p.row < 2 ^ 64) × (p.column < 2 ^ 64)

abbrev pub IsShortBound : Bound → Type 0
IsShortBound None = Unit {0}
IsShortBound (Some w) = IsShort w

-- the text of the bounds that a function gives at places
abbrev pub bounds_text : (Place → Bound) → List Place → List ℕ
bounds_text f ps = flat_map (λ p. bound_text p (f p)) ps

-- a line ends
abbrev pub EndsLine : List ℕ → Type 0
EndsLine [] = ⊥
EndsLine (c ∷ cs) = c ≡ 10

abbrev pub Small : (Place → Bound) → List Place → Type 0
Small f ps = Each (λ p. IsSmallPlace p × IsShortBound (f p)) ps

-- what follows a bound begins with a space or ends the line
pub stops_bounds : (f : Place → Bound) (ps : List Place) (r : List ℕ) → EndsLine r → Stops (bounds_text f ps ++ r)
stops_bounds f [] [] e = absurd e
stops_bounds f [] (c ∷ r) e = omega (arith, e)
stops_bounds f (p ∷ ps) r e = by (f p) (stops_bounds f ps r e)
  where
    by : (b : Bound) → Stops (bounds_text f ps ++ r) → Stops ((bound_text p b ++ bounds_text f ps) ++ r)
    by None h = h
    by (Some w) h = omega arith

-- a bound's text before any others
abbrev pub piece : Place → ℤ → List ℕ → List ℕ
piece p w r = 32 ∷ (decimal p.row ++ 32 ∷ (decimal p.column ++ 32 ∷ (signed_decimal w ++ r)))

piece_is : (p : Place) (w : ℤ) (ys r : List ℕ) → (bound_text p (Some w) ++ ys) ++ r ≡ piece p w (ys ++ r)
piece_is p w ys r = simp append_assoc

pub piece_split : (p q : Place) (v w : ℤ) (r s : List ℕ) → IsSmallPlace p → IsSmallPlace q → IsShort v → IsShort w → Stops r → Stops s → piece p v r ≡ piece q w s
    → (p.row ≡ q.row) × (p.column ≡ q.column) × (v ≡ w) × (r ≡ s)
piece_split p q v w r s sp sq sv sw a b e =
    let first : decimal p.row ++ 32 ∷ (decimal p.column ++ 32 ∷ (signed_decimal v ++ r)) ≡ decimal q.row ++ 32 ∷ (decimal q.column ++ 32 ∷ (signed_decimal w ++ s)) = cc in
    let one = number_split p.row q.row (32 ∷ (decimal p.column ++ 32 ∷ (signed_decimal v ++ r))) (32 ∷ (decimal q.column ++ 32 ∷ (signed_decimal w ++ s))) sp.0 sq.0 (omega arith) (omega arith) first in
    let one_rest = one.1 in
    let second : decimal p.column ++ 32 ∷ (signed_decimal v ++ r) ≡ decimal q.column ++ 32 ∷ (signed_decimal w ++ s) = cc in
    let two = number_split p.column q.column (32 ∷ (signed_decimal v ++ r)) (32 ∷ (signed_decimal w ++ s)) sp.1 sq.1 (omega arith) (omega arith) second in
    let two_rest = two.1 in
    let third : signed_decimal v ++ r ≡ signed_decimal w ++ s = cc in
    let three = integer_split v w r s sv sw a b third in
    (one.0, two.0, three.0, three.1)

-- the text of bounds at other places doesn't begin as that of a bound
absent : (f : Place → Bound) (ps : List Place) (r : List ℕ) (q : Place) (w : ℤ) (s : List ℕ) → EndsLine r → Stops s → Small f ps → IsSmallPlace q → IsShort w → Apart q ps
    → bounds_text f ps ++ r ≡ piece q w s → ⊥
absent f [] [] q w s e st small sq sw apart same = absurd e
absent f [] (c ∷ r) q w s e st small sq sw apart same = let first : c ≡ 32 = cc in omega (arith, e, first)
absent f (p ∷ ps) r q w s e st small sq sw apart same = by (f p) small.0.1 same (absent f ps r q w s e st small.1 sq sw apart.1)
  where
    by : (b : Bound) → IsShortBound b → (bound_text p b ++ bounds_text f ps) ++ r ≡ piece q w s → (bounds_text f ps ++ r ≡ piece q w s → ⊥) → ⊥
    by None h k more = more k
    by (Some v) h k more =
        let t = piece_split p q v w (bounds_text f ps ++ r) s small.0.0 sq h sw (stops_bounds f ps r e) st (sym (piece_is p v (bounds_text f ps) r) ∙ k) in
        apart.0 (sym t.0) (sym t.1)

-- equal texts give equal bounds
pub bounds_same : (f g : Place → Bound) (ps : List Place) (r s : List ℕ) → EndsLine r → EndsLine s → Small f ps → Small g ps → Distinct ps
    → bounds_text f ps ++ r ≡ bounds_text g ps ++ s → Each (λ p. f p ≡ g p) ps × (r ≡ s)
bounds_same f g [] r s er es sf sg d e = (tt, e)
bounds_same f g (p ∷ ps) r s er es sf sg d e = by (f p) (g p) refl refl sf.0.1 sg.0.1 e (bounds_same f g ps r s er es sf.1 sg.1 d.1)
  where
    by : (a b : Bound) → f p ≡ a → g p ≡ b → IsShortBound a → IsShortBound b → (bound_text p a ++ bounds_text f ps) ++ r ≡ (bound_text p b ++ bounds_text g ps) ++ s
        → (bounds_text f ps ++ r ≡ bounds_text g ps ++ s → Each (λ p. f p ≡ g p) ps × (r ≡ s)) → Each (λ p. f p ≡ g p) (p ∷ ps) × (r ≡ s)
    by None None x y h k e more = let m = more e in ((x ∙ sym y, m.0), m.1)
    by None (Some w) x y h k e more = absurd (absent f ps r p w (bounds_text g ps ++ s) er (stops_bounds g ps s es) sf.1 sg.0.0 k d.0 (e ∙ piece_is p w (bounds_text g ps) s))
    by (Some v) None x y h k e more = absurd (absent g ps s p v (bounds_text f ps ++ r) es (stops_bounds f ps r er) sg.1 sf.0.0 h d.0 (sym e ∙ piece_is p v (bounds_text f ps) r))
    by (Some v) (Some w) x y h k e more =
        let t = piece_split p p v w (bounds_text f ps ++ r) (bounds_text g ps ++ s) sf.0.0 sf.0.0 h k (stops_bounds f ps r er) (stops_bounds g ps s es)
        (sym (piece_is p v (bounds_text f ps) r) ∙ (e ∙ piece_is p w (bounds_text g ps) s)) in
        let m = more t.3 in
        ((x ∙ (ap (λ (z : ℤ). Some z) t.2 ∙ sym y), m.0), m.1)

-- ---- matrices

pub short_bound : (b : Bound) → InRange b → IsShortBound b
short_bound None h = tt
short_bound (Some (pos n)) h = let a = h.1 in omega (arith, ints, a)
short_bound (Some (negsuc n)) h = let a = h.0 in omega (arith, ints, a)

short_told : (m : Matrix) (p : Place) → ((i j : ℕ) → InRange (at m i j)) → IsShortBound (told m p)
unfolding told
short_told m p h = by (eqb p.row p.column)
  where
    by : (b : Bool) → IsShortBound (cond b None (at m p.row p.column))
    by true = tt
    by false = short_bound (at m p.row p.column) (h p.row p.column)

pub small_told : (n : ℕ) (m : Matrix) → n ≤ 256 → IsMatrix n m → Small (told m) (places (2 * n))
unfolding places
small_told n m l is = each_rows (λ p. IsSmallPlace p × IsShortBound (told m p)) 0 (2 * n) (2 * n) (omega arith)
    (λ r c lr lc. ((omega arith, omega arith), short_told m (place_at r c) is.in_range))

pub off : (m : Matrix) (i j : ℕ) → (i ≡ j → ⊥) → told m (place_at i j) ≡ at m i j
unfolding told
off m i j h = by (eqb i j) refl
  where
    by : (b : Bool) → eqb i j ≡ b → cond b None (at m i j) ≡ at m i j
    by true e = absurd (h ((Decides-eqb i j).0 e))
    by false e = refl

-- matrices with the same bounds at the places of a half matrix are equal
pub told_same : (n : ℕ) (a b : Matrix) → IsMatrix n a → IsMatrix n b → Each (λ p. told a p ≡ told b p) (places (2 * n)) → a ≡ b
unfolding places
told_same n a b ia ib e =
    same-matrices a b ia.square ib.square (ia.rows ∙ sym ib.rows) (λ i j p q.
    let pi : i < 2 * n = omega (arith, ia.rows) in
    let pj : j < 2 * n = omega (arith, ia.rows) in
    any i j pi pj (grind arith) (grind arith))
  where
    stored : (i j : ℕ) → i < 2 * n → j < columns i → (i ≡ j → ⊥) → at a i j ≡ at b i j
    stored i j pi pj ne = sym (off a i j ne) ∙ in_rows (λ p. told a p ≡ told b p) 0 (2 * n) i j e (omega arith) (omega arith) pj ∙ off b i j ne

    any : (i j : ℕ) → i < 2 * n → j < 2 * n → (i ≡ j) ⊎ ((i < j) ⊎ (j < i)) → (j < columns i) ⊎ (columns i ≤ j) → at a i j ≡ at b i j
    any i j pi pj (inl s) k =
        subst (λ (z : ℕ). at a i z ≡ at b i z) s (ia.diagonal i (omega (arith, ia.rows)) ∙ sym (ib.diagonal i (omega (arith, ib.rows))))
    any i j pi pj (inr d) (inl k) = stored i j pi k (apart d)
      where
        apart : (i < j) ⊎ (j < i) → i ≡ j → ⊥
        apart (inl l) s = omega arith
        apart (inr l) s = omega arith
    any i j pi pj (inr d) (inr k) =
        ia.coherent.twins i j (omega (arith, ia.rows)) (omega (arith, ia.rows))
        ∙ stored (opposite j) (opposite i) (omega arith) (omega arith) (λ s. omega (arith, s, k))
        ∙ sym (ib.coherent.twins i j (omega (arith, ib.rows)) (omega (arith, ib.rows)))

distinct : (n : ℕ) → Distinct (places (2 * n))
unfolding places
distinct n = distinct_rows 0 (2 * n)

-- ---- values

-- Bottom's word isn't the text of a bound, nor the end of a line
no_word : (f : Place → Bound) (ps : List Place) (r s : List ℕ) → EndsLine s → Small f ps → codes " bottom" ++ r ≡ bounds_text f ps ++ s → ⊥
no_word f [] r [] e small same = absurd e
no_word f [] r (c ∷ s) e small same = let first : 32 ≡ c = cc in omega (arith, e, first)
no_word f (p ∷ ps) r s e small same = by (f p) same (no_word f ps r s e small.1)
  where
    by : (b : Bound) → codes " bottom" ++ r ≡ (bound_text p b ++ bounds_text f ps) ++ s → (codes " bottom" ++ r ≡ bounds_text f ps ++ s → ⊥) → ⊥
    by None k more = more k
    by (Some w) k more =
        let long : 32 ∷ 98 ∷ (codes "ottom" ++ r) ≡ piece p w (bounds_text f ps ++ s) = k ∙ piece_is p w (bounds_text f ps) s in
        let word : 98 ∷ (codes "ottom" ++ r) ≡ decimal p.row ++ 32 ∷ (decimal p.column ++ 32 ∷ (signed_decimal w ++ (bounds_text f ps ++ s))) = cc in
        let d = decimal_first p.row (32 ∷ (decimal p.column ++ 32 ∷ (signed_decimal w ++ (bounds_text f ps ++ s)))) 98 (codes "ottom" ++ r) small.0.0.0 (sym word) in
        omega (arith, d.1)

pub value_same : (n : ℕ) (v w : Option Matrix) (r s : List ℕ) → n ≤ 256 → IsValueOver n v → IsValueOver n w → EndsLine r → EndsLine s → value_text v ++ r ≡ value_text w ++ s → (v ≡ w) × (r ≡ s)
value_same n None None r s l iv iw er es e = (refl, cc)
value_same n None (Some b) r s l iv iw er es e =
    absurd (no_word (told b) (places (length b)) r s es (subst (λ (k : ℕ). Small (told b) (places k)) (sym iw.matrix.rows) (small_told n b l iw.matrix)) e)
value_same n (Some a) None r s l iv iw er es e =
    absurd (no_word (told a) (places (length a)) s r er (subst (λ (k : ℕ). Small (told a) (places k)) (sym iv.matrix.rows) (small_told n a l iv.matrix)) (sym e))
value_same n (Some a) (Some b) r s l iv iw er es e =
    let texts : bounds_text (told a) (places (2 * n)) ++ r ≡ bounds_text (told b) (places (2 * n)) ++ s =
    ap (λ (k : ℕ). bounds_text (told a) (places k) ++ r) (sym iv.matrix.rows) ∙ (e ∙ ap (λ (k : ℕ). bounds_text (told b) (places k) ++ s) iw.matrix.rows) in
    let both = bounds_same (told a) (told b) (places (2 * n)) r s er es (small_told n a l iv.matrix) (small_told n b l iw.matrix) (distinct n) texts in
    (ap (λ (m : Matrix). Some m) (told_same n a b iv.matrix iw.matrix both.0), both.1)
