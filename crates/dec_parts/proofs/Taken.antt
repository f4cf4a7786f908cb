-- Parts that take listed bounds are the parts of the whole matrix that takes them.
use Rattle.std.proofs.Common.{◌≡◌, ℕ, ◌*◌, ◌/◌, ◌<◌, ◌⊎◌, inl, inr, Bool, true, false, cond, List, [], ◌∷◌, length, None, refl, sym, ap, ◌∙◌, subst, arith, ◌+◌, ◌%◌, drop, add-one, drop-cons, suc}
use Rattle.std.proofs.lemmas.Bool.{cases_Bool, cond-true, cond-false, eqb-true, eq-eqb, lt-ltb, ltb-true, and_from, and_parts}
use Rattle.std.specs.Prelude.{nat_eq}
use Rattle.oct_def.specs.Bound.{Bound, InRange, least, bound_of}
use Rattle.oct_def.specs.Table.{Matrix, table, at}
use Rattle.oct_def.specs.Matrix.{opposite, IsSquare, IsCoherent}
use Rattle.oct_def.proofs.Bounds.{least_self}
use Rattle.oct_def.proofs.Orders.{least_none, least_comm, least_assoc, least_swap}
use Rattle.oct_def.proofs.Tables.{at-table, square-table, is-table}
use Rattle.oct_def.proofs.Coherent.{coherent-table}
use Rattle.oct_def.proofs.Indices.{opposite_twice, opposite_below}
use Rattle.interval_form.specs.declared.constraints.OctBound.{OctBound}
use Rattle.interval_form.specs.Listed.{IsPlaced}
use Rattle.interval_form.specs.Listing.{is_at, listed}
use Rattle.oct_def.proofs.WordBounds.{bound_of-other}
use Rattle.std.proofs.lemmas.Int.{ints}
use Rattle.half_matrix.specs.Lending.{same_entry, set_entry, with_entry}
use Rattle.half_matrix.proofs.Places.{Same, same_of, of_same}
use Rattle.half_matrix.proofs.Ranges.{length-set_entry}
use Rattle.block_partition.specs.Partition.{place, IsIn, IsBlock}
use Rattle.block_laws.specs.Assembly.{outer, inner, restrict_entry, restrict}
use Rattle.block_laws.proofs.Places.{outer_in, outer_below, outer-opposite, inner_below, inner-outer, outer-inner}
use Rattle.block_laws.proofs.Restrict.{length-restrict, at-restrict}
use Rattle.dec_oct.proofs.Cuts.{square-part}
use Rattle.dec_oct.proofs.Givens.{coherent-part}
use Rattle.dec_parts.specs.Lower.{bound_in, Touches, lowered_entry, lowered_matrix}
use Rattle.dec_parts.specs.Joined.{is_inside, with_taken, with_all_taken}

-- ---- what one bound says of a place

unfoldable pub one : OctBound → ℕ → ℕ → Bound
one b i j = cond (is_at b i j) (bound_of b.word) None

pub at-is : (b : OctBound) (i j : ℕ) → is_at b i j ≡ true → (b.row ≡ i) × (b.column ≡ j)
at-is b i j h = by (nat_eq b.row i) refl h
  where
    by : (t : Bool) → nat_eq b.row i ≡ t → cond t (nat_eq b.column j) false ≡ true → (b.row ≡ i) × (b.column ≡ j)
    by true e g = (eqb-true _ _ e, eqb-true _ _ g)
    by false e g = absurd (cc)

is-at : (b : OctBound) (i j : ℕ) → b.row ≡ i → b.column ≡ j → is_at b i j ≡ true
is-at b i j e f = cond-true _ _ _ (eq-eqb b.row i e) ∙ eq-eqb b.column j f

pub one-here : (b : OctBound) (i j : ℕ) → b.row ≡ i → b.column ≡ j → one b i j ≡ bound_of b.word
unfolding one
one-here b i j e f = cond-true _ _ _ (is-at b i j e f)

one-other : (b : OctBound) (i j : ℕ) → (b.row ≡ i → b.column ≡ j → ⊥) → one b i j ≡ None
unfolding one
one-other b i j d = by (cases_Bool (is_at b i j))
  where
    by : (is_at b i j ≡ true) ⊎ (is_at b i j ≡ false) → cond (is_at b i j) (bound_of b.word) None ≡ None
    by (inl e) = let r = at-is b i j e in absurd (d r.0 r.1)
    by (inr e) = cond-false _ _ _ e

one-either : (b : OctBound) (i j : ℕ) → least (bound_of b.word) (one b i j) ≡ bound_of b.word
unfolding one
one-either b i j = by (is_at b i j)
  where
    by : (t : Bool) → least (bound_of b.word) (cond t (bound_of b.word) None) ≡ bound_of b.word
    by true = least_self (bound_of b.word)
    by false = least_none (bound_of b.word)

pub in_range-one : (n : ℕ) (b : OctBound) (i j : ℕ) → IsPlaced n b → InRange (one b i j)
unfolding one
in_range-one n b i j p = by (is_at b i j)
  where
    word : InRange (bound_of b.word)
    word = subst InRange (sym (bound_of-other b.word (λ e. let h = p.high in omega (arith, ints)))) (p.low, p.high)

    by : (t : Bool) → InRange (cond t (bound_of b.word) None)
    by true = word
    by false = tt

pub listed-more : (b : OctBound) (bs : List OctBound) (i j : ℕ) → listed (b ∷ bs) i j ≡ least (one b i j) (listed bs i j)
unfolding one
listed-more b bs i j = by (is_at b i j)
  where
    by : (t : Bool) → cond t (least (bound_of b.word) (listed bs i j)) (listed bs i j) ≡ least (cond t (bound_of b.word) None) (listed bs i j)
    by true = refl
    by false = refl

-- ---- a part that takes one bound

length-taken : (vs : List ℕ) (m : Matrix) (b : OctBound) → length (with_taken vs m b) ≡ length m
unfolding with_taken
length-taken vs m b = by (is_inside vs b)
  where
    by : (t : Bool) → length (cond t (with_entry m (inner vs b.row) (inner vs b.column) (least (at m (inner vs b.row) (inner vs b.column)) (bound_of b.word))) m) ≡ length m
    by true = length-set_entry m (inner vs b.row) (inner vs b.column) _
    by false = refl

square-taken : (vs : List ℕ) (m : Matrix) (b : OctBound) → IsSquare m → IsSquare (with_taken vs m b)
unfolding with_taken with_entry
square-taken vs m b sq = by (is_inside vs b)
  where
    by : (t : Bool) → IsSquare (cond t (table (length m) (set_entry m (inner vs b.row) (inner vs b.column) (least (at m (inner vs b.row) (inner vs b.column)) (bound_of b.word)))) m)
    by true = square-table (length m) _
    by false = sq

-- an entry and its twin are set together
same-turned : (n i j r c : ℕ) → i < 2 * n → j < 2 * n → r < 2 * n → c < 2 * n → Same i j r c → Same i j (opposite c) (opposite r)
same-turned n i j r c p q s t (inl h) = inr (ap opposite h.1, ap opposite h.0)
same-turned n i j r c p q s t (inr h) = inl (ap opposite h.1 ∙ opposite_twice i, ap opposite h.0 ∙ opposite_twice j)

pub coherent-set : (n : ℕ) (m : Matrix) (i j : ℕ) (b : Bound) → length m ≡ 2 * n → i < 2 * n → j < 2 * n → IsCoherent m → IsCoherent (with_entry m i j b)
unfolding with_entry set_entry
coherent-set n m i j b e p q co = subst (λ k. IsCoherent (table k (set_entry m i j b))) (sym e) (coherent-table n (set_entry m i j b) (λ r c s t. by r c s t (cases_Bool (same_entry i j r c)) (cases_Bool (same_entry i j (opposite c) (opposite r)))))
  where
    by : (r c : ℕ) → r < 2 * n → c < 2 * n → (same_entry i j r c ≡ true) ⊎ (same_entry i j r c ≡ false) → (same_entry i j (opposite c) (opposite r) ≡ true) ⊎ (same_entry i j (opposite c) (opposite r) ≡ false)
        → set_entry m i j b r c ≡ set_entry m i j b (opposite c) (opposite r)
    by r c s t (inl g) (inl h) = cond-true _ _ _ g ∙ sym (cond-true _ _ _ h)
    by r c s t (inr g) (inr h) = cond-false _ _ _ g ∙ co.twins r c (omega arith) (omega arith) ∙ sym (cond-false _ _ _ h)
    by r c s t (inl g) (inr h) = let k = of_same i j (opposite c) (opposite r) (same-turned n i j r c p q s t (same_of i j r c g)) in absurd (cc)
    by r c s t (inr g) (inl h) =
        let z = same-turned n i j (opposite c) (opposite r) p q (opposite_below n c t) (opposite_below n r s) (same_of i j (opposite c) (opposite r) h) in
        let y : Same i j r c = subst (λ x. Same i j x c) (opposite_twice r) (subst (Same i j (opposite (opposite r))) (opposite_twice c) z) in
        let k = of_same i j r c y in
        absurd (cc)

-- the members of a bound that is inside
pub record Inside (vs : List ℕ) (b : OctBound) : Type 0 where
  pub first : IsIn vs (b.row / 2)
  pub second : IsIn vs (b.column / 2)

inside-is : (vs : List ℕ) (b : OctBound) → is_inside vs b ≡ true → Inside vs b
unfolding is_inside
inside-is vs b h = let r = and_parts _ _ h in record { first = ltb-true _ _ r.0; second = ltb-true _ _ r.1 }

is-inside : (vs : List ℕ) (b : OctBound) → IsIn vs (b.row / 2) → IsIn vs (b.column / 2) → is_inside vs b ≡ true
unfolding is_inside
is-inside vs b p q = and_from _ _ (lt-ltb _ _ p) (lt-ltb _ _ q)

taken-inside : (vs : List ℕ) (m : Matrix) (b : OctBound) → is_inside vs b ≡ true → with_taken vs m b ≡ with_entry m (inner vs b.row) (inner vs b.column) (least (at m (inner vs b.row) (inner vs b.column)) (bound_of b.word))
unfolding with_taken
taken-inside vs m b h = cond-true _ _ _ h

taken-outside : (vs : List ℕ) (m : Matrix) (b : OctBound) → is_inside vs b ≡ false → with_taken vs m b ≡ m
unfolding with_taken
taken-outside vs m b h = cond-false _ _ _ h

coherent-taken : (vs : List ℕ) (m : Matrix) (b : OctBound) → length m ≡ 2 * length vs → IsCoherent m → IsCoherent (with_taken vs m b)
coherent-taken vs m b e co = by (cases_Bool (is_inside vs b))
  where
    by : (is_inside vs b ≡ true) ⊎ (is_inside vs b ≡ false) → IsCoherent (with_taken vs m b)
    by (inl h) = let i = inside-is vs b h in subst IsCoherent (sym (taken-inside vs m b h)) (coherent-set (length vs) m _ _ _ e (inner_below vs b.row i.first) (inner_below vs b.column i.second) co)
    by (inr h) = subst IsCoherent (sym (taken-outside vs m b h)) co

-- the entry once one bound is taken
at-taken : (n : ℕ) (vs : List ℕ) (m : Matrix) (b : OctBound) → IsBlock n vs → length m ≡ 2 * length vs → IsCoherent m → (r c : ℕ) → r < 2 * length vs → c < 2 * length vs
    → at (with_taken vs m b) r c ≡ least (at m r c) (least (one b (outer vs r) (outer vs c)) (one b (outer vs (opposite c)) (outer vs (opposite r))))
unfolding with_entry set_entry
at-taken n vs m b bl e co r c p q = by (cases_Bool (is_inside vs b))
  where
    p' : opposite r < 2 * length vs
    p' = opposite_below (length vs) r p

    q' : opposite c < 2 * length vs
    q' = opposite_below (length vs) c q

    -- a bound at the outer place of two inner ones is inside, at these
    at_inner : (x y : ℕ) → x < 2 * length vs → y < 2 * length vs → b.row ≡ outer vs x → b.column ≡ outer vs y → (is_inside vs b ≡ true) × ((x ≡ inner vs b.row) × (y ≡ inner vs b.column))
    at_inner x y s t f g = (
      is-inside vs b (subst (λ z. IsIn vs (z / 2)) (sym f) (outer_in vs x s)) (subst (λ z. IsIn vs (z / 2)) (sym g) (outer_in vs y t)),
      (sym (ap (inner vs) f ∙ inner-outer n vs x bl s), sym (ap (inner vs) g ∙ inner-outer n vs y bl t)),
    )

    none : (x y : ℕ) → x < 2 * length vs → y < 2 * length vs → is_inside vs b ≡ false → one b (outer vs x) (outer vs y) ≡ None
    none x y s t h = one-other b (outer vs x) (outer vs y) (λ f g. let k = (at_inner x y s t f g).0 in cc)

    goal : Type 0
    goal = at (with_taken vs m b) r c ≡ least (at m r c) (least (one b (outer vs r) (outer vs c)) (one b (outer vs (opposite c)) (outer vs (opposite r))))

    inside : is_inside vs b ≡ true → goal
    inside h = which (cases_Bool (same_entry i j r c))
      where
        i : ℕ
        i = inner vs b.row

        j : ℕ
        j = inner vs b.column

        k : Inside vs b
        k = inside-is vs b h

        pi : i < 2 * length vs
        pi = inner_below vs b.row k.first

        pj : j < 2 * length vs
        pj = inner_below vs b.column k.second

        w : Bound
        w = bound_of b.word

        read : at (with_taken vs m b) r c ≡ cond (same_entry i j r c) (least (at m i j) w) (at m r c)
        read = ap (λ x. at x r c) (taken-inside vs m b h) ∙ at-table (length m) (set_entry m i j (least (at m i j) w)) r c (omega arith) (omega arith)

        out : (x y : ℕ) → x < 2 * length vs → y < 2 * length vs → (x ≡ i → y ≡ j → ⊥) → one b (outer vs x) (outer vs y) ≡ None
        out x y s t d = one-other b (outer vs x) (outer vs y) (λ f g. let z = (at_inner x y s t f g).1 in d z.0 z.1)

        here : one b (outer vs i) (outer vs j) ≡ w
        here = one-here b (outer vs i) (outer vs j) (sym (outer-inner vs b.row k.first)) (sym (outer-inner vs b.column k.second))

        which : (same_entry i j r c ≡ true) ⊎ (same_entry i j r c ≡ false) → goal
        which (inr g) =
            read ∙ cond-false _ _ _ g ∙ sym (least_none (at m r c))
            ∙ sym (ap (least (at m r c)) (
            ap (λ t. least t (one b (outer vs (opposite c)) (outer vs (opposite r)))) (out r c p q (λ x y. let z = of_same i j r c (inl (x, y)) in cc))
            ∙ out (opposite c) (opposite r) q' p' (λ x y. let z = of_same i j r c (inr (sym (opposite_twice r) ∙ ap opposite y, sym (opposite_twice c) ∙ ap opposite x)) in cc)
            ))
        which (inl g) = read ∙ cond-true _ _ _ g ∙ side (same_of i j r c g)
          where
            side : Same i j r c → least (at m i j) w ≡ least (at m r c) (least (one b (outer vs r) (outer vs c)) (one b (outer vs (opposite c)) (outer vs (opposite r))))
            side (inl s) =
                let e1 : at m i j ≡ at m r c = ap (λ x. at m x j) (sym s.0) ∙ ap (at m r) (sym s.1) in
                let e2 : one b (outer vs r) (outer vs c) ≡ w = ap (λ x. one b (outer vs x) (outer vs c)) s.0 ∙ ap (λ y. one b (outer vs i) (outer vs y)) s.1 ∙ here in
                ap (λ t. least t w) e1 ∙ ap (least (at m r c)) (sym (ap (λ t. least t (one b (outer vs (opposite c)) (outer vs (opposite r)))) e2 ∙ one-either b (outer vs (opposite c)) (outer vs (opposite r))))
            side (inr s) =
                let f : opposite c ≡ i = ap opposite s.1 ∙ opposite_twice i in
                let g : opposite r ≡ j = ap opposite s.0 ∙ opposite_twice j in
                let e1 : at m i j ≡ at m r c = ap (λ x. at m x j) (sym f) ∙ ap (at m (opposite c)) (sym g) ∙ sym (co.twins r c (omega arith) (omega arith)) in
                let e2 : one b (outer vs (opposite c)) (outer vs (opposite r)) ≡ w = ap (λ x. one b (outer vs x) (outer vs (opposite r))) f ∙ ap (λ y. one b (outer vs i) (outer vs y)) g ∙ here in
                ap (λ t. least t w) e1 ∙ ap (least (at m r c)) (sym (first e2))
              where
                first : one b (outer vs (opposite c)) (outer vs (opposite r)) ≡ w → least (one b (outer vs r) (outer vs c)) (one b (outer vs (opposite c)) (outer vs (opposite r))) ≡ w
                first e = ap (least (one b (outer vs r) (outer vs c))) e ∙ least_comm (one b (outer vs r) (outer vs c)) w ∙ one-either b (outer vs r) (outer vs c)

    by : (is_inside vs b ≡ true) ⊎ (is_inside vs b ≡ false) → goal
    by (inl h) = inside h
    by (inr h) =
        ap (λ x. at x r c) (taken-outside vs m b h) ∙ sym (least_none (at m r c))
        ∙ sym (ap (least (at m r c)) (ap (λ t. least t (one b (outer vs (opposite c)) (outer vs (opposite r)))) (none r c p q h) ∙ none (opposite c) (opposite r) q' p' h))

least-four : (a b c d : Bound) → least (least a b) (least c d) ≡ least (least a c) (least b d)
least-four a b c d = least_assoc a b (least c d) ∙ (ap (least a) (least_swap b c d) ∙ sym (least_assoc a c (least b d)))

take-more : (x a b c d y z : Bound) → y ≡ least a c → z ≡ least b d → least (least x (least a b)) (least c d) ≡ least x (least y z)
take-more x a b c d y z e f = least_assoc x (least a b) (least c d) ∙ ap (least x) (least-four a b c d ∙ ap (λ t. least t (least b d)) (sym e) ∙ ap (least y) (sym f))

-- the entry once all are taken
at-all_taken : (n : ℕ) (vs : List ℕ) (bs : List OctBound) (m : Matrix) → IsBlock n vs → length m ≡ 2 * length vs → IsCoherent m → (r c : ℕ) → r < 2 * length vs → c < 2 * length vs
    → at (with_all_taken vs m bs) r c ≡ least (at m r c) (least (listed bs (outer vs r) (outer vs c)) (listed bs (outer vs (opposite c)) (outer vs (opposite r))))
at-all_taken n vs [] m bl e co r c p q = sym (least_none (at m r c))
at-all_taken n vs (b ∷ bs) m bl e co r c p q =
    at-all_taken n vs bs (with_taken vs m b) bl (length-taken vs m b ∙ e) (coherent-taken vs m b e co) r c p q
    ∙ ap (λ t. least t (least (listed bs (outer vs r) (outer vs c)) (listed bs (outer vs (opposite c)) (outer vs (opposite r))))) (at-taken n vs m b bl e co r c p q)
    ∙ take-more (at m r c) (one b (outer vs r) (outer vs c)) (one b (outer vs (opposite c)) (outer vs (opposite r))) (listed bs (outer vs r) (outer vs c)) (listed bs (outer vs (opposite c)) (outer vs (opposite r))) _ _
    (listed-more b bs (outer vs r) (outer vs c)) (listed-more b bs (outer vs (opposite c)) (outer vs (opposite r)))

length-all_taken : (vs : List ℕ) (bs : List OctBound) (m : Matrix) → length (with_all_taken vs m bs) ≡ length m
length-all_taken vs [] m = refl
length-all_taken vs (b ∷ bs) m = length-all_taken vs bs (with_taken vs m b) ∙ length-taken vs m b

square-all_taken : (vs : List ℕ) (bs : List OctBound) (m : Matrix) → IsSquare m → IsSquare (with_all_taken vs m bs)
square-all_taken vs [] m sq = sq
square-all_taken vs (b ∷ bs) m sq = square-all_taken vs bs (with_taken vs m b) (square-taken vs m b sq)

-- the part that took the bounds is the part of the matrix that takes them
pub part-taken : (n : ℕ) (vs : List ℕ) (bs : List OctBound) (x : Matrix) → IsBlock n vs → length x ≡ 2 * n → IsCoherent x → with_all_taken vs (restrict vs x) bs ≡ restrict vs (lowered_matrix n bs x)
unfolding restrict restrict_entry lowered_matrix lowered_entry
part-taken n vs bs x bl e co =
    is-table (with_all_taken vs (restrict vs x) bs) (2 * length vs) _ (square-all_taken vs bs (restrict vs x) (square-part vs x)) (length-all_taken vs bs (restrict vs x) ∙ length-restrict vs x) (λ r c p q.
    at-all_taken n vs bs (restrict vs x) bl (length-restrict vs x) (coherent-part n vs x bl e co) r c p q
    ∙ ap (λ t. least t (least (listed bs (outer vs r) (outer vs c)) (listed bs (outer vs (opposite c)) (outer vs (opposite r))))) (at-restrict vs x r c p q)
    ∙ ap (λ t. least (at x (outer vs r) (outer vs c)) (least (listed bs (outer vs r) (outer vs c)) (listed bs t (outer vs (opposite r))))) (outer-opposite vs c)
    ∙ ap (λ t. least (at x (outer vs r) (outer vs c)) (least (listed bs (outer vs r) (outer vs c)) (listed bs (opposite (outer vs c)) t))) (outer-opposite vs r)
    ∙ sym (at-table (2 * n) (lowered_entry bs x) (outer vs r) (outer vs c) (outer_below n vs r bl p) (outer_below n vs c bl q)))

-- ---- the code's steps

pub taken-in : (vs : List ℕ) (m x : Matrix) (b : OctBound) (r c : ℕ) (e : Bound) → r ≡ place vs (b.row / 2) → c ≡ place vs (b.column / 2) → r < length vs → c < length vs → e ≡ least (at m (2 * r + b.row % 2) (2 * c + b.column % 2)) (bound_of b.word)
    → x ≡ with_entry m (2 * r + b.row % 2) (2 * c + b.column % 2) e → x ≡ with_taken vs m b
unfolding inner
taken-in vs m x b r c e f g p q w h =
    h ∙ ap (with_entry m (2 * r + b.row % 2) (2 * c + b.column % 2)) w ∙ ap (λ t. with_entry m t (2 * c + b.column % 2) (least (at m t (2 * c + b.column % 2)) (bound_of b.word))) at_row
    ∙ ap (λ t. with_entry m (inner vs b.row) t (least (at m (inner vs b.row) t) (bound_of b.word))) at_column
    ∙ sym (taken-inside vs m b (is-inside vs b (subst (λ t. t < length vs) f p) (subst (λ t. t < length vs) g q)))
  where
    at_row : 2 * r + b.row % 2 ≡ inner vs b.row
    at_row = ap (λ t. 2 * t + b.row % 2) f

    at_column : 2 * c + b.column % 2 ≡ inner vs b.column
    at_column = ap (λ t. 2 * t + b.column % 2) g

pub taken-out : (vs : List ℕ) (m : Matrix) (b : OctBound) → (IsIn vs (b.row / 2) → IsIn vs (b.column / 2) → ⊥) → m ≡ with_taken vs m b
taken-out vs m b d = by (cases_Bool (is_inside vs b))
  where
    by : (is_inside vs b ≡ true) ⊎ (is_inside vs b ≡ false) → m ≡ with_taken vs m b
    by (inl h) = let k = inside-is vs b h in absurd (d k.first k.second)
    by (inr h) = sym (taken-outside vs m b h)

pub all_taken-next : (vs : List ℕ) (m x : Matrix) (bs : List OctBound) (k : ℕ) → k < length bs → x ≡ with_taken vs m (bound_in bs k)
    → (length x ≡ length m) × (with_all_taken vs x (drop (k + 1) bs) ≡ with_all_taken vs m (drop k bs))
all_taken-next vs m x bs k p e = (ap length e ∙ length-taken vs m (bound_in bs k), ap (λ t. with_all_taken vs t (drop (k + 1) bs)) e ∙ sym (ap (with_all_taken vs m) first))
  where
    first : drop k bs ≡ bound_in bs k ∷ drop (k + 1) bs
    first = rw add-one (drop-cons bs k _ p)

-- what no bound touches stays
pub all_taken-none : (vs : List ℕ) (m : Matrix) (bs : List OctBound) → (Touches bs vs → ⊥) → with_all_taken vs m bs ≡ m
all_taken-none vs m [] d = refl
all_taken-none vs m (b ∷ bs) d = ap (λ t. with_all_taken vs t bs) (sym (taken-out vs m b (λ p q. d (0, omega arith, inl p)))) ∙ all_taken-none vs m bs (λ t. d (suc t.0, omega (arith, t.1), t.2))
