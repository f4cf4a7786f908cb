-- A bound put among others in order of their places.
use Rattle.std.proofs.Common.{◌≡◌, ℕ, zero, suc, ◌+◌, ◌-◌, ◌*◌, ◌<◌, ◌≤◌, ◌⊎◌, inl, inr, Bool, true, false, cond, List, [], ◌∷◌, ◌++◌, length, get_or, Some, None, refl, sym, ap, subst, ◌∙◌, arith}
use Rattle.std.specs.List.{flat_map, insert}
use Rattle.std.proofs.lemmas.Bool.Decides.{nat_tests}
use Rattle.oct_def.specs.Bound.{Bound}
use Rattle.inv_text.specs.declared.bound.InvBound.{InvBound}
use Rattle.inv_text.specs.CertText.{Place, place_at, columns, places}
use Rattle.inv_text.specs.Listed.{bound_item}
use Rattle.inv_text.specs.Places.{order_key, is_before, put_in}
use Rattle.inv_text.proofs.Places.{row_from, rows_from, Each}

-- ---- the order of places

abbrev pub key_at : Place → ℕ
key_at p = p.row * 4294967296 + p.column

abbrev pub bound_place : InvBound → Place
bound_place b = place_at b.row b.column

-- each place comes after the one before, and the first has at least this key
abbrev pub Rising : ℕ → List Place → Type 0
Rising a [] = Unit {0}
Rising a (p ∷ ps) = (a ≤ key_at p) × Rising (key_at p + 1) ps

pub rising-weaker : (a b : ℕ) (ps : List Place) → a ≤ b → Rising b ps → Rising a ps
rising-weaker a b [] l r = tt
rising-weaker a b (p ∷ ps) l r = let h = r.0 in (omega arith, r.1)

rising_row : (i j k : ℕ) (ys : List Place) (a : ℕ) → a ≤ i * 4294967296 + j → Rising (i * 4294967296 + (j + k)) ys → Rising a (row_from i j k ++ ys)
rising_row i j zero ys a l r = rising-weaker a (i * 4294967296 + (j + 0)) ys (omega arith) r
rising_row i j (suc k) ys a l r =
    let e : i * 4294967296 + (j + suc k) ≡ i * 4294967296 + (j + 1 + k) = omega arith in
    (l, rising_row i (j + 1) k ys (i * 4294967296 + j + 1) (omega arith) (subst (λ (n : ℕ). Rising n ys) e r))

rising_rows : (i k a : ℕ) → a ≤ i * 4294967296 → i + k ≤ 4294967294 → Rising a (rows_from i k)
rising_rows i zero a l s = tt
rising_rows i (suc k) a l s =
    rising_row i 0 (columns i) (rows_from (i + 1) k) a (omega arith)
    (rising_rows (i + 1) k (i * 4294967296 + (0 + columns i)) (omega arith) (omega arith))

pub rising_places : (n : ℕ) → n ≤ 256 → Rising 0 (places (2 * n))
unfolding places
rising_places n l = rising_rows 0 (2 * n) 0 (omega arith) (omega arith)

-- ---- a place among others

abbrev pub Among : Place → List Place → Type 0
Among p [] = ⊥
Among p (q ∷ qs) = (q ≡ p) ⊎ Among p qs

each-map : (P Q : Place → Type 0) (ps : List Place) → ((p : Place) → P p → Q p) → Each P ps → Each Q ps
each-map P Q [] h e = tt
each-map P Q (p ∷ ps) h e = (h p e.0, each-map P Q ps h e.1)

pub each_among : (ps : List Place) → Each (λ q. Among q ps) ps
each_among [] = tt
each_among (p ∷ ps) = (inl refl, each-map (λ q. Among q ps) (λ q. Among q (p ∷ ps)) ps (λ q m. inr m) (each_among ps))

among_above : (a : ℕ) (p : Place) (ps : List Place) → Rising a ps → Among p ps → a ≤ key_at p
among_above a p [] r m = absurd m
among_above a p (q ∷ qs) r m = elim m [ inl e ↦ (let k = ap key_at e in let h = r.0 in omega (arith, k, h)) | inr n ↦ (let h = r.0 in let k = among_above (key_at q + 1) p qs r.1 n in omega (arith, h, k)) ]

-- ---- the bounds at places

abbrev pub items : (Place → Bound) → List Place → List InvBound
items f ps = flat_map (λ p. bound_item p (f p)) ps

test_true : (b x : InvBound) → order_key b < order_key x → is_before b x ≡ true
test_true b x l = grind (arith, nat_tests)

test_false : (b x : InvBound) → order_key x ≤ order_key b → is_before b x ≡ false
test_false b x l = grind (arith, nat_tests)

put_first : (b : InvBound) (x : InvBound) (xs : List InvBound) → order_key b < order_key x → put_in b (x ∷ xs) ≡ b ∷ x ∷ xs
put_first b x xs l = ap (λ (t : Bool). cond t (b ∷ x ∷ xs) (x ∷ put_in b xs)) (test_true b x l)

put_later : (b : InvBound) (x : InvBound) (xs : List InvBound) → order_key x ≤ order_key b → put_in b (x ∷ xs) ≡ x ∷ put_in b xs
put_later b x xs l = ap (λ (t : Bool). cond t (b ∷ x ∷ xs) (x ∷ put_in b xs)) (test_false b x l)

-- before all others
first : (b : InvBound) (f : Place → Bound) (ps : List Place) (a : ℕ) → Rising a ps → order_key b < a → put_in b (items f ps) ≡ b ∷ items f ps
first b f [] a r l = refl
first b f (p ∷ ps) a r l = by (f p) (first b f ps (key_at p + 1) r.1 (let h = r.0 in omega arith))
  where
    by : (v : Bound) → put_in b (items f ps) ≡ b ∷ items f ps → put_in b (bound_item p v ++ items f ps) ≡ b ∷ (bound_item p v ++ items f ps)
    by None more = more
    by (Some w) more = put_first b (record { row = p.row; column = p.column; word = w }) (items f ps) (let h = r.0 in omega arith)

-- the functions agree at each place but that with the key
abbrev pub Agree : (Place → Bound) → (Place → Bound) → ℕ → Place → Type 0
Agree f g k q = (key_at q ≡ k → ⊥) → g q ≡ f q

same_items : (f g : Place → Bound) (k : ℕ) (ps : List Place) (a : ℕ) → Rising a ps → k < a → Each (Agree f g k) ps → items f ps ≡ items g ps
same_items f g k [] a r l h = refl
same_items f g k (p ∷ ps) a r l h =
    let e : g p ≡ f p = h.0 (λ s. let t = r.0 in omega arith) in
    ap (λ (v : Bound). bound_item p v ++ items f ps) (sym e)
    ∙ ap (λ (xs : List InvBound). bound_item p (g p) ++ xs) (same_items f g k ps (key_at p + 1) r.1 (let t = r.0 in omega arith) h.1)

-- a bound put among those of a function gives those of the function with the bound
pub put_among : (f g : Place → Bound) (b : InvBound) (ps : List Place) (a : ℕ) → Rising a ps → Among (bound_place b) ps → f (bound_place b) ≡ None → g (bound_place b) ≡ Some b.word
    → Each (Agree f g (order_key b)) ps → put_in b (items f ps) ≡ items g ps
put_among f g b [] a r m none some same = absurd m
put_among f g b (q ∷ qs) a r m none some same = by m (λ n. put_among f g b qs (key_at q + 1) r.1 n none some same.1)
  where
    here : q ≡ bound_place b → put_in b (bound_item q (f q) ++ items f qs) ≡ bound_item q (g q) ++ items g qs
    here e =
        let k : key_at q ≡ order_key b = ap key_at e in
        ap (λ (v : Bound). put_in b (bound_item q v ++ items f qs)) (ap f e ∙ none)
        ∙ first b f qs (key_at q + 1) r.1 (omega (arith, k))
        ∙ ap (λ (xs : List InvBound). b ∷ xs) (same_items f g (order_key b) qs (key_at q + 1) r.1 (omega (arith, k)) same.1)
        ∙ sym (ap (λ (p : Place). bound_item p (g p) ++ items g qs) e ∙ ap (λ (v : Bound). bound_item (bound_place b) v ++ items g qs) some)

    later : (v : Bound) → key_at q < order_key b → put_in b (items f qs) ≡ items g qs → put_in b (bound_item q v ++ items f qs) ≡ bound_item q v ++ items g qs
    later None l more = more
    later (Some w) l more =
        put_later b (record { row = q.row; column = q.column; word = w }) (items f qs) (omega arith)
        ∙ ap (λ (xs : List InvBound). record { row = q.row; column = q.column; word = w } ∷ xs) more

    by : (q ≡ bound_place b) ⊎ Among (bound_place b) qs → (Among (bound_place b) qs → put_in b (items f qs) ≡ items g qs) → put_in b (bound_item q (f q) ++ items f qs) ≡ bound_item q (g q) ++ items g qs
    by (inl e) more = here e
    by (inr n) more =
        let l : key_at q + 1 ≤ order_key b = among_above (key_at q + 1) (bound_place b) qs r.1 n in
        let e : g q ≡ f q = same.0 (λ s. omega (arith, s, l)) in
        later (f q) (omega arith) (more n) ∙ ap (λ (v : Bound). bound_item q v ++ items g qs) (sym e)

-- ---- a list in order

abbrev pub InOrder : ℕ → List InvBound → Type 0
InOrder a [] = Unit {0}
InOrder a (b ∷ bs) = (a ≤ order_key b) × InOrder (order_key b + 1) bs

pub in_order-weaker : (a c : ℕ) (bs : List InvBound) → a ≤ c → InOrder c bs → InOrder a bs
in_order-weaker a c [] l r = tt
in_order-weaker a c (b ∷ bs) l r = let h = r.0 in (omega arith, r.1)

pub in_order-items : (f : Place → Bound) (ps : List Place) (a : ℕ) → Rising a ps → InOrder a (items f ps)
in_order-items f [] a r = tt
in_order-items f (p ∷ ps) a r = by (f p) (in_order-items f ps (key_at p + 1) r.1)
  where
    by : (v : Bound) → InOrder (key_at p + 1) (items f ps) → InOrder a (bound_item p v ++ items f ps)
    by None more = in_order-weaker a (key_at p + 1) (items f ps) (let h = r.0 in omega arith) more
    by (Some w) more = (r.0, more)

above_first : (a : ℕ) (bs : List InvBound) (i : ℕ) (d : InvBound) → InOrder a bs → i < length bs → a ≤ order_key (get_or bs i d)
above_first a [] i d r l = absurd (omega arith)
above_first a (b ∷ bs) zero d r l = r.0
above_first a (b ∷ bs) (suc i) d r l = let h = r.0 in let k = above_first (order_key b + 1) bs i d r.1 (omega arith) in omega (arith, h, k)

pub above_others : (a : ℕ) (bs : List InvBound) (i j : ℕ) (d : InvBound) → InOrder a bs → i < j → j < length bs → order_key (get_or bs i d) < order_key (get_or bs j d)
above_others a [] i j d r l m = absurd (omega arith)
above_others a (b ∷ bs) i zero d r l m = absurd (omega arith)
above_others a (b ∷ bs) zero (suc j) d r l m = let k = above_first (order_key b + 1) bs j d r.1 (omega arith) in omega (arith, k)
above_others a (b ∷ bs) (suc i) (suc j) d r l m = above_others (order_key b + 1) bs i j d r.1 (omega arith) (omega arith)

-- inserted behind those that aren't after it, and before those that are
insert_is : (b : InvBound) (bs : List InvBound) (k : ℕ) (d : InvBound) → k ≤ length bs → ((i : ℕ) → i < k → order_key (get_or bs i d) ≤ order_key b) → (k < length bs → order_key b < order_key (get_or bs k d))
    → insert bs k b ≡ put_in b bs
insert_is b [] zero d l before after = refl
insert_is b [] (suc k) d l before after = absurd (omega arith)
insert_is b (x ∷ xs) zero d l before after = sym (put_first b x xs (after (omega arith)))
insert_is b (x ∷ xs) (suc k) d l before after =
    ap (λ (ys : List InvBound). x ∷ ys) (insert_is b xs k d (omega arith) (λ i m. before (suc i) (omega arith)) (λ m. after (omega arith)))
    ∙ sym (put_later b x xs (before 0 (omega arith)))

pub inserted : (b : InvBound) (bs : List InvBound) (k : ℕ) (d : InvBound) → InOrder 0 bs → k ≤ length bs → (0 < k → order_key (get_or bs (k - 1) d) ≤ order_key b) → (k < length bs → order_key b < order_key (get_or bs k d))
    → insert bs k b ≡ put_in b bs
inserted b bs k d r l before after = insert_is b bs k d l up after
  where
    up : (i : ℕ) → i < k → order_key (get_or bs i d) ≤ order_key b
    up i m = by (grind arith)
      where
        by : (i ≡ k - 1) ⊎ (i < k - 1) → order_key (get_or bs i d) ≤ order_key b
        by (inl e) = subst (λ (n : ℕ). order_key (get_or bs n d) ≤ order_key b) (sym e) (before (omega arith))
        by (inr less) = let u = above_others 0 bs i (k - 1) d r less (omega arith) in let v = before (omega arith) in omega (arith, u, v)

-- behind all others
pub put_last : (b : InvBound) (bs : List InvBound) → ((i : ℕ) → i < length bs → order_key (get_or bs i b) ≤ order_key b) → put_in b bs ≡ bs ++ b ∷ []
put_last b [] h = refl
put_last b (x ∷ xs) h = put_later b x xs (h 0 (omega arith)) ∙ ap (λ (ys : List InvBound). x ∷ ys) (put_last b xs (λ i l. h (suc i) (omega arith)))
