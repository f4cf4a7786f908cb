-- The dense form that a form of the code stands for.
use Rattle.std.proofs.Common.{◌≡◌, ◌⊎◌, ℕ, zero, suc, ◌+◌, ◌-◌, ◌<◌, ◌≤◌, Bool, true, false, cond, List, [], ◌∷◌, ◌++◌, length, drop, get_or, map, refl, sym, ap, subst, ⊎_elim, arith, nat_eq, ◌∙◌, add-one, append_assoc, ◌||◌, ◌==◌, not, pos}
use Rattle.std.specs.List.{range_with_len}
use Rattle.std.proofs.lemmas.Int.{ints}
use Rattle.std.proofs.lemmas.List.FromFn.{map-range_with_len_more}
use Rattle.std.proofs.Math.Seq.{drop-cons}
use Rattle.oct_def.specs.Table.{some_index}
use Rattle.oct_def.proofs.Indices.{some_index-none, some_index-each}
use Rattle.interval_form.specs.declared.form.Term.{Term}
use Rattle.interval_form.specs.Interval.{End, lowest, finite, highest, low_end, high_end, times, lesser, greater, least_product, greatest_product, Interval, IsOutward, point, negated, sum_of, difference_of, product_of, range_at}
use Rattle.interval_form.specs.Form.{Form, nothing, is_nothing, coefficient, form_of, value_up_to, form_value, has_term, has_terms, has_unbounded_term, has_unbounded_terms}
use Rattle.interval_form.specs.Linear.{no_terms, constant_form, unit_term, variable_form, difference_term, difference_form, negated_term, negated_form, sum_term, sum_form, scaled_term, scaled_form, settled, product_form, quotient_form, remainder_form}
use Rattle.interval_form.specs.Quotient.{quotient_of, remainder_of}
use Rattle.interval_form.specs.Sparse.{Sparse, IsSparse, IsFormOver, term_at, Terms, past_all, joined, form_in, is_unbounded, any_unbounded, folded, scaled_terms, joined_form, has_some}
use Rattle.interval_form.proofs.Forms.{coefficient-form_of, constant-form_of}
use Rattle.interval_form.proofs.Exact.{outward-sum_of, outward-product_of, outward-negated, value_up_to-quiet, nothing-sum_of}
use Rattle.interval_form.proofs.Merging.{term_at-here, term_at-other, term_at-below, term_at-past, terms_bound, nothing-is}

-- ---- equal forms

same_row : (n : ℕ) (k l : ℕ → Interval) → ((v : ℕ) → v < n → k v ≡ l v) → map k (range_with_len 0 n) ≡ map l (range_with_len 0 n)
same_row zero k l h = refl
same_row (suc n) k l h =
    let e : map k (range_with_len 0 (n + 1)) ≡ map l (range_with_len 0 (n + 1)) =
    map-range_with_len_more k 0 n n (omega arith)
    ∙ (rw (same_row n k l (λ v p. h v (omega arith)), h n (omega arith)) (sym (map-range_with_len_more l 0 n n (omega arith)))) in
    subst (λ (m : ℕ). map k (range_with_len 0 m) ≡ map l (range_with_len 0 m)) (add-one n) e

pub same_form : (n : ℕ) (c d : Interval) (k l : ℕ → Interval) → c ≡ d → ((v : ℕ) → v < n → k v ≡ l v) → form_of n c k ≡ form_of n d l
unfolding form_of
same_form n c d k l e h = rw (e, same_row n k l h)

pub constant-in : (n : ℕ) (s : Sparse) → (form_in n s).constant ≡ s.constant
unfolding form_in
constant-in n s = constant-form_of n s.constant (term_at s.terms)

pub coefficient-in : (n : ℕ) (s : Sparse) (v : ℕ) → v < n → coefficient (form_in n s) v ≡ term_at s.terms v
unfolding form_in
coefficient-in n s v h = coefficient-form_of n s.constant (term_at s.terms) v h

-- ---- constants and variables

pub constant-form : (s : Sparse) (i : Interval) → s.constant ≡ i → s.terms ≡ [] → (n : ℕ) → form_in n s ≡ constant_form n i
unfolding form_in constant_form no_terms
constant-form s i c e n = same_form n s.constant i (term_at s.terms) no_terms c (λ v h. rw e)

-- the quotient and the remainder of two forms
pub quotient-alone : (ranges : List Interval) (a b : Form) (s : Sparse) (i j : Interval) → i ≡ form_value ranges a → j ≡ form_value ranges b → s.constant ≡ quotient_of i j → s.terms ≡ []
    → form_in (length ranges) s ≡ quotient_form ranges a b
unfolding quotient_form
quotient-alone ranges a b s i j p q c t = constant-form s (quotient_of (form_value ranges a) (form_value ranges b)) (rw (sym p, sym q) c) t (length ranges)

pub remainder-alone : (ranges : List Interval) (a b : Form) (s : Sparse) (i j : Interval) → i ≡ form_value ranges a → j ≡ form_value ranges b → s.constant ≡ remainder_of i j → s.terms ≡ []
    → form_in (length ranges) s ≡ remainder_form ranges a b
unfolding remainder_form
remainder-alone ranges a b s i j p q c t = constant-form s (remainder_of (form_value ranges a) (form_value ranges b)) (rw (sym p, sym q) c) t (length ranges)

pub variable-form : (s : Sparse) (x : ℕ) (t : Term) → s.constant ≡ nothing → s.terms ≡ t ∷ [] → t.dimension ≡ x → t.coefficient ≡ point (pos 1)
    → (n : ℕ) → form_in n s ≡ variable_form n x
unfolding form_in variable_form unit_term
variable-form s x t c e d k n = same_form n s.constant nothing (term_at s.terms) (unit_term x) c (λ v h. ap (λ (ts : List Term). term_at ts v) e ∙ by v (nat_eq v x) refl)
  where
    by : (v : ℕ) → (b : Bool) → nat_eq v x ≡ b → term_at (t ∷ []) v ≡ cond b (point (pos 1)) nothing
    by v true p = term_at-here t [] v (grind arith) ∙ k
    by v false p = term_at-other t [] v (grind arith)

-- ---- one more term read

no_term : Term
no_term = record { dimension = 0; coefficient = nothing }

pub drop-term : (ts : List Term) (i : ℕ) (d : Term) → i < length ts → drop i ts ≡ get_or ts i d ∷ drop (i + 1) ts
drop-term ts i d h = drop-cons ts i d h ∙ rw (add-one i) refl

pub terms_at : (m n : ℕ) (ts : List Term) (i : ℕ) (d : Term) → Terms m n ts → i < length ts → (get_or ts i d).dimension < n
terms_at m n [] i d h l = absurd (omega arith)
terms_at m n (t ∷ ts) zero d h l = let k = terms_bound (t.dimension + 1) n ts h.3 in omega arith
terms_at m n (t ∷ ts) (suc i) d h l = terms_at (t.dimension + 1) n ts i d h.3 (omega arith)

-- ---- the value

pub folded_more : (ranges : List Interval) (ts : List Term) (i : ℕ) (d : Term) (sum : Interval) → i < length ts
    → folded ranges (sum_of sum (product_of (get_or ts i d).coefficient (range_at ranges (get_or ts i d).dimension))) (drop (i + 1) ts) ≡ folded ranges sum (drop i ts)
folded_more ranges ts i d sum h = sym (ap (folded ranges sum) (drop-term ts i d h))

quiet : (m k : ℕ) (ranges : List Interval) (f : Form) → m ≤ k → ((v : ℕ) → m ≤ v → v < k → coefficient f v ≡ nothing)
    → IsOutward (value_up_to m ranges f) → value_up_to k ranges f ≡ value_up_to m ranges f
quiet m k ranges f l h o =
    let d : ℕ = k - m in
    let e : m + d ≡ k = omega arith in
    subst (λ (x : ℕ). value_up_to x ranges f ≡ value_up_to m ranges f) e (value_up_to-quiet m d ranges f (λ v p q. h v p (omega arith)) o)

value_up_to-more : (n : ℕ) (ranges : List Interval) (f : Form) → value_up_to (n + 1) ranges f ≡ sum_of (value_up_to n ranges f) (product_of (coefficient f n) (range_at ranges n))
unfolding value_up_to
value_up_to-more n ranges f = rw (add-one n)

folded-up_to : (m n : ℕ) (ranges : List Interval) (f : Form) (ts : List Term) → Terms m n ts
    → ((v : ℕ) → m ≤ v → v < n → coefficient f v ≡ term_at ts v) → IsOutward (value_up_to m ranges f)
    → folded ranges (value_up_to m ranges f) ts ≡ value_up_to n ranges f
folded-up_to m n ranges f [] h k o = sym (quiet m n ranges f h (λ v p q. k v p q) o)
folded-up_to m n ranges f (t ∷ ts) h k o =
    let u = t.dimension in
    let b = terms_bound (u + 1) n ts h.3 in
    let p = h.0 in
    let before = quiet m u ranges f h.0 (λ v x y. k v x (omega arith) ∙ (term_at-other t ts v (λ e. omega arith) ∙ term_at-below (u + 1) n ts v h.3 (omega arith))) o in
    let here : coefficient f u ≡ t.coefficient = k u h.0 (omega arith) ∙ term_at-here t ts u refl in
    let next : sum_of (value_up_to m ranges f) (product_of t.coefficient (range_at ranges u)) ≡ value_up_to (u + 1) ranges f =
    sym (value_up_to-more u ranges f ∙ rw (before, here)) in
    let rest = folded-up_to (u + 1) n ranges f ts h.3 (λ v x y. k v (omega arith) y ∙ term_at-other t ts v (λ e. omega arith))
    (subst IsOutward next (outward-sum_of (value_up_to m ranges f) (product_of t.coefficient (range_at ranges u)))) in
    ap (λ (i : Interval). folded ranges i ts) next ∙ rest

value_up_to-zero : (ranges : List Interval) (f : Form) → value_up_to 0 ranges f ≡ f.constant
unfolding value_up_to
value_up_to-zero ranges f = refl

pub folded-value : (ranges : List Interval) (s : Sparse) → IsOutward s.constant → IsFormOver (length ranges) s
    → folded ranges s.constant s.terms ≡ form_value ranges (form_in (length ranges) s)
unfolding form_value
folded-value ranges s o h =
    let f = form_in (length ranges) s in
    let e : value_up_to 0 ranges f ≡ s.constant = value_up_to-zero ranges f ∙ constant-in (length ranges) s in
    ap (λ (i : Interval). folded ranges i s.terms) (sym e)
    ∙ folded-up_to 0 (length ranges) ranges f s.terms h (λ v x y. coefficient-in (length ranges) s v y) (subst IsOutward (sym e) o)

-- ---- coefficients that are unbounded

pub any_unbounded_more : (ts : List Term) (i : ℕ) (d : Term) → i < length ts → is_unbounded (get_or ts i d).coefficient ≡ false
    → any_unbounded (drop (i + 1) ts) ≡ any_unbounded (drop i ts)
any_unbounded_more ts i d h e = sym (ap any_unbounded (drop-term ts i d h) ∙ ap (λ (b : Bool). b || any_unbounded (drop (i + 1) ts)) e)

pub any_unbounded_found : (ts : List Term) (i : ℕ) (d : Term) → i < length ts → is_unbounded (get_or ts i d).coefficient ≡ true
    → true ≡ any_unbounded (drop i ts)
any_unbounded_found ts i d h e = sym (ap any_unbounded (drop-term ts i d h) ∙ ap (λ (b : Bool). b || any_unbounded (drop (i + 1) ts)) e)

or-false : (a b : Bool) → (a || b) ≡ false → (a ≡ false) × (b ≡ false)
or-false true b e = cc
or-false false b e = (refl, e)

-- where no term is unbounded, no coefficient is
none-unbounded : (ts : List Term) (v : ℕ) → any_unbounded ts ≡ false → is_unbounded (term_at ts v) ≡ false
none-unbounded [] v e = refl
none-unbounded (t ∷ ts) v e =
    let p = or-false (is_unbounded t.coefficient) (any_unbounded ts) e in
    one_of (nat_eq t.dimension v) t.coefficient (term_at ts v) p.0 (none-unbounded ts v p.1)
  where
    one_of : (b : Bool) (i j : Interval) → is_unbounded i ≡ false → is_unbounded j ≡ false → is_unbounded (cond b i j) ≡ false
    one_of true i j p q = p
    one_of false i j p q = q

-- where every coefficient below n is bounded, every term is
all-bounded : (m n : ℕ) (ts : List Term) → Terms m n ts → ((v : ℕ) → m ≤ v → v < n → is_unbounded (term_at ts v) ≡ false) → any_unbounded ts ≡ false
all-bounded m n [] h k = refl
all-bounded m n (t ∷ ts) h k =
    let u = t.dimension in
    let b = terms_bound (u + 1) n ts h.3 in
    let p = h.0 in
    let here : is_unbounded t.coefficient ≡ false = ap is_unbounded (sym (term_at-here t ts u refl)) ∙ k u h.0 (omega arith) in
    let rest = all-bounded (u + 1) n ts h.3 (λ v x y. ap is_unbounded (sym (term_at-other t ts v (λ e. omega arith))) ∙ k v (omega arith) y) in
    ap (λ (c : Bool). c || any_unbounded ts) here ∙ rest

pub unbounded-in : (n : ℕ) (s : Sparse) → IsFormOver n s → any_unbounded s.terms ≡ has_unbounded_terms n (form_in n s)
unfolding has_unbounded_terms has_unbounded_term
unbounded-in n s h = by (any_unbounded s.terms) (some_index n (has_unbounded_term (form_in n s))) refl refl
  where
    by : (a b : Bool) → any_unbounded s.terms ≡ a → some_index n (has_unbounded_term (form_in n s)) ≡ b → a ≡ b
    by true true p q = refl
    by false false p q = refl
    by true false p q =
        sym p ∙ all-bounded 0 n s.terms h (λ v x y. ap is_unbounded (sym (coefficient-in n s v y)) ∙ some_index-each n (has_unbounded_term (form_in n s)) q v y)
    by false true p q =
        sym (some_index-none n (has_unbounded_term (form_in n s)) (λ v y. ap is_unbounded (coefficient-in n s v y) ∙ none-unbounded s.terms v p)) ∙ q

-- ---- a form that is settled

pub settled-unbounded : (ranges : List Interval) (s r : Sparse) → IsFormOver (length ranges) s → any_unbounded s.terms ≡ true
    → r.constant ≡ form_value ranges (form_in (length ranges) s) → r.terms ≡ []
    → form_in (length ranges) r ≡ settled ranges (form_in (length ranges) s)
unfolding settled
settled-unbounded ranges s r h e c d =
    let f = form_in (length ranges) s in
    constant-form r (form_value ranges f) c d (length ranges)
    ∙ sym (ap (λ (b : Bool). cond b (constant_form (length ranges) (form_value ranges f)) f) (sym (unbounded-in (length ranges) s h) ∙ e))

pub settled-bounded : (ranges : List Interval) (s : Sparse) → IsFormOver (length ranges) s → any_unbounded s.terms ≡ false
    → form_in (length ranges) s ≡ settled ranges (form_in (length ranges) s)
unfolding settled
settled-bounded ranges s h e =
    let f = form_in (length ranges) s in
    sym (ap (λ (b : Bool). cond b (constant_form (length ranges) (form_value ranges f)) f) (sym (unbounded-in (length ranges) s h) ∙ e))

-- ---- sums and differences

pub terms_within : (m n k : ℕ) (ts : List Term) → Terms m n ts → m ≤ k → ((w : ℕ) → k ≤ w → term_at ts w ≡ nothing) → Terms m k ts
terms_within m n k [] h l e = l
terms_within m n k (t ∷ ts) h l e =
    let u = t.dimension in
    ⊎_elim
    (λ (p : u < k). (
      h.0,
      h.1,
      h.2,
      terms_within (u + 1) n k ts h.3 (omega arith)
          (λ w q. sym (term_at-other t ts w (λ z. omega arith)) ∙ e w q),
    ))
    (λ (p : k ≤ u). absurd (some t.coefficient h.1 (sym (term_at-here t ts u refl) ∙ e u p)))
    (split u k)
  where
    split : (v n : ℕ) → (v < n) ⊎ (n ≤ v)
    split v n = grind arith

    some : (i : Interval) → is_nothing i ≡ false → i ≡ nothing → ⊥
    some i p q = let z : is_nothing nothing ≡ false = ap is_nothing (sym q) ∙ p in cc

joined-none : (minus : Bool) → joined minus nothing nothing ≡ nothing
unfolding joined sum_of negated
joined-none true = refl
joined-none false = refl

pub joined-over : (minus : Bool) (n : ℕ) (a b ts : List Term) → Terms 0 n a → Terms 0 n b → Terms 0 past_all ts
    → ((w : ℕ) → term_at ts w ≡ joined minus (term_at a w) (term_at b w)) → Terms 0 n ts
joined-over minus n a b ts p q h e =
    terms_within 0 past_all n ts h (omega arith)
    (λ w l. e w ∙ (rw (term_at-past 0 n a w p l, term_at-past 0 n b w q l) (joined-none minus)))

difference-in : (n : ℕ) (a b s : Sparse) → s.constant ≡ joined true a.constant b.constant
    → ((w : ℕ) → term_at s.terms w ≡ joined true (term_at a.terms w) (term_at b.terms w))
    → form_in n s ≡ form_of n (difference_of (form_in n a).constant (form_in n b).constant) (difference_term (form_in n a) (form_in n b))
unfolding form_in joined difference_of difference_term
difference-in n a b s c e =
    same_form n s.constant (sum_of (form_in n a).constant (negated (form_in n b).constant)) (term_at s.terms) (difference_term (form_in n a) (form_in n b))
    (c ∙ sym (rw (constant-in n a, constant-in n b)))
    (λ v h. e v ∙ sym (rw (coefficient-in n a v h, coefficient-in n b v h)))

sum-in : (n : ℕ) (a b s : Sparse) → s.constant ≡ joined false a.constant b.constant
    → ((w : ℕ) → term_at s.terms w ≡ joined false (term_at a.terms w) (term_at b.terms w))
    → form_in n s ≡ form_of n (sum_of (form_in n a).constant (form_in n b).constant) (sum_term (form_in n a) (form_in n b))
unfolding form_in joined sum_term
sum-in n a b s c e =
    same_form n s.constant (sum_of (form_in n a).constant (form_in n b).constant) (term_at s.terms) (sum_term (form_in n a) (form_in n b))
    (c ∙ sym (rw (constant-in n a, constant-in n b)))
    (λ v h. e v ∙ sym (rw (coefficient-in n a v h, coefficient-in n b v h)))

pub joined-in : (minus : Bool) (ranges : List Interval) (a b s r : Sparse) → s.constant ≡ joined minus a.constant b.constant
    → ((w : ℕ) → term_at s.terms w ≡ joined minus (term_at a.terms w) (term_at b.terms w))
    → form_in (length ranges) r ≡ settled ranges (form_in (length ranges) s)
    → form_in (length ranges) r ≡ joined_form minus ranges (form_in (length ranges) a) (form_in (length ranges) b)
unfolding difference_form sum_form
joined-in true ranges a b s r c e h = h ∙ ap (settled ranges) (difference-in (length ranges) a b s c e)
joined-in false ranges a b s r c e h = h ∙ ap (settled ranges) (sum-in (length ranges) a b s c e)

-- ---- negations

nothing-minus : (i : Interval) → IsOutward i → difference_of nothing i ≡ negated i
unfolding difference_of
nothing-minus i h = nothing-sum_of (negated i) (outward-negated i h)

outward-term : (m n : ℕ) (ts : List Term) (v : ℕ) → Terms m n ts → IsOutward nothing → IsOutward (term_at ts v)
outward-term m n [] v h o = o
outward-term m n (t ∷ ts) v h o = one_of (nat_eq t.dimension v) t.coefficient (term_at ts v) h.2 (outward-term (t.dimension + 1) n ts v h.3 o)
  where
    one_of : (b : Bool) (i j : Interval) → IsOutward i → IsOutward j → IsOutward (cond b i j)
    one_of true i j p q = p
    one_of false i j p q = q

outward-none : IsOutward nothing
outward-none = record { low_in_range = (omega (arith, ints), omega (arith, ints)); high_in_range = (omega (arith, ints), omega (arith, ints)) }

coefficient-constant : (n : ℕ) (i : Interval) (v : ℕ) → v < n → coefficient (constant_form n i) v ≡ nothing
unfolding constant_form no_terms
coefficient-constant n i v h = coefficient-form_of n i no_terms v h

constant-constant : (n : ℕ) (i : Interval) → (constant_form n i).constant ≡ i
unfolding constant_form
constant-constant n i = constant-form_of n i no_terms

minus-in : (n : ℕ) (a : Sparse) → IsSparse a
    → form_of n (difference_of (constant_form n nothing).constant (form_in n a).constant) (difference_term (constant_form n nothing) (form_in n a))
    ≡ form_of n (negated (form_in n a).constant) (negated_term (form_in n a))
unfolding difference_term negated_term
minus-in n a h =
    same_form n (difference_of (constant_form n nothing).constant (form_in n a).constant) (negated (form_in n a).constant)
    (difference_term (constant_form n nothing) (form_in n a)) (negated_term (form_in n a))
    (rw (constant-constant n nothing, constant-in n a) (nothing-minus a.constant h.constant))
    (λ v l. rw (coefficient-constant n nothing v l, coefficient-in n a v l) (nothing-minus (term_at a.terms v) (outward-term 0 past_all a.terms v h.terms outward-none)))

pub negated-in : (ranges : List Interval) (z a : Sparse) → IsSparse a → form_in (length ranges) z ≡ constant_form (length ranges) nothing
    → joined_form true ranges (form_in (length ranges) z) (form_in (length ranges) a) ≡ negated_form ranges (form_in (length ranges) a)
unfolding difference_form negated_form
negated-in ranges z a h e = rw e (ap (settled ranges) (minus-in (length ranges) a h))

-- ---- products

times-zero : (e : End) → times e (finite (pos 0)) ≡ finite (pos 0)
unfolding times
times-zero lowest = refl
times-zero (finite x) = ap finite (omega (arith, ints))
times-zero highest = refl

product-none : (k : Interval) → product_of k nothing ≡ nothing
unfolding product_of least_product greatest_product lesser greater
product-none k = rw (times-zero (low_end k.low), times-zero (high_end k.high))

pub lowered : (m k n : ℕ) (ts : List Term) → Terms k n ts → m ≤ k → Terms m n ts
lowered m k n [] h l = omega arith
lowered m k n (t ∷ ts) h l = let p = h.0 in (omega arith, h.1, h.2, h.3)

scaled-one : (i : Interval) (t : Term) (m n : ℕ) (ts : List Term) (b : Bool) → is_nothing i ≡ b → IsOutward i → m ≤ t.dimension → Terms (t.dimension + 1) n ts
    → Terms m n (cond b ts (record { dimension = t.dimension; coefficient = i } ∷ ts))
scaled-one i t m n ts true e o l r = lowered m (t.dimension + 1) n ts r (omega arith)
scaled-one i t m n ts false e o l r = (l, e, o, r)

pub scaled-terms : (k : Interval) (m n : ℕ) (ts : List Term) → Terms m n ts → Terms m n (scaled_terms k ts)
scaled-terms k m n [] h = h
scaled-terms k m n (t ∷ ts) h =
    scaled-one (product_of k t.coefficient) t m n (scaled_terms k ts) (is_nothing (product_of k t.coefficient)) refl (outward-product_of k t.coefficient) h.0
    (scaled-terms k (t.dimension + 1) n ts h.3)

one-at : (i : Interval) (t : Term) (n : ℕ) (ts : List Term) (w : ℕ) (b : Bool) → is_nothing i ≡ b → Terms (t.dimension + 1) n ts
    → term_at (cond b ts (record { dimension = t.dimension; coefficient = i } ∷ ts)) w ≡ cond (nat_eq t.dimension w) i (term_at ts w)
one-at i t n ts w false e h = refl
one-at i t n ts w true e h = by (nat_eq t.dimension w) refl
  where
    by : (d : Bool) → nat_eq t.dimension w ≡ d → term_at ts w ≡ cond d i (term_at ts w)
    by true d = term_at-below (t.dimension + 1) n ts w h (grind arith) ∙ sym (nothing-is i e)
    by false d = refl

scaled-choice : (k i j : Interval) (b : Bool) → cond b (product_of k i) (product_of k j) ≡ product_of k (cond b i j)
scaled-choice k i j true = refl
scaled-choice k i j false = refl

pub scaled-at : (k : Interval) (m n : ℕ) (ts : List Term) (w : ℕ) → Terms m n ts → term_at (scaled_terms k ts) w ≡ product_of k (term_at ts w)
scaled-at k m n [] w h = sym (product-none k)
scaled-at k m n (t ∷ ts) w h =
    one-at (product_of k t.coefficient) t n (scaled_terms k ts) w (is_nothing (product_of k t.coefficient)) refl (scaled-terms k (t.dimension + 1) n ts h.3)
    ∙ (ap (λ (i : Interval). cond (nat_eq t.dimension w) (product_of k t.coefficient) i) (scaled-at k (t.dimension + 1) n ts w h.3)
    ∙ scaled-choice k t.coefficient (term_at ts w) (nat_eq t.dimension w))

scaling-in : (n : ℕ) (k : Interval) (a s : Sparse) → IsFormOver n a → s.constant ≡ product_of k a.constant → s.terms ≡ scaled_terms k a.terms
    → form_in n s ≡ form_of n (product_of k (form_in n a).constant) (scaled_term k (form_in n a))
unfolding form_in scaled_term
scaling-in n k a s h c e =
    same_form n s.constant (product_of k (form_in n a).constant) (term_at s.terms) (scaled_term k (form_in n a))
    (c ∙ sym (rw (constant-in n a)))
    (λ v l. ap (λ (ts : List Term). term_at ts v) e ∙ (scaled-at k 0 n a.terms v h ∙ sym (rw (coefficient-in n a v l))))

pub scaled-in : (ranges : List Interval) (k : Interval) (a s r : Sparse) → IsFormOver (length ranges) a
    → s.constant ≡ product_of k a.constant → s.terms ≡ scaled_terms k a.terms
    → form_in (length ranges) r ≡ settled ranges (form_in (length ranges) s)
    → form_in (length ranges) r ≡ scaled_form ranges k (form_in (length ranges) a)
unfolding scaled_form
scaled-in ranges k a s r o c e h = h ∙ ap (settled ranges) (scaling-in (length ranges) k a s o c e)

-- one more term scaled
pub scaled_push : (k : Interval) (ts : List Term) (i : ℕ) (d : Term) (out more : List Term) → i < length ts
    → is_nothing (product_of k (get_or ts i d).coefficient) ≡ false
    → more ≡ out ++ record { dimension = (get_or ts i d).dimension; coefficient = product_of k (get_or ts i d).coefficient } ∷ []
    → out ++ scaled_terms k (drop i ts) ≡ scaled_terms k ts
    → more ++ scaled_terms k (drop (i + 1) ts) ≡ scaled_terms k ts
scaled_push k ts i d out more l e p h =
    let t = get_or ts i d in
    let s : Term = record { dimension = t.dimension; coefficient = product_of k t.coefficient } in
    let rest = scaled_terms k (drop (i + 1) ts) in
    let q : scaled_terms k (drop i ts) ≡ s ∷ rest = ap (scaled_terms k) (drop-term ts i d l) ∙ ap (λ (b : Bool). cond b rest (s ∷ rest)) e in
    ap (λ (xs : List Term). xs ++ rest) p ∙ (append_assoc out (s ∷ []) rest ∙ (ap (λ (xs : List Term). out ++ xs) (sym q) ∙ h))

pub scaled_skip : (k : Interval) (ts : List Term) (i : ℕ) (d : Term) (out : List Term) → i < length ts
    → is_nothing (product_of k (get_or ts i d).coefficient) ≡ true
    → out ++ scaled_terms k (drop i ts) ≡ scaled_terms k ts
    → out ++ scaled_terms k (drop (i + 1) ts) ≡ scaled_terms k ts
scaled_skip k ts i d out l e h =
    let t = get_or ts i d in
    let s : Term = record { dimension = t.dimension; coefficient = product_of k t.coefficient } in
    let rest = scaled_terms k (drop (i + 1) ts) in
    let q : scaled_terms k (drop i ts) ≡ rest = ap (scaled_terms k) (drop-term ts i d l) ∙ ap (λ (b : Bool). cond b rest (s ∷ rest)) e in
    ap (λ (xs : List Term). out ++ xs) (sym q) ∙ h

-- ---- whether there are terms

found : (b : Bool) → (b ≡ false → true ≡ false) → true ≡ b
found true k = refl
found false k = k refl

pub has_terms-in : (n : ℕ) (s : Sparse) → IsFormOver n s → has_some s.terms ≡ has_terms n (form_in n s)
unfolding has_terms has_term
has_terms-in n s h = by s.terms h refl
  where
    by : (ts : List Term) → Terms 0 n ts → s.terms ≡ ts → has_some ts ≡ some_index n (has_term (form_in n s))
    by [] k e = sym (some_index-none n (has_term (form_in n s)) (λ v l. ap (λ (i : Interval). not (is_nothing i)) (coefficient-in n s v l ∙ ap (λ (xs : List Term). term_at xs v) e)))
    by (t ∷ ts) k e =
        let u = t.dimension in
        let b = terms_bound (u + 1) n ts k.3 in
        let l : u < n = omega arith in
        let q : coefficient (form_in n s) u ≡ t.coefficient = coefficient-in n s u l ∙ (ap (λ (xs : List Term). term_at xs u) e ∙ term_at-here t ts u refl) in
        found (some_index n (has_term (form_in n s))) (λ z. ap not (sym (ap is_nothing q ∙ k.1)) ∙ some_index-each n (has_term (form_in n s)) z u l)

pub joined-sums : (minus : Bool) (a b x y ts : List Term) → x ≡ a → y ≡ b → ((w : ℕ) → term_at ts w ≡ joined minus (term_at x w) (term_at y w))
    → (w : ℕ) → term_at ts w ≡ joined minus (term_at a w) (term_at b w)
joined-sums minus a b x y ts p q h w = h w ∙ rw (p, q)

pub product-first : (ranges : List Interval) (a b : Form) → has_terms (length ranges) a ≡ false → scaled_form ranges a.constant b ≡ product_form ranges a b
unfolding product_form
product-first ranges a b e = sym (rw e refl)

pub product-second : (ranges : List Interval) (a b : Form) → has_terms (length ranges) a ≡ true → has_terms (length ranges) b ≡ false → scaled_form ranges b.constant a ≡ product_form ranges a b
unfolding product_form
product-second ranges a b e q = sym (rw (e, q) refl)

pub product-third : (ranges : List Interval) (a b : Form) → has_terms (length ranges) a ≡ true → has_terms (length ranges) b ≡ true → scaled_form ranges (form_value ranges b) a ≡ product_form ranges a b
unfolding product_form
product-third ranges a b e q = sym (rw (e, q) refl)

pub some-terms : (ts : List Term) → not (length ts == 0) ≡ has_some ts
some-terms [] = refl
some-terms (t ∷ ts) = grind arith

pub terms_outward : (m n : ℕ) (ts : List Term) (i : ℕ) (d : Term) → Terms m n ts → i < length ts → IsOutward (get_or ts i d).coefficient
terms_outward m n [] i d h l = absurd (omega arith)
terms_outward m n (t ∷ ts) zero d h l = h.2
terms_outward m n (t ∷ ts) (suc i) d h l = terms_outward (t.dimension + 1) n ts i d h.3 (omega arith)
