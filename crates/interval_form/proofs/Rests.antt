-- The value of a form without the terms of two dimensions.
use Rattle.std.proofs.Common.{◌≡◌, ℕ, ◌+◌, ◌<◌, Bool, true, false, cond, not, List, [], ◌∷◌, length, drop, get_or, refl, sym, ap, subst, arith, nat_eq, ◌∙◌}
use Rattle.interval_form.specs.declared.form.Term.{Term}
use Rattle.interval_form.specs.Interval.{Interval, IsOutward, negated_bound, sum_of, product_of, range_at}
use Rattle.interval_form.specs.Form.{Form, nothing, form_value}
use Rattle.interval_form.specs.FormBounds.{term_without, without, rest_bound}
use Rattle.interval_form.specs.Sparse.{Sparse, IsFormOver, term_at, Terms, form_in, folded}
use Rattle.interval_form.specs.Listing.{is_kept, without_terms}
use Rattle.interval_form.proofs.Merging.{term_at-here, term_at-other, term_at-below}
use Rattle.interval_form.proofs.Dense.{lowered, same_form, constant-in, coefficient-in, drop-term, folded-value}
use Rattle.interval_form.proofs.Outward.{outward-form_value}

one-kept : (t : Term) (m n : ℕ) (ts : List Term) (b : Bool) → Terms m n (t ∷ ts) → Terms m n (cond b (t ∷ ts) ts)
one-kept t m n ts true h = h
one-kept t m n ts false h = let p = h.0 in lowered m (t.dimension + 1) n ts h.3 (omega arith)

pub without-terms : (u w m n : ℕ) (ts : List Term) → Terms m n ts → Terms m n (without_terms u w ts)
without-terms u w m n [] h = h
without-terms u w m n (t ∷ ts) h =
    one-kept t m n (without_terms u w ts) (is_kept u w t.dimension) (h.0, h.1, h.2, without-terms u w (t.dimension + 1) n ts h.3)

-- where v is kept its coefficient stays, else there is none
abbrev kept_part : Bool → Interval → Interval
kept_part b i = cond b i nothing

pub without-at : (u w m n : ℕ) (ts : List Term) (v : ℕ) → Terms m n ts → term_at (without_terms u w ts) v ≡ kept_part (is_kept u w v) (term_at ts v)
without-at u w m n [] v h = by (is_kept u w v)
  where
    by : (b : Bool) → nothing ≡ kept_part b nothing
    by true = refl
    by false = refl
without-at u w m n (t ∷ ts) v h = by (nat_eq t.dimension v) (is_kept u w t.dimension) refl refl (without-at u w (t.dimension + 1) n ts v h.3)
  where
    by : (a b : Bool) → nat_eq t.dimension v ≡ a → is_kept u w t.dimension ≡ b
        → term_at (without_terms u w ts) v ≡ kept_part (is_kept u w v) (term_at ts v)
        → term_at (cond b (t ∷ without_terms u w ts) (without_terms u w ts)) v ≡ kept_part (is_kept u w v) (cond a t.coefficient (term_at ts v))
    by true true e k r =
        let d : t.dimension ≡ v = grind arith in
        term_at-here t (without_terms u w ts) v d ∙ sym (ap (λ (b : Bool). kept_part b t.coefficient) (ap (is_kept u w) (sym d) ∙ k))
    by true false e k r =
        let d : t.dimension ≡ v = grind arith in
        term_at-below (t.dimension + 1) n (without_terms u w ts) v (without-terms u w (t.dimension + 1) n ts h.3) (omega arith)
        ∙ sym (ap (λ (b : Bool). kept_part b t.coefficient) (ap (is_kept u w) (sym d) ∙ k))
    by false true e k r = term_at-other t (without_terms u w ts) v (grind arith) ∙ r
    by false false e k r = r

without-choice : (u w v : ℕ) (i : Interval) → kept_part (is_kept u w v) i ≡ cond (nat_eq v u) nothing (cond (nat_eq v w) nothing i)
without-choice u w v i = by (nat_eq v u) (nat_eq v w)
  where
    by : (a b : Bool) → kept_part (cond a false (not b)) i ≡ cond a nothing (cond b nothing i)
    by true b = refl
    by false true = refl
    by false false = refl

pub without-in : (ranges : List Interval) (u w : ℕ) (s r : Sparse) → IsFormOver (length ranges) s → r.constant ≡ s.constant → r.terms ≡ without_terms u w s.terms
    → form_in (length ranges) r ≡ without ranges u w (form_in (length ranges) s)
unfolding form_in without term_without
without-in ranges u w s r h c e =
    same_form (length ranges) r.constant (form_in (length ranges) s).constant (term_at r.terms) (term_without u w (form_in (length ranges) s))
    (c ∙ sym (constant-in (length ranges) s))
    (λ v l. ap (λ (ts : List Term). term_at ts v) e
    ∙ (without-at u w 0 (length ranges) s.terms v h
    ∙ (without-choice u w v (term_at s.terms v)
    ∙ ap (λ (i : Interval). cond (nat_eq v u) nothing (cond (nat_eq v w) nothing i)) (sym (coefficient-in (length ranges) s v l)))))

pub rest-value : (ranges : List Interval) (u w : ℕ) (s : Sparse) → IsOutward s.constant → IsFormOver (length ranges) s
    → folded ranges s.constant (without_terms u w s.terms) ≡ form_value ranges (without ranges u w (form_in (length ranges) s))
rest-value ranges u w s o h =
    let r : Sparse = record { constant = s.constant; terms = without_terms u w s.terms } in
    folded-value ranges r o (without-terms u w 0 (length ranges) s.terms h) ∙ ap (form_value ranges) (without-in ranges u w s r h refl refl)

pub outward-rest : (ranges : List Interval) (u w : ℕ) (s : Sparse) → IsOutward s.constant → IsFormOver (length ranges) s
    → IsOutward (folded ranges s.constant (without_terms u w s.terms))
outward-rest ranges u w s o h =
    let r : Sparse = record { constant = s.constant; terms = without_terms u w s.terms } in
    subst IsOutward (sym (folded-value ranges r o (without-terms u w 0 (length ranges) s.terms h)))
    (outward-form_value ranges (form_in (length ranges) r) (subst IsOutward (sym (constant-in (length ranges) r)) o))

pub rest-in : (ranges : List Interval) (u w : ℕ) (f : Form) (i : Interval) → i ≡ form_value ranges (without ranges u w f) → negated_bound i.low ≡ rest_bound ranges f u w
unfolding rest_bound
rest-in ranges u w f i e = ap (λ (x : Interval). negated_bound x.low) e

-- one term of the loop
pub rest_kept : (ranges : List Interval) (u w : ℕ) (ts : List Term) (i : ℕ) (d : Term) (sum : Interval) → i < length ts → is_kept u w (get_or ts i d).dimension ≡ true
    → folded ranges (sum_of sum (product_of (get_or ts i d).coefficient (range_at ranges (get_or ts i d).dimension))) (without_terms u w (drop (i + 1) ts))
    ≡ folded ranges sum (without_terms u w (drop i ts))
rest_kept ranges u w ts i d sum h e =
    let t = get_or ts i d in
    let rest = without_terms u w (drop (i + 1) ts) in
    let q : without_terms u w (drop i ts) ≡ t ∷ rest = ap (without_terms u w) (drop-term ts i d h) ∙ ap (λ (b : Bool). cond b (t ∷ rest) rest) e in
    sym (ap (folded ranges sum) q)

pub rest_left_out : (ranges : List Interval) (u w : ℕ) (ts : List Term) (i : ℕ) (d : Term) (sum : Interval) → i < length ts → is_kept u w (get_or ts i d).dimension ≡ false
    → folded ranges sum (without_terms u w (drop (i + 1) ts)) ≡ folded ranges sum (without_terms u w (drop i ts))
rest_left_out ranges u w ts i d sum h e =
    let t = get_or ts i d in
    let rest = without_terms u w (drop (i + 1) ts) in
    let q : without_terms u w (drop i ts) ≡ rest = ap (without_terms u w) (drop-term ts i d h) ∙ ap (λ (b : Bool). cond b (t ∷ rest) rest) e in
    sym (ap (folded ranges sum) q)
