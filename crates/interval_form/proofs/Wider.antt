-- Forms over more dimensions, as over the ranges of a matrix and of a new variable.
use Rattle.std.proofs.Common.{◌≡◌, ◌⊎◌, ℕ, ◌+◌, ◌<◌, ◌≤◌, [], ◌∷◌, ◌++◌, List, length, length-append, refl, sym, ap, subst, ⊎_elim, ◌∙◌, arith}
use Rattle.oct_def.specs.Table.{Matrix}
use Rattle.spl_core.specs.Expression.{Expression, IsOver}
use Rattle.interval_form.specs.declared.interval.Interval.{Interval}
use Rattle.interval_form.specs.Interval.{unbounded, ranges_of, difference_of}
use Rattle.interval_form.specs.Form.{Form, coefficient}
use Rattle.interval_form.specs.Linear.{variable_form, difference_form, difference_term, settled}
use Rattle.interval_form.specs.Sparse.{Sparse, IsFormOver, form_in, term_at}
use Rattle.interval_form.proofs.Forms.{coefficient-form_of, coefficient-form_of_past}
use Rattle.interval_form.proofs.Merging.{term_at-past, terms_widened}
use Rattle.interval_form.proofs.Dense.{same_form, constant-in}
use Rattle.interval_form.proofs.Bounding.{length-ranges_of}

-- ---- a form over n dimensions and the same form over more have the same coefficients

coefficient-wider : (n k : ℕ) (s : Sparse) (v : ℕ) → IsFormOver n s → n ≤ k → coefficient (form_in k s) v ≡ coefficient (form_in n s) v
unfolding form_in
coefficient-wider n k s v h l =
    ⊎_elim
    (λ (p : v < n). coefficient-form_of k s.constant (term_at s.terms) v (omega arith) ∙ sym (coefficient-form_of n s.constant (term_at s.terms) v p))
    (λ (p : n ≤ v). ⊎_elim
    (λ (q : v < k). coefficient-form_of k s.constant (term_at s.terms) v q ∙ (term_at-past 0 n s.terms v h p ∙ sym (coefficient-form_of_past n s.constant (term_at s.terms) v p)))
    (λ (q : k ≤ v). coefficient-form_of_past k s.constant (term_at s.terms) v q ∙ sym (coefficient-form_of_past n s.constant (term_at s.terms) v p))
    (split v k))
    (split v n)
  where
    split : (v n : ℕ) → (v < n) ⊎ (n ≤ v)
    split v n = grind arith

difference-same : (ranges : List Interval) (a b c d : Form) → a.constant ≡ c.constant → b.constant ≡ d.constant
    → ((v : ℕ) → coefficient a v ≡ coefficient c v) → ((v : ℕ) → coefficient b v ≡ coefficient d v) → difference_form ranges a b ≡ difference_form ranges c d
unfolding difference_form difference_term
difference-same ranges a b c d p q e f =
    ap (settled ranges) (same_form (length ranges) (difference_of a.constant b.constant) (difference_of c.constant d.constant) (difference_term a b) (difference_term c d) (rw (p, q) refl) (λ v l. rw (e v, f v) refl))

pub wider-left : (n : ℕ) (ranges : List Interval) (s : Sparse) (b : Form) → IsFormOver n s → n ≤ length ranges → difference_form ranges (form_in (length ranges) s) b ≡ difference_form ranges (form_in n s) b
wider-left n ranges s b h l =
    difference-same ranges (form_in (length ranges) s) b (form_in n s) b (constant-in (length ranges) s ∙ sym (constant-in n s)) refl (λ v. coefficient-wider n (length ranges) s v h l) (λ v. refl)

pub wider-right : (n : ℕ) (ranges : List Interval) (a : Form) (s : Sparse) → IsFormOver n s → n ≤ length ranges → difference_form ranges a (form_in (length ranges) s) ≡ difference_form ranges a (form_in n s)
wider-right n ranges a s h l =
    difference-same ranges a (form_in (length ranges) s) a (form_in n s) refl (constant-in (length ranges) s ∙ sym (constant-in n s)) (λ v. refl) (λ v. coefficient-wider n (length ranges) s v h l)

-- ---- the ranges of a matrix, and a new variable

pub over-ranges : (n : ℕ) (m : Matrix) (ranges : List Interval) (e : Expression) → ranges ≡ ranges_of n m → IsOver n e → IsOver (length ranges) e
over-ranges n m ranges e q h = subst (λ k. IsOver k e) (sym (ap length q ∙ length-ranges_of n m)) h

pub form-over : (n : ℕ) (m : Matrix) (ranges : List Interval) (s : Sparse) → ranges ≡ ranges_of n m → IsFormOver (length ranges) s → IsFormOver n s
form-over n m ranges s q h = subst (λ k. IsFormOver k s) (ap length q ∙ length-ranges_of n m) h

pub length-extended_ranges : (n : ℕ) (m : Matrix) (ranges : List Interval) → ranges ≡ ranges_of n m ++ unbounded ∷ [] → length ranges ≡ n + 1
length-extended_ranges n m ranges e = ap length e ∙ (length-append (ranges_of n m) (unbounded ∷ []) ∙ ap (λ k. k + 1) (length-ranges_of n m))

-- a form over n dimensions is one over the new variable too
pub over-new : (n : ℕ) (m : Matrix) (ranges : List Interval) (s : Sparse) → ranges ≡ ranges_of n m ++ unbounded ∷ [] → IsFormOver n s → IsFormOver (length ranges) s
over-new n m ranges s e h = let l = length-extended_ranges n m ranges e in terms_widened 0 n (length ranges) s.terms h (omega arith)

pub new-below : (n : ℕ) (m : Matrix) (ranges : List Interval) → ranges ≡ ranges_of n m ++ unbounded ∷ [] → n < length ranges
new-below n m ranges e = let l = length-extended_ranges n m ranges e in omega arith

-- a form minus the new variable, and that minus the form, by the forms of the code
pub minus-new : (n : ℕ) (ranges : List Interval) (s t : Sparse) → length ranges ≡ n + 1 → IsFormOver n s → ((k : ℕ) → form_in k t ≡ variable_form k n)
    → difference_form ranges (form_in (length ranges) s) (form_in (length ranges) t) ≡ difference_form ranges (form_in n s) (variable_form (n + 1) n)
minus-new n ranges s t l h v = wider-left n ranges s (form_in (length ranges) t) h (omega arith) ∙ ap (difference_form ranges (form_in n s)) (v (length ranges) ∙ ap (λ k. variable_form k n) l)

pub new-minus : (n : ℕ) (ranges : List Interval) (s t : Sparse) → length ranges ≡ n + 1 → IsFormOver n s → ((k : ℕ) → form_in k t ≡ variable_form k n)
    → difference_form ranges (form_in (length ranges) t) (form_in (length ranges) s) ≡ difference_form ranges (variable_form (n + 1) n) (form_in n s)
new-minus n ranges s t l h v = wider-right n ranges (form_in (length ranges) t) s h (omega arith) ∙ ap (λ (f : Form). difference_form ranges f (form_in n s)) (v (length ranges) ∙ ap (λ k. variable_form k n) l)
