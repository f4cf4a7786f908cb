-- Tests on values in blocks.
use Rattle.std.proofs.Common.{◌≡◌, ℕ, List, Option, Some, None, refl, ap, ◌∙◌, length, subst, sym, negsuc}
use Rattle.std.specs.Prelude.{IfSome, IsSome}
use Rattle.oct_def.specs.Octagon.{bottom_value}
use Rattle.spl_core.specs.Expression.{Expression, IsOver}
use Rattle.interval_form.specs.declared.interval.Interval.{Interval}
use Rattle.interval_form.specs.Interval.{point, ranges_of}
use Rattle.interval_form.specs.Form.{Form}
use Rattle.interval_form.specs.Linear.{constant_form, linear_form, difference_form}
use Rattle.interval_form.proofs.Bounding.{length-ranges_of}
use Rattle.transfer_def.specs.Test.{at_most_value, below_value}
use Rattle.transfer_def.proofs.Conditions.{at_most-is, below-is}
use Rattle.dec_oct.specs.Value.{Blocks, whole, Decomposed, decomposed, octagon, octagon_of}
use Rattle.dec_transfer.specs.Restricted.{restricted_by, restricted_value}

-- ---- the ranges of a value

pub count-ranges : (n : ℕ) (o : Option Blocks) (ranges : List Interval) → IsSome o → IfSome o (λ b. ranges ≡ ranges_of n (whole n b)) → length ranges ≡ n
count-ranges n None ranges s h = absurd (cc)
count-ranges n (Some b) ranges s h = ap length h ∙ length-ranges_of n (whole n b)

pub over-ranges : (n : ℕ) (o : Option Blocks) (ranges : List Interval) (e : Expression) → IsSome o → IfSome o (λ b. ranges ≡ ranges_of n (whole n b)) → IsOver n e → IsOver (length ranges) e
over-ranges n o ranges e s h k = subst (λ i. IsOver i e) (sym (count-ranges n o ranges s h)) k

-- ---- comparisons of Bottom

pub at_most-none : (a b : Expression) (v r : Decomposed) (d : ℕ) → d ≡ v.dims → v.blocks ≡ None → octagon r ≡ bottom_value d → octagon r ≡ at_most_value a b (octagon v)
unfolding bottom_value at_most_value
at_most-none a b v r d q h e = e ∙ ap bottom_value q ∙ ap (λ o. at_most_value a b (octagon (decomposed v.dims o))) (sym h)

pub below-none : (a b : Expression) (v r : Decomposed) (d : ℕ) → d ≡ v.dims → v.blocks ≡ None → octagon r ≡ bottom_value d → octagon r ≡ below_value a b (octagon v)
unfolding bottom_value below_value
below-none a b v r d q h e = e ∙ ap bottom_value q ∙ ap (λ o. below_value a b (octagon (decomposed v.dims o))) (sym h)

-- ---- comparisons

pub at_most-tested : (a b : Expression) (v r : Decomposed) (ranges : List Interval) (f : Form) → IfSome v.blocks (λ k. ranges ≡ ranges_of v.dims (whole v.dims k)) → f ≡ difference_form ranges (linear_form ranges a) (linear_form ranges b)
    → octagon r ≡ restricted_value ranges f (octagon v) → octagon r ≡ at_most_value a b (octagon v)
unfolding at_most_value
at_most-tested a b v r ranges f q h e = e ∙ by v.dims v.blocks q
  where
    by : (n : ℕ) (o : Option Blocks) → IfSome o (λ k. ranges ≡ ranges_of n (whole n k)) → restricted_value ranges f (octagon (decomposed n o)) ≡ at_most_value a b (octagon (decomposed n o))
    by n None q = refl
    by n (Some k) q = ap (octagon_of n) (at_most-is n a b (whole n k) ranges f (restricted_by ranges f (whole n k)) q h refl)

pub below-tested : (a b : Expression) (v r : Decomposed) (ranges : List Interval) (f g k : Form) → IfSome v.blocks (λ k. ranges ≡ ranges_of v.dims (whole v.dims k)) → f ≡ difference_form ranges (linear_form ranges a) (linear_form ranges b)
    → k ≡ constant_form (length ranges) (point (negsuc 0)) → g ≡ difference_form ranges f k → octagon r ≡ restricted_value ranges g (octagon v) → octagon r ≡ below_value a b (octagon v)
unfolding below_value
below-tested a b v r ranges f g k q h c d e = e ∙ by v.dims v.blocks q
  where
    by : (n : ℕ) (o : Option Blocks) → IfSome o (λ k. ranges ≡ ranges_of n (whole n k)) → restricted_value ranges g (octagon (decomposed n o)) ≡ below_value a b (octagon (decomposed n o))
    by n None q = refl
    by n (Some x) q = ap (octagon_of n) (below-is n a b (whole n x) ranges f g k (restricted_by ranges g (whole n x)) q h c d refl)
