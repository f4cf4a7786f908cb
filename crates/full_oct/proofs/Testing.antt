-- Tests by the forms of differences.
use Rattle.std.proofs.Common.{◌≡◌, ℕ, ◌*◌, List, length, Bool, true, Option, Some, None, sym, ap, subst, ◌∙◌}
use Rattle.std.specs.Option.{option_and_then}
use Rattle.oct_def.specs.Table.{Matrix}
use Rattle.oct_def.specs.Matrix.{IsEvenMatrix}
use Rattle.oct_def.specs.Tight.{tight}
use Rattle.oct_def.specs.Octagon.{Octagon, IsValueOver, bottom_value}
use Rattle.spl_core.specs.declared.parts.Cmp.{Cmp}
use Rattle.spl_core.specs.declared.parts.Cmp.TheVariants as cmp
use Rattle.spl_core.specs.Expression.{Expression}
use Rattle.spl_core.specs.Condition.{Compare, asked}
use Rattle.interval_form.specs.declared.interval.Interval.{Interval}
use Rattle.interval_form.specs.Interval.{ranges_of}
use Rattle.interval_form.specs.Form.{Form}
use Rattle.interval_form.specs.FormBounds.{bounded}
use Rattle.interval_form.proofs.Bounding.{length-ranges_of}
use Rattle.transfer_def.specs.Test.{restrict_at_most, restrict_below, at_most_value, below_value, compare_value, test_value}
use Rattle.transfer_def.proofs.Conditions.{compare-asked}
use Rattle.transfer_def.proofs.Tests.{value-test_value}
use Rattle.full_oct.specs.Value.{octagon_of}
use Rattle.full_oct.proofs.Forming.{value_bottom, value_matrix}

pub rows-ranges : (n : ℕ) (m : Matrix) (ranges : List Interval) (rows : ℕ) → ranges ≡ ranges_of n m → rows ≡ 2 * n → rows ≡ 2 * length ranges
rows-ranges n m ranges rows q h = h ∙ ap (λ k. 2 * k) (sym (ap length q ∙ length-ranges_of n m))

-- ---- matrices

pub restricted-none : (f : Form) (ranges : List Interval) (m k : Matrix) → k ≡ m → None ≡ bounded ranges f k → None ≡ option_and_then tight (bounded ranges f m)
restricted-none f ranges m k e h = ap (option_and_then tight) (h ∙ ap (bounded ranges f) e)

pub restricted-some : (f : Form) (ranges : List Interval) (m k j : Matrix) (r : Option Matrix) → k ≡ m → Some j ≡ bounded ranges f k → r ≡ tight j → r ≡ option_and_then tight (bounded ranges f m)
restricted-some f ranges m k j r e h t = t ∙ ap (option_and_then tight) (h ∙ ap (bounded ranges f) e)

-- ---- values

pub at_most_bottom_is : (a b : Expression) (d : ℕ) (v w : Octagon) → octagon_of d None ≡ v → w ≡ bottom_value d → w ≡ at_most_value a b v
unfolding at_most_value
at_most_bottom_is a b d v w p h = value_bottom (λ n. restrict_at_most n a b) d v w p h

pub at_most_matrix_is : (a b : Expression) (d : ℕ) (m : Matrix) (r : Option Matrix) (v w : Octagon) → octagon_of d (Some m) ≡ v → r ≡ restrict_at_most d a b m → w ≡ octagon_of d r → w ≡ at_most_value a b v
unfolding at_most_value
at_most_matrix_is a b d m r v w p t h = value_matrix (λ n. restrict_at_most n a b) d m r v w p t h

pub at_most_kept : (a b : Expression) (d : ℕ) (m : Matrix) (r : Option Matrix) → IsEvenMatrix d m → r ≡ restrict_at_most d a b m → IsValueOver d r
unfolding test_value at_most_value
at_most_kept a b d m r k t = subst (IsValueOver d) (sym t) (value-test_value (Compare cmp.Le a b) true (octagon_of d (Some m)) k)

pub below_bottom_is : (a b : Expression) (d : ℕ) (v w : Octagon) → octagon_of d None ≡ v → w ≡ bottom_value d → w ≡ below_value a b v
unfolding below_value
below_bottom_is a b d v w p h = value_bottom (λ n. restrict_below n a b) d v w p h

pub below_matrix_is : (a b : Expression) (d : ℕ) (m : Matrix) (r : Option Matrix) (v w : Octagon) → octagon_of d (Some m) ≡ v → r ≡ restrict_below d a b m → w ≡ octagon_of d r → w ≡ below_value a b v
unfolding below_value
below_matrix_is a b d m r v w p t h = value_matrix (λ n. restrict_below n a b) d m r v w p t h

pub below_kept : (a b : Expression) (d : ℕ) (m : Matrix) (r : Option Matrix) → IsEvenMatrix d m → r ≡ restrict_below d a b m → IsValueOver d r
unfolding test_value below_value
below_kept a b d m r k t = subst (IsValueOver d) (sym t) (value-test_value (Compare cmp.Lt a b) true (octagon_of d (Some m)) k)

-- ---- comparisons

pub compared-is : (k j r : Cmp) (w : Bool) (a b : Expression) (v x : Octagon) → j ≡ k → j ≡ asked r w → x ≡ compare_value k true a b v → x ≡ compare_value r w a b v
compared-is k j r w a b v x e h q = q ∙ (ap (λ (i : Cmp). compare_value i true a b v) (sym e ∙ h) ∙ compare-asked r w a b v)
