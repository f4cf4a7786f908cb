-- The bounds of the new variable of an assignment, from those of the forms of the code.
use Rattle.std.proofs.Common.{◌≡◌, ℕ, ◌+◌, ◌<◌, List, [], ◌∷◌, ◌++◌, length, sym, ap, ◌∙◌, subst}
use Rattle.std.specs.Prelude.{IsSome, IfSome}
use Rattle.oct_def.specs.Table.{Matrix}
use Rattle.interval_form.specs.declared.constraints.Bounds.{Bounds}
use Rattle.interval_form.specs.declared.constraints.Bounds.TheVariants.{Nothing, Few}
use Rattle.interval_form.specs.declared.interval.Interval.{Interval}
use Rattle.interval_form.specs.Interval.{unbounded, ranges_of}
use Rattle.interval_form.specs.Form.{Form}
use Rattle.interval_form.specs.Linear.{variable_form, linear_form, difference_form}
use Rattle.interval_form.specs.Sparse.{Sparse, IsFormOver, form_in}
use Rattle.interval_form.proofs.Wider.{length-extended_ranges, over-new, new-below, minus-new, new-minus}
use Rattle.transfer_def.specs.Assign.{extended_ranges, form_minus_new, new_minus_form}
use Rattle.dec_oct.specs.Value.{Decomposed, whole}
use Rattle.dec_lattice.specs.Over.{held}
use Rattle.dec_lattice.proofs.Values.{if-held}
use Rattle.dec_transfer.specs.Listed.{AreBoth}
use Rattle.dec_transfer.specs.Formed.{AreBoundsOfNew, ArePlaced}

-- the ranges with a new variable, of a value that isn't Bottom
pub held-ranges : (v : Decomposed) (ranges : List Interval) → IsSome v.blocks → IfSome v.blocks (λ b. ranges ≡ ranges_of v.dims (whole v.dims b) ++ unbounded ∷ []) → ranges ≡ ranges_of v.dims (whole v.dims (held v)) ++ unbounded ∷ []
held-ranges v ranges s h = if-held v.blocks (λ b. ranges ≡ ranges_of v.dims (whole v.dims b) ++ unbounded ∷ []) s h

pub held-over : (v : Decomposed) (ranges : List Interval) (s : Sparse) → ranges ≡ ranges_of v.dims (whole v.dims (held v)) ++ unbounded ∷ [] → IsFormOver v.dims s → IsFormOver (length ranges) s
held-over v ranges s e h = over-new v.dims (whole v.dims (held v)) ranges s e h

pub held-below : (v : Decomposed) (ranges : List Interval) (n : ℕ) → ranges ≡ ranges_of v.dims (whole v.dims (held v)) ++ unbounded ∷ [] → n ≡ v.dims → n < length ranges
held-below v ranges n e p = subst (λ k. k < length ranges) (sym p) (new-below v.dims (whole v.dims (held v)) ranges e)

-- what is listed for both differences
pub bounds-of-new : (n : ℕ) (m : Matrix) (ranges : List Interval) (s t below above : Sparse) (b : Bounds) → ranges ≡ ranges_of n m ++ unbounded ∷ [] → IsFormOver n s → ((k : ℕ) → form_in k t ≡ variable_form k n)
    → form_in (length ranges) below ≡ difference_form ranges (form_in (length ranges) s) (form_in (length ranges) t)
    → form_in (length ranges) above ≡ difference_form ranges (form_in (length ranges) t) (form_in (length ranges) s)
    → AreBoth ranges (form_in (length ranges) below) (form_in (length ranges) above) b → AreBoundsOfNew n m s b
unfolding extended_ranges form_minus_new new_minus_form
bounds-of-new n m ranges s t below above b e h v x y both expr f =
    let l = length-extended_ranges n m ranges e in
    let new = variable_form (n + 1) n in
    let form = linear_form (ranges_of n m) expr in
    let first : form_in (length ranges) below ≡ difference_form ranges form new = x ∙ minus-new n ranges s t l h v ∙ ap (λ g. difference_form ranges g new) f in
    let second : form_in (length ranges) above ≡ difference_form ranges new form = y ∙ new-minus n ranges s t l h v ∙ ap (difference_form ranges new) f in
    subst (λ r. AreBoth r (difference_form r form new) (difference_form r new form) b) e
    (subst (λ g. AreBoth ranges (difference_form ranges form new) g b) second (subst (λ g. AreBoth ranges g (form_in (length ranges) above) b) first both))

both-placed : (ranges : List Interval) (f g : Form) (b : Bounds) → AreBoth ranges f g b → ArePlaced (length ranges) b
both-placed ranges f g Nothing h = tt
both-placed ranges f g (Few bounds) h = h.placed

pub placed-new : (v : Decomposed) (ranges : List Interval) (f g : Form) (b : Bounds) → ranges ≡ ranges_of v.dims (whole v.dims (held v)) ++ unbounded ∷ [] → AreBoth ranges f g b → ArePlaced (v.dims + 1) b
placed-new v ranges f g b e h = subst (λ n. ArePlaced n b) (length-extended_ranges v.dims (whole v.dims (held v)) ranges e) (both-placed ranges f g b h)
