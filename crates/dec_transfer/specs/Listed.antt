-- What the code lists for two forms that are both at most 0.
use Rattle.std.specs.Prelude.{◌≡◌, ℕ, ◌*◌, ◌<◌, ◌⊎◌, true, false, List, length}
use Rattle.std.specs.List.{All}
use Rattle.oct_def.specs.Bound.{least}
use Rattle.interval_form.specs.declared.constraints.Bounds.{Bounds}
use Rattle.interval_form.specs.declared.constraints.Bounds.TheVariants.{Nothing, Few}
use Rattle.interval_form.specs.declared.constraints.OctBound.{OctBound}
use Rattle.interval_form.specs.declared.interval.Interval.{Interval}
use Rattle.interval_form.specs.Form.{Form, form_value}
use Rattle.interval_form.specs.FormBounds.{is_above_zero, form_entry}
use Rattle.interval_form.specs.Listed.{IsPlaced}
use Rattle.interval_form.specs.Listing.{listed}

-- a list whose least word at each place is the lesser of the entries of the two forms' bounds
pub record ListsBoth (ranges : List Interval) (f g : Form) (bounds : List OctBound) : Type 0 where
  pub first : is_above_zero (form_value ranges f).low ≡ false
  pub second : is_above_zero (form_value ranges g).low ≡ false
  pub placed : All (IsPlaced (length ranges)) bounds
  pub entries : (i j : ℕ) → i < 2 * length ranges → j < 2 * length ranges → listed bounds i j ≡ least (form_entry ranges f i j) (form_entry ranges g i j)

-- nothing where one of the forms has a least value above 0, else such a list
abbrev pub AreBoth : List Interval → Form → Form → Bounds → Type 0
AreBoth ranges f g Nothing = (is_above_zero (form_value ranges f).low ≡ true) ⊎ (is_above_zero (form_value ranges g).low ≡ true)
AreBoth ranges f g (Few bounds) = ListsBoth ranges f g bounds.items
