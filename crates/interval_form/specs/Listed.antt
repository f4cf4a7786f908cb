-- What the code answers for the bounds of `form <= 0`.
use Rattle.std.specs.Prelude.{◌≡◌, ℕ, ◌*◌, ◌<◌, true, false, List, length, ◌≤ℤ◌}
use Rattle.std.specs.List.{All}
use Rattle.oct_def.specs.Bound.{low_limit, top_limit}
use Rattle.interval_form.specs.declared.constraints.Bounds.{Bounds}
use Rattle.interval_form.specs.declared.constraints.Bounds.TheVariants.{Nothing, Few}
use Rattle.interval_form.specs.declared.constraints.OctBound.{OctBound}
use Rattle.interval_form.specs.Interval.{Interval}
use Rattle.interval_form.specs.Form.{Form, form_value}
use Rattle.interval_form.specs.FormBounds.{is_above_zero, form_entry}
use Rattle.interval_form.specs.Listing.{listed}

-- a bound at a place of a matrix over n variables; its word lies between the limits, and so isn't the word of no bound
pub record IsPlaced (n : ℕ) (b : OctBound) : Type 0 where
  pub row : b.row < 2 * n
  pub column : b.column < 2 * n
  pub low : low_limit ≤ℤ b.word
  pub high : b.word ≤ℤ top_limit

-- a list whose least word at each place is the entry of the form's bounds
pub record Lists (ranges : List Interval) (f : Form) (bounds : List OctBound) : Type 0 where
  pub possible : is_above_zero (form_value ranges f).low ≡ false
  pub placed : All (IsPlaced (length ranges)) bounds
  pub entries : (i j : ℕ) → i < 2 * length ranges → j < 2 * length ranges → listed bounds i j ≡ form_entry ranges f i j

-- nothing where the form's least value is above 0, else such a list
abbrev pub AreBounds : List Interval → Form → Bounds → Type 0
AreBounds ranges f Nothing = is_above_zero (form_value ranges f).low ≡ true
AreBounds ranges f (Few bounds) = Lists ranges f bounds.items
