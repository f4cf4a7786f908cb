-- A value with a new variable that has bounds, closed, and then with the new variable in the place of the target.
use Rattle.std.specs.Prelude.{◌≡◌, ℕ, ◌+◌, List, [], ◌∷◌}
use Rattle.oct_def.specs.Tight.{tight}
use Rattle.interval_form.specs.declared.constraints.OctBound.{OctBound}
use Rattle.dec_oct.specs.Value.{Blocks, Decomposed, whole, octagon, octagon_of, IsKept}
use Rattle.dec_oct.specs.Cost.{CostsAtMost}
use Rattle.dec_parts.specs.Lower.{IsLowered}
use Rattle.dec_parts.specs.Moving.{moved_value, MarksAllButTargetsOf}

pub record IsClosedAndMoved (n x : ℕ) (a : Blocks) (bounds : List OctBound) (old new : ℕ) (r : Decomposed) : Type 0 where
  pub before : Blocks
  pub lowered : IsLowered (n + 1) a bounds before
  pub closed : Decomposed
  pub kept : IsKept closed
  pub value : octagon closed ≡ octagon_of (n + 1) (tight (whole (n + 1) before))
  pub cost : CostsAtMost before closed.blocks old new
  pub moved : octagon r ≡ moved_value n (x ∷ []) (octagon closed)
  pub marks : MarksAllButTargetsOf n (x ∷ []) (octagon closed) r.blocks
