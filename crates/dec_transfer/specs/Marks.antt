-- The marks after an assignment.
use Rattle.std.specs.Prelude.{◌≡◌, ℕ, ◌+◌, Option, Some, None, [], ◌∷◌}
use Rattle.oct_def.specs.Table.{Matrix}
use Rattle.oct_def.specs.Tight.{tight}
use Rattle.spl_core.specs.Expression.{Expression}
use Rattle.transfer_def.specs.Assign.{equated, assign_value}
use Rattle.dec_oct.specs.Value.{Blocks, Decomposed, whole, octagon, octagon_of}
use Rattle.dec_parts.specs.Moving.{MarksAllButTargetsOf}
use Rattle.dec_transfer.specs.Cost.{AssignCosts}

-- a mark is missing only where the tight closure changes the block's matrix, where the target x is in the block, or where x
-- was in it before the new variable took its place; k is the matrix before the tight closure
abbrev pub AssignMarksOf : ℕ → ℕ → Option Matrix → Option Blocks → Type 0
AssignMarksOf n x None r = Unit {0}
AssignMarksOf n x (Some k) r = MarksAllButTargetsOf n (x ∷ []) (octagon_of (n + 1) (tight k)) r

abbrev pub AssignMarks : ℕ → ℕ → Expression → Option Blocks → Option Blocks → Type 0
AssignMarks n x e None r = Unit {0}
AssignMarks n x e (Some a) r = AssignMarksOf n x (equated n e (whole n a)) r

-- all that is said of the value r after `x := e` on v
pub record IsAssigned (x : ℕ) (e : Expression) (v : Decomposed) (old new : ℕ) (r : Decomposed) : Type 0 where
  pub value : octagon r ≡ assign_value x e (octagon v)
  pub count : AssignCosts v.dims e v.blocks old new
  pub marks : AssignMarks v.dims x e v.blocks r.blocks
