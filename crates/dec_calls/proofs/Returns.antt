-- The value after a call.
use Rattle.std.proofs.Common.{◌≡◌, ℕ, ◌+◌, ◌≤◌, List, length, Option, Some, None, refl, ap, subst, ◌∙◌}
use Rattle.std.specs.Prelude.{IfSome, IsSome}
use Rattle.oct_def.specs.Tight.{tight}
use Rattle.oct_def.specs.Octagon.{Octagon, bottom_value}
use Rattle.interval_form.specs.declared.constraints.OctBound.{OctBound}
use Rattle.transfer_def.specs.Back.{back_value}
use Rattle.transfer_def.proofs.Moves.{back-bottom_caller, back-bottom_exit}
use Rattle.dec_oct.specs.Value.{Blocks, Decomposed, decomposed, octagon, octagon_of, whole, IsDecomposition, IsKeptBlocks, IsKept}
use Rattle.dec_parts.specs.Lower.{lowered_matrix}
use Rattle.dec_parts.specs.Moving.{moved_value}
use Rattle.dec_parts.proofs.Widened.{whole-extended}
use Rattle.dec_calls.specs.Brought.{AreBrought}
use Rattle.dec_calls.specs.Marks.{joined_value}
use Rattle.dec_calls.proofs.Bringing.{taken-is}

-- the closed value with the bounds taken, from the caller's blocks and the exit's
closed-blocks : (n d k : ℕ) (args : List ℕ) (outputs : ℕ) (a e : Blocks) (bounds : List OctBound) → k ≡ outputs → IsDecomposition n a → IsDecomposition d e → length args + outputs ≤ d → AreBrought n args outputs (whole d e) bounds
    → octagon_of (n + k) (tight (lowered_matrix (n + k) bounds (whole (n + k) a))) ≡ joined_value (octagon (decomposed n (Some a))) (octagon (decomposed d (Some e))) args outputs
unfolding joined_value
closed-blocks n d k args outputs a e bounds s va ve fit h =
    ap (λ o. octagon_of (n + o) (tight (lowered_matrix (n + o) bounds (whole (n + o) a)))) s
    ∙ ap (λ m. octagon_of (n + outputs) (tight m)) (ap (lowered_matrix (n + outputs) bounds) (whole-extended n outputs a va.parts) ∙ taken-is n d args outputs (whole n a) (whole d e) bounds va.value ve.value fit h)

-- what holds of that value holds of the definition's
pub from-closed : (P : Octagon → Type 0) (caller exit : Decomposed) (k : ℕ) (args : List ℕ) (outputs : ℕ) (bounds : List OctBound) → k ≡ outputs → IsKept caller → IsKept exit → length args + outputs ≤ exit.dims
    → IsSome caller.blocks → IsSome exit.blocks
    → IfSome exit.blocks (λ e. AreBrought caller.dims args outputs (whole exit.dims e) bounds)
    → IfSome caller.blocks (λ a. P (octagon_of (caller.dims + k) (tight (lowered_matrix (caller.dims + k) bounds (whole (caller.dims + k) a)))))
    → P (joined_value (octagon caller) (octagon exit) args outputs)
from-closed P caller exit k args outputs bounds s hc hx fit sc sx brought after = by caller.blocks exit.blocks hc.blocks hx.blocks sc sx brought after
  where
    by : (o p : Option Blocks) → IsKeptBlocks caller.dims o → IsKeptBlocks exit.dims p → IsSome o → IsSome p
        → IfSome p (λ e. AreBrought caller.dims args outputs (whole exit.dims e) bounds)
        → IfSome o (λ a. P (octagon_of (caller.dims + k) (tight (lowered_matrix (caller.dims + k) bounds (whole (caller.dims + k) a)))))
        → P (joined_value (octagon (decomposed caller.dims o)) (octagon (decomposed exit.dims p)) args outputs)
    by None p ho hp so sp b t = absurd (cc)
    by (Some a) None ho hp so sp b t = absurd (cc)
    by (Some a) (Some e) ho hp so sp b t = subst P (closed-blocks caller.dims exit.dims k args outputs a e bounds s ho hp fit b) t

-- moving the outputs makes the value after the call
pub moved-back : (caller exit : Octagon) (args : List ℕ) (outputs : ℕ) (targets : List ℕ) → moved_value caller.dims targets (joined_value caller exit args outputs) ≡ back_value caller exit args outputs targets
unfolding moved_value joined_value back_value
moved-back caller exit args outputs targets = refl

-- Bottom on either side
pub back-no_caller : (caller exit : Decomposed) (args : List ℕ) (outputs : ℕ) (targets : List ℕ) → caller.blocks ≡ None → back_value (octagon caller) (octagon exit) args outputs targets ≡ bottom_value caller.dims
unfolding bottom_value
back-no_caller caller exit args outputs targets e =
    ap (λ o. back_value (octagon (decomposed caller.dims o)) (octagon exit) args outputs targets) e ∙ back-bottom_caller caller.dims (octagon exit) args outputs targets

pub back-no_exit : (caller exit : Decomposed) (args : List ℕ) (outputs : ℕ) (targets : List ℕ) → exit.blocks ≡ None → back_value (octagon caller) (octagon exit) args outputs targets ≡ bottom_value caller.dims
unfolding bottom_value
back-no_exit caller exit args outputs targets e =
    ap (λ o. back_value (octagon caller) (octagon (decomposed exit.dims o)) args outputs targets) e ∙ back-bottom_exit (octagon caller) exit.dims args outputs targets
