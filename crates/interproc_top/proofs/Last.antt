-- The last top frame of a run.
use Rattle.std.proofs.Common.{◌≡◌, ℕ, zero, suc, List, [], ◌∷◌, length, refl, arith, slice_index_or}
use Rattle.spl_runs.specs.Replay.{Top}
use Rattle.interproc_top.specs.Replay.{last_point}

pub last-is : (tops : List Top) (k : ℕ) (d : Top) → suc k ≡ length tops → last_point tops ≡ (slice_index_or tops k d).point
last-is [] k d e = absurd (omega (arith, e))
last-is (top ∷ []) zero d e = refl
last-is (top ∷ []) (suc k) d e = absurd (omega (arith, e))
last-is (top ∷ next ∷ tops) zero d e = absurd (omega (arith, e))
last-is (top ∷ next ∷ tops) (suc k) d e = last-is (next ∷ tops) k d (omega (arith, e))
