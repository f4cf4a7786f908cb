use Rattle.std.proofs.Common.{◌≡◌, ℕ, ◌<◌, Some}
use Rattle.dec_parts.specs.Rename.{origin}
use Rattle.dec_parts.proofs.rename.is_repeated.Given as goal

abbrev pub invariant-loop-w : goal.invariant-loop-w
invariant-loop-w l = (k : ℕ) → k < l.w → (k ≡ l.v → ⊥) → origin l.origins k ≡ Some l.old → ⊥
