-- The caller's variables that a callee's are.
use Rattle.std.specs.Prelude.{◌≡◌, ℕ, ◌<◌, nat_lt, Option, Some, None, List, length, slice_index_or, if◌then◌else◌}
use Rattle.dec_parts.specs.Rename.{origin}

-- an input is its argument, and no other variable is one
unfoldable pub argument_of : List ℕ → ℕ → Option ℕ
argument_of args v = if nat_lt v (length args) then Some (slice_index_or args v 0) else None

pub record AreInputs (args : List ℕ) (n : ℕ) (origins : List (Option ℕ)) : Type 0 where
  pub size : length origins ≡ n
  pub each : (v : ℕ) → v < n → origin origins v ≡ argument_of args v
