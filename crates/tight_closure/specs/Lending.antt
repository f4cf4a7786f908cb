-- The room that is lent to be written.
use Rattle.std.specs.Prelude.{ℕ, List, ℤ}
use Rattle.std.specs.Borrow.{Lends, MutBor, Fml, Array, i64}
use Rattle.tight_closure.specs.contracts.block.Scratch.{the_row}

-- the room stays as large, whatever is written there
abbrev pub LendsRoom : MutBor ℕ → MutBor (List ℤ) → Fml
LendsRoom s r = Lends the_row (Array i64 0) s r (λ w. s.now)
