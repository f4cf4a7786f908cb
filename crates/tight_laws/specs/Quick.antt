-- The quick closure after a change of one variable's rows and columns.
use Rattle.std.specs.Prelude.{ℕ, zero, suc, ◌+◌, ◌-◌, ◌*◌, ◌/◌, ◌||◌, nat_eq, nat_lt, Option, length, if◌then◌else◌}
use Rattle.oct_def.specs.Bound.{Bound}
use Rattle.oct_def.specs.Table.{Matrix, table, at}
use Rattle.oct_def.specs.Tight.{pair_entry, pair_step, tight_closed}

-- the entry after the step at w for the rows and columns of v alone
unfoldable pub near_entry : ℕ → ℕ → Matrix → ℕ → ℕ → Bound
near_entry v w m i j = if nat_eq (i / 2) v || nat_eq (j / 2) v then pair_entry w m i j else at m i j

unfoldable pub near_step : ℕ → ℕ → Matrix → Matrix
near_step v w m = table (length m) (near_entry v w m)

-- the steps at the variables below k other than v
unfoldable pub near_steps : ℕ → ℕ → Matrix → Matrix
near_steps v zero m = m
near_steps v (suc k) m = if nat_eq k v then near_steps v k m else near_step v k (near_steps v k m)

-- the rows of v are relaxed through all other variables twice; then come the step at v and the end of the tight closure
unfoldable pub quick_steps : ℕ → ℕ → Matrix → Matrix
quick_steps v n m = pair_step v (near_steps v n (near_steps v n m))

unfoldable pub quick : ℕ → Matrix → Option Matrix
quick v m = tight_closed (quick_steps v (length m / 2) m)

-- the same with one pass over the other variables
unfoldable pub quick_once : ℕ → Matrix → Option Matrix
quick_once v m = tight_closed (pair_step v (near_steps v (length m / 2) m))

-- the matrix of the variables other than v: its dimensions from 2v on are the matrix's from 2v + 2 on
unfoldable pub past : ℕ → ℕ → ℕ
past v i = if nat_lt i (2 * v) then i else i + 2

unfoldable pub without_entry : ℕ → Matrix → ℕ → ℕ → Bound
without_entry v m i j = at m (past v i) (past v j)

unfoldable pub without : ℕ → Matrix → Matrix
without v m = table (length m - 2) (without_entry v m)
