-- The names of variables, as the code holds them.
use Rattle.std.specs.Prelude.{◌≡◌, ℕ, ◌<◌, List, Option, None, Some, Vec, slice_get}
use Rattle.std.specs.Option.{option_map}
use Rattle.std.specs.declared.alloc.Global.{Global}
use Rattle.report.specs.Listed.{Note}
use Rattle.report.specs.declared.constraint.Term.{Term}
use Rattle.report.specs.declared.constraint.Constraint.{Constraint}

-- what is said at a point
abbrev pub note_now : Option (Vec Constraint Global) → Note
note_now note = option_map (λ (v : Vec Constraint Global). v.items) note

-- ---- each variable has a name

abbrev pub IsSecondNamed : ℕ → Option Term → Type 0
IsSecondNamed n None = Unit {0}
IsSecondNamed n (Some t) = t.variable < n

abbrev pub IsNamed : ℕ → Constraint → Type 0
IsNamed n c = (c.first.variable < n) × IsSecondNamed n c.second

pub record AllNamed (n : ℕ) (constraints : List Constraint) : Type 0 where
  pub each : (k : ℕ) (c : Constraint) → slice_get constraints k ≡ Some c → IsNamed n c

abbrev pub AreNamed : ℕ → Note → Type 0
AreNamed n None = Unit {0}
AreNamed n (Some constraints) = AllNamed n constraints
