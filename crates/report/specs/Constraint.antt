-- Constraints on a state: one or two signed variables and a constant, whose sum is at least 0, or 0.
use Rattle.std.specs.Prelude.{◌≡◌, Bool, true, false, not, List, Option, None, Some, ℤ, pos, ◌+ℤ◌, ◌≤ℤ◌, neg_ℤ}
use Rattle.oct_def.specs.Matrix.{value_at}
use Rattle.report.specs.declared.constraint.Term.{Term}
use Rattle.report.specs.declared.constraint.Relation.{Relation}
use Rattle.report.specs.declared.constraint.Relation.TheVariants.{AtLeastZero, Zero}
use Rattle.report.specs.declared.constraint.Constraint.{Constraint}

-- the value of a term in a state
abbrev pub signed : Bool → ℤ → ℤ
signed true x = neg_ℤ x
signed false x = x

abbrev pub term_value : Term → List ℤ → ℤ
term_value t s = signed t.negative (value_at s t.variable)

abbrev pub second_value : Option Term → List ℤ → ℤ
second_value None s = pos 0
second_value (Some t) s = term_value t s

-- the sum of the terms and the constant
abbrev pub total : Constraint → List ℤ → ℤ
total c s = (term_value c.first s +ℤ second_value c.second s) +ℤ c.constant

abbrev pub Stands : Relation → ℤ → Type 0
Stands AtLeastZero x = pos 0 ≤ℤ x
Stands Zero x = x ≡ pos 0

-- a state satisfies a constraint, as arithmetic says
abbrev pub Satisfies : List ℤ → Constraint → Type 0
Satisfies s c = Stands c.relation (total c s)

-- the opposite of a term
abbrev pub opposite_term : Term → Term
opposite_term t = record t { negative = not t.negative }
