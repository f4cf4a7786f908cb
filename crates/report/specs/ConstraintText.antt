-- The texts of constraints.
use Rattle.std.specs.Prelude.{ℕ, zero, suc, Bool, true, false, List, [], ◌∷◌, ◌++◌, Option, None, Some, ℤ, pos, negsuc, decimal, codes, slice_index_or}
use Rattle.std.specs.List.{flat_map}
use Rattle.report.specs.Listed.{Note}
use Rattle.report.specs.declared.constraint.Term.{Term}
use Rattle.report.specs.declared.constraint.Relation.{Relation}
use Rattle.report.specs.declared.constraint.Relation.TheVariants.{AtLeastZero, Zero}
use Rattle.report.specs.declared.constraint.Constraint.{Constraint}

-- the name of a variable
abbrev pub name_of : List (List ℕ) → ℕ → List ℕ
name_of names v = slice_index_or names v []

-- the first term has no plus
abbrev pub first_sign : Bool → List ℕ
first_sign true = codes "-"
first_sign false = []

abbrev pub next_sign : Bool → List ℕ
next_sign true = codes "-"
next_sign false = codes "+"

abbrev pub second_text : List (List ℕ) → Option Term → List ℕ
second_text names None = []
second_text names (Some t) = next_sign t.negative ++ name_of names t.variable

-- the constant with its sign; 0 is left out
abbrev pub constant_text : ℤ → List ℕ
constant_text (pos zero) = []
constant_text (pos (suc n)) = codes "+" ++ decimal (suc n)
constant_text (negsuc n) = codes "-" ++ decimal (suc n)

abbrev pub relation_text : Relation → List ℕ
relation_text AtLeastZero = codes ">=0"
relation_text Zero = codes "=0"

abbrev pub constraint_text : List (List ℕ) → Constraint → List ℕ
constraint_text names c =
    first_sign c.first.negative
    ++ (name_of names c.first.variable ++ (second_text names c.second ++ (constant_text c.constant ++ relation_text c.relation)))

-- a later constraint, behind its semicolon
abbrev pub next_constraint_text : List (List ℕ) → Constraint → List ℕ
next_constraint_text names c = codes "; " ++ constraint_text names c

-- `top` where none is listed
abbrev pub constraints_text : List (List ℕ) → List Constraint → List ℕ
constraints_text names [] = codes "top"
constraints_text names (c ∷ cs) =
    codes "[|" ++ (constraint_text names c ++ (flat_map (next_constraint_text names) cs ++ codes "|]"))

-- the text of what is said at a point
abbrev pub note_text : List (List ℕ) → Note → List ℕ
note_text names None = codes "bottom"
note_text names (Some constraints) = constraints_text names constraints
