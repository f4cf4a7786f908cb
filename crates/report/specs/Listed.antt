-- The constraints that are listed of a value, and their order.
use Rattle.std.specs.Prelude.{ℕ, ◌+◌, ◌*◌, Bool, true, false, List, [], ◌∷◌, ◌++◌, Option, None, Some, ℤ, pos, ◌+ℤ◌, if◌then◌else◌, unwrap_or}
use Rattle.std.specs.Option.{option_map}
use Rattle.std.specs.List.{flat_map, range_with_len}
use Rattle.std.specs.Ordering.{int_eq}
use Rattle.oct_def.specs.Bound.{Bound, half}
use Rattle.oct_def.specs.Table.{Matrix, at}
use Rattle.oct_def.specs.Tight.{implied_entry}
use Rattle.oct_def.specs.Octagon.{Octagon}
use Rattle.report.specs.Constraint.{opposite_term}
use Rattle.report.specs.declared.constraint.Term.{Term}
use Rattle.report.specs.declared.constraint.Sum.{Sum}
use Rattle.report.specs.declared.constraint.Relation.TheVariants.{AtLeastZero, Zero}
use Rattle.report.specs.declared.constraint.Constraint.{Constraint}

-- `sum + constant >= 0`, and `-sum + constant >= 0`
abbrev pub at_least : Sum → ℤ → Constraint
at_least sum c = record { first = sum.first; second = sum.second; constant = c; relation = AtLeastZero }

abbrev pub at_most_of : Sum → ℤ → Constraint
at_most_of sum c =
    record { first = opposite_term sum.first; second = option_map opposite_term sum.second; constant = c; relation = AtLeastZero }

-- `sum + constant = 0`
abbrev pub equal_to : Sum → ℤ → Constraint
equal_to sum c = record { first = sum.first; second = sum.second; constant = c; relation = Zero }

-- what is listed of a sum by a bound on minus the sum and a bound on the sum: an equality where the two meet
abbrev pub between : Sum → Bound → Bound → List Constraint
between sum None None = []
between sum (Some b) None = at_least sum b ∷ []
between sum None (Some a) = at_most_of sum a ∷ []
between sum (Some b) (Some a) =
    if int_eq (a +ℤ b) (pos 0) then equal_to sum b ∷ [] else at_least sum b ∷ (at_most_of sum a ∷ [])

abbrev pub plain : ℕ → Term
plain v = record { negative = false; variable = v }

abbrev pub minus : ℕ → Term
minus v = record { negative = true; variable = v }

-- ---- implied bounds

-- two bounds that are there and equal
abbrev pub same_bound : Bound → Bound → Bool
same_bound None b = false
same_bound (Some x) None = false
same_bound (Some x) (Some y) = int_eq x y

-- a bound, unless it is the implied one
abbrev pub unless_same : Bound → Bound → Bound
unless_same b implied = if same_bound b implied then None else b

-- the bound of a pair at (i, j): every one in a full list, else those that the two unary bounds don't imply
abbrev pub pair_bound : Bool → Matrix → ℕ → ℕ → Bound
pair_bound true m i j = at m i j
pair_bound false m i j = unless_same (at m i j) (implied_entry m i j)

-- the matrix of a value that isn't Bottom
abbrev pub matrix_at : Octagon → Matrix
matrix_at v = unwrap_or v.matrix []

-- ---- the order: for each variable v, the pairs with each u before it, and then v alone

-- the difference v - u, and then the sum u + v
unfoldable pub listed_pair : Bool → Matrix → ℕ → ℕ → List Constraint
listed_pair full m v u =
    between (record { first = minus u; second = Some (plain v) }) (pair_bound full m (2 * v) (2 * u)) (pair_bound full m (2 * u) (2 * v))
    ++ between (record { first = plain u; second = Some (plain v) }) (pair_bound full m (2 * u) (2 * v + 1)) (pair_bound full m (2 * u + 1) (2 * v))

-- the two bounds of v, which are the halves of its unary entries
unfoldable pub listed_alone : Matrix → ℕ → List Constraint
listed_alone m v =
    between (record { first = plain v; second = None }) (half (at m (2 * v) (2 * v + 1))) (half (at m (2 * v + 1) (2 * v)))

unfoldable pub listed_variable : Bool → Matrix → ℕ → List Constraint
listed_variable full m v = flat_map (listed_pair full m v) (range_with_len 0 v) ++ listed_alone m v

-- the constraints of a matrix over n variables, with or without the implied ones
unfoldable pub listed : Bool → ℕ → Matrix → List Constraint
listed full n m = flat_map (listed_variable full m) (range_with_len 0 n)

-- ---- what is said of a value

-- its constraints; none for Bottom, where no state is
abbrev pub Note : Type 0
Note = Option (List Constraint)

abbrev pub note_of : Bool → Octagon → Note
note_of full v = option_map (listed full v.dims) v.matrix
