-- The sort of an expression, and the checks below it; a stack of expressions with the sorts that they're wanted to have.
use Rattle.std.specs.Prelude.{◌≡◌, ℕ, ◌+◌, ◌<◌, List, [], ◌∷◌, ◌++◌, length, sum_by, Result, MatchResult}
use Rattle.std.specs.List.{All}
use Rattle.spl_tree.specs.declared.parts.Expr.{Expr}
use Rattle.spl_tree.specs.Program.{ExprTree, number, variable, true_value, false_value, random_value, negative, opposite, binary}
use Rattle.spl_tree.specs.Meaning.{expr_at}
use Rattle.spl_types.specs.declared.exprs.Sort.{Sort as CodeSort}
use Rattle.spl_types.specs.declared.exprs.Sort.TheVariants.{Number as NumberSort, Condition as ConditionSort}
use Rattle.spl_types.specs.declared.exprs.Wanted.{Wanted}
use Rattle.spl_types.specs.declared.fault.CheckFault.{CheckFault}
use Rattle.spl_types.specs.declared.fault.CheckFault.TheVariants.{NoMemory}
use Rattle.spl_types.specs.Faults.{Faulted}
use Rattle.spl_types.specs.Checks.{Check, check, first_broken, Sort, a_number, a_condition, operand_sort, result_sort, is_among, expr_checks}
use Rattle.spl_types.specs.declared.fault.CheckRule.TheVariants.{UnknownVariable}

abbrev pub sort_of : CodeSort → Sort
sort_of NumberSort = a_number
sort_of ConditionSort = a_condition

-- the sort that an expression has
abbrev pub own_sort : ExprTree → Sort
own_sort (number n at) = a_number
own_sort (variable x at) = a_number
own_sort (true_value at) = a_condition
own_sort (false_value at) = a_condition
own_sort (random_value at) = a_condition
own_sort (negative a at) = a_number
own_sort (opposite a at) = a_condition
own_sort (binary op a b at) = result_sort op

-- the checks of an expression after that of its own sort
abbrev pub inner_checks : List (List ℕ) → ExprTree → List Check
inner_checks names (number n at) = []
inner_checks names (variable x at) = check UnknownVariable at (is_among x names) ∷ []
inner_checks names (true_value at) = []
inner_checks names (false_value at) = []
inner_checks names (random_value at) = []
inner_checks names (negative a at) = expr_checks names a_number a
inner_checks names (opposite a at) = expr_checks names a_condition a
inner_checks names (binary op a b at) = expr_checks names (operand_sort op) a ++ expr_checks names (operand_sort op) b

-- how many nodes an expression has
abbrev pub node_count : ExprTree → ℕ
node_count (number n at) = 1
node_count (variable x at) = 1
node_count (true_value at) = 1
node_count (false_value at) = 1
node_count (random_value at) = 1
node_count (negative a at) = node_count a + 1
node_count (opposite a at) = node_count a + 1
node_count (binary op a b at) = node_count a + node_count b + 1

-- the checks of what waits on a stack, its last item first
abbrev pub waiting_checks : List (List ℕ) → List ExprTree → List Wanted → List Check
waiting_checks names trees [] = []
waiting_checks names trees (w ∷ ws) = waiting_checks names trees ws ++ expr_checks names (sort_of w.sort) (expr_at trees w.expr)

-- how many nodes wait on a stack
abbrev pub waiting_count : List ExprTree → List Wanted → ℕ
waiting_count trees ws = sum_by (λ (w : Wanted). node_count (expr_at trees w.expr)) ws

-- what waits is there
abbrev pub AreThere : List Expr → List Wanted → Type 0
AreThere exprs ws = All (λ (w : Wanted). w.expr.0 < length exprs) ws

-- a step over a stack answers these checks by itself and by what it leaves waiting
abbrev pub LeavesChildren : List (List ℕ) → List ExprTree → List Expr → List Check → ℕ → List Wanted → List Wanted → Result (Unit {0}) CheckFault → Type 0
LeavesChildren names trees exprs cs count old new result = MatchResult result
    (λ _. (first_broken (waiting_checks names trees new) ≡ first_broken (cs ++ waiting_checks names trees old))
    × AreThere exprs new × (waiting_count trees new < waiting_count trees old + count))
    (Faulted (cs ++ waiting_checks names trees old))

-- an item was put on the stack, or memory was wanting
abbrev pub Pushed : List Wanted → Wanted → List Wanted → Result (Unit {0}) CheckFault → Type 0
Pushed old w new result = MatchResult result (λ _. new ≡ old ++ w ∷ []) (λ e. e ≡ NoMemory)
