-- A core as a graph: what its numbers and spans stand for.
use Rattle.std.specs.Prelude.{ℕ, ◌-◌, Bool, true, false, nat_eq, List, [], ◌∷◌, ◌++◌, length, map, filter, slice_index_or}
use Rattle.spl_core.specs.declared.parts.Edge.{Edge}
use Rattle.spl_core.specs.declared.parts.Action.{Action}
use Rattle.spl_core.specs.declared.parts.Action.TheVariants as action
use Rattle.spl_core.specs.declared.parts.Proc.{Proc}
use Rattle.spl_core.specs.declared.parts.CoreExpr.{CoreExpr}
use Rattle.spl_core.specs.declared.parts.CoreExpr.TheVariants as expr
use Rattle.spl_core.specs.declared.parts.CoreCond.{CoreCond}
use Rattle.spl_core.specs.declared.parts.CoreCond.TheVariants as cond
use Rattle.spl_core.specs.Parts.{Parts, no_proc, span_dims}
use Rattle.spl_core.specs.Expression.{Expression, Number, Variable, Neg, Add, Sub, Mul, Div, Rem}
use Rattle.spl_core.specs.Condition.{Condition, Constant, Random, Not, And, Or, Compare}

-- a copy: the target takes the value of the origin
pub record Copy : Type 0 where
  pub target : ℕ
  pub origin : ℕ

-- what an edge does to a state; a start copies inputs into their working copies
pub data Move : Type 0 where
  skips : Move
  assigns : (target : ℕ) → Expression → Move
  havocs : (target : ℕ) → Move
  tests : Condition → (wanted : Bool) → Move
  calls : (callee : ℕ) → (args targets : List ℕ) → Move
  starts : (copies : List Copy) → Move

-- an edge from a point to a point
pub record Arc : Type 0 where
  pub source : ℕ
  pub target : ℕ
  pub move : Move

-- procedures, main last; the owner of each point; the edges in order
pub record Graph : Type 0 where
  pub procs : List Proc
  pub owners : List ℕ
  pub arcs : List Arc

-- ---- the parts of a graph by their numbers; past the end an empty one, of which nothing is said

abbrev pub proc_in : List Proc → ℕ → Proc
proc_in procs p = slice_index_or procs p no_proc

abbrev pub proc_of : Graph → ℕ → Proc
proc_of g p = proc_in g.procs p

abbrev pub no_arc : Arc
no_arc = record { source = 0; target = 0; move = skips }

abbrev pub arc_at : Graph → ℕ → Arc
arc_at g e = slice_index_or g.arcs e no_arc

-- main is the last procedure
abbrev pub main_of : Graph → ℕ
main_of g = length g.procs - 1

-- the number of the procedure that owns a point, the procedure, and how many dimensions a state has there
abbrev pub owner_of : Graph → ℕ → ℕ
owner_of g point = slice_index_or g.owners point 0

abbrev pub proc_owning : Graph → ℕ → Proc
proc_owning g point = proc_of g (owner_of g point)

abbrev pub dims_at : Graph → ℕ → ℕ
dims_at g point = (proc_owning g point).dims

-- the edges out of a point and those into it, in the order of edges
abbrev pub arcs_out : Graph → ℕ → List Arc
arcs_out g point = filter (λ a. nat_eq a.source point) g.arcs

abbrev pub arcs_into : Graph → ℕ → List Arc
arcs_into g point = filter (λ a. nat_eq a.target point) g.arcs

-- ---- the graph that the parts stand for

-- the expressions, each over those before it
abbrev pub expr_at : List Expression → ℕ → Expression
expr_at trees e = slice_index_or trees e (Number 0)

abbrev pub expr_over : List Expression → CoreExpr → Expression
expr_over trees (expr.Number n) = Number n
expr_over trees (expr.Variable v) = Variable v
expr_over trees (expr.Neg a) = Neg (expr_at trees a)
expr_over trees (expr.Add a b) = Add (expr_at trees a) (expr_at trees b)
expr_over trees (expr.Sub a b) = Sub (expr_at trees a) (expr_at trees b)
expr_over trees (expr.Mul a b) = Mul (expr_at trees a) (expr_at trees b)
expr_over trees (expr.Div a b) = Div (expr_at trees a) (expr_at trees b)
expr_over trees (expr.Rem a b) = Rem (expr_at trees a) (expr_at trees b)

abbrev pub exprs_after : List Expression → List CoreExpr → List Expression
exprs_after trees [] = trees
exprs_after trees (e ∷ exprs) = exprs_after (trees ++ expr_over trees e ∷ []) exprs

-- the conditions, each over those before it and the expressions
abbrev pub cond_at : List Condition → ℕ → Condition
cond_at trees c = slice_index_or trees c Random

abbrev pub cond_over : List Expression → List Condition → CoreCond → Condition
cond_over exprs trees cond.True = Constant true
cond_over exprs trees cond.False = Constant false
cond_over exprs trees cond.Random = Random
cond_over exprs trees (cond.Not a) = Not (cond_at trees a)
cond_over exprs trees (cond.And a b) = And (cond_at trees a) (cond_at trees b)
cond_over exprs trees (cond.Or a b) = Or (cond_at trees a) (cond_at trees b)
cond_over exprs trees (cond.Compare r a b) = Compare r (expr_at exprs a) (expr_at exprs b)

abbrev pub conds_after : List Expression → List Condition → List CoreCond → List Condition
conds_after exprs trees [] = trees
conds_after exprs trees (c ∷ conds) = conds_after exprs (trees ++ cond_over exprs trees c ∷ []) conds

abbrev pub exprs_in : Parts → List Expression
exprs_in c = exprs_after [] c.exprs

abbrev pub conds_in : Parts → List Condition
conds_in c = conds_after (exprs_in c) [] c.conds

-- the pairs (target, origin) that stand one after the other in a list
abbrev pub pairs_in : List ℕ → List Copy
pairs_in [] = []
pairs_in (x ∷ []) = []
pairs_in (x ∷ y ∷ dims) = record { target = x; origin = y } ∷ pairs_in dims

-- what an edge does
abbrev pub move_of : Parts → Action → Move
move_of c action.Skip = skips
move_of c (action.Assign target e) = assigns target (expr_at (exprs_in c) e)
move_of c (action.Havoc target) = havocs target
move_of c (action.Test e wanted) = tests (cond_at (conds_in c) e) wanted
move_of c (action.Call callee args targets) = calls callee (span_dims c args) (span_dims c targets)
move_of c (action.Start pairs) = starts (pairs_in (span_dims c pairs))

abbrev pub arc_of : Parts → Edge → Arc
arc_of c e = record { source = e.source; target = e.target; move = move_of c e.action }

-- the graph of a core
unfoldable pub graph_of : Parts → Graph
graph_of c = record { procs = c.procs; owners = c.owners; arcs = map (arc_of c) c.edges }
