-- What the parts of a core keep.
use Rattle.std.specs.Prelude.{◌≡◌, ◌≢◌, ℕ, ◌+◌, ◌-◌, ◌%◌, ◌<◌, ◌≤◌, List, length, slice_index_or}
use Rattle.std.specs.List.{All}
use Rattle.spl_core.specs.declared.parts.Span.{Span}
use Rattle.spl_core.specs.declared.parts.Edge.{Edge}
use Rattle.spl_core.specs.declared.parts.Action.{Action}
use Rattle.spl_core.specs.declared.parts.Action.TheVariants as action
use Rattle.spl_core.specs.declared.parts.Proc.{Proc}
use Rattle.spl_core.specs.declared.parts.CoreExpr.{CoreExpr}
use Rattle.spl_core.specs.declared.parts.CoreExpr.TheVariants.{Number, Variable, Neg, Add, Sub, Mul, Div, Rem}
use Rattle.spl_core.specs.declared.parts.CoreCond.{CoreCond}
use Rattle.spl_core.specs.declared.parts.CoreCond.TheVariants.{True, False, Random, Not, And, Or, Compare}
use Rattle.spl_core.specs.Limits.{most_procedures, most_points, most_dimensions, most_items, greatest_literal}
use Rattle.spl_core.specs.Parts.{Parts, proc_at, edge_at, owner_of, span_dims}
use Rattle.spl_core.specs.Expression.{IsOver}
use Rattle.spl_core.specs.Condition.{IsConditionOver}
use Rattle.spl_core.specs.Graph.{Copy, pairs_in, expr_at, exprs_in, cond_at, conds_in}

-- a fact of each item of a list and its number
abbrev pub Each : {X : Type 0} → (ℕ → X → Type 0) → List X → Type 0
Each {X} P xs = (k : ℕ) (d : X) → k < length xs → P k (slice_index_or xs k d)

-- ---- expressions and conditions: children come before parents, and no literal is above the greatest one

abbrev pub ExprFits : ℕ → CoreExpr → Type 0
ExprFits k (Number n) = n ≤ greatest_literal
ExprFits k (Variable v) = Unit {0}
ExprFits k (Neg a) = a < k
ExprFits k (Add a b) = (a < k) × (b < k)
ExprFits k (Sub a b) = (a < k) × (b < k)
ExprFits k (Mul a b) = (a < k) × (b < k)
ExprFits k (Div a b) = (a < k) × (b < k)
ExprFits k (Rem a b) = (a < k) × (b < k)

abbrev pub CondFits : Parts → ℕ → CoreCond → Type 0
CondFits c k True = Unit {0}
CondFits c k False = Unit {0}
CondFits c k Random = Unit {0}
CondFits c k (Not a) = a < k
CondFits c k (And a b) = (a < k) × (b < k)
CondFits c k (Or a b) = (a < k) × (b < k)
CondFits c k (Compare cmp a b) = (a < length c.exprs) × (b < length c.exprs)

-- ---- edges

-- the dimensions of a span, each below a number
abbrev pub SpanFits : Parts → ℕ → Span → Type 0
SpanFits c n s = (s.first + s.count ≤ length c.dims) × All (λ d. d < n) (span_dims c s)

-- a dimension of a procedure that may be written: none of its inputs
abbrev pub IsWritable : Proc → ℕ → Type 0
IsWritable p v = (p.inputs ≤ v) × (v < p.dims)

-- no two of some dimensions are the same
abbrev pub AreDistinct : List ℕ → Type 0
AreDistinct xs = (i j : ℕ) → i < j → j < length xs → slice_index_or xs i 0 ≢ slice_index_or xs j 0

-- a call of a procedure with as many arguments as inputs, and as many targets as outputs, from a point of procedure p
pub record CallFits (c : Parts) (p : Proc) (callee : ℕ) (args targets : Span) : Type 0 where
  pub callee_in_range : callee + 1 < length c.procs
  pub args_fit : SpanFits c p.dims args
  pub targets_fit : SpanFits c p.dims targets
  pub arguments : args.count ≡ (proc_at c callee).inputs
  pub results : targets.count ≡ (proc_at c callee).outputs
  pub distinct : AreDistinct (span_dims c targets)
  pub writable : All (IsWritable p) (span_dims c targets)

-- the pairs (working copy, input) of a start
pub record StartFits (c : Parts) (p : Proc) (pairs : Span) : Type 0 where
  pub pairs_fit : SpanFits c p.dims pairs
  pub even : pairs.count % 2 ≡ 0
  pub copies : All (λ (k : Copy). IsWritable p k.target) (pairs_in (span_dims c pairs))

-- what an edge of procedure p does: it names dimensions of that procedure alone, and writes no input
abbrev pub ActionFits : Parts → Proc → Action → Type 0
ActionFits c p action.Skip = Unit {0}
ActionFits c p (action.Assign target e) = IsWritable p target × (e < length c.exprs) × IsOver p.dims (expr_at (exprs_in c) e)
ActionFits c p (action.Havoc target) = IsWritable p target
ActionFits c p (action.Test e wanted) = (e < length c.conds) × IsConditionOver p.dims (cond_at (conds_in c) e)
ActionFits c p (action.Call callee args targets) = CallFits c p callee args targets
ActionFits c p (action.Start pairs) = StartFits c p pairs

-- an edge joins two points of one procedure; none enters an entry, and none leaves an exit
pub record EdgeFits (c : Parts) (e : Edge) : Type 0 where
  pub source : e.source < length c.owners
  pub target : e.target < length c.owners
  pub one_owner : owner_of c e.source ≡ owner_of c e.target
  pub acts : ActionFits c (proc_at c (owner_of c e.source)) e.action
  pub no_entry : e.target ≢ (proc_at c (owner_of c e.target)).entry
  pub no_exit : e.source ≢ (proc_at c (owner_of c e.source)).exit

abbrev pub IsCall : Action → Type 0
IsCall action.Skip = ⊥
IsCall (action.Assign target e) = ⊥
IsCall (action.Havoc target) = ⊥
IsCall (action.Test e wanted) = ⊥
IsCall (action.Call callee args targets) = Unit {0}
IsCall (action.Start pairs) = ⊥

-- a point with a call edge out has no other edge out
abbrev pub CallsAreAlone : Parts → Type 0
CallsAreAlone c = (i j : ℕ) → i < length c.edges → j < length c.edges → IsCall (edge_at c i).action
    → (edge_at c i).source ≡ (edge_at c j).source → i ≡ j

-- ---- procedures

pub record ProcFits (c : Parts) (p : ℕ) (q : Proc) : Type 0 where
  pub within : q.inputs + q.outputs ≤ q.dims
  pub few : q.dims ≤ most_dimensions
  pub entry : q.entry < length c.owners
  pub exit : q.exit < length c.owners
  pub owns_entry : owner_of c q.entry ≡ p
  pub owns_exit : owner_of c q.exit ≡ p

-- the limits on procedures, on points, and on each other list
pub record AreFew (c : Parts) : Type 0 where
  pub procs : length c.procs ≤ most_procedures
  pub points : length c.owners ≤ most_points
  pub edges : length c.edges < most_items
  pub dims : length c.dims < most_items
  pub exprs : length c.exprs < most_items
  pub conds : length c.conds < most_items

-- the parts of a core
pub record IsCore (c : Parts) : Type 0 where
  pub few : AreFew c
  pub main : 0 < length c.procs
  pub no_inputs : (proc_at c (length c.procs - 1)).inputs ≡ 0
  pub procs : Each (ProcFits c) c.procs
  pub owners : Each (λ k p. p < length c.procs) c.owners
  pub exprs : Each ExprFits c.exprs
  pub conds : Each (CondFits c) c.conds
  pub edges : Each (λ k e. EdgeFits c e) c.edges
  pub calls_alone : CallsAreAlone c
