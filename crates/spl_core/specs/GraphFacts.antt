-- What the graph of a core keeps.
use Rattle.std.specs.Prelude.{◌≡◌, ◌≢◌, ℕ, ◌+◌, ◌%◌, ◌<◌, ◌≤◌, List, length}
use Rattle.std.specs.List.{All}
use Rattle.spl_core.specs.declared.parts.Span.{Span}
use Rattle.spl_core.specs.declared.parts.Edge.{Edge}
use Rattle.spl_core.specs.declared.parts.Action.{Action}
use Rattle.spl_core.specs.declared.parts.Action.TheVariants as action
use Rattle.spl_core.specs.declared.parts.Proc.{Proc}
use Rattle.spl_core.specs.Limits.{most_procedures, most_points, most_dimensions, most_items}
use Rattle.spl_core.specs.Parts.{Parts}
use Rattle.spl_core.specs.Expression.{IsOver}
use Rattle.spl_core.specs.Condition.{IsConditionOver}
use Rattle.spl_core.specs.Facts.{Each, IsWritable, AreDistinct, ExprFits, CondFits, IsCore}
use Rattle.spl_core.specs.Graph.{Copy, Move, skips, assigns, havocs, tests, calls, starts, Arc, Graph, proc_in, proc_of, main_of, owner_of, proc_owning, arc_at, graph_of}

-- ---- edges

-- a call in procedure p: as many arguments as inputs, as many targets as outputs; main, the last one, isn't called
pub record CallMoveFits (procs : List Proc) (p : Proc) (callee : ℕ) (args targets : List ℕ) : Type 0 where
  pub callee_in_range : callee + 1 < length procs
  pub args_below : All (λ d. d < p.dims) args
  pub arguments : length args ≡ (proc_in procs callee).inputs
  pub results : length targets ≡ (proc_in procs callee).outputs
  pub distinct : AreDistinct targets
  pub writable : All (IsWritable p) targets

-- a copy into a dimension that may be written
pub record CopyFits (p : Proc) (copy : Copy) : Type 0 where
  pub target : IsWritable p copy.target
  pub origin : copy.origin < p.dims

-- what an edge of procedure p does: it names dimensions of that procedure alone, and writes no input
abbrev pub MoveFits : List Proc → Proc → Move → Type 0
MoveFits procs p skips = Unit {0}
MoveFits procs p (assigns target e) = IsWritable p target × IsOver p.dims e
MoveFits procs p (havocs target) = IsWritable p target
MoveFits procs p (tests c wanted) = IsConditionOver p.dims c
MoveFits procs p (calls callee args targets) = CallMoveFits procs p callee args targets
MoveFits procs p (starts copies) = All (CopyFits p) copies

-- an edge joins two points of one procedure; none enters an entry, and none leaves an exit
pub record ArcFits (g : Graph) (a : Arc) : Type 0 where
  pub source : a.source < length g.owners
  pub target : a.target < length g.owners
  pub one_owner : owner_of g a.source ≡ owner_of g a.target
  pub acts : MoveFits g.procs (proc_owning g a.source) a.move
  pub no_entry : a.target ≢ (proc_owning g a.target).entry
  pub no_exit : a.source ≢ (proc_owning g a.source).exit

abbrev pub IsCallMove : Move → Type 0
IsCallMove skips = ⊥
IsCallMove (assigns target e) = ⊥
IsCallMove (havocs target) = ⊥
IsCallMove (tests c wanted) = ⊥
IsCallMove (calls callee args targets) = Unit {0}
IsCallMove (starts copies) = ⊥

-- a point with a call edge out has no other edge out
abbrev pub CallArcsAreAlone : Graph → Type 0
CallArcsAreAlone g = (i j : ℕ) → i < length g.arcs → j < length g.arcs → IsCallMove (arc_at g i).move
    → (arc_at g i).source ≡ (arc_at g j).source → i ≡ j

-- ---- procedures and points

-- procedure number p owns its entry and its exit
pub record ProcFitsIn (g : Graph) (p : ℕ) (q : Proc) : Type 0 where
  pub within : q.inputs + q.outputs ≤ q.dims
  pub few : q.dims ≤ most_dimensions
  pub entry : q.entry < length g.owners
  pub exit : q.exit < length g.owners
  pub owns_entry : owner_of g q.entry ≡ p
  pub owns_exit : owner_of g q.exit ≡ p

-- the graph of a core
pub record IsGraph (g : Graph) : Type 0 where
  pub few_procs : length g.procs ≤ most_procedures
  pub few_points : length g.owners ≤ most_points
  pub main : 0 < length g.procs
  pub no_inputs : (proc_of g (main_of g)).inputs ≡ 0
  pub procs : Each (ProcFitsIn g) g.procs
  pub owners : All (λ p. p < length g.procs) g.owners
  pub arcs : All (ArcFits g) g.arcs
  pub calls_alone : CallArcsAreAlone g

-- ---- what the parts keep besides

-- a span within the list of dimensions; what an action names within the lists, and the pairs of a start whole
abbrev pub SpanIsIn : Parts → Span → Type 0
SpanIsIn c s = s.first + s.count ≤ length c.dims

abbrev pub ActionIsIn : Parts → Action → Type 0
ActionIsIn c action.Skip = Unit {0}
ActionIsIn c (action.Assign target e) = e < length c.exprs
ActionIsIn c (action.Havoc target) = Unit {0}
ActionIsIn c (action.Test e wanted) = e < length c.conds
ActionIsIn c (action.Call callee args targets) = SpanIsIn c args × SpanIsIn c targets
ActionIsIn c (action.Start pairs) = SpanIsIn c pairs × (pairs.count % 2 ≡ 0)

-- no list is too long, children come before parents, and edges name what is there
pub record NumbersFit (c : Parts) : Type 0 where
  pub few_edges : length c.edges < most_items
  pub few_dims : length c.dims < most_items
  pub few_exprs : length c.exprs < most_items
  pub few_conds : length c.conds < most_items
  pub exprs : Each ExprFits c.exprs
  pub conds : Each (CondFits c) c.conds
  pub edges : Each (λ k (e : Edge). ActionIsIn c e.action) c.edges

-- ---- laws: parts are those of a core exactly where their numbers fit and they stand for such a graph

abbrev pub CoresAreGraphs : Type 0
CoresAreGraphs = (c : Parts) → IsCore c → NumbersFit c × IsGraph (graph_of c)

abbrev pub GraphsAreCores : Type 0
GraphsAreCores = (c : Parts) → NumbersFit c → IsGraph (graph_of c) → IsCore c
