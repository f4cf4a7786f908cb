-- The equations of the analysis: X gives each point a value, and F the value that a point has by what it is computed from.
use Rattle.std.specs.Prelude.{◌≡◌, ℕ, ◌<◌, Bool, nat_eq, List, length, slice_index_or, if◌then◌else◌}
use Rattle.std.specs.List.{fold}
use Rattle.oct_def.specs.Octagon.{Octagon, MeetsOctagon, bottom_value, top_value, tight_value, join_value, narrow_value}
use Rattle.spl_core.specs.Expression.{State}
use Rattle.spl_core.specs.Graph.{Move, skips, assigns, havocs, tests, calls, starts, Graph, proc_of, arc_at, dims_at}
use Rattle.spl_core.specs.GraphFacts.{IsGraph}
use Rattle.transfer_def.specs.Move.{move_value}
use Rattle.transfer_def.specs.Enter.{enter_value}
use Rattle.transfer_def.specs.Back.{back_value}
use Rattle.equations.specs.declared.source.Source.{Source}
use Rattle.equations.specs.declared.source.Source.TheVariants.{Always, Flow, Enter, Back}
use Rattle.spl_runs.specs.Comes.{Comes}
use Rattle.equations.specs.Sources.{sources}

-- the value at a callee's entry, from that at the call
abbrev pub entered_by : Graph → Move → Octagon → Octagon
entered_by g skips v = v
entered_by g (assigns target x) v = v
entered_by g (havocs target) v = v
entered_by g (tests condition wanted) v = v
entered_by g (calls callee args targets) v = enter_value v args (proc_of g callee).dims
entered_by g (starts copies) v = v

-- the value after the call, from that at the call and that of the callee's exit
abbrev pub returned_by : Graph → (ℕ → Octagon) → Move → Octagon → Octagon
returned_by g r skips v = v
returned_by g r (assigns target x) v = v
returned_by g r (havocs target) v = v
returned_by g r (tests condition wanted) v = v
returned_by g r (calls callee args targets) v = back_value v (r (proc_of g callee).exit) args (proc_of g callee).outputs targets
returned_by g r (starts copies) v = v

-- what a source brings to a point, of the values that are read
abbrev pub brought : Graph → (ℕ → Octagon) → ℕ → Source → Octagon
brought g r x Always = top_value (dims_at g x)
brought g r x (Flow e) = move_value (arc_at g e).move (r (arc_at g e).source)
brought g r x (Enter e) = entered_by g (arc_at g e).move (r (arc_at g e).source)
brought g r x (Back e) = returned_by g r (arc_at g e).move (r (arc_at g e).source)

abbrev pub with_source : Graph → (ℕ → Octagon) → ℕ → Octagon → Source → Octagon
with_source g r x v s = join_value v (brought g r x s)

-- F: the join over the sources of a point; Bottom where there's none
unfoldable pub equation : Graph → (ℕ → Octagon) → ℕ → Octagon
equation g r x = fold (with_source g r x) (bottom_value (dims_at g x)) (sources g x)

-- a cut point is read through its tight closure
abbrev pub read : (ℕ → Bool) → (ℕ → Octagon) → ℕ → Octagon
read cut x p = if cut p then tight_value (x p) else x p

-- the value of a point, where the values of the points stand in a list
abbrev pub value_in : List Octagon → ℕ → Octagon
value_in values p = slice_index_or values p (bottom_value 0)

-- ---- coverage

-- each value has its point's dimensions
pub record AreSized (g : Graph) (x : ℕ → Octagon) : Type 0 where
  pub dims : (p : ℕ) → p < length g.owners → (x p).dims ≡ dims_at g p

-- each state that comes to a point meets the value there
pub record Covers (g : Graph) (x : ℕ → Octagon) : Type 0 where
  pub meets : (p : ℕ) (s : State) → Comes g p s → MeetsOctagon s (x p)

-- the value at p replaced
abbrev pub replaced : (ℕ → Octagon) → ℕ → Octagon → ℕ → Octagon
replaced x p v q = if nat_eq q p then v else x q

-- what the descent puts at a point: the narrowing with F at a cut point, F elsewhere
abbrev pub lowered : Graph → (ℕ → Bool) → (ℕ → Octagon) → ℕ → Octagon
lowered g cut x p = if cut p then narrow_value (x p) (equation g (read cut x) p) else equation g (read cut x) p

-- ---- laws

-- what is read is covered too
abbrev pub ReadingCovers : Type 0
ReadingCovers = (g : Graph) (cut : ℕ → Bool) (x : ℕ → Octagon) → Covers g x → Covers g (read cut x)

-- where all points are covered, F covers them
abbrev pub EquationsCover : Type 0
EquationsCover = (g : Graph) (cut : ℕ → Bool) (x : ℕ → Octagon) → IsGraph g → AreSized g x → Covers g x → Covers g (equation g (read cut x))

-- one replacement of the descent keeps all points covered
abbrev pub LoweringCovers : Type 0
LoweringCovers = (g : Graph) (cut : ℕ → Bool) (x : ℕ → Octagon) (p : ℕ) → IsGraph g → AreSized g x → Covers g x → Covers g (replaced x p (lowered g cut x p))

-- where each state that meets F at a point meets the value there, all points are covered
abbrev pub SolutionsCover : Type 0
SolutionsCover =
    (g : Graph) (cut : ℕ → Bool) (x : ℕ → Octagon)
    → IsGraph g
    → AreSized g x
    → ((p : ℕ) (s : State) → p < length g.owners → MeetsOctagon s (equation g (read cut x) p) → MeetsOctagon s (x p))
    → Covers g x
