-- What the value of a point is computed from.
use Rattle.std.specs.Prelude.{◌≡◌, ℕ, ◌<◌, Bool, true, nat_eq, List, [], ◌∷◌, ◌++◌, length, if◌then◌else◌}
use Rattle.std.specs.List.{list_any, filter, flat_map, range_with_len}
use Rattle.spl_core.specs.Parts.{Parts, edge_at, owner_of as owner_in}
use Rattle.spl_core.specs.Graph.{move_of, Move, skips, assigns, havocs, tests, calls, starts, Graph, proc_of, arc_at, main_of, owner_of}
use Rattle.call_graph.specs.Reach.{is_call_of}
use Rattle.call_graph.specs.Order.{is_entry}
use Rattle.equations.specs.declared.source.Source.{Source}
use Rattle.equations.specs.declared.source.Source.TheVariants.{Always, Flow, Enter, Back}

-- the source of a point behind an edge: a call's edge comes back, any other flows
abbrev pub source_by : ℕ → Move → Source
source_by e skips = Flow e
source_by e (assigns target x) = Flow e
source_by e (havocs target) = Flow e
source_by e (tests condition wanted) = Flow e
source_by e (calls callee args targets) = Back e
source_by e (starts copies) = Flow e

-- main's entry has the source that is always there
abbrev pub source_at_start : Graph → ℕ → List Source
source_at_start g x = if nat_eq x (proc_of g (main_of g)).entry then Always ∷ [] else []

-- an entry has each call of its procedure
abbrev pub source_into_entry : Graph → ℕ → ℕ → List Source
source_into_entry g p e = if is_call_of p (arc_at g e).move then Enter e ∷ [] else []

-- any other point has each edge into it
abbrev pub source_into_point : Graph → ℕ → ℕ → List Source
source_into_point g x e = if nat_eq (arc_at g e).target x then source_by e (arc_at g e).move ∷ [] else []

-- the sources of a point, in order of edges
unfoldable pub sources : Graph → ℕ → List Source
sources g x =
    if is_entry g x then source_at_start g x ++ flat_map (source_into_entry g (owner_of g x)) (range_with_len 0 (length g.arcs))
    else flat_map (source_into_point g x) (range_with_len 0 (length g.arcs))

-- a source of a point of a core: it names an edge of the core, into the point or, for an entry, a call of the point's procedure
abbrev pub SourceFits : Parts → ℕ → Source → Type 0
SourceFits c p Always = Unit {0}
SourceFits c p (Flow e) = (e < length c.edges) × ((edge_at c e).target ≡ p)
SourceFits c p (Enter e) = (e < length c.edges) × (is_call_of (owner_in c p) (move_of c (edge_at c e).action) ≡ true)
SourceFits c p (Back e) = (e < length c.edges) × ((edge_at c e).target ≡ p)

-- ---- the points that are read

abbrev pub exit_of : Graph → Move → ℕ → ℕ
exit_of g skips d = d
exit_of g (assigns target x) d = d
exit_of g (havocs target) d = d
exit_of g (tests condition wanted) d = d
exit_of g (calls callee args targets) d = (proc_of g callee).exit
exit_of g (starts copies) d = d

-- the points that a source reads, and those that a point reads; a return reads the point before the call and the callee's exit
abbrev pub reads_of : Graph → Source → List ℕ
reads_of g Always = []
reads_of g (Flow e) = (arc_at g e).source ∷ []
reads_of g (Enter e) = (arc_at g e).source ∷ []
reads_of g (Back e) = (arc_at g e).source ∷ exit_of g (arc_at g e).move (arc_at g e).source ∷ []

unfoldable pub reads_at : Graph → ℕ → List ℕ
reads_at g p = flat_map (reads_of g) (sources g p)

-- ---- the points that read

-- a source reads a point, and a point reads another by one of its sources
abbrev pub is_read_by : Graph → ℕ → Source → Bool
is_read_by g p s = list_any (nat_eq p) (reads_of g s)

abbrev pub is_reader : Graph → ℕ → ℕ → Bool
is_reader g p q = list_any (is_read_by g p) (sources g q)

-- the points that read a point, in rising order
unfoldable pub readers : Graph → ℕ → List ℕ
readers g p = filter (is_reader g p) (range_with_len 0 (length g.owners))
