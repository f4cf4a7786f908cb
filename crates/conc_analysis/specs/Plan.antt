-- What the code of the rounds works on.
use Rattle.std.specs.Prelude.{◌≡◌, ℕ, ◌<◌, List, length, nat_eq, Option, Some, None, Vec, if◌then◌else◌}
use Rattle.std.specs.declared.alloc.Global.{Global}
use Rattle.spl_core.specs.Parts.{Parts}
use Rattle.spl_core.specs.Facts.{IsCore}
use Rattle.spl_core.specs.Graph.{Graph, graph_of}
use Rattle.call_graph.specs.Tables.{Tables, tables_of}
use Rattle.interval_form.specs.declared.interval.Interval.{Interval}
use Rattle.interval_form.specs.Interval.{range_at}
use Rattle.conc_front.specs.Sharing.{Sharing, IsThreaded}
use Rattle.conc_analysis.specs.declared.write.Write.{Write}
use Rattle.conc_analysis.specs.Environment.{Environment}
use Rattle.conc_analysis.specs.Equations.{Stage, point_at}
use Rattle.conc_analysis.specs.Solved.{read_of, rounds_of}
use Rattle.conc_analysis.specs.Tables.{rows_in}

-- a core, and which variables of its threads are main's
pub record Plan : Type 0 where
  pub core : Parts
  pub sharing : Sharing

abbrev pub graph_in : Plan → Graph
graph_in p = graph_of p.core

-- the program is one of threads, and the call graph is the core's
pub record IsPlan (p : Plan) (tables : Tables) : Type 0 where
  pub core : IsCore p.core
  pub threaded : IsThreaded (graph_of p.core) p.sharing
  pub tables_are : tables ≡ tables_of (graph_of p.core)

-- the environments of the points and the rows of the interference
abbrev pub stage_in : List Environment → List (Vec (Option Interval) Global) → Stage
stage_in points rows = record { points = points; writes = rows_in rows }

-- what a thread writes to a variable of main by one of its edges: none, or an interval to one variable
abbrev pub written_to : Option Write → ℕ → Option Interval
written_to None v = None
written_to (Some w) v = if nat_eq w.variable v then Some w.range else None

-- what is read at each point, and the number of rounds of the threads' ascent
pub record ConcReads : Type 0 where
  pub reads : List Environment
  pub rounds : ℕ

-- the range of a dimension; none for Bottom
abbrev pub range_in : Environment → ℕ → Option Interval
range_in None d = None
range_in (Some ranges) d = Some (range_at ranges d)

-- a solution of a program of threads
pub record IsConcSolution (g : Graph) (sharing : Sharing) (s : ConcReads) : Type 0 where
  pub points : length s.reads ≡ length g.owners
  pub reads : (p : ℕ) → p < length g.owners → point_at s.reads p ≡ read_of g sharing p
  pub rounds : s.rounds ≡ rounds_of g sharing
