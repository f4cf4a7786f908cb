use Rattle.std.proofs.Common.{◌≡◌, ◌≤◌, map, take}
use Rattle.std.specs.List.{fold}
use Rattle.oct_def.specs.Octagon.{bottom_value}
use Rattle.spl_core.specs.Graph.{graph_of, dims_at}
use Rattle.equations.specs.Sources.{sources}
use Rattle.equations.specs.Equations.{value_in, with_source}
use Rattle.equations.proofs.joining.equation.Given as goal

abbrev pub invariant-loop-source : goal.invariant-loop-source
invariant-loop-source g l = (g.D.Domain.meaning l.value ≡ fold (with_source (graph_of l.core) (value_in (map g.D.Domain.meaning l.values)) l.p) (bottom_value (dims_at (graph_of l.core) l.p)) (take l.source-index (sources (graph_of l.core) l.p)))
    × (g.D.Domain.work l.fn.dom ≤ g.D.Domain.work l.dom)
