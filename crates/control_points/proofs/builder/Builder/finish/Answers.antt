use Rattle.control_points.specs.Nodes.{nodes_of}
use Rattle.control_points.proofs.Finished.{finished_core, core_graph}
use Rattle.control_points.proofs.builder.Builder.finish.Goals as goal

pub from_parts-core-requires : goal.from_parts-core-requires
from_parts-core-requires c =
    let b = c.self.inside in
    let n = nodes_of c.into_parts-exprs.result.0.items c.into_parts-exprs.result.1.items in
    finished_core c.law_graph.ensures.core b.nodes n b.edges.items b.dims.items b.fails.items b.points b.window c.args.self c.args.procs.items c.args.owners.items b.none c.self.view_is c.into_parts-exprs.ensures.parts c.into_parts-exprs.ensures.known c.self.invariant c.requires

pub returns-clause-graph : goal.returns-clause-graph
returns-clause-graph c =
    let b = c.self.inside in
    let n = nodes_of c.into_parts-exprs.result.0.items c.into_parts-exprs.result.1.items in
    core_graph b.nodes n c.from_parts-core.result b.edges.items b.dims.items b.fails.items b.points b.window c.args.self c.args.procs.items c.args.owners.items c.self.view_is c.into_parts-exprs.ensures.parts c.from_parts-core.ensures
