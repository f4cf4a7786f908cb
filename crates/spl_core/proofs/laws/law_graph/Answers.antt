use Rattle.spl_core.proofs.Graphs.{cores_are_graphs, graphs_are_cores}
use Rattle.spl_core.proofs.laws.law_graph.Goals as goal

pub returns-clause-graph : goal.returns-clause-graph
returns-clause-graph c x is = cores_are_graphs x is

pub returns-clause-core : goal.returns-clause-core
returns-clause-core c x n g = graphs_are_cores x n g
