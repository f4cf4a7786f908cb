use Rattle.call_graph.proofs.Sorting.{is_order}
use Rattle.call_graph.proofs.laws.law_order.Goals as goal

pub returns : goal.returns
returns c = is_order
