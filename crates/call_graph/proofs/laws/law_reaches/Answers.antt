use Rattle.call_graph.proofs.Reaching.{reaches_exact}
use Rattle.call_graph.proofs.laws.law_reaches.Goals as goal

pub returns : goal.returns
returns c = reaches_exact
