use Rattle.iteration.proofs.Forward.{graph_sized}
use Rattle.iteration.proofs.laws.law_sizes.Goals as goal

pub returns : goal.returns
returns c = graph_sized
