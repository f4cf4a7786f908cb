use Rattle.std.proofs.Common.{rules}
use Rattle.spl_core.specs.Graph.{graph_of}
use Rattle.equations.proofs.calls.entered.Goals as goal

pub returns-in_ok-r-clause-value : goal.returns-in_ok-r-clause-value
unfolding graph_of
returns-in_ok-r-clause-value g c = search rules
