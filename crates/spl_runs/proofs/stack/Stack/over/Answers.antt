use Rattle.spl_core.specs.Graph.{graph_of}
use Rattle.spl_runs.proofs.stack.Stack.over.Goals as goal

pub returns-in-Call : goal.returns-in-Call
unfolding graph_of
returns-in-Call c = rw c.in-Call.is c.enter.ensures
