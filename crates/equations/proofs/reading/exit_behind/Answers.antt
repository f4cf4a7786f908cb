use Rattle.equations.proofs.Readers.{exit_called}
use Rattle.equations.proofs.reading.exit_behind.Goals as goal

pub returns-in-Call : goal.returns-in-Call
returns-in-Call c =
    exit_called c.args.core.now c.args.e c.in-Call.callee c.edge_at-edge.result c.in-Call.args c.in-Call.targets c.proc_at.result c.edge_at-edge.ensures.found c.in-Call.is c.proc_at.ensures.found
