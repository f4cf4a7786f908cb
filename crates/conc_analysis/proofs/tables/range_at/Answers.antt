use Rattle.conc_analysis.proofs.Coding.{stands_past}
use Rattle.conc_analysis.proofs.tables.range_at.Goals as goal
use Rattle.std.proofs.Common.{arith}

pub returns-else-v-dims : goal.returns-else-v-dims
returns-else-v-dims c = stands_past c.args.ranges.now c.args.v (omega (arith, c.dims.ensures.count, c.if-v-dims.false))
