use Rattle.std.proofs.Common.{arith}
use Rattle.conc_analysis.proofs.Coding.{with_same, with_other}
use Rattle.conc_analysis.proofs.tables.range_with.Goals as goal

pub returns-then-v-x : goal.returns-then-v-x
returns-then-v-x c = with_same c.args.ranges.now c.args.x c.args.v c.args.i c.if-v-x.true

pub returns-else-v-x : goal.returns-else-v-x
returns-else-v-x c = with_other c.args.ranges.now c.args.x c.args.v c.args.i c.range_at.result c.if-v-x.false c.range_at.ensures
