use Rattle.std.proofs.Common.{◌∙◌}
use Rattle.interval_form.proofs.Ranging.{ranges-none, range-pushed}
use Rattle.full_oct.proofs.ranges.read.Goals as goal

pub variables-init : goal.variables-init
variables-init c = c.new-ranges.ensures.items ∙ ranges-none c.args.matrix.now

pub variables-preserved : goal.variables-preserved
variables-preserved c = range-pushed c.variables.v c.args.matrix.now c.push.new.self.items c.variables.ranges.items c.range.result c.variables.invariant c.range.ensures c.in_ok-push.ensures.items
