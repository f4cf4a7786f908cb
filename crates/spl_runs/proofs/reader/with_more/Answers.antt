use Rattle.std.proofs.Common.{rules}
use Rattle.spl_runs.proofs.Fitting.{none_of, less_of, more_of}
use Rattle.spl_runs.proofs.reader.with_more.Goals as goal

pub returns-in_err-shifted : goal.returns-in_err-shifted
returns-in_err-shifted c = none_of c.args.minus c.args.number c.args.digit c.from_residual.result c.requires c.ranges.number c.from_residual.ensures c.in_err-shifted.ensures

pub returns-then-minus : goal.returns-then-minus
returns-then-minus c = rw c.if-minus.true (less_of c.args.number c.in_ok-shifted.shifted c.from.result c.args.digit c.checked_sub.result c.ranges.number (search rules) c.from.ensures c.in_ok-shifted.ensures c.checked_sub.ensures)

pub returns-else-minus : goal.returns-else-minus
returns-else-minus c = rw c.if-minus.false (more_of c.args.number c.in_ok-shifted.shifted c.from-else-minus.result c.args.digit c.checked_add.result c.ranges.number (search rules) c.from-else-minus.ensures c.in_ok-shifted.ensures c.checked_add.ensures)
