use Rattle.std.proofs.Common.{arith, ◌∙◌}
use Rattle.interval_form.proofs.Merging.{head_within, stands-absent}
use Rattle.interval_form.proofs.form.coefficient_from.Goals as goal

pub bounds-ts-at : goal.bounds-ts-at
bounds-ts-at c = head_within c.args.ts.now c.args.at (omega arith)

pub returns-else-head-v-clause-value : goal.returns-else-head-v-clause-value
returns-else-head-v-clause-value c = c.point.ensures ∙ stands-absent c.args.ts.now c.args.at c.args.v c.requires.stands (λ e. c.if-head-v.false (c.head.ensures ∙ e))
