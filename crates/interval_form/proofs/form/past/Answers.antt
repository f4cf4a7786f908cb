use Rattle.std.proofs.Common.{sym, ◌∙◌}
use Rattle.interval_form.proofs.Merging.{stands_over, stands_kept}
use Rattle.interval_form.proofs.form.past.Goals as goal

pub returns-then-head-v : goal.returns-then-head-v
returns-then-head-v c = stands_over c.args.ts.now c.args.at c.args.v c.requires.stands (sym c.head.ensures ∙ c.if-head-v.true) c.requires.small

pub returns-else-head-v : goal.returns-else-head-v
returns-else-head-v c = stands_kept c.args.ts.now c.args.at c.args.v c.requires.stands (λ e. c.if-head-v.false (c.head.ensures ∙ e)) c.requires.small
