use Rattle.std.proofs.Common.{sym, ◌∙◌}
use Rattle.conc_analysis.proofs.Planning.{own_entry, shared_entry}
use Rattle.conc_analysis.proofs.equation.entry_range.Goals as goal

pub returns-in-None : goal.returns-in-None
returns-in-None c = own_entry c.args.threads.now c.args.t c.args.d c.args.exit.now (sym c.in-None.is ∙ c.shared.ensures)

pub returns-in-Some : goal.returns-in-Some
returns-in-Some c = shared_entry c.args.threads.now c.args.t c.args.d c.in-Some.v c.args.exit.now c.range_at.result (sym c.in-Some.is ∙ c.shared.ensures) c.range_at.ensures
