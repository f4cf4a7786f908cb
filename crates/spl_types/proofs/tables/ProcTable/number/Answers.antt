use Rattle.std.proofs.Common.{ap, ◌∙◌}
use Rattle.spl_types.specs.Tables.{number_in}
use Rattle.spl_types.proofs.Numbering.{number_along}
use Rattle.spl_types.proofs.tables.ProcTable.number.Goals as goal

pub returns : goal.returns
returns c = c.copied.ensures ∙ (c.get.ensures.value ∙ (number_along c.args.name.now c.self.inside.numbers.entries ∙ ap (λ t. number_in c.args.name.now t) c.self.view_is))
