use Rattle.std.proofs.Common.{ap, ◌∙◌}
use Rattle.interval_form.specs.Form.{Form, form_value}
use Rattle.conc_analysis.specs.EnvironmentMove.{range_of_value}
use Rattle.conc_analysis.proofs.moves.value_of.Goals as goal

pub returns : goal.returns
unfolding range_of_value
returns c = c.value.ensures.value ∙ ap (λ (f : Form). form_value c.args.ranges.now f) c.in_ok-form.ensures.form
