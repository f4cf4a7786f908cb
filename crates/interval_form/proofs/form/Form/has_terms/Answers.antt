use Rattle.std.proofs.Common.{ap, ◌∙◌, not}
use Rattle.interval_form.specs.Sparse.{has_some}
use Rattle.interval_form.proofs.Dense.{has_terms-in, some-terms}
use Rattle.interval_form.proofs.form.Form.has_terms.Goals as goal

pub returns : goal.returns
returns c n h =
    ap not c.is_empty.ensures ∙ (some-terms c.self.inside.terms.items ∙ (ap (λ s. has_some s.terms) c.self.view_is ∙ has_terms-in n c.args.self.now h))
