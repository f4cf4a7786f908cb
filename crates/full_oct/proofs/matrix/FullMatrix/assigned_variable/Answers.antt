use Rattle.full_oct.proofs.Forming.{copied-is}
use Rattle.full_oct.proofs.matrix.FullMatrix.assigned_variable.Goals as goal

pub assigned_form-requires-clause-over : goal.assigned_form-requires-clause-over
assigned_form-requires-clause-over c = c.in_ok-form.ensures.over c.args.dims c.requires.origin

pub returns : goal.returns
returns c = copied-is c.args.dims c.args.target c.args.origin c.args.self.now c.in_ok-form.form c.in_ok-after.after c.in_ok-form.ensures.form c.in_ok-after.ensures
