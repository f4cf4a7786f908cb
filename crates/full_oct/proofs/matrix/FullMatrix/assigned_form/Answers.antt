use Rattle.std.proofs.Common.{◌∙◌, sym}
use Rattle.interval_form.specs.Sparse.{form_in}
use Rattle.full_oct.proofs.Forming.{length-equated, moved-none, moved-some}
use Rattle.full_oct.proofs.matrix.FullMatrix.assigned_form.Goals as goal

pub closed_and_moved-requires-clause-rows : goal.closed_and_moved-requires-clause-rows
closed_and_moved-requires-clause-rows c = length-equated c.args.dims (form_in c.args.dims c.args.form.now) c.args.self.now c.in-Some.m (sym c.in-Some.is ∙ c.in_ok-equated.ensures)

pub returns-in-None : goal.returns-in-None
returns-in-None c = moved-none c.args.dims c.args.target (form_in c.args.dims c.args.form.now) c.args.self.now (sym c.in-None.is ∙ c.in_ok-equated.ensures)

pub returns-in_ok-after-in-Some : goal.returns-in_ok-after-in-Some
returns-in_ok-after-in-Some c =
    moved-some c.args.dims c.args.target (form_in c.args.dims c.args.form.now) c.args.self.now c.in-Some.m c.in_ok-after-in-Some.after (sym c.in-Some.is ∙ c.in_ok-equated.ensures) c.in_ok-after-in-Some.ensures.moved
