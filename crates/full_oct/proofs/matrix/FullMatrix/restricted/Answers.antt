use Rattle.std.proofs.Common.{length, sym, ap, ◌∙◌}
use Rattle.interval_form.specs.Sparse.{form_in}
use Rattle.full_oct.proofs.Testing.{restricted-none, restricted-some}
use Rattle.full_oct.proofs.matrix.FullMatrix.restricted.Goals as goal

pub bounded_by-requires-clause-rows : goal.bounded_by-requires-clause-rows
bounded_by-requires-clause-rows c = ap length c.in_ok-copy.ensures.same ∙ c.requires.rows

pub returns-in-None : goal.returns-in-None
returns-in-None c =
    restricted-none (form_in (length c.args.ranges.now) c.args.form.now) c.args.ranges.now c.args.self.now c.in_ok-copy.copy c.in_ok-copy.ensures.same (sym c.in-None.is ∙ c.in_ok-bounded.ensures)

pub returns-in_ok-closed-in-Some : goal.returns-in_ok-closed-in-Some
returns-in_ok-closed-in-Some c =
    restricted-some (form_in (length c.args.ranges.now) c.args.form.now) c.args.ranges.now c.args.self.now c.in_ok-copy.copy c.in-Some.m c.in_ok-closed-in-Some.closed c.in_ok-copy.ensures.same
    (sym c.in-Some.is ∙ c.in_ok-bounded.ensures) c.in_ok-closed-in-Some.ensures.tight
