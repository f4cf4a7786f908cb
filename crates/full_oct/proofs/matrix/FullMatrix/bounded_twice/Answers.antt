use Rattle.std.proofs.Common.{◌∙◌, length, sym, ap}
use Rattle.std.specs.Option.{option_and_then}
use Rattle.interval_form.specs.Sparse.{form_in}
use Rattle.interval_form.specs.FormBounds.{bounded}
use Rattle.full_oct.proofs.Taking.{length-bounded}
use Rattle.full_oct.proofs.matrix.FullMatrix.bounded_twice.Goals as goal

pub bounded_by-requires-in-Some-clause-rows : goal.bounded_by-requires-in-Some-clause-rows
bounded_by-requires-in-Some-clause-rows c =
    let ranges = c.args.ranges.now in
    length-bounded ranges (form_in (length ranges) c.args.first.now) c.args.self c.in-Some.m (sym c.in-Some.is ∙ c.in_ok-bounded.ensures) ∙ c.requires.rows

pub returns-in-None : goal.returns-in-None
returns-in-None c =
    let ranges = c.args.ranges.now in
    ap (option_and_then (bounded ranges (form_in (length ranges) c.args.second.now))) (sym c.in-None.is ∙ c.in_ok-bounded.ensures)

pub returns-in_ok-both-in-Some : goal.returns-in_ok-both-in-Some
returns-in_ok-both-in-Some c =
    let ranges = c.args.ranges.now in
    c.in_ok-both-in-Some.ensures ∙ ap (option_and_then (bounded ranges (form_in (length ranges) c.args.second.now))) (sym c.in-Some.is ∙ c.in_ok-bounded.ensures)
