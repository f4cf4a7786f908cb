use Rattle.std.proofs.Common.{Some, refl, sym, subst, ap, ◌∙◌}
use Rattle.interval_form.specs.Interval.{unbounded}
use Rattle.spl_core.specs.declared.parts.Action.{Action}
use Rattle.spl_core.specs.Graph.{move_of, expr_at, exprs_in}
use Rattle.conc_analysis.specs.EnvironmentMove.{range_of_value}
use Rattle.conc_analysis.specs.Fits.{IsMoveIn}
use Rattle.conc_analysis.specs.Interference.{writes_of}
use Rattle.conc_analysis.proofs.Interfering.{own_write, shared_write}
use Rattle.conc_analysis.proofs.writing.action_write.Goals as goal

pub returns-in-None : goal.returns-in-None
returns-in-None c v =
    own_write c.args.threads.now c.args.t v c.in-Assign.target (range_of_value c.args.ranges.now (expr_at (exprs_in c.args.core.now) c.in-Assign.expr)) (sym c.in-None.is ∙ c.shared.ensures)
    ∙ sym (ap (λ (z : Action). writes_of c.args.threads.now c.args.t v (move_of c.args.core.now z) c.args.ranges.now) c.in-Assign.is)

pub returns-in_ok-range-in-Some : goal.returns-in_ok-range-in-Some
returns-in_ok-range-in-Some c v =
    shared_write c.args.threads.now c.args.t v c.in-Assign.target c.in-Some.variable (range_of_value c.args.ranges.now (expr_at (exprs_in c.args.core.now) c.in-Assign.expr)) c.in_ok-range-in-Some.range (sym c.in-Some.is ∙ c.shared.ensures) c.in_ok-range-in-Some.ensures
    ∙ sym (ap (λ (z : Action). writes_of c.args.threads.now c.args.t v (move_of c.args.core.now z) c.args.ranges.now) c.in-Assign.is)

pub returns-in-None-shared : goal.returns-in-None-shared
returns-in-None-shared c v =
    own_write c.args.threads.now c.args.t v c.in-Havoc.target unbounded (sym c.in-None-shared.is ∙ c.shared-in-Havoc.ensures)
    ∙ sym (ap (λ (z : Action). writes_of c.args.threads.now c.args.t v (move_of c.args.core.now z) c.args.ranges.now) c.in-Havoc.is)

pub returns-in-Some-shared : goal.returns-in-Some-shared
returns-in-Some-shared c v =
    shared_write c.args.threads.now c.args.t v c.in-Havoc.target c.in-Some-shared.variable unbounded unbounded (sym c.in-Some-shared.is ∙ c.shared-in-Havoc.ensures) refl
    ∙ sym (ap (λ (z : Action). writes_of c.args.threads.now c.args.t v (move_of c.args.core.now z) c.args.ranges.now) c.in-Havoc.is)
