use Rattle.std.proofs.Common.{length, sym, arith, ◌∙◌}
use Rattle.conc_analysis.specs.Plan.{graph_in, stage_in}
use Rattle.conc_analysis.proofs.Turning.{ascent_begins, ascent_goes, ascent_stops, ascent_runs_out}
use Rattle.conc_analysis.proofs.rounds.ascend.Goals as goal

pub loop-done-init : goal.loop-done-init
loop-done-init c =
    let s = c.args.system.now in
    ascent_begins (graph_in s) s.sharing (length s.core.owners) c.args.order.now c.args.most (stage_in c.args.points.now.items c.args.writes.now.items) c.requires.long

pub loop-done-preserved : goal.loop-done-preserved
loop-done-preserved c =
    let s = c.args.system.now in
    ascent_goes (graph_in s) s.sharing (length s.core.owners) c.args.order.now c.args.most c.loop-done.done (stage_in c.args.points.now.items c.args.writes.now.items) (stage_in c.loop-done.points.items c.loop-done.writes.items) (stage_in c.round.new.points.items c.round.new.writes.items)
    c.loop-done-test.true c.loop-done.invariant c.in_ok-changed.ensures.long c.in_ok-changed.ensures.stage (sym c.in_ok-changed.ensures.changed ∙ c.if-not-changed.false)

pub returns-then-not-changed-clause-stage : goal.returns-then-not-changed-clause-stage
returns-then-not-changed-clause-stage c =
    let s = c.args.system.now in
    ascent_stops (graph_in s) s.sharing (length s.core.owners) c.args.order.now c.args.most c.loop-done.done (stage_in c.args.points.now.items c.args.writes.now.items) (stage_in c.loop-done.points.items c.loop-done.writes.items) (stage_in c.round.new.points.items c.round.new.writes.items)
    c.loop-done-test.true c.loop-done.invariant c.in_ok-changed.ensures.stage (sym c.in_ok-changed.ensures.changed ∙ c.if-not-changed.true)

pub returns-clause-stage : goal.returns-clause-stage
returns-clause-stage c =
    let s = c.args.system.now in
    ascent_runs_out (graph_in s) s.sharing (length s.core.owners) c.args.order.now c.args.most c.loop-done.done (stage_in c.args.points.now.items c.args.writes.now.items) (stage_in c.loop-done.points.items c.loop-done.writes.items) (omega (arith, c.loop-done-test.false, c.loop-done.auto.done-end)) c.loop-done.invariant
