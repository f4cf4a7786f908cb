use Rattle.std.proofs.Common.{map, ◌∙◌}
use Rattle.equations.specs.Equations.{value_in}
use Rattle.equations.proofs.Calling.{outputs_inside, return_call}
use Rattle.equations.proofs.calls.returned.Goals as goal

pub back-requires-clause-inside : goal.back-requires-clause-inside
back-requires-clause-inside g c =
    let m = g.D.Domain.meaning in
    outputs_inside c.args.core.now c.args.p c.args.action c.in-Call.callee c.in-Call.args c.in-Call.targets (value_in (map m c.args.values.now)) c.deref.result.now c.proc_at-routine.result (m c.read-exit.result.now)
    c.proc_at-routine.ensures.known c.requires.sized c.requires.fits c.in-Call.is
    (c.deref.ensures.value ∙ c.in_ok-args.ensures) c.proc_at-routine.ensures.found c.read-exit.ensures

pub returns-in_ok-r-clause-value : goal.returns-in_ok-r-clause-value
returns-in_ok-r-clause-value g c =
    let m = g.D.Domain.meaning in
    return_call c.args.core.now (value_in (map m c.args.values.now)) c.args.action c.in-Call.callee c.in-Call.args c.in-Call.targets (m c.args.v.now) (m c.read-exit.result.now) (m c.in_ok-r.r) c.deref.result.now c.deref-in-Call.result.now c.proc_at-routine.result
    c.in-Call.is (c.deref.ensures.value ∙ c.in_ok-args.ensures) (c.deref-in-Call.ensures.value ∙ c.in_ok-targets.ensures) c.proc_at-routine.ensures.found c.read-exit.ensures c.in_ok-r.ensures.value
