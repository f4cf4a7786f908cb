use Rattle.std.proofs.Common.{map}
use Rattle.iteration.proofs.Planned.{is_solution, as_many}
use Rattle.iteration.proofs.analysis.analyse.Goals as goal

pub invariant_of-result : goal.invariant_of-result
invariant_of-result g c =
    let m = g.D.Domain.meaning in
    let r = c.in_ok-stored.field-0 in
    as_many m c.args.core.now c.args.delay c.args.descend c.in_ok-tables.tables r.stored.items (map m r.read.items) r.rounds c.in_ok-tables.ensures c.in_ok-stored.ensures.outcome

pub returns-clause-solution : goal.returns-clause-solution
returns-clause-solution g c =
    let m = g.D.Domain.meaning in
    let r = c.in_ok-stored.field-0 in
    is_solution c.args.core.now c.args.delay c.args.descend c.in_ok-tables.tables (map m r.stored.items) (map m r.read.items) r.rounds c.in_ok-tables.ensures c.in_ok-stored.ensures.outcome
