use Rattle.std.proofs.Common.{true, false}
use Rattle.rounds.specs.Slots.{cell_of}
use Rattle.rounds.proofs.Stepped.{value-narrowed, value-widened, value-joined, not-zero, by-phase, taken-either}
use Rattle.rounds.proofs.visiting.new_value.Goals as goal

pub returns-then-not-cut-clause-value : goal.returns-then-not-cut-clause-value
returns-then-not-cut-clause-value g c = taken-either (g.S.Equations.system c.args.system.now).widening c.args.down c.args.cut (cell_of g.D.Domain.meaning c.args.slot.now) (g.D.Domain.meaning c.args.source) c.if-not-cut.true

pub returns-then-down-clause-value : goal.returns-then-down-clause-value
returns-then-down-clause-value g c =
    by-phase (g.S.Equations.system c.args.system.now).widening c.args.down c.args.cut (cell_of g.D.Domain.meaning c.args.slot.now) (g.D.Domain.meaning c.args.source) (g.D.Domain.meaning c.in_ok-v.v) true c.if-down.true
    (value-narrowed c.args.cut (cell_of g.D.Domain.meaning c.args.slot.now) (g.D.Domain.meaning c.args.source) (g.D.Domain.meaning c.in_ok-v.v) c.if-not-cut.false c.in_ok-v.ensures.value)

pub returns-then-slot-eq0-clause-value : goal.returns-then-slot-eq0-clause-value
returns-then-slot-eq0-clause-value g c =
    by-phase (g.S.Equations.system c.args.system.now).widening c.args.down c.args.cut (cell_of g.D.Domain.meaning c.args.slot.now) (g.D.Domain.meaning c.args.source) (g.D.Domain.meaning c.in_ok-v-2.v) false c.if-down.false
    (value-widened (g.S.Equations.system c.args.system.now).widening c.args.cut (cell_of g.D.Domain.meaning c.args.slot.now) (g.D.Domain.meaning c.args.source) (g.D.Domain.meaning c.in_ok-v-2.v) c.if-not-cut.false c.if-slot-eq0.true c.in_ok-v-2.ensures.value)

pub returns-clause-value : goal.returns-clause-value
returns-clause-value g c =
    by-phase (g.S.Equations.system c.args.system.now).widening c.args.down c.args.cut (cell_of g.D.Domain.meaning c.args.slot.now) (g.D.Domain.meaning c.args.source) (g.D.Domain.meaning c.in_ok-v-3.v) false c.if-down.false
    (value-joined (g.S.Equations.system c.args.system.now).widening c.args.cut (cell_of g.D.Domain.meaning c.args.slot.now) (g.D.Domain.meaning c.args.source) (g.D.Domain.meaning c.in_ok-v-3.v) c.if-not-cut.false (not-zero c.args.slot.now.left c.if-slot-eq0.false) c.in_ok-v-3.ensures.value)
