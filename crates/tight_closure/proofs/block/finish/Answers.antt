use Rattle.std.proofs.Common.{sym, ap, ◌∙◌, subst, arith, length}
use Rattle.oct_def.specs.Bound.{InRange}
use Rattle.oct_def.specs.Table.{Matrix, at}
use Rattle.oct_def.specs.Tight.{evening, strengthening}
use Rattle.oct_def.proofs.Values.{shape-evening, shape-strengthening}
use Rattle.tight_closure.proofs.Evening.{length-evening}
use Rattle.tight_closure.proofs.Strong.{length-strengthening}
use Rattle.tight_closure.proofs.ClosedEnds.{closed-cycle, closed-crossing, closed-strong}
use Rattle.tight_closure.proofs.block.finish.Goals as goal

pub returns-then-has_negative_cycle-clause-empty : goal.returns-then-has_negative_cycle-clause-empty
returns-then-has_negative_cycle-clause-empty c = λ e. closed-cycle c.args.m.now c.if-has_negative_cycle.ensures

pub returns-then-has_crossing-clause-empty : goal.returns-then-has_crossing-clause-empty
returns-then-has_crossing-clause-empty c = λ e. closed-crossing c.args.m.now c.even_unary.new.m c.if-has_negative_cycle.ensures c.even_unary.ensures c.if-has_crossing.ensures

pub returns-then-has_crossing-clause-rows : goal.returns-then-has_crossing-clause-rows
returns-then-has_crossing-clause-rows c = ap length c.even_unary.ensures ∙ length-evening c.args.m.now

pub returns-then-has_crossing-clause-in_range : goal.returns-then-has_crossing-clause-in_range
returns-then-has_crossing-clause-in_range c = λ i j.
    let v = shape-evening c.vars.result c.args.m.now (record { rows = omega arith; square = c.shape.ensures.square; coherent = c.shape.ensures.coherent; in_range = c.requires.in_range }) in
    subst (λ (t : Matrix). InRange (at t i j)) (sym c.even_unary.ensures) (v.in_range i j)

pub strengthen-requires-clause-in_range : goal.strengthen-requires-clause-in_range
strengthen-requires-clause-in_range c = λ i j.
    let v = shape-evening c.vars.result c.args.m.now (record { rows = omega arith; square = c.shape.ensures.square; coherent = c.shape.ensures.coherent; in_range = c.requires.in_range }) in
    subst (λ (t : Matrix). InRange (at t i j)) (sym c.even_unary.ensures) (v.in_range i j)

pub strengthen-requires-clause-places : goal.strengthen-requires-clause-places
strengthen-requires-clause-places c =
    let e = ap length c.even_unary.ensures ∙ length-evening c.args.m.now in
    omega (arith, e, c.requires.places)

pub returns-clause-closed : goal.returns-clause-closed
returns-clause-closed c = λ e.
    closed-strong c.args.m.now c.even_unary.new.m c.strengthen.new.m c.if-has_negative_cycle.ensures c.even_unary.ensures c.if-has_crossing.ensures c.strengthen.ensures.strong

pub returns-clause-rows : goal.returns-clause-rows
returns-clause-rows c = ap length c.strengthen.ensures.strong ∙ length-strengthening c.even_unary.new.m ∙ ap length c.even_unary.ensures ∙ length-evening c.args.m.now

pub returns-clause-in_range : goal.returns-clause-in_range
returns-clause-in_range c = λ i j.
    let v = shape-evening c.vars.result c.args.m.now (record { rows = omega arith; square = c.shape.ensures.square; coherent = c.shape.ensures.coherent; in_range = c.requires.in_range }) in
    let w = shape-strengthening c.vars.result (evening c.args.m.now) v in
    subst (λ (t : Matrix). InRange (at t i j)) (sym (c.strengthen.ensures.strong ∙ ap strengthening c.even_unary.ensures)) (w.in_range i j)
