use Rattle.std.proofs.Common.{◌<◌, map, length, sym, ap, ◌∙◌, arith}
use Rattle.std.proofs.lemmas.List.{length-map}
use Rattle.oct_def.specs.Octagon.{Octagon}
use Rattle.spl_core.specs.Graph.{graph_of}
use Rattle.equations.proofs.Cover.{dims-equation}
use Rattle.equations.proofs.Bringing.{points}
use Rattle.equations.specs.Equations.{value_in}
use Rattle.equations.specs.Inductive.{IsInductiveAt}
use Rattle.inv_check.proofs.Readings.{over-read, compared, one-more, at-value}
use Rattle.inv_check.proofs.checking.first_break.Goals as goal

pub equation-requires-clause-points : goal.equation-requires-clause-points
equation-requires-clause-points g c =
    let m = g.D.Domain.meaning in
    sym (length-map c.args.closed.now m) ∙ c.requires.read.count ∙ sym (length-map c.args.values.now m) ∙ c.requires.over.points ∙ points c.args.core.now

pub equation-requires-clause-sized : goal.equation-requires-clause-sized
equation-requires-clause-sized g c =
    let m = g.D.Domain.meaning in
    record {
      dims = (over-read (graph_of c.args.core.now) (map m c.args.values.now) (map m c.args.closed.now) (length c.args.values.now)
          (sym (length-map c.args.values.now m)) c.requires.over c.requires.read).dims;
    }

pub is_below-requires-clause-dims : goal.is_below-requires-clause-dims
is_below-requires-clause-dims g c =
    let m = g.D.Domain.meaning in
    ap (λ (v : Octagon). v.dims) c.in_ok-brought.ensures.value
    ∙ dims-equation (graph_of c.args.core.now) (value_in (map m c.args.closed.now)) c.loop-p.p
    ∙ sym c.dims_here.ensures.dims

pub is_below-requires-clause-same : goal.is_below-requires-clause-same
is_below-requires-clause-same g c =
    let m = g.D.Domain.meaning in
    let e = c.requires.over.points in
    let k = length-map c.args.values.now m in
    let f = c.points-p-end.ensures.count in
    let t = c.loop-p-test.true in
    let point : c.loop-p.p < length (graph_of c.args.core.now).owners = omega (arith, t, f, points c.args.core.now) in
    ap (λ (v : Octagon). v.dims) (at-value m c.args.values.now c.loop-p.p c.index-values-p.result (omega (arith, point, e, k)) c.index-values-p.is)
    ∙ c.requires.over.dims c.loop-p.p point ∙ sym c.dims_here.ensures.dims

pub offset_bounds-values-p : goal.offset_bounds-values-p
offset_bounds-values-p g c =
    let t = c.loop-p-test.true in
    let f = c.points-p-end.ensures.count in
    omega (arith, t, f, points c.args.core.now, c.requires.over.points, length-map c.args.values.now g.D.Domain.meaning)

pub bounds-values-p : goal.bounds-values-p
bounds-values-p g c =
    let t = c.loop-p-test.true in
    let f = c.points-p-end.ensures.count in
    omega (arith, t, f, points c.args.core.now, c.requires.over.points, length-map c.args.values.now g.D.Domain.meaning)

pub returns : goal.returns
returns g c =
    let t = c.loop-p-test.false in
    let f = c.points-p-end.ensures.count in
    record { verdict = record { below = λ p l. c.loop-p.invariant p (omega (arith, t, f, points c.args.core.now, l)) } }

pub returns-then-not-is_below : goal.returns-then-not-is_below
returns-then-not-is_below g c =
    let m = g.D.Domain.meaning in
    let h = graph_of c.args.core.now in
    let xs = map m c.args.values.now in
    let e = c.requires.over.points in
    let k = length-map c.args.values.now m in
    let f = c.points-p-end.ensures.count in
    let t = c.loop-p-test.true in
    let point : c.loop-p.p < length h.owners = omega (arith, t, f, points c.args.core.now) in
    let both = compared h xs (map m c.args.closed.now) (length c.args.values.now) c.loop-p.p (m c.in_ok-brought.brought) (m c.index-values-p.result)
    (sym k) c.requires.read c.in_ok-brought.ensures.value (at-value m c.args.values.now c.loop-p.p c.index-values-p.result (omega (arith, point, e, k)) c.index-values-p.is) in
    record {
      verdict = record {
        point = point;
        breaks = λ b. c.is_below.ensures.no c.if-not-is_below.true (both.1 b);
        least = c.loop-p.invariant;
      };
    }

pub loop-p-preserved : goal.loop-p-preserved
loop-p-preserved g c =
    let m = g.D.Domain.meaning in
    let h = graph_of c.args.core.now in
    let xs = map m c.args.values.now in
    let e = c.requires.over.points in
    let k = length-map c.args.values.now m in
    let f = c.points-p-end.ensures.count in
    let t = c.loop-p-test.true in
    let point : c.loop-p.p < length h.owners = omega (arith, t, f, points c.args.core.now) in
    let both = compared h xs (map m c.args.closed.now) (length c.args.values.now) c.loop-p.p (m c.in_ok-brought.brought) (m c.index-values-p.result)
    (sym k) c.requires.read c.in_ok-brought.ensures.value (at-value m c.args.values.now c.loop-p.p c.index-values-p.result (omega (arith, point, e, k)) c.index-values-p.is) in
    one-more (IsInductiveAt h (value_in xs)) c.loop-p.p c.loop-p.invariant (both.0 (c.is_below.ensures.yes c.if-not-is_below.false))
