use Rattle.std.proofs.Common.{◌≡◌, ℕ, ◌<◌, true, false, length, map, sym, ap, ◌∙◌, subst, arith}
use Rattle.std.proofs.lemmas.List.{length-map}
use Rattle.spl_core.specs.Graph.{graph_of}
use Rattle.call_graph.specs.Order.{is_cut}
use Rattle.equations.specs.Equations.{read, value_in}
use Rattle.equations.proofs.Bringing.{points}
use Rattle.inv_check.specs.Verdict.{AreReadUpTo}
use Rattle.inv_check.proofs.Readings.{at-value, read-more, read-is}
use Rattle.inv_check.proofs.checking.read_values.Goals as goal
use Rattle.inv_check.proofs.checking.read_values.Goals.{then-is_cut_point+in_ok-read, else-is_cut_point+in_ok-read-2}

pub offset_bounds-values-p : goal.offset_bounds-values-p
offset_bounds-values-p g c =
    let t = c.loop-p-test.true in
    let f = c.points-p-end.ensures.count in
    omega (arith, t, f, points c.args.core.now, c.requires.over.points, length-map c.args.values.now g.D.Domain.meaning)

pub bounds-values-p : goal.bounds-values-p
bounds-values-p g c =
    let t = c.loop-p-test.true in
    let f = c.points-p-end.ensures.count in
    omega (arith, t, f, points c.args.core.now, c.requires.over.points, length-map c.args.values.now g.D.Domain.meaning)

pub loop-p-preserved : goal.loop-p-preserved
loop-p-preserved g c =
    let m = g.D.Domain.meaning in
    let h = graph_of c.args.core.now in
    let t = c.loop-p-test.true in
    let f = c.points-p-end.ensures.count in
    let inside : c.loop-p.p < length c.args.values.now = omega (arith, t, f, points c.args.core.now, c.requires.over.points, length-map c.args.values.now m) in
    let here = at-value m c.args.values.now c.loop-p.p c.index-values-p.result inside c.index-values-p.is in
    let value : m c.if-is_cut_point.read ≡ read (is_cut h) (value_in (map m c.args.values.now)) c.loop-p.p =
    elim c.if-is_cut_point.branch [
      | then-is_cut_point+in_ok-read w ↦
          read-is h (map m c.args.values.now) c.loop-p.p true (m c.if-is_cut_point.read) (m c.index-values-p.result) (sym w.if-is_cut_point.true ∙ c.is_cut_point.ensures) here (ap m w.read-is ∙ w.in_ok-read.ensures.value)
      | else-is_cut_point+in_ok-read-2 w ↦
          read-is h (map m c.args.values.now) c.loop-p.p false (m c.if-is_cut_point.read) (m c.index-values-p.result) (sym w.if-is_cut_point.false ∙ c.is_cut_point.ensures) here (ap m w.read-is ∙ w.in_ok-read-2.ensures.value)
    ] in
    read-more m h (map m c.args.values.now) c.loop-p.p c.loop-p.closed.items c.push.new.self.items c.if-is_cut_point.read c.loop-p.invariant value c.in_ok-push.ensures.items

pub returns : goal.returns
returns g c =
    let m = g.D.Domain.meaning in
    let t = c.loop-p-test.false in
    let f = c.points-p-end.ensures.count in
    let u = c.loop-p.auto.p-end in
    let e : c.loop-p.p ≡ length c.args.values.now = omega (arith, t, f, u, points c.args.core.now, c.requires.over.points, length-map c.args.values.now m) in
    record { read = subst (λ (k : ℕ). AreReadUpTo (graph_of c.args.core.now) (map m c.args.values.now) k (map m c.loop-p.closed.items)) e c.loop-p.invariant }
