use Rattle.std.proofs.Common.{◌≡◌, ℕ, ◌<◌, length, map, ap, ◌∙◌, arith}
use Rattle.std.specs.List.{range_with_len}
use Rattle.spl_core.specs.Graph.{graph_of}
use Rattle.equations.proofs.Bringing.{points}
use Rattle.inv_text.specs.Invariants.{matrix_in}
use Rattle.inv_check.specs.Given.{given_at, values_given}
use Rattle.inv_check.proofs.Giving.{mapped_more, values_over, length-dims_of}
use Rattle.inv_check.proofs.given.values.Goals as goal

pub value_here-requires-clause-point : goal.value_here-requires-clause-point
value_here-requires-clause-point c =
    let t = c.loop-p-test.true in
    let f = c.points-p-end.ensures.count in
    omega (arith, t, f, points c.args.core.now, c.requires.given.points, length-dims_of (graph_of c.args.core.now))

pub value_here-requires-clause-over : goal.value_here-requires-clause-over
value_here-requires-clause-over c =
    let t = c.loop-p-test.true in
    let f = c.points-p-end.ensures.count in
    let point : c.loop-p.p < length (graph_of c.args.core.now).owners = omega (arith, t, f, points c.args.core.now) in
    values_over (graph_of c.args.core.now) c.args.x.now c.loop-p.p c.dims_here.result c.requires.given point c.dims_here.ensures.dims

pub loop-p-preserved : goal.loop-p-preserved
loop-p-preserved c =
    mapped_more (given_at (graph_of c.args.core.now) c.args.x.now) c.loop-p.p c.loop-p.values.items c.push.new.self.items c.in_ok-v.v c.loop-p.invariant
    (c.in_ok-v.ensures ∙ ap (λ (n : ℕ). record { dims = n; matrix = matrix_in c.args.x.now c.loop-p.p }) c.dims_here.ensures.dims) c.in_ok-push.ensures.items

pub returns : goal.returns
unfolding values_given
returns c =
    let t = c.loop-p-test.false in
    let f = c.points-p-end.ensures.count in
    let u = c.loop-p.auto.p-end in
    let e : c.loop-p.p ≡ length (graph_of c.args.core.now).owners = omega (arith, t, f, u, points c.args.core.now) in
    c.loop-p.invariant ∙ ap (λ (k : ℕ). map (given_at (graph_of c.args.core.now) c.args.x.now) (range_with_len 0 k)) e
