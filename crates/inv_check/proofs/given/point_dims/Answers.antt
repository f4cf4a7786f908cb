use Rattle.std.proofs.Common.{◌≡◌, ℕ, ◌≤◌, List, ◌∷◌, [], ◌++◌, length, map, ap, sym, subst, ◌∙◌, arith}
use Rattle.std.specs.List.{All, range_with_len}
use Rattle.std.proofs.lemmas.List.Elements.{All-append, All-cons}
use Rattle.spl_core.specs.Graph.{graph_of, dims_at}
use Rattle.equations.proofs.Bringing.{points}
use Rattle.inv_check.specs.Given.{dims_of}
use Rattle.inv_check.proofs.Giving.{mapped_more, length-dims_of}
use Rattle.inv_check.proofs.given.point_dims.Goals as goal

pub loop-p-preserved : goal.loop-p-preserved
loop-p-preserved c = record {
  dims = mapped_more (dims_at (graph_of c.args.core.now)) c.loop-p.p c.loop-p.dims.items c.push.new.self.items c.dims_here.result c.loop-p.invariant.dims c.dims_here.ensures.dims c.in_ok-push.ensures.items;
  small = subst (All (λ (n : ℕ). n ≤ 256)) (sym c.in_ok-push.ensures.items)
      (All-append (λ (n : ℕ). n ≤ 256) c.loop-p.dims.items (c.dims_here.result ∷ []) c.loop-p.invariant.small
      (All-cons (λ (n : ℕ). n ≤ 256) c.dims_here.result [] c.dims_here.ensures.small (λ k d l. absurd (omega arith))));
}

pub returns : goal.returns
unfolding dims_of
returns c =
    let t = c.loop-p-test.false in
    let f = c.points-p-end.ensures.count in
    let u = c.loop-p.auto.p-end in
    let e : c.loop-p.p ≡ length (graph_of c.args.core.now).owners = omega (arith, t, f, u, points c.args.core.now) in
    let dims = c.loop-p.invariant.dims ∙ ap (λ (k : ℕ). map (dims_at (graph_of c.args.core.now)) (range_with_len 0 k)) e in record {
      dims = dims;
      few =
          let n : length c.loop-p.dims.items ≡ length (graph_of c.args.core.now).owners = ap length dims ∙ length-dims_of (graph_of c.args.core.now) in
          let k = c.points-p-end.ensures.known.few.points in
          omega (arith, n, k, points c.args.core.now);
      small = c.loop-p.invariant.small;
    }
