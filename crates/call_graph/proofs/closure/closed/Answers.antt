use Rattle.std.proofs.Common.{ap, ◌∙◌, arith, map, length, Bool, Vec, Global}
use Rattle.spl_core.specs.Graph.{graph_of}
use Rattle.call_graph.specs.Reach.{reaches_below}
use Rattle.call_graph.proofs.Closing.{first-reaches, last-reaches, step-reaches, pivot-within, slice-square}
use Rattle.call_graph.proofs.Edges.{procs_same}
use Rattle.call_graph.proofs.closure.closed.Goals as goal

pub loop-k-init : goal.loop-k-init
loop-k-init c = c.requires.calls ∙ first-reaches (graph_of c.args.core.now) (length c.args.core.now.procs)

pub step-requires-clause-pivot : goal.step-requires-clause-pivot
step-requires-clause-pivot c = pivot-within c.loop-k.rows.items c.deref.result.now (length c.args.core.now.procs) c.loop-k.k (reaches_below (graph_of c.args.core.now) c.loop-k.k) c.deref.ensures.value c.loop-k.invariant (omega (arith, c.procs-k-end.ensures.count))

pub step-requires-clause-shape : goal.step-requires-clause-shape
step-requires-clause-shape c = slice-square c.loop-k.rows.items c.deref.result.now (length c.args.core.now.procs) (reaches_below (graph_of c.args.core.now) c.loop-k.k) c.deref.ensures.value c.loop-k.invariant

pub loop-k-preserved : goal.loop-k-preserved
loop-k-preserved c =
    step-reaches (graph_of c.args.core.now) (length c.args.core.now.procs) c.loop-k.k (map (λ (r : Vec Bool Global). r.items) c.deref.result.now) (map (λ (r : Vec Bool Global). r.items) c.in_ok-rows.rows.items)
    (omega (arith, c.procs-k-end.ensures.count)) (ap (map (λ (r : Vec Bool Global). r.items)) c.deref.ensures.value ∙ c.loop-k.invariant) c.in_ok-rows.ensures

pub returns : goal.returns
returns c = c.loop-k.invariant ∙ last-reaches (graph_of c.args.core.now) (length c.args.core.now.procs) c.loop-k.k (omega (arith, c.procs-k-end.ensures.count, procs_same c.args.core.now))
