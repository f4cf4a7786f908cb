use Rattle.std.proofs.Common.{refl, get_or, false}
use Rattle.call_graph.specs.Steps.{bit_over}
use Rattle.call_graph.proofs.Closing.{map-more}
use Rattle.call_graph.proofs.closure.row_over.Goals as goal

pub loop-q-preserved : goal.loop-q-preserved
loop-q-preserved c =
    let f = bit_over c.args.row.now c.args.pivot.now (get_or c.args.row.now c.args.k false) in
    map-more f c.loop-q.q (f c.loop-q.q) c.loop-q.out.items c.push.new.self.items c.loop-q.invariant c.in_ok-push.ensures.items refl
