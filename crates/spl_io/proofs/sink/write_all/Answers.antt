use Rattle.std.proofs.Common.{rules}
use Rattle.spl_io.proofs.Pieces.{front-more}
use Rattle.spl_io.proofs.sink.write_all.Goals as goal

pub loop-gone-preserved : goal.loop-gone-preserved
loop-gone-preserved g c = record {
  within = search rules;
  front = front-more _ _ _ _ c.loop-gone.gone c.in-Ok.count c.loop-gone.invariant.front c.in-Ok.ensures.bytes;
  counted = search rules;
}
