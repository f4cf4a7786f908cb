use Rattle.std.proofs.Common.{◌+◌, subst, sym, arith}
use Rattle.block_partition.specs.Changes.{IsMergedBy}
use Rattle.dec_lattice.specs.Coarser.{IsCoarser}
use Rattle.dec_lattice.proofs.Coarsers.{coarser-skip, coarser-merge}
use Rattle.dec_lattice.proofs.coarser.coarser.Goals.{then-not-are_together+in_ok-merge, else-not-are_together}
use Rattle.dec_lattice.proofs.coarser.coarser.Goals as goal

pub loop-c-preserved : goal.loop-c-preserved
loop-c-preserved c =
    let n = c.args.dims in
    let bs = c.args.a.now in
    let cs = c.args.b.now in
    let k = c.loop-c.c in
    let ds = c.loop-c.made in
    let vs = c.block-members.result.now in
    let es = c.if-not-are_together.made in
    elim c.if-not-are_together.branch [
      | then-not-are_together+in_ok-merge w ↦
          coarser-merge n bs cs ds es vs k c.requires.few c.requires.second (omega arith) c.block-members.ensures c.loop-c.invariant c.known-in-loop-c.ensures.partition (subst (IsMergedBy ds vs) (sym w.made-is) w.in_ok-merge.ensures.merged)
      | else-not-are_together w ↦
          subst (IsCoarser n bs cs (k + 1)) (sym w.made-is) (coarser-skip n bs cs ds vs k (omega arith) c.block-members.ensures c.loop-c.invariant (c.are_together.ensures w.if-not-are_together.false))
    ]
