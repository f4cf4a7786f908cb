use Rattle.std.proofs.Common.{length, sym, ap, subst, ◌∙◌, arith}
use Rattle.block_partition.specs.Partition.{member, home}
use Rattle.block_partition.specs.Changes.{IsSplitBy}
use Rattle.block_laws.specs.Assembly.{assembly}
use Rattle.dec_oct.specs.Cut.{HaveOneLabel}
use Rattle.dec_oct.proofs.Cuts.{IsWhole, cut-start, cut-whole, cut-block, cut-split, cut-last, walk-of}
use Rattle.dec_oct.proofs.cut.cut_partition.Goals.{then-not-is_whole+in_ok-split_at, else-not-is_whole}
use Rattle.dec_oct.proofs.cut.cut_partition.Goals as goal

pub loop-b-init : goal.loop-b-init
loop-b-init c = cut-start c.args.dims c.args.partition.now _ (assembly c.args.dims c.args.partition.now c.args.matrices.now) c.in_ok-cut.ensures

pub split_at-requires-clause-block : goal.split_at-requires-clause-block
split_at-requires-clause-block c =
    let bs = c.args.partition.now in
    let b = c.loop-b.b in
    let filled = c.known.ensures.ordered.filled b (omega arith) in
    let v = member c.block-members.result.now 0 in
    let wh : IsWhole bs c.loop-b.cut b (home c.loop-b.cut v) = cut-block c.args.dims bs c.loop-b.cut (assembly c.args.dims bs c.args.matrices.now) b v c.requires.few c.requires.parts.partition c.known-in-loop-b.ensures.partition (omega arith) filled (ap (λ t. member t 0) c.block-members.ensures) c.loop-b.invariant in
    wh.within

pub split_at-requires-clause-size : goal.split_at-requires-clause-size
split_at-requires-clause-size c =
    let bs = c.args.partition.now in
    let b = c.loop-b.b in
    let filled = c.known.ensures.ordered.filled b (omega arith) in
    let v = member c.block-members.result.now 0 in
    let wh : IsWhole bs c.loop-b.cut b (home c.loop-b.cut v) = cut-block c.args.dims bs c.loop-b.cut (assembly c.args.dims bs c.args.matrices.now) b v c.requires.few c.requires.parts.partition c.known-in-loop-b.ensures.partition (omega arith) filled (ap (λ t. member t 0) c.block-members.ensures) c.loop-b.invariant in
    let walk = walk-of c.args.dims bs c.args.matrices.now b c.in_ok-labels.labels.items _ c.buf.result.now c.requires.parts (omega arith) c.buf.ensures c.index-matrices-b.is c.in_ok-labels.ensures in
    ap length c.deref-then-not-is_whole.ensures.value ∙ walk.told.size ∙ ap length (sym wh.same)

pub loop-b-preserved : goal.loop-b-preserved
loop-b-preserved c =
    let n = c.args.dims in
    let bs = c.args.partition.now in
    let ms = c.args.matrices.now in
    let b = c.loop-b.b in
    let labels = c.in_ok-labels.labels.items in
    let filled = c.known.ensures.ordered.filled b (omega arith) in
    let walk = walk-of n bs ms b labels _ c.buf.result.now c.requires.parts (omega arith) c.buf.ensures c.index-matrices-b.is c.in_ok-labels.ensures in
    elim c.if-not-is_whole.branch [
      | then-not-is_whole+in_ok-split_at w ↦
          let v = member c.block-members.result.now 0 in
          let wh : IsWhole bs c.loop-b.cut b (home c.loop-b.cut v) = cut-block n bs c.loop-b.cut (assembly n bs ms) b v c.requires.few c.requires.parts.partition c.known-in-loop-b.ensures.partition (omega arith) filled (ap (λ t. member t 0) c.block-members.ensures) c.loop-b.invariant in
          cut-split n bs ms b labels c.loop-b.cut _ (home c.loop-b.cut v) walk wh c.loop-b.invariant
          (subst (IsSplitBy c.loop-b.cut (home c.loop-b.cut v) labels) (sym w.cut-is) (subst (λ t. IsSplitBy c.loop-b.cut (home c.loop-b.cut v) t w.split_at.new.cut) w.deref-then-not-is_whole.ensures.value w.in_ok-split_at.ensures))
      | else-not-is_whole w ↦
          cut-whole n bs ms b labels c.loop-b.cut _ walk
          (subst HaveOneLabel c.deref.ensures.value (c.is_whole.ensures.yes w.if-not-is_whole.false))
          c.loop-b.invariant w.cut-is
    ]

pub returns : goal.returns
returns c = cut-last c.args.dims c.args.partition.now c.loop-b.cut (assembly c.args.dims c.args.partition.now c.args.matrices.now) c.loop-b.b (omega arith) c.loop-b.invariant
