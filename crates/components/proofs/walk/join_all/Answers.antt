use Rattle.std.proofs.Common.{◌+◌, ◌<◌, ◌≤◌, ◌∷◌, [], arith, subst, sym, ◌∙◌}
use Rattle.std.proofs.lemmas.Bool.{false≢true}
use Rattle.oct_def.specs.Octagon.{Octagon}
use Rattle.block_partition.specs.Changes.{IsMergedBy}
use Rattle.components.specs.Walk.{AreJoined, Grows, HasJoins, IsWithin}
use Rattle.components.proofs.Walked.{turn-within, turn-grows, turn-joined, stay-joined}
use Rattle.components.proofs.walk.join_all.Goals.{then-joins+in_ok-merge, else-joins}
use Rattle.components.proofs.walk.join_all.Goals as goal

pub loop-w-preserved : goal.loop-w-preserved
loop-w-preserved g c =
    let v : Octagon = g.D.Domain.meaning c.args.v.now in
    let few : v.dims ≤ 512 = omega (arith, c.known.ensures.small) in
    let small_u : c.args.u < v.dims = omega (arith, c.requires.dims, c.requires.variable) in
    let small_w : c.loop-w.w < v.dims = omega (arith, c.requires.dims, c.loop-w-test.true) in
    elim c.if-joins.branch [
      | then-joins+in_ok-merge w ↦
          let joined : AreJoined v.matrix c.args.u c.loop-w.w = c.joins.ensures.0 w.if-joins.true in
          let merged : IsMergedBy c.loop-w.blocks (c.args.u ∷ c.loop-w.w ∷ []) c.if-joins.blocks =
          subst (λ bs. IsMergedBy c.loop-w.blocks (c.args.u ∷ c.loop-w.w ∷ []) bs) (sym w.blocks-is) w.in_ok-merge.ensures.merged in
          record {
            within = turn-within v c.args.blocks.now c.loop-w.blocks c.if-joins.blocks c.args.u c.loop-w.w c.known.ensures.value few small_u small_w joined merged c.loop-w.invariant.within;
            grows = turn-grows v c.args.blocks.now c.loop-w.blocks c.if-joins.blocks c.args.u c.loop-w.w c.known.ensures.value few small_u small_w joined merged c.loop-w.invariant.grows;
            joined = turn-joined v c.args.blocks.now c.loop-w.blocks c.if-joins.blocks c.args.u c.loop-w.w c.known.ensures.value few small_u small_w joined merged c.loop-w.invariant.joined;
          }
      | else-joins w ↦
          let never : AreJoined v.matrix c.args.u c.loop-w.w → ⊥ = λ j. false≢true (sym w.if-joins.false ∙ c.joins.ensures.1 j) in
          record {
            within = subst (λ bs. IsWithin v c.args.blocks.now → IsWithin v bs) (sym w.blocks-is) c.loop-w.invariant.within;
            grows = subst (λ bs. Grows c.args.blocks.now bs) (sym w.blocks-is) c.loop-w.invariant.grows;
            joined = subst (λ bs. HasJoins v bs (c.loop-w.w + 1) c.args.u) (sym w.blocks-is) (stay-joined v c.loop-w.blocks c.args.u c.loop-w.w never c.loop-w.invariant.joined);
          }
    ]
