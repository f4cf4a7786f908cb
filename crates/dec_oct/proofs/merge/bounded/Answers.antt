use Rattle.std.proofs.Common.{ap, ◌∙◌, arith}
use Rattle.dec_oct.proofs.Bounded.{so_far-yes, so_far-no}
use Rattle.dec_oct.proofs.merge.bounded.Goals.{then-has_bound+in_ok-push, else-has_bound}
use Rattle.dec_oct.proofs.merge.bounded.Goals as goal

pub loop-v-preserved : goal.loop-v-preserved
loop-v-preserved c =
    elim c.if-has_bound.branch [
      | then-has_bound+in_ok-push w ↦ so_far-yes c.args.dims _ c.loop-v.v _ _ c.loop-v.invariant (omega arith) (c.has_bound.ensures.yes w.if-has_bound.true) (ap (λ m. m.items) w.vars-is ∙ w.in_ok-push.ensures.items)
      | else-has_bound w ↦ so_far-no c.args.dims _ c.loop-v.v _ _ c.loop-v.invariant (c.has_bound.ensures.no w.if-has_bound.false) (ap (λ m. m.items) w.vars-is)
    ]
