use Rattle.std.proofs.Common.{sym, ap, ◌∙◌, arith}
use Rattle.std.proofs.lemmas.List.{get_or_default}
use Rattle.dec_oct.proofs.Walks.{IsWalked, kept-joined, kept-free, links-all, links-size}
use Rattle.dec_oct.proofs.walk.link_labels.Goals.{then-is_joined+in_ok-push, else-is_joined+in_ok-push-2}
use Rattle.dec_oct.proofs.walk.link_labels.Goals as goal

pub index-label-requires : goal.index-label-requires
index-label-requires c = let h = (c.in_ok-labels.ensures c.vars-v-end.result (sym c.vars-v-end.ensures.rows)).size in omega arith

pub loop-v-preserved : goal.loop-v-preserved
loop-v-preserved c =
    let m = c.args.m.now in
    let labels = c.in_ok-labels.labels.items in
    let h = (c.in_ok-labels.ensures c.vars-v-end.result (sym c.vars-v-end.ensures.rows)).size in
    elim c.if-is_joined.branch [
      | then-is_joined+in_ok-push w ↦ kept-joined m labels _ _ c.loop-v.v _ c.loop-v.invariant (ap (λ x. x.items) w.kept-is ∙ w.in_ok-push.ensures.items) (c.is_joined.ensures.yes w.if-is_joined.true) (w.index-label.ensures ∙ get_or_default labels c.loop-v.v _ 0 (omega arith))
      | else-is_joined+in_ok-push-2 w ↦ kept-free m labels _ _ c.loop-v.v c.loop-v.invariant (ap (λ x. x.items) w.kept-is ∙ w.in_ok-push-2.ensures.items) (c.is_joined.ensures.no w.if-is_joined.false)
    ]

pub returns : goal.returns
returns c = λ k e.
    let s : IsWalked c.vars-v-end.result c.args.m.now = record { rows = sym c.vars-v-end.ensures.rows; coherent = c.shape.ensures.coherent } in
    links-size k c.vars-v-end.result c.args.m.now _ c.vars-v-end.ensures.rows e (links-all c.vars-v-end.result c.args.m.now c.in_ok-labels.labels.items _ c.loop-v.v s c.vars-v-end.ensures.small (c.in_ok-labels.ensures c.vars-v-end.result (sym c.vars-v-end.ensures.rows)) c.loop-v.invariant (omega arith))
