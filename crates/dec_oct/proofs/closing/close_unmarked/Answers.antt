use Rattle.std.proofs.Common.{◌≡◌, Some, refl, subst, arith, ap, ◌∙◌}
use Rattle.std.proofs.lemmas.Bool.{both_ways}
use Rattle.oct_def.specs.Table.{Matrix}
use Rattle.oct_def.specs.Tight.{tight}
use Rattle.dec_oct.proofs.Sures.{sure-more, marked-copy, again-of}
use Rattle.dec_oct.proofs.Costs.{count-rest, count-closed_rest, count-closed, cost-marked, size-pushed, each-pushed, copy-tight, closed-tight}
use Rattle.dec_oct.proofs.closing.close_unmarked.Goals.{then-marks-b+in_ok-share+in_ok-push, else-marks-b+in_ok-x+in-Some+in_ok-push-in-Some}
use Rattle.dec_oct.proofs.closing.close_unmarked.Goals as goal

pub returns-in_err-share-clause-count : goal.returns-in_err-share-clause-count
returns-in_err-share-clause-count c = count-rest c.args.matrices.now c.args.marks.now c.loop-b.b _ _ _ c.loop-b.invariant.count c.loop-b-test.true

pub returns-in_err-push-clause-count : goal.returns-in_err-push-clause-count
returns-in_err-push-clause-count c = count-rest c.args.matrices.now c.args.marks.now c.loop-b.b _ _ _ c.loop-b.invariant.count c.loop-b-test.true

pub returns-in_err-x-clause-count : goal.returns-in_err-x-clause-count
returns-in_err-x-clause-count c = count-closed_rest c.args.matrices.now c.args.marks.now c.loop-b.b _ _ _ _ c.if-marks-b.false c.index-matrices-b.is c.loop-b-test.true c.loop-b.invariant.count c.close_one.ensures.count

pub returns-in_err-push-in-Some-clause-count : goal.returns-in_err-push-in-Some-clause-count
returns-in_err-push-in-Some-clause-count c = count-closed_rest c.args.matrices.now c.args.marks.now c.loop-b.b _ _ _ _ c.if-marks-b.false c.index-matrices-b.is c.loop-b-test.true c.loop-b.invariant.count c.close_one.ensures.count

pub returns-in-None-clause-count : goal.returns-in-None-clause-count
returns-in-None-clause-count c = count-closed_rest c.args.matrices.now c.args.marks.now c.loop-b.b _ _ _ _ c.if-marks-b.false c.index-matrices-b.is c.loop-b-test.true c.loop-b.invariant.count c.close_one.ensures.count

pub loop-b-preserved : goal.loop-b-preserved
loop-b-preserved c =
    let ms = c.args.matrices.now in
    let b = c.loop-b.b in
    let inv = c.loop-b.invariant in
    elim c.if-marks-b.branch [
      | then-marks-b+in_ok-share+in_ok-push w ↦ record {
        size = size-pushed _ _ _ b inv.size (ap (λ v. v.matrices.items) w.closed-is ∙ w.in_ok-push.ensures.matrices);
        each = each-pushed ms _ _ _ b inv.size inv.each (ap (λ v. v.matrices.items) w.closed-is ∙ w.in_ok-push.ensures.matrices) (copy-tight ms b _ _ w.in_ok-share.ensures c.index-matrices-b.is c.loop-b-test.true (c.requires.settled.again b c.loop-b-test.true w.if-marks-b.true));
        sure = sure-more _ b _ _ _ _ _ _ inv.sure (ap (λ v. v.matrices.items) w.closed-is ∙ w.in_ok-push.ensures.matrices) (ap (λ v. v.settled.items) w.closed-is ∙ w.in_ok-push.ensures.settled)
            (λ t. marked-copy ms b _ _ w.in_ok-share.ensures c.index-matrices-b.is c.loop-b-test.true (c.requires.settled.again b c.loop-b-test.true w.if-marks-b.true)) (λ t. refl);
        room = w.scratch-is ∙ inv.room;
        rises = omega (arith, w.count-is, inv.rises);
        count = omega (arith, w.count-is, cost-marked ms c.args.marks.now b w.if-marks-b.true, inv.count);
      }
      | else-marks-b+in_ok-x+in-Some+in_ok-push-in-Some w ↦ record {
        size = size-pushed _ _ _ b inv.size (ap (λ v. v.matrices.items) w.closed-is ∙ w.in_ok-push-in-Some.ensures.matrices);
        each = each-pushed ms _ _ _ b inv.size inv.each (ap (λ v. v.matrices.items) w.closed-is ∙ w.in_ok-push-in-Some.ensures.matrices) (closed-tight ms b _ _ _ w.in_ok-x.ensures.closed w.in-Some.is c.index-matrices-b.is c.loop-b-test.true);
        sure = sure-more _ b _ _ _ _ _ _ inv.sure (ap (λ v. v.matrices.items) w.closed-is ∙ w.in_ok-push-in-Some.ensures.matrices) (ap (λ v. v.settled.items) w.closed-is ∙ w.in_ok-push-in-Some.ensures.settled)
            (λ t. again-of _ _ _ (subst (λ (y : Matrix). (r : Matrix) → tight y ≡ Some r → tight r ≡ Some r) w.buf.ensures (w.settles-sure.ensures t)) w.in_ok-x.ensures.closed w.in-Some.is) (λ t. absurd (both_ways _ w.if-marks-b.false t));
        room = w.scratch-is ∙ w.close_one.ensures.room ∙ inv.room;
        rises = omega (arith, w.count-is, inv.rises, w.close_one.ensures.rises);
        count = omega (arith, w.count-is, count-closed ms c.args.marks.now b _ _ _ _ w.if-marks-b.false c.index-matrices-b.is c.loop-b-test.true inv.count w.close_one.ensures.count);
      }
    ]
