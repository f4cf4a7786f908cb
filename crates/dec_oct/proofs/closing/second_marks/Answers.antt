use Rattle.std.proofs.Common.{arith, ap, ◌∙◌}
use Rattle.dec_oct.proofs.Costs.{count-rest, count-closed_rest, count-closed, cost-marked}
use Rattle.dec_oct.proofs.Entries.{read-at}
use Rattle.dec_oct.proofs.Flags.{flag-known, flag-again}
use Rattle.dec_oct.proofs.closing.second_marks.Goals.{then-known-b+in_ok-push, else-known-b+in_ok-yes+in_ok-push-2}
use Rattle.dec_oct.proofs.closing.second_marks.Goals as goal

pub returns-in_err-push-clause-count : goal.returns-in_err-push-clause-count
returns-in_err-push-clause-count c = count-rest c.args.matrices.now c.args.known.now c.loop-b.b _ _ _ c.loop-b.invariant.count c.loop-b-test.true

pub returns-in_err-yes-clause-count : goal.returns-in_err-yes-clause-count
returns-in_err-yes-clause-count c = count-closed_rest c.args.matrices.now c.args.known.now c.loop-b.b _ _ _ _ c.if-known-b.false c.index-matrices-b.is c.loop-b-test.true c.loop-b.invariant.count c.closes_again.ensures.count

pub returns-in_err-push-2-clause-count : goal.returns-in_err-push-2-clause-count
returns-in_err-push-2-clause-count c = count-closed_rest c.args.matrices.now c.args.known.now c.loop-b.b _ _ _ _ c.if-known-b.false c.index-matrices-b.is c.loop-b-test.true c.loop-b.invariant.count c.closes_again.ensures.count

pub loop-b-preserved : goal.loop-b-preserved
loop-b-preserved c =
    let ms = c.args.matrices.now in
    let b = c.loop-b.b in
    let inv = c.loop-b.invariant in
    elim c.if-known-b.branch [
      | then-known-b+in_ok-push w ↦ record {
        flags = flag-known ms b _ _ inv.flags (ap (λ v. v.items) w.marks-is ∙ w.in_ok-push.ensures.items) (c.requires.settled.again b c.loop-b-test.true w.if-known-b.true);
        room = w.scratch-is ∙ inv.room;
        rises = omega (arith, w.count-is, inv.rises);
        count = omega (arith, w.count-is, cost-marked ms c.args.known.now b w.if-known-b.true, inv.count);
      }
      | else-known-b+in_ok-yes+in_ok-push-2 w ↦ record {
        flags = flag-again ms b _ _ _ _ inv.flags (ap (λ v. v.items) w.marks-is ∙ w.in_ok-push-2.ensures.items) (read-at ms b _ w.index-matrices-b.is c.loop-b-test.true) w.in_ok-yes.ensures.yes w.in_ok-yes.ensures.no;
        room = w.scratch-is ∙ w.closes_again.ensures.room ∙ inv.room;
        rises = omega (arith, w.count-is, inv.rises, w.closes_again.ensures.rises);
        count = omega (arith, w.count-is, count-closed ms c.args.known.now b _ _ _ _ w.if-known-b.false w.index-matrices-b.is c.loop-b-test.true inv.count w.closes_again.ensures.count);
      }
    ]
