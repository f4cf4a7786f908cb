use Rattle.std.proofs.Common.{◌≡◌, ℕ, ◌≤◌, List, length, sym, subst, add-one, arith}
use Rattle.spl_runs.specs.Choices.{given_of}
use Rattle.spl_runs.specs.ChoicesText.{FaultAt}
use Rattle.spl_runs.specs.Reading.{Reading, reading_of}
use Rattle.spl_runs.proofs.Answering.{Progress, at_start, agrees, from_now, from_there, one_more, bad_byte, wide_byte, bad_end, good_end}
use Rattle.spl_runs.proofs.Trees.{place_bytes, place_of}
use Rattle.spl_runs.proofs.read.read_choices.Goals as goal
use Rattle.spl_runs.proofs.read.read_choices.Goals.{then-not-in_number, else-not-in_number}

pub loop-at-init : goal.loop-at-init
loop-at-init c = at_start c.args.bytes.now (reading_of c.new-reader.result) c.new-reader.ensures

pub take-requires : goal.take-requires
take-requires c = agrees c.args.bytes.now c.loop-at.at c.loop-at.start (reading_of c.loop-at.reader) c.loop-at.invariant

pub returns-in-Err-Bad : goal.returns-in-Err-Bad
returns-in-Err-Bad c =
    bad_byte c.args.bytes.now c.loop-at.at c.loop-at.start (reading_of c.loop-at.reader) c.loop-at.invariant c.take.ensures.known c.loop-at-test.true
    (rw c.in-Err-Bad.field-0-is at c.in-Err-Bad.ensures.takes)

pub returns-in-Err-Wide : goal.returns-in-Err-Wide
returns-in-Err-Wide c =
    let o : c.if-not-in_number.start ≡ length (place_bytes (place_of c.loop-at.invariant.state)) =
    elim c.if-not-in_number.branch [
      | then-not-in_number w ↦ from_now c.args.bytes.now c.loop-at.at c.loop-at.start c.if-not-in_number.start (reading_of c.loop-at.reader) c.loop-at.invariant c.loop-at-test.true w.if-not-in_number.ensures w.start-is
      | else-not-in_number w ↦ from_there c.args.bytes.now c.loop-at.at c.loop-at.start c.if-not-in_number.start (reading_of c.loop-at.reader) c.loop-at.invariant w.if-not-in_number.ensures w.start-is
    ] in
    let f : FaultAt c.args.bytes.now (length (place_bytes (place_of c.loop-at.invariant.state))) =
    wide_byte c.args.bytes.now c.loop-at.at c.loop-at.start (reading_of c.loop-at.reader) c.loop-at.invariant c.take.ensures.known c.loop-at-test.true
    (rw c.in-Err-Wide.field-0-is at c.in-Err-Wide.ensures.takes) in
    subst (FaultAt c.args.bytes.now) (sym o) f

pub loop-at-preserved : goal.loop-at-preserved
loop-at-preserved c =
    let o : c.if-not-in_number.start ≡ length (place_bytes (place_of c.loop-at.invariant.state)) =
    elim c.if-not-in_number.branch [
      | then-not-in_number w ↦ from_now c.args.bytes.now c.loop-at.at c.loop-at.start c.if-not-in_number.start (reading_of c.loop-at.reader) c.loop-at.invariant c.loop-at-test.true w.if-not-in_number.ensures w.start-is
      | else-not-in_number w ↦ from_there c.args.bytes.now c.loop-at.at c.loop-at.start c.if-not-in_number.start (reading_of c.loop-at.reader) c.loop-at.invariant w.if-not-in_number.ensures w.start-is
    ] in
    rw add-one (one_more c.args.bytes.now c.loop-at.at c.loop-at.start c.if-not-in_number.start (reading_of c.loop-at.reader) (reading_of c.take.new.self) c.loop-at.invariant c.take.ensures.known c.loop-at-test.true c.in-Ok.ensures.takes o)

at_end : (bytes : List ℕ) (at from : ℕ) (r : Reading) → at ≤ length bytes → length bytes ≤ at → Progress bytes at r from → Progress bytes (length bytes) r from
at_end bytes at from r l h p = let e : at ≡ length bytes = omega arith in subst (λ (n : ℕ). Progress bytes n r from) e p

pub returns-in-Ok-Some : goal.returns-in-Ok-Some
returns-in-Ok-Some c =
    good_end c.args.bytes.now c.loop-at.start (reading_of c.loop-at.reader) (given_of c.in-Ok-Some.choices)
    (at_end c.args.bytes.now c.loop-at.at c.loop-at.start (reading_of c.loop-at.reader) c.loop-at.auto.at-end c.loop-at-test.false c.loop-at.invariant) c.finish.ensures.known (rw c.in-Ok-Some.field-0-is at c.in-Ok-Some.ensures.gives)

pub returns-in-Ok-None : goal.returns-in-Ok-None
returns-in-Ok-None c =
    bad_end c.args.bytes.now c.loop-at.start (reading_of c.loop-at.reader)
    (at_end c.args.bytes.now c.loop-at.at c.loop-at.start (reading_of c.loop-at.reader) c.loop-at.auto.at-end c.loop-at-test.false c.loop-at.invariant) c.finish.ensures.known (rw c.in-Ok-None.field-0-is at c.in-Ok-None.ensures.gives)
