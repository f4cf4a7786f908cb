use Rattle.std.proofs.Common.{◌≡◌, ◌∷◌, ◌++◌, [], Some, None, arith, refl, sym}
use Rattle.std.proofs.lemmas.Grind.{common_steps}
use Rattle.spl_text.specs.Pieces.{piece_at}
use Rattle.spl_text.specs.declared.piece.Piece.TheVariants.{Gap}
use Rattle.spl_text.proofs.Spelling.{stands_gap, stands_token}
use Rattle.spl_text.proofs.FirstRule.{first_rule, checked-gap, checked-taken, checked-broken, checked-limit}
use Rattle.spl_text.proofs.Cursors.{Cursor-start, Cursor-gap, Cursor-token, Cursor-fault, Cursor-cut, Cursor-unbroken, depth_of-push, run_of-push, tokens_stand_in_order}
use Rattle.spl_text.proofs.lexer.tokens.Goals as goal

pub loop-at-init : goal.loop-at-init
loop-at-init c = rw c.new-items.ensures.items (record { cursor = Cursor-start c.args.bytes.now; depth = refl; run = refl })

pub loop-at-smaller-in-Gap : goal.loop-at-smaller-in-Gap
loop-at-smaller-in-Gap c =
    let e : piece_at c.args.bytes.now c.loop-at.at ≡ Gap c.in-Gap.end = checked-gap (piece_at c.args.bytes.now c.loop-at.at) c.in-Gap.end (sym c.in-Gap.ensures) in
    let s = stands_gap c.args.bytes.now c.loop-at.at c.in-Gap.end e in
    omega (arith, s.0, s.1)

pub loop-at-preserved-in-Gap : goal.loop-at-preserved-in-Gap
loop-at-preserved-in-Gap c =
    let e : piece_at c.args.bytes.now c.loop-at.at ≡ Gap c.in-Gap.end = checked-gap (piece_at c.args.bytes.now c.loop-at.at) c.in-Gap.end (sym c.in-Gap.ensures) in
    record {
      cursor = Cursor-gap c.args.bytes.now c.loop-at.at c.in-Gap.end c.loop-at.items.items c.loop-at.invariant.cursor e;
      depth = c.loop-at.invariant.depth;
      run = c.loop-at.invariant.run;
    }

pub returns-in-Err-clause-broken : goal.returns-in-Err-clause-broken
returns-in-Err-clause-broken c =
    let bytes = c.args.bytes.now in
    let items = c.loop-at.items.items in
    Cursor-fault bytes c.loop-at.at items c.in-Err.rule c.loop-at.invariant.cursor c.loop-at-test.true
    (checked-limit items (piece_at bytes c.loop-at.at) c.in-Taken.token c.loop-at.limits.depth c.loop-at.limits.run (Some c.in-Err.rule) (sym c.in-Taken.ensures)
    c.loop-at.invariant.depth c.loop-at.invariant.run c.in-Err.ensures.broken)

pub loop-at-smaller : goal.loop-at-smaller
loop-at-smaller c =
    let t = checked-taken (piece_at c.args.bytes.now c.loop-at.at) c.in-Taken.token (sym c.in-Taken.ensures) in
    let s = stands_token c.args.bytes.now c.loop-at.at c.in-Taken.token t.0 in
    omega (arith, s.filled, s.within)

pub loop-at-preserved : goal.loop-at-preserved
loop-at-preserved c =
    let bytes = c.args.bytes.now in
    let items = c.loop-at.items.items in
    let t = checked-taken (piece_at bytes c.loop-at.at) c.in-Taken.token (sym c.in-Taken.ensures) in
    let e : c.push.new.self.items ≡ items ++ c.in-Taken.token ∷ [] = grind (arith, common_steps) in
    let nothing : first_rule items (piece_at bytes c.loop-at.at) ≡ None =
    checked-limit items (piece_at bytes c.loop-at.at) c.in-Taken.token c.loop-at.limits.depth c.loop-at.limits.run None (sym c.in-Taken.ensures)
    c.loop-at.invariant.depth c.loop-at.invariant.run c.in-Ok.ensures.kept in
    rw e (record {
      cursor = Cursor-token bytes c.loop-at.at items c.in-Taken.token c.loop-at.invariant.cursor t.0 nothing;
      depth = rw (depth_of-push items c.in-Taken.token, ← c.loop-at.invariant.depth) c.in-Ok.ensures.depth.0;
      run = rw (run_of-push items c.in-Taken.token, ← c.loop-at.invariant.run) c.in-Ok.ensures.run.0;
    })

pub returns-in-Broken-clause-broken : goal.returns-in-Broken-clause-broken
returns-in-Broken-clause-broken c =
    let bytes = c.args.bytes.now in
    let items = c.loop-at.items.items in
    Cursor-fault bytes c.loop-at.at items c.in-Broken.rule c.loop-at.invariant.cursor c.loop-at-test.true
    (checked-broken items (piece_at bytes c.loop-at.at) c.in-Broken.rule (sym c.in-Broken.ensures))

pub from_vec-requires : goal.from_vec-requires
from_vec-requires c =
    tokens_stand_in_order c.args.bytes.now c.loop-at.items.items c.requires
    (Cursor-cut c.args.bytes.now c.loop-at.at c.loop-at.items.items c.loop-at.invariant.cursor c.loop-at-test.false)
    (Cursor-unbroken c.args.bytes.now c.loop-at.at c.loop-at.items.items c.loop-at.invariant.cursor c.loop-at-test.false)

pub returns-clause-unbroken : goal.returns-clause-unbroken
returns-clause-unbroken c = Cursor-unbroken c.args.bytes.now c.loop-at.at c.loop-at.items.items c.loop-at.invariant.cursor c.loop-at-test.false
