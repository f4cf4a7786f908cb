-- Statements that end within a body.
use Rattle.std.proofs.Common.{◌≡◌, ℕ, ◌<◌, List, [], ◌∷◌, ◌++◌, length, take, drop, refl, sym, ap, ◌∙◌, subst, arith, length-append, Option, Some}
use Rattle.std.proofs.Math.Seq.{drop-append_seam}
use Rattle.spl_text.specs.declared.token.Token.{Token}
use Rattle.spl_text.specs.declared.token.TokenKind.TheVariants as kind
use Rattle.spl_tree.specs.declared.parts.NameList.{NameList}
use Rattle.spl_tree.specs.Lists.{Lists}
use Rattle.spl_tree.specs.Program.{Named, skip}
use Rattle.spl_tree.specs.Meaning.{span_of, name_of, expr_at, block_over, names_over}
use Rattle.spl_parser.specs.declared.state.Word.{Word}
use Rattle.spl_parser.specs.declared.state.Body.{Body}
use Rattle.spl_parser.specs.declared.state.Simple.{Simple}
use Rattle.spl_parser.specs.declared.state.Simple.TheVariants as simple
use Rattle.spl_parser.specs.declared.state.CallHead.{CallHead}
use Rattle.spl_parser.specs.declared.state.Targets.TheVariants as targets
use Rattle.spl_parser.specs.declared.state.Closed.{Closed}
use Rattle.spl_parser.specs.declared.state.Closed.TheVariants as closed
use Rattle.spl_parser.specs.declared.state.State.TheVariants as state
use Rattle.spl_parser.specs.Growth.{Grown, grown, ground_of, Grew}
use Rattle.spl_parser.specs.Machine as m
use Rattle.spl_parser.specs.Trees.{trees}
use Rattle.spl_parser.specs.View.{word_of, body_of, simple_of, targets_of, closed_of, Small, Ready, TokenIn, next_of, Reaches, Grows, AddsStmt, closed_stmt, closed_place, closed_word}
use Rattle.spl_tree.specs.declared.parts.Stmt.TheVariants as stmt
use Rattle.spl_tree.specs.declared.parts.StmtAt.{StmtAt}
use Rattle.spl_tree.specs.Program.{halt, fail, call, if_then, if_else, while_do}
use Rattle.spl_tree.specs.Meaning.{stmt_over}
use Rattle.spl_parser.specs.TreeOf.{plain_at, call_at, block_at}
use Rattle.spl_parser.specs.Trees.{point_after}
use Rattle.spl_parser.specs.Machine.{step, step_simple, step_call_after, step_after_end}
use Rattle.spl_parser.proofs.StmtArms.{stmt_arm}
use Rattle.spl_parser.proofs.Stay.{body_keeps, grows_named, small_on}

up : (n n' : ℕ) (r : Grown) → n < n' → Small n r 0 → Small n' r 0
up n n' r lt h = record { letters = omega (arith, h.letters); names = omega (arith, h.names); named = omega (arith, h.named); decls = omega (arith, h.decls); procs = omega (arith, h.procs); stmts = omega (arith, h.stmts); blocks = h.blocks; exprs = omega (arith, h.exprs) }

pub skip_arm : (source : List ℕ) (t t2 : Lists) (token : Token) (b b' : Body) (w : Simple) (start : ℕ) (at : StmtAt) → token.kind ≡ kind.Semicolon → w ≡ simple.Skip start → at ≡ plain_at start token.end → TokenIn token → Ready token.start t (state.Single b w) → AddsStmt t t2 b stmt.Skip at b' → Reaches source token.end t2 (state.InBlock b') (next_of source (grown t) (state.Single b w) token)
unfolding step step_simple
skip_arm source t t2 token b b' w start at is e at' ok ready h = stmt_arm source t t t2 token kind.Semicolon (state.Single b w) b b' stmt.Skip at (skip (plain_at start token.end)) is (ap (λ x. m.step (trees source) (m.simple (body_of source (grown t) b) (simple_of source x)) kind.Semicolon (m.leaf_of token)) e) refl (ap (λ y. skip y) at') h (omega (arith, ready.small.stmts, ok.filled)) (up token.start token.end (grown t) ok.filled ready.small)

pub halt_arm : (source : List ℕ) (t t2 : Lists) (token : Token) (b b' : Body) (w : Simple) (start : ℕ) (at : StmtAt) → token.kind ≡ kind.Semicolon → w ≡ simple.Halt start → at ≡ plain_at start token.end → TokenIn token → Ready token.start t (state.Single b w) → AddsStmt t t2 b stmt.Halt at b' → Reaches source token.end t2 (state.InBlock b') (next_of source (grown t) (state.Single b w) token)
unfolding step step_simple
halt_arm source t t2 token b b' w start at is e at' ok ready h = stmt_arm source t t t2 token kind.Semicolon (state.Single b w) b b' stmt.Halt at (halt (plain_at start token.end)) is (ap (λ x. m.step (trees source) (m.simple (body_of source (grown t) b) (simple_of source x)) kind.Semicolon (m.leaf_of token)) e) refl (ap (λ y. halt y) at') h (omega (arith, ready.small.stmts, ok.filled)) (up token.start token.end (grown t) ok.filled ready.small)

pub fail_arm : (source : List ℕ) (t t2 : Lists) (token : Token) (b b' : Body) (w : Simple) (start : ℕ) (at : StmtAt) → token.kind ≡ kind.Semicolon → w ≡ simple.Fail start → at ≡ plain_at start token.end → TokenIn token → Ready token.start t (state.Single b w) → AddsStmt t t2 b stmt.Fail at b' → Reaches source token.end t2 (state.InBlock b') (next_of source (grown t) (state.Single b w) token)
unfolding step step_simple
fail_arm source t t2 token b b' w start at is e at' ok ready h = stmt_arm source t t t2 token kind.Semicolon (state.Single b w) b b' stmt.Fail at (fail (plain_at start token.end)) is (ap (λ x. m.step (trees source) (m.simple (body_of source (grown t) b) (simple_of source x)) kind.Semicolon (m.leaf_of token)) e) refl (ap (λ y. fail y) at') h (omega (arith, ready.small.stmts, ok.filled)) (up token.start token.end (grown t) ok.filled ready.small)

-- a call with a list of targets, and with one target
pub calls_arm : (source : List ℕ) (t t2 : Lists) (token : Token) (b b' : Body) (hd : CallHead) (o : ℕ) (xs : NameList) (ns : NameList) (at : StmtAt) → token.kind ≡ kind.Semicolon → hd.targets ≡ targets.List o xs → at ≡ call_at o hd.called.at token.end → TokenIn token → Ready token.start t (state.CallAfter b hd ns) → AddsStmt t t2 b (stmt.Call xs hd.called.name ns) at b' → Reaches source token.end t2 (state.InBlock b') (next_of source (grown t) (state.CallAfter b hd ns) token)
unfolding step step_call_after
calls_arm source t t2 token b b' hd o xs ns at is e at' ok ready h = stmt_arm source t t t2 token kind.Semicolon (state.CallAfter b hd ns) b b' (stmt.Call xs hd.called.name ns) at (call (names_over (grown t).named xs) (name_of (grown t).names hd.called.name) (names_over (grown t).named ns) (call_at o hd.called.at token.end)) is (ap (λ x. m.step (trees source) (m.call_after (body_of source (grown t) b) (targets_of source (grown t) x) (word_of (grown t) hd.called) tt (names_over (grown t).named ns) tt) kind.Semicolon (m.leaf_of token)) e) refl (ap (λ y. call (names_over (grown t).named xs) (name_of (grown t).names hd.called.name) (names_over (grown t).named ns) y) at') h (omega (arith, ready.small.stmts, ok.filled)) (up token.start token.end (grown t) ok.filled ready.small)

pub call_arm : (source : List ℕ) (t t1 t2 : Lists) (token : Token) (b b' : Body) (hd : CallHead) (x : Word) (ns : NameList) (first : ℕ) (at : StmtAt) → token.kind ≡ kind.Semicolon → hd.targets ≡ targets.One x → at ≡ call_at x.at hd.called.at token.end → TokenIn token → Ready token.start t (state.CallAfter b hd ns) → first ≡ length (grown t).named → Grew t1 (record (grown t) { named = (grown t).named ++ record { name = name_of (grown t).names x.name; at = x.at } ∷ [] }) → AddsStmt t1 t2 b (stmt.Call (record { first = first; count = 1 }) hd.called.name ns) at b' → Reaches source token.end t2 (state.InBlock b') (next_of source (grown t) (state.CallAfter b hd ns) token)
unfolding step step_call_after
call_arm source t t1 t2 token b b' hd x ns first at is e at' ok ready num grew h =
    let y : Named = word_of (grown t) x in
    let N : (grown t1).named ≡ (grown t).named ++ y ∷ [] = ap (λ (q : Grown). q.named) grew.meaning in
    let G : Grows (grown t) (grown t1) = subst (λ (q : Grown). Grows (grown t) q) (sym grew.meaning) (grows_named (grown t) y) in
    let one : span_of (grown t1).named first 1 ≡ y ∷ [] = ap (λ l. span_of l first 1) N ∙ (ap (λ k. take 1 (drop k ((grown t).named ++ y ∷ []))) num ∙ ap (λ l. take 1 l) (drop-append_seam (grown t).named (y ∷ []))) in
    let rest : span_of (grown t1).named ns.first ns.count ≡ span_of (grown t).named ns.first ns.count = G.named ns.first ns.count ready.there.2 in
    let name : name_of (grown t1).names hd.called.name ≡ name_of (grown t).names hd.called.name = ap (λ (q : Grown). name_of q.names hd.called.name) grew.meaning in
    stmt_arm source t t1 t2 token kind.Semicolon (state.CallAfter b hd ns) b b' (stmt.Call (record { first = first; count = 1 }) hd.called.name ns) at (call (y ∷ []) (name_of (grown t).names hd.called.name) (names_over (grown t).named ns) (call_at x.at hd.called.at token.end)) is
    (ap (λ z. m.step (trees source) (m.call_after (body_of source (grown t) b) (targets_of source (grown t) z) (word_of (grown t) hd.called) tt (names_over (grown t).named ns) tt) kind.Semicolon (m.leaf_of token)) e)
    (body_keeps source (grown t) (grown t1) b G ready.there.0)
    (ap (λ z. call z (name_of (grown t1).names hd.called.name) (names_over (grown t1).named ns) at) one ∙ (ap (λ z. call (y ∷ []) z (names_over (grown t1).named ns) at) name ∙ (ap (λ z. call (y ∷ []) (name_of (grown t).names hd.called.name) z at) rest ∙ ap (λ z. call (y ∷ []) (name_of (grown t).names hd.called.name) (names_over (grown t).named ns) z) at'))) h
    (omega (arith, ap (λ (q : Grown). length q.stmts) grew.meaning, ready.small.stmts, ok.filled))
    (record {
      letters = omega (arith, ap (λ (q : Grown). q.letters) grew.meaning, ready.small.letters, ok.filled);
      names = omega (arith, ap (λ (q : Grown). length q.names) grew.meaning, ready.small.names, ok.filled);
      named = omega (arith, ap length N, length-append (grown t).named (y ∷ []), ready.small.named, ok.filled);
      decls = omega (arith, ap (λ (q : Grown). length q.decls) grew.meaning, ready.small.decls, ok.filled);
      procs = omega (arith, ap (λ (q : Grown). length q.procs) grew.meaning, ready.small.procs, ok.filled);
      stmts = omega (arith, ap (λ (q : Grown). length q.stmts) grew.meaning, ready.small.stmts, ok.filled);
      blocks = omega (arith, ap (λ (q : Grown). length q.blocks) grew.meaning, ap (λ (q : Grown). length q.stmts) grew.meaning, ready.small.blocks);
      exprs = omega (arith, ap (λ (q : Grown). length q.exprs) grew.meaning, ready.small.exprs, ok.filled);
    })

-- a conditional or a loop, with or without its `;`
pub closed_is : (source : List ℕ) (r : Grown) (c : Closed) (s : Option ℕ) (end : ℕ) → point_after (closed_word c) s ≡ end → stmt_over (ground_of r) r.stmts (closed_stmt c) (closed_place c end) ≡ m.finished (trees source) (closed_of source r c) s
closed_is source r (closed.If f b word) s end h = ap (λ y. if_then (expr_at r.exprs f.condition) (block_over r.blocks r.stmts b) (block_at f.start f.first f.start y)) (sym h)
closed_is source r (closed.IfElse f b els c word) s end h = ap (λ y. if_else (expr_at r.exprs f.condition) (block_over r.blocks r.stmts b) (block_over r.blocks r.stmts c) (block_at f.start f.first els y)) (sym h)
closed_is source r (closed.While f b word) s end h = ap (λ y. while_do (expr_at r.exprs f.condition) (block_over r.blocks r.stmts b) (block_at f.start f.first f.start y)) (sym h)

pub closed_semicolon_arm : (source : List ℕ) (t t2 : Lists) (token : Token) (b b' : Body) (c : Closed) → token.kind ≡ kind.Semicolon → TokenIn token → Ready token.start t (state.AfterEnd b c) → AddsStmt t t2 b (closed_stmt c) (closed_place c token.end) b' → Reaches source token.end t2 (state.InBlock b') (next_of source (grown t) (state.AfterEnd b c) token)
unfolding step step_after_end
closed_semicolon_arm source t t2 token b b' c is ok ready h = stmt_arm source t t t2 token kind.Semicolon (state.AfterEnd b c) b b' (closed_stmt c) (closed_place c token.end) (m.finished (trees source) (closed_of source (grown t) c) (Some token.end)) is refl refl (closed_is source (grown t) c (Some token.end) token.end refl) h (omega (arith, ready.small.stmts, ok.filled)) (small_on token.start token.end (grown t) 1 0 ok.filled (omega arith) ready.small)
