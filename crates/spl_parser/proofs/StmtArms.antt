-- Statements that end, and blocks that open.
use Rattle.std.proofs.Common.{◌≡◌, ℕ, ◌<◌, List, [], ◌∷◌, ◌++◌, length, refl, sym, ap, ◌∙◌, subst, arith, length-append, Some, sum_by}
use Rattle.std.proofs.lemmas.List.Sums.{sum_by_push}
use Rattle.std.proofs.lemmas.List.{get_or_push}
use Rattle.spl_text.specs.declared.token.Token.{Token}
use Rattle.spl_text.specs.declared.token.TokenKind.{TokenKind}
use Rattle.spl_tree.specs.declared.parts.StmtId.{StmtId}
use Rattle.spl_tree.specs.declared.parts.DeclList.{DeclList}
use Rattle.spl_tree.specs.Lists.{Lists}
use Rattle.spl_tree.specs.Facts.{Each, IsPlace}
use Rattle.spl_tree.specs.Program.{StmtTree, skip, nowhere, BlockTree, empty}
use Rattle.spl_tree.specs.Meaning.{stmt_at, block_after, decls_over}
use Rattle.spl_parser.specs.declared.state.Head.{Head}
use Rattle.spl_parser.specs.declared.state.Frame.{Frame}
use Rattle.spl_parser.specs.declared.state.Body.{Body}
use Rattle.spl_parser.specs.declared.state.State.{State}
use Rattle.spl_parser.specs.declared.state.State.TheVariants as state
use Rattle.spl_parser.specs.Growth.{Grown, grown, ground_of, IdsIn, DeclsIn, Grew}
use Rattle.spl_parser.specs.Machine as m
use Rattle.spl_parser.specs.Trees.{trees}
use Rattle.spl_parser.specs.View.{stacked, head_of, ids_over, frame_of, body_of, state_of, HeadIn, FrameIn, frame_held, BodyIn, Small, next_of, Reaches, Grows, AddsStmt, OpensBlock}
use Rattle.spl_tree.specs.declared.parts.Stmt.{Stmt}
use Rattle.spl_tree.specs.declared.parts.StmtAt.{StmtAt}
use Rattle.spl_tree.specs.Program.{more as one_more}
use Rattle.spl_tree.specs.Meaning.{stmt_over}
use Rattle.spl_parser.specs.Machine.{step}
use Rattle.spl_parser.proofs.Grow.{each_push}
use Rattle.spl_parser.proofs.WantArms.{stacked-push}
use Rattle.spl_parser.proofs.Stay.{moves, grows_stmts, body_keeps, body_in}

block-push : (trees' : List StmtTree) (b : BlockTree) (ids : List StmtId) (id : StmtId) → block_after trees' b (ids ++ id ∷ []) ≡ one_more (block_after trees' b ids) (stmt_at trees' id)
block-push trees' b [] id = refl
block-push trees' b (x ∷ ids) id = block-push trees' (one_more b (stmt_at trees' x)) ids id

-- a body with one more statement
pub adds_stmt : (t t' : Lists) (b b' : Body) (s : Stmt) (at : StmtAt) (id : StmtId) → BodyIn (grown t) b → id.0 ≡ length (grown t).stmts → Grew t' (record (grown t) { stmts = (grown t).stmts ++ stmt_over (ground_of (grown t)) (grown t).stmts s at ∷ [] }) → b'.head ≡ b.head → b'.locals ≡ b.locals → b'.begin ≡ b.begin → b'.frames.items ≡ b.frames.items → b'.stmts.items ≡ b.stmts.items ++ id ∷ [] → AddsStmt t t' b s at b'
adds_stmt t t' b b' s at id h num g e1 e2 e3 e4 e5 =
    let x : StmtTree = stmt_over (ground_of (grown t)) (grown t).stmts s at in
    let S : (grown t').stmts ≡ (grown t).stmts ++ x ∷ [] = ap (λ (q : Grown). q.stmts) g.meaning in
    let G : Grows (grown t) (grown t') = subst (λ (q : Grown). Grows (grown t) q) (sym g.meaning) (grows_stmts (grown t) x) in
    let B : length (grown t').blocks ≡ length (grown t).blocks = ap (λ (q : Grown). length q.blocks) g.meaning in
    let X : stmt_at (grown t').stmts id ≡ x = ap (λ l. stmt_at l id) S ∙ get_or_push (grown t).stmts x (skip nowhere) id.0 (sym num) in
    let old = body_in (grown t) (grown t') b G B h in
    record {
      whole = g.tree;
      only = g.meaning ∙ ap (λ l. record (grown t) { stmts = l }) (sym S);
      grows = G;
      count = ap length S ∙ length-append (grown t).stmts (x ∷ []);
      there = record {
        head = subst (λ (y : Head). HeadIn (grown t') y) (sym e1) old.head;
        locals = subst (λ (y : DeclList). DeclsIn (grown t') y) (sym e2) old.locals;
        begin = subst (λ (y : ℕ). IsPlace y) (sym e3) old.begin;
        frames = subst (λ (l : List Frame). Each (λ k f. FrameIn (grown t') f) l) (sym e4) old.frames;
        stmts = subst (λ (l : List StmtId). IdsIn (length (grown t').stmts) l) (sym e5) (each_push (λ k (i : StmtId). i.0 < length (grown t').stmts) b.stmts.items id old.stmts (omega (arith, num, ap length S, length-append (grown t).stmts (x ∷ []))));
        held = omega (arith, h.held, B, ap length S, length-append (grown t).stmts (x ∷ []), ap length e5, length-append b.stmts.items (id ∷ []), ap (λ l. sum_by frame_held l) e4);
      };
      goes = λ source. same source X (body_keeps source (grown t) (grown t') b G h);
    }
  where
    same : (source : List ℕ) → stmt_at (grown t').stmts id ≡ stmt_over (ground_of (grown t)) (grown t).stmts s at → body_of source (grown t') b ≡ body_of source (grown t) b → body_of source (grown t') b' ≡ m.with_stmt (trees source) (body_of source (grown t) b) (stmt_over (ground_of (grown t)) (grown t).stmts s at)
    same source X K =
        let ids : ids_over (grown t') b'.stmts.items ≡ one_more (ids_over (grown t') b.stmts.items) (stmt_over (ground_of (grown t)) (grown t).stmts s at) = ap (λ l. ids_over (grown t') l) e5 ∙ (block-push (grown t').stmts empty b.stmts.items id ∙ ap (λ y. one_more (ids_over (grown t') b.stmts.items) y) X) in
        let here = new_body source (ap (λ y. head_of source (grown t') y) e1) (ap (λ y. decls_over (grown t').decls y) e2) e3 (ap (λ l. stacked (frame_of source (grown t')) l) e4) ids in
        here ∙ ap (λ y. m.with_stmt (trees source) y (stmt_over (ground_of (grown t)) (grown t).stmts s at)) K
      where
        new_body : (source : List ℕ) → head_of source (grown t') b'.head ≡ head_of source (grown t') b.head → decls_over (grown t').decls b'.locals ≡ decls_over (grown t').decls b.locals → b'.begin ≡ b.begin → stacked (frame_of source (grown t')) b'.frames.items ≡ stacked (frame_of source (grown t')) b.frames.items → ids_over (grown t') b'.stmts.items ≡ one_more (ids_over (grown t') b.stmts.items) (stmt_over (ground_of (grown t)) (grown t).stmts s at) → body_of source (grown t') b' ≡ m.with_stmt (trees source) (body_of source (grown t') b) (stmt_over (ground_of (grown t)) (grown t).stmts s at)
        new_body source a c d f g = cc

-- a block that opens
pub opens_block : (source : List ℕ) (r : Grown) (b b' : Body) (f : Frame) → OpensBlock b f b' → body_of source r b' ≡ m.with_block (trees source) (body_of source r b) (frame_of source r f ∷ stacked (frame_of source r) b.frames.items) empty
opens_block source r b b' f o = same (ap (λ y. head_of source r y) o.head) (ap (λ y. decls_over r.decls y) o.locals) o.begin (ap (λ l. stacked (frame_of source r) l) o.frames ∙ stacked-push (frame_of source r) b.frames.items f) (ap (λ l. ids_over r l) o.stmts)
  where
    same : head_of source r b'.head ≡ head_of source r b.head → decls_over r.decls b'.locals ≡ decls_over r.decls b.locals → b'.begin ≡ b.begin → stacked (frame_of source r) b'.frames.items ≡ frame_of source r f ∷ stacked (frame_of source r) b.frames.items → ids_over r b'.stmts.items ≡ empty → body_of source r b' ≡ m.with_block (trees source) (body_of source r b) (frame_of source r f ∷ stacked (frame_of source r) b.frames.items) empty
    same a c d e g = cc

pub opens_in : (r : Grown) (b b' : Body) (f : Frame) → OpensBlock b f b' → BodyIn r b → FrameIn r f → frame_held f ≡ length b.stmts.items → BodyIn r b'
opens_in r b b' f o h hf held = record {
  head = subst (λ (y : Head). HeadIn r y) (sym o.head) h.head;
  locals = subst (λ (y : DeclList). DeclsIn r y) (sym o.locals) h.locals;
  begin = subst (λ (y : ℕ). IsPlace y) (sym o.begin) h.begin;
  frames = subst (λ (l : List Frame). Each (λ k x. FrameIn r x) l) (sym o.frames) (each_push (λ k x. FrameIn r x) b.frames.items f h.frames hf);
  stmts = λ k d lt. absurd (omega (arith, ap length o.stmts));
  held = omega (arith, h.held, held, ap length o.stmts, ap (λ l. sum_by frame_held l) o.frames, sum_by_push frame_held b.frames.items f);
}

-- a statement ends a step
pub stmt_arm : (source : List ℕ) (t t1 t2 : Lists) (token : Token) (k : TokenKind) (s : State) (b b' : Body) (st : Stmt) (at : StmtAt) (x : StmtTree) → token.kind ≡ k → m.step (trees source) (state_of source (grown t) s) k (m.leaf_of token) ≡ Some (m.in_block (m.with_stmt (trees source) (body_of source (grown t) b) x)) → body_of source (grown t1) b ≡ body_of source (grown t) b → stmt_over (ground_of (grown t1)) (grown t1).stmts st at ≡ x → AddsStmt t1 t2 b st at b' → length (grown t1).stmts < token.end → Small token.end (grown t1) 0 → Reaches source token.end t2 (state.InBlock b') (next_of source (grown t) s token)
stmt_arm source t t1 t2 token k s b b' st at x is goes keeps over h lt small =
    moves source t t2 s (state.InBlock b') token k is (goes ∙ (ap (λ y. Some (m.in_block (m.with_stmt (trees source) y x))) (sym keeps) ∙ (ap (λ y. Some (m.in_block (m.with_stmt (trees source) (body_of source (grown t1) b) y))) (sym over) ∙ ap (λ y. Some (m.in_block y)) (sym (h.goes source))))) h.whole
    (record {
      letters = omega (arith, ap (λ (q : Grown). q.letters) h.only, small.letters);
      names = omega (arith, ap (λ (q : Grown). length q.names) h.only, small.names);
      named = omega (arith, ap (λ (q : Grown). length q.named) h.only, small.named);
      decls = omega (arith, ap (λ (q : Grown). length q.decls) h.only, small.decls);
      procs = omega (arith, ap (λ (q : Grown). length q.procs) h.only, small.procs);
      stmts = omega (arith, h.count);
      blocks = omega (arith, ap (λ (q : Grown). length q.blocks) h.only, h.count, small.blocks);
      exprs = omega (arith, ap (λ (q : Grown). length q.exprs) h.only, small.exprs);
    })
    h.there
