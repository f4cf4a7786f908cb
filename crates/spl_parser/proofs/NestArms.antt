-- Steps at the words that end a block.
use Rattle.std.proofs.Common.{◌≡◌, ℕ, ◌+◌, ◌<◌, ◌≤◌, List, [], ◌∷◌, ◌++◌, length, take, drop, refl, sym, ap, ◌∙◌, subst, arith, length-append, Option, Some, None, sum_by}
use Rattle.std.specs.Global.{Vec}
use Rattle.std.proofs.lemmas.List.Sums.{sum_by_push}
use Rattle.std.proofs.lemmas.List.{get_or_push}
use Rattle.std.proofs.Math.ListN.{get_or-append}
use Rattle.std.proofs.Math.Seq.{drop-append_seam, take-length}
use Rattle.spl_text.specs.declared.token.Token.{Token}
use Rattle.spl_text.specs.declared.token.TokenKind.TheVariants as kind
use Rattle.spl_tree.specs.declared.parts.StmtId.{StmtId}
use Rattle.spl_tree.specs.declared.parts.Block.{Block}
use Rattle.spl_tree.specs.declared.parts.DeclList.{DeclList}
use Rattle.spl_tree.specs.declared.parts.MainTree.{MainTree}
use Rattle.spl_tree.specs.declared.parts.ProcTree.{ProcTree}
use Rattle.spl_tree.specs.declared.parts.ProcAt.{ProcAt}
use Rattle.spl_tree.specs.Lists.{Lists}
use Rattle.spl_tree.specs.Facts.{Each, IsPlace, IsTree}
use Rattle.spl_tree.specs.Program.{BlockTree, empty, ProcMeaning}
use Rattle.spl_tree.specs.Meaning.{span_of, block_after, block_over, decls_over, expr_at, proc_over}
use Rattle.spl_parser.specs.declared.state.Head.{Head}
use Rattle.spl_parser.specs.declared.state.Head.TheVariants as head
use Rattle.spl_parser.specs.declared.state.ProcHead.{ProcHead}
use Rattle.spl_parser.specs.declared.state.Body.{Body}
use Rattle.spl_parser.specs.declared.state.Front.{Front}
use Rattle.spl_parser.specs.declared.state.Frame.{Frame}
use Rattle.spl_parser.specs.declared.state.Frame.TheVariants as frame
use Rattle.spl_parser.specs.declared.state.Closed.{Closed}
use Rattle.spl_parser.specs.declared.state.Closed.TheVariants as closed
use Rattle.spl_parser.specs.declared.state.State.{State}
use Rattle.spl_parser.specs.declared.state.State.TheVariants as state
use Rattle.spl_parser.specs.Growth.{Grown, grown, IdsIn, BlockIn, DeclsIn, Grew}
use Rattle.spl_parser.specs.Machine as m
use Rattle.spl_parser.specs.Machine.{step, step_block, on_else, on_endif, on_done, on_end, body_close}
use Rattle.spl_parser.specs.Trees.{trees}
use Rattle.spl_parser.specs.View.{stacked, word_of, head_of, ids_over, frame_of, body_of, closed_of, state_of, HeadIn, FrameIn, frame_held, BodyIn, ClosedIn, StateIn, state_waiting, Small, Ready, TokenIn, next_of, Reaches, Grows}
use Rattle.spl_parser.proofs.Grow.{each_more, each_push}
use Rattle.spl_parser.proofs.WantArms.{stacked-push}
use Rattle.spl_parser.proofs.Stay.{grows_blocks, word_keeps, head_in, head_keeps, decls_in, block_in, block_keeps, front_in, frames_in, frames_keep}

-- the innermost open block
pub innermost : (source : List ℕ) (r : Grown) (b : Body) (rest : List Frame) (f g : Frame) → b.frames.items ≡ rest ++ f ∷ [] → f ≡ g → stacked (frame_of source r) b.frames.items ≡ frame_of source r g ∷ stacked (frame_of source r) rest
innermost source r b rest f g split e = ap (λ l. stacked (frame_of source r) l) split ∙ (stacked-push (frame_of source r) rest f ∙ ap (λ y. frame_of source r y ∷ stacked (frame_of source r) rest) e)

pub at_else_word : (source : List ℕ) (r : Grown) (b : Body) (token : Token) (l : List (m.Frame (trees source))) → token.kind ≡ kind.Else → stacked (frame_of source r) b.frames.items ≡ l → next_of source r (state.InBlock b) token ≡ m.on_else (trees source) (body_of source r b) l (m.leaf_of token)
unfolding step step_block
at_else_word source r b token l is e = ap (λ k. m.step (trees source) (m.in_block (body_of source r b)) k (m.leaf_of token)) is ∙ ap (λ y. m.on_else (trees source) (body_of source r b) y (m.leaf_of token)) e

pub at_endif_word : (source : List ℕ) (r : Grown) (b : Body) (token : Token) (l : List (m.Frame (trees source))) → token.kind ≡ kind.Endif → stacked (frame_of source r) b.frames.items ≡ l → next_of source r (state.InBlock b) token ≡ m.on_endif (trees source) (body_of source r b) l (m.leaf_of token)
unfolding step step_block
at_endif_word source r b token l is e = ap (λ k. m.step (trees source) (m.in_block (body_of source r b)) k (m.leaf_of token)) is ∙ ap (λ y. m.on_endif (trees source) (body_of source r b) y (m.leaf_of token)) e

pub at_done_word : (source : List ℕ) (r : Grown) (b : Body) (token : Token) (l : List (m.Frame (trees source))) → token.kind ≡ kind.Done → stacked (frame_of source r) b.frames.items ≡ l → next_of source r (state.InBlock b) token ≡ m.on_done (trees source) (body_of source r b) l (m.leaf_of token)
unfolding step step_block
at_done_word source r b token l is e = ap (λ k. m.step (trees source) (m.in_block (body_of source r b)) k (m.leaf_of token)) is ∙ ap (λ y. m.on_done (trees source) (body_of source r b) y (m.leaf_of token)) e

pub at_end_word : (source : List ℕ) (r : Grown) (b : Body) (token : Token) (l : List (m.Frame (trees source))) → token.kind ≡ kind.End → stacked (frame_of source r) b.frames.items ≡ l → next_of source r (state.InBlock b) token ≡ m.on_end (trees source) (body_of source r b) l (m.leaf_of token)
unfolding step step_block
at_end_word source r b token l is e = ap (λ k. m.step (trees source) (m.in_block (body_of source r b)) k (m.leaf_of token)) is ∙ ap (λ y. m.on_end (trees source) (body_of source r b) y (m.leaf_of token)) e

ids_in : (r r' : Grown) (ids : List StmtId) → Grows r r' → IdsIn (length r.stmts) ids → IdsIn (length r'.stmts) ids
ids_in r r' ids g h = each_more (λ k (s : StmtId). s.0 < length r.stmts) (λ k (s : StmtId). s.0 < length r'.stmts) ids h (λ k s lt. omega (arith, g.stmts_le))

-- a block was added and nothing else
pub record AddsBlock (t t' : Lists) (ids : List StmtId) (b : Block) : Type 0 where
  pub whole : IsTree t'
  pub same : grown t' ≡ record (grown t) { blocks = (grown t).blocks ++ ids }
  pub grows : Grows (grown t) (grown t')
  pub count : length (grown t').blocks ≡ length (grown t).blocks + length ids
  pub there : BlockIn (grown t') b
  pub is : block_over (grown t').blocks (grown t').stmts b ≡ ids_over (grown t) ids

adds_block : (t t' : Lists) (ids : List StmtId) (b : Block) → IdsIn (length (grown t).stmts) ids → b.first ≡ length (grown t).blocks → b.count ≡ length ids → Grew t' (record (grown t) { blocks = (grown t).blocks ++ ids }) → AddsBlock t t' ids b
adds_block t t' ids b h first count g =
    let B : (grown t').blocks ≡ (grown t).blocks ++ ids = ap (λ (q : Grown). q.blocks) g.meaning in
    let S : (grown t').stmts ≡ (grown t).stmts = ap (λ (q : Grown). q.stmts) g.meaning in
    let G : Grows (grown t) (grown t') = subst (λ (q : Grown). Grows (grown t) q) (sym g.meaning) (grows_blocks (grown t) ids) in
    let span : span_of (grown t').blocks b.first b.count ≡ ids = ap (λ l. span_of l b.first b.count) B ∙ (ap (λ k. take b.count (drop k ((grown t).blocks ++ ids))) first ∙ (ap (λ l. take b.count l) (drop-append_seam (grown t).blocks ids) ∙ (ap (λ k. take k ids) count ∙ take-length ids))) in
    let P : List StmtId → Type 0 = λ l. IdsIn (length (grown t').stmts) l in
    record {
      whole = g.tree;
      same = g.meaning;
      grows = G;
      count = ap length B ∙ length-append (grown t).blocks ids;
      there = record { span = omega (arith, first, count, ap length B, length-append (grown t).blocks ids); ids = subst P (sym span) (ids_in (grown t) (grown t') ids G h) };
      is = ap (λ l. block_after (grown t').stmts empty l) span ∙ G.stmts empty ids h;
    }

pub adds_slice : (t t' : Lists) (items ids : List StmtId) (b : Block) → ids ≡ items → IdsIn (length (grown t).stmts) items → b.first ≡ length (grown t).blocks → b.count ≡ length ids → Grew t' (record (grown t) { blocks = (grown t).blocks ++ ids }) → AddsBlock t t' items b
adds_slice t t' items ids b e h first count g = subst (λ (l : List StmtId). AddsBlock t t' l b) e (adds_block t t' ids b (subst (λ (l : List StmtId). IdsIn (length (grown t).stmts) l) (sym e) h) first count g)

-- a body over more lists, with other open blocks and other statements
reshaped : (source : List ℕ) (r r' : Grown) (b b' : Body) (fs : List (m.Frame (trees source))) (ss : BlockTree) → Grows r r' → BodyIn r b → b'.head ≡ b.head → b'.locals ≡ b.locals → b'.begin ≡ b.begin → stacked (frame_of source r') b'.frames.items ≡ fs → ids_over r' b'.stmts.items ≡ ss → body_of source r' b' ≡ m.with_block (trees source) (body_of source r b) fs ss
reshaped source r r' b b' fs ss g h e1 e2 e3 e4 e5 = same (ap (λ y. head_of source r' y) e1 ∙ head_keeps source r r' b.head g h.head) (ap (λ y. decls_over r'.decls y) e2 ∙ g.decls b.locals.first b.locals.count h.locals) e3 e4 e5
  where
    same : head_of source r' b'.head ≡ head_of source r b.head → decls_over r'.decls b'.locals ≡ decls_over r.decls b.locals → b'.begin ≡ b.begin → stacked (frame_of source r') b'.frames.items ≡ fs → ids_over r' b'.stmts.items ≡ ss → body_of source r' b' ≡ m.with_block (trees source) (body_of source r b) fs ss
    same a c d e f = cc

reshaped_in : (r r' : Grown) (b b' : Body) (fs : List Frame) (ss : List StmtId) → Grows r r' → length r'.blocks ≡ length r.blocks + length b.stmts.items → BodyIn r b → b'.head ≡ b.head → b'.locals ≡ b.locals → b'.begin ≡ b.begin → b'.frames.items ≡ fs → b'.stmts.items ≡ ss → Each (λ k f. FrameIn r' f) fs → IdsIn (length r'.stmts) ss → length ss + sum_by frame_held fs ≤ sum_by frame_held b.frames.items → BodyIn r' b'
reshaped_in r r' b b' fs ss g n h e1 e2 e3 e4 e5 hf hs le = record {
  head = subst (λ (y : Head). HeadIn r' y) (sym e1) (head_in r r' b.head g h.head);
  locals = subst (λ (y : DeclList). DeclsIn r' y) (sym e2) (decls_in r r' b.locals g h.locals);
  begin = subst (λ (y : ℕ). IsPlace y) (sym e3) h.begin;
  frames = subst (λ (l : List Frame). Each (λ k f. FrameIn r' f) l) (sym e4) hf;
  stmts = subst (λ (l : List StmtId). IdsIn (length r'.stmts) l) (sym e5) hs;
  held = omega (arith, h.held, n, le, g.stmts_le, ap length e5, ap (λ l. sum_by frame_held l) e4);
}

-- the innermost block of a body, and the others
each_front : (r : Grown) (xs ys : List Frame) → Each (λ k f. FrameIn r f) (xs ++ ys) → Each (λ k f. FrameIn r f) xs
each_front r xs ys h = λ k d lt. let P : Frame → Type 0 = λ x. FrameIn r x in subst P (get_or-append xs ys d k lt) (h k d (omega (arith, length-append xs ys)))

each_last : (r : Grown) (xs : List Frame) (y : Frame) → Each (λ k f. FrameIn r f) (xs ++ y ∷ []) → FrameIn r y
each_last r xs y h = let P : Frame → Type 0 = λ x. FrameIn r x in subst P (get_or_push xs y y (length xs) refl) (h (length xs) y (omega (arith, length-append xs (y ∷ []))))

record Inner (r : Grown) (b : Body) (rest : List Frame) (g : Frame) : Type 0 where
  pub others : Each (λ k f. FrameIn r f) rest
  pub last : FrameIn r g
  pub held : sum_by frame_held b.frames.items ≡ sum_by frame_held rest + frame_held g

inner : (r : Grown) (b : Body) (rest : List Frame) (f g : Frame) → b.frames.items ≡ rest ++ f ∷ [] → f ≡ g → BodyIn r b → Inner r b rest g
inner r b rest f g split e h =
    let whole : b.frames.items ≡ rest ++ g ∷ [] = split ∙ ap (λ x. rest ++ x ∷ []) e in
    let all : Each (λ k x. FrameIn r x) (rest ++ g ∷ []) = subst (λ (l : List Frame). Each (λ k x. FrameIn r x) l) whole h.frames in
    record { others = each_front r rest (g ∷ []) all; last = each_last r rest g all; held = ap (λ l. sum_by frame_held l) whole ∙ sum_by_push frame_held rest g }

block_small : (n n' : ℕ) (t t' : Lists) (ids : List StmtId) (b : Block) (w : ℕ) → n < n' → w ≤ 1 → AddsBlock t t' ids b → length (grown t').blocks ≤ length (grown t').stmts → Small n (grown t) 0 → Small n' (grown t') w
block_small n n' t t' ids b w lt le h few small = record {
  letters = omega (arith, ap (λ (q : Grown). q.letters) h.same, small.letters);
  names = omega (arith, ap (λ (q : Grown). length q.names) h.same, small.names);
  named = omega (arith, ap (λ (q : Grown). length q.named) h.same, small.named);
  decls = omega (arith, ap (λ (q : Grown). length q.decls) h.same, small.decls);
  procs = omega (arith, ap (λ (q : Grown). length q.procs) h.same, small.procs);
  stmts = omega (arith, ap (λ (q : Grown). length q.stmts) h.same, small.stmts);
  blocks = few;
  exprs = omega (arith, ap (λ (q : Grown). length q.exprs) h.same, small.exprs);
}

reached : (source : List ℕ) (n : ℕ) (t : Lists) (s : State) (next next' : Option (m.State (trees source))) → next ≡ next' → next' ≡ Some (state_of source (grown t) s) → IsTree t → Small n (grown t) (state_waiting s) → StateIn (grown t) s → Reaches source n t s next
reached source n t s next next' e f tree small there = record { goes = e ∙ f; ready = record { tree = tree; small = small; there = there } }

-- the second block of a conditional opens
pub else_arm : (source : List ℕ) (t t' : Lists) (token : Token) (b b' : Body) (rest : List Frame) (f : Frame) (outer : Vec StmtId) (fr : Front) (blk : Block) → token.kind ≡ kind.Else → b.frames.items ≡ rest ++ f ∷ [] → f ≡ frame.Then outer fr → TokenIn token → Ready token.start t (state.InBlock b) → AddsBlock t t' b.stmts.items blk → b'.head ≡ b.head → b'.locals ≡ b.locals → b'.begin ≡ b.begin → b'.frames.items ≡ rest ++ frame.Else outer fr blk token.end ∷ [] → b'.stmts.items ≡ [] → Reaches source token.end t' (state.InBlock b') (next_of source (grown t) (state.InBlock b) token)
unfolding on_else
else_arm source t t' token b b' rest f outer fr blk is split eq ok ready h e1 e2 e3 e4 e5 =
    let r : Grown = grown t in
    let r' : Grown = grown t' in
    let g : Frame = frame.Then outer fr in
    let g' : Frame = frame.Else outer fr blk token.end in
    let hb : BodyIn r b = ready.there in
    let i = inner r b rest f g split eq hb in
    let kept : frame_of source r' g' ≡ m.in_else (ids_over r outer.items) fr.start (expr_at r.exprs fr.condition) fr.first (ids_over r b.stmts.items) token.end =
    ap (λ y. m.in_else y fr.start (expr_at r'.exprs fr.condition) fr.first (block_over r'.blocks r'.stmts blk) token.end) (h.grows.stmts empty outer.items i.last.0)
    ∙ (ap (λ y. m.in_else (ids_over r outer.items) fr.start y fr.first (block_over r'.blocks r'.stmts blk) token.end) (h.grows.exprs fr.condition i.last.1.1)
    ∙ ap (λ y. m.in_else (ids_over r outer.items) fr.start (expr_at r.exprs fr.condition) fr.first y token.end) h.is) in
    let stack : stacked (frame_of source r') b'.frames.items ≡ m.in_else (ids_over r outer.items) fr.start (expr_at r.exprs fr.condition) fr.first (ids_over r b.stmts.items) token.end ∷ stacked (frame_of source r) rest =
    ap (λ l. stacked (frame_of source r') l) e4 ∙ (stacked-push (frame_of source r') rest g'
    ∙ (ap (λ y. y ∷ stacked (frame_of source r') rest) kept
    ∙ ap (λ l. m.in_else (ids_over r outer.items) fr.start (expr_at r.exprs fr.condition) fr.first (ids_over r b.stmts.items) token.end ∷ l) (frames_keep source r r' rest h.grows i.others))) in
    let there : BodyIn r' b' = reshaped_in r r' b b' (rest ++ g' ∷ []) [] h.grows h.count hb e1 e2 e3 e4 e5
    (each_push (λ k x. FrameIn r' x) rest g' (frames_in r r' rest h.grows i.others) (ids_in r r' outer.items h.grows i.last.0, front_in r r' fr h.grows i.last.1, h.there, ok.within))
    (λ k d lt. absurd (omega arith)) (omega (arith, i.held, sum_by_push frame_held rest g')) in
    reached source token.end t' (state.InBlock b') _ _ (at_else_word source r b token _ is (innermost source r b rest f g split eq))
    (ap (λ y. Some (m.in_block y)) (sym (reshaped source r r' b b' _ empty h.grows hb e1 e2 e3 stack (ap (λ l. ids_over r' l) e5))))
    h.whole (block_small token.start token.end t t' b.stmts.items blk 0 ok.filled (omega arith) h (omega (arith, there.held)) ready.small) there

-- a block ends, and with it a statement
closes_arm : (source : List ℕ) (t t' : Lists) (token : Token) (b b' : Body) (rest : List Frame) (f g : Frame) (outer : List StmtId) (blk : Block) (c : Closed) (mc : m.Closed (trees source)) → next_of source (grown t) (state.InBlock b) token ≡ Some (m.after_end (m.with_block (trees source) (body_of source (grown t) b) (stacked (frame_of source (grown t)) rest) (ids_over (grown t) outer)) mc) → closed_of source (grown t') c ≡ mc → b.frames.items ≡ rest ++ f ∷ [] → f ≡ g → IdsIn (length (grown t).stmts) outer → frame_held g ≡ length outer → TokenIn token → Ready token.start t (state.InBlock b) → AddsBlock t t' b.stmts.items blk → b'.head ≡ b.head → b'.locals ≡ b.locals → b'.begin ≡ b.begin → b'.frames.items ≡ rest → b'.stmts.items ≡ outer → ClosedIn (grown t') c → Reaches source token.end t' (state.AfterEnd b' c) (next_of source (grown t) (state.InBlock b) token)
closes_arm source t t' token b b' rest f g outer blk c mc goes goes' split eq ids held ok ready h e1 e2 e3 e4 e5 hc =
    let r : Grown = grown t in
    let r' : Grown = grown t' in
    let hb : BodyIn r b = ready.there in
    let i = inner r b rest f g split eq hb in
    let there : BodyIn r' b' = reshaped_in r r' b b' rest outer h.grows h.count hb e1 e2 e3 e4 e5 (frames_in r r' rest h.grows i.others) (ids_in r r' outer h.grows ids) (omega (arith, i.held, held)) in
    reached source token.end t' (state.AfterEnd b' c) _ _ goes
    (ap (λ y. Some (m.after_end y mc)) (sym (reshaped source r r' b b' _ _ h.grows hb e1 e2 e3 (ap (λ l. stacked (frame_of source r') l) e4 ∙ frames_keep source r r' rest h.grows i.others) (ap (λ l. ids_over r' l) e5 ∙ h.grows.stmts empty outer ids)))
    ∙ ap (λ y. Some (m.after_end (body_of source r' b') y)) (sym goes'))
    h.whole (block_small token.start token.end t t' b.stmts.items blk 1 ok.filled (omega arith) h (omega (arith, there.held)) ready.small) (there, hc)

pub if_arm : (source : List ℕ) (t t' : Lists) (token : Token) (b b' : Body) (rest : List Frame) (f : Frame) (outer : Vec StmtId) (fr : Front) (blk : Block) → token.kind ≡ kind.Endif → b.frames.items ≡ rest ++ f ∷ [] → f ≡ frame.Then outer fr → TokenIn token → Ready token.start t (state.InBlock b) → AddsBlock t t' b.stmts.items blk → b'.head ≡ b.head → b'.locals ≡ b.locals → b'.begin ≡ b.begin → b'.frames.items ≡ rest → b'.stmts.items ≡ outer.items → Reaches source token.end t' (state.AfterEnd b' (closed.If fr blk token.end)) (next_of source (grown t) (state.InBlock b) token)
unfolding on_endif
if_arm source t t' token b b' rest f outer fr blk is split eq ok ready h e1 e2 e3 e4 e5 =
    let g : Frame = frame.Then outer fr in
    let i = inner (grown t) b rest f g split eq ready.there in
    closes_arm source t t' token b b' rest f g outer.items blk (closed.If fr blk token.end) (m.closed_if fr.start (expr_at (grown t).exprs fr.condition) fr.first (ids_over (grown t) b.stmts.items) None token.end)
    (at_endif_word source (grown t) b token _ is (innermost source (grown t) b rest f g split eq))
    (ap (λ y. m.closed_if fr.start y fr.first (block_over (grown t').blocks (grown t').stmts blk) None token.end) (h.grows.exprs fr.condition i.last.1.1) ∙ ap (λ y. m.closed_if fr.start (expr_at (grown t).exprs fr.condition) fr.first y None token.end) h.is)
    split eq i.last.0 refl ok ready h e1 e2 e3 e4 e5
    (front_in (grown t) (grown t') fr h.grows i.last.1, h.there, ok.within)

pub if_else_arm : (source : List ℕ) (t t' : Lists) (token : Token) (b b' : Body) (rest : List Frame) (f : Frame) (outer : Vec StmtId) (fr : Front) (one : Block) (els : ℕ) (blk : Block) → token.kind ≡ kind.Endif → b.frames.items ≡ rest ++ f ∷ [] → f ≡ frame.Else outer fr one els → TokenIn token → Ready token.start t (state.InBlock b) → AddsBlock t t' b.stmts.items blk → b'.head ≡ b.head → b'.locals ≡ b.locals → b'.begin ≡ b.begin → b'.frames.items ≡ rest → b'.stmts.items ≡ outer.items → Reaches source token.end t' (state.AfterEnd b' (closed.IfElse fr one els blk token.end)) (next_of source (grown t) (state.InBlock b) token)
unfolding on_endif
if_else_arm source t t' token b b' rest f outer fr one els blk is split eq ok ready h e1 e2 e3 e4 e5 =
    let g : Frame = frame.Else outer fr one els in
    let i = inner (grown t) b rest f g split eq ready.there in
    closes_arm source t t' token b b' rest f g outer.items blk (closed.IfElse fr one els blk token.end) (m.closed_if fr.start (expr_at (grown t).exprs fr.condition) fr.first (block_over (grown t).blocks (grown t).stmts one) (Some (els, ids_over (grown t) b.stmts.items)) token.end)
    (at_endif_word source (grown t) b token _ is (innermost source (grown t) b rest f g split eq))
    (ap (λ y. m.closed_if fr.start y fr.first (block_over (grown t').blocks (grown t').stmts one) (Some (els, block_over (grown t').blocks (grown t').stmts blk)) token.end) (h.grows.exprs fr.condition i.last.1.1)
    ∙ (ap (λ y. m.closed_if fr.start (expr_at (grown t).exprs fr.condition) fr.first y (Some (els, block_over (grown t').blocks (grown t').stmts blk)) token.end) (block_keeps (grown t) (grown t') one h.grows i.last.2)
    ∙ ap (λ y. m.closed_if fr.start (expr_at (grown t).exprs fr.condition) fr.first (block_over (grown t).blocks (grown t).stmts one) (Some (els, y)) token.end) h.is))
    split eq i.last.0 refl ok ready h e1 e2 e3 e4 e5
    (front_in (grown t) (grown t') fr h.grows i.last.1, block_in (grown t) (grown t') one h.grows i.last.2, i.last.3, h.there, ok.within)

pub while_arm : (source : List ℕ) (t t' : Lists) (token : Token) (b b' : Body) (rest : List Frame) (f : Frame) (outer : Vec StmtId) (fr : Front) (blk : Block) → token.kind ≡ kind.Done → b.frames.items ≡ rest ++ f ∷ [] → f ≡ frame.While outer fr → TokenIn token → Ready token.start t (state.InBlock b) → AddsBlock t t' b.stmts.items blk → b'.head ≡ b.head → b'.locals ≡ b.locals → b'.begin ≡ b.begin → b'.frames.items ≡ rest → b'.stmts.items ≡ outer.items → Reaches source token.end t' (state.AfterEnd b' (closed.While fr blk token.end)) (next_of source (grown t) (state.InBlock b) token)
unfolding on_done
while_arm source t t' token b b' rest f outer fr blk is split eq ok ready h e1 e2 e3 e4 e5 =
    let g : Frame = frame.While outer fr in
    let i = inner (grown t) b rest f g split eq ready.there in
    closes_arm source t t' token b b' rest f g outer.items blk (closed.While fr blk token.end) (m.closed_while fr.start (expr_at (grown t).exprs fr.condition) fr.first (ids_over (grown t) b.stmts.items) token.end)
    (at_done_word source (grown t) b token _ is (innermost source (grown t) b rest f g split eq))
    (ap (λ y. m.closed_while fr.start y fr.first (block_over (grown t').blocks (grown t').stmts blk) token.end) (h.grows.exprs fr.condition i.last.1.1) ∙ ap (λ y. m.closed_while fr.start (expr_at (grown t).exprs fr.condition) fr.first y token.end) h.is)
    split eq i.last.0 refl ok ready h e1 e2 e3 e4 e5
    (front_in (grown t) (grown t') fr h.grows i.last.1, h.there, ok.within)

-- a body ends: not within a block; the program's; a procedure's
pub end_none : (source : List ℕ) (r : Grown) (token : Token) (b : Body) → token.kind ≡ kind.End → 0 < length b.frames.items → next_of source r (state.InBlock b) token ≡ None
unfolding on_end
end_none source r token b is lt = let q = last b.frames.items lt in at_end_word source r b token (q.0 ∷ q.1) is q.2
  where
    last : (xs : List Frame) → 0 < length xs → (q : m.Frame (trees source)) × (qs : List (m.Frame (trees source))) × (stacked (frame_of source r) xs ≡ q ∷ qs)
    last [] lt = absurd (omega arith)
    last (x ∷ []) lt = (frame_of source r x, [], refl)
    last (x ∷ y ∷ xs) lt =
        let p = last (y ∷ xs) (omega arith) in
        (p.0, p.1 ++ frame_of source r x ∷ [], ap (λ l. l ++ frame_of source r x ∷ []) p.2)

pub main_arm : (source : List ℕ) (t t' : Lists) (token : Token) (b : Body) (blk : Block) (tree : MainTree) → token.kind ≡ kind.End → b.frames.items ≡ [] → b.head ≡ head.Main → TokenIn token → Ready token.start t (state.InBlock b) → AddsBlock t t' b.stmts.items blk → tree.locals ≡ b.locals → tree.body ≡ blk → Reaches source token.end t' (state.Finished tree b.begin) (next_of source (grown t) (state.InBlock b) token)
unfolding on_end body_close
main_arm source t t' token b blk tree is none main ok ready h e1 e2 =
    let r : Grown = grown t in
    let r' : Grown = grown t' in
    let hb : BodyIn r b = ready.there in
    let vars : decls_over r'.decls tree.locals ≡ decls_over r.decls b.locals = ap (λ y. decls_over r'.decls y) e1 ∙ h.grows.decls b.locals.first b.locals.count hb.locals in
    let body : block_over r'.blocks r'.stmts tree.body ≡ ids_over r b.stmts.items = ap (λ y. block_over r'.blocks r'.stmts y) e2 ∙ h.is in
    reached source token.end t' (state.Finished tree b.begin) _ _
    (at_end_word source r b token [] is (ap (λ l. stacked (frame_of source r) l) none))
    (ap (λ x. Some (m.body_close (trees source) (head_of source r x) (decls_over r.decls b.locals) b.begin (ids_over r b.stmts.items) (m.leaf_of token))) main
    ∙ (ap (λ ps. Some (m.done (record { procs = ps; locals = decls_over r.decls b.locals; begin = b.begin; body = ids_over r b.stmts.items }))) (sym h.grows.procs)
    ∙ (ap (λ y. Some (m.done (record { procs = r'.procs; locals = y; begin = b.begin; body = ids_over r b.stmts.items }))) (sym vars)
    ∙ ap (λ y. Some (m.done (record { procs = r'.procs; locals = decls_over r'.decls tree.locals; begin = b.begin; body = y }))) (sym body))))
    h.whole (block_small token.start token.end t t' b.stmts.items blk 0 ok.filled (omega arith) h (omega (arith, h.count, hb.held, h.grows.stmts_le)) ready.small)
    (subst (λ (y : DeclList). DeclsIn r' y) (sym e1) (decls_in r r' b.locals h.grows hb.locals), hb.begin, subst (λ (y : Block). BlockIn r' y) (sym e2) h.there)

pub proc_arm : (source : List ℕ) (t t1 t2 : Lists) (token : Token) (b : Body) (blk : Block) (o : ProcHead) (p : ProcTree) (at : ProcAt) → token.kind ≡ kind.End → b.frames.items ≡ [] → b.head ≡ head.Proc o → TokenIn token → Ready token.start t (state.InBlock b) → AddsBlock t t1 b.stmts.items blk → p ≡ record { name = o.name.name; inputs = o.inputs; outputs = o.outputs; locals = b.locals; body = blk } → at ≡ record { name = o.name.at; begin = b.begin } → Grew t2 (record (grown t1) { procs = (grown t1).procs ++ proc_over (grown t1).names (grown t1).decls (grown t1).blocks (grown t1).stmts p at ∷ [] }) → Reaches source token.end t2 (state.Start head.Main) (next_of source (grown t) (state.InBlock b) token)
unfolding on_end body_close
proc_arm source t t1 t2 token b blk o p at is none main ok ready h ep ea grew =
    let r : Grown = grown t in
    let r1 : Grown = grown t1 in
    let r2 : Grown = grown t2 in
    let hb : BodyIn r b = ready.there in
    let hp : HeadIn r (head.Proc o) = subst (λ (y : Head). HeadIn r y) main hb.head in
    let x1 : ProcMeaning = proc_over r1.names r1.decls r1.blocks r1.stmts p at in
    let x : ProcMeaning = record { name = word_of r o.name; inputs = decls_over r.decls o.inputs; outputs = decls_over r.decls o.outputs; locals = decls_over r.decls b.locals; begin = b.begin; body = ids_over r b.stmts.items } in
    let one : x1 ≡ x = ap (λ y. proc_over r1.names r1.decls r1.blocks r1.stmts y at) ep ∙ (ap (λ y. proc_over r1.names r1.decls r1.blocks r1.stmts (record { name = o.name.name; inputs = o.inputs; outputs = o.outputs; locals = b.locals; body = blk }) y) ea
    ∙ same (word_keeps r r1 o.name h.grows hp.0) (h.grows.decls o.inputs.first o.inputs.count hp.1) (h.grows.decls o.outputs.first o.outputs.count hp.2) (h.grows.decls b.locals.first b.locals.count hb.locals) h.is) in
    let procs : r2.procs ≡ r.procs ++ x ∷ [] = ap (λ (q : Grown). q.procs) grew.meaning ∙ (ap (λ ps. ps ++ x1 ∷ []) h.grows.procs ∙ ap (λ y. r.procs ++ y ∷ []) one) in
    let low : Small token.end r1 0 = block_small token.start token.end t t1 b.stmts.items blk 0 ok.filled (omega arith) h (omega (arith, h.count, hb.held, h.grows.stmts_le)) ready.small in
    reached source token.end t2 (state.Start head.Main) _ _
    (at_end_word source r b token [] is (ap (λ l. stacked (frame_of source r) l) none))
    (ap (λ y. Some (m.body_close (trees source) (head_of source r y) (decls_over r.decls b.locals) b.begin (ids_over r b.stmts.items) (m.leaf_of token))) main
    ∙ ap (λ ps. Some (m.at_start (m.main_head ps))) (sym procs))
    grew.tree
    (record {
      letters = omega (arith, ap (λ (q : Grown). q.letters) grew.meaning, low.letters);
      names = omega (arith, ap (λ (q : Grown). length q.names) grew.meaning, low.names);
      named = omega (arith, ap (λ (q : Grown). length q.named) grew.meaning, low.named);
      decls = omega (arith, ap (λ (q : Grown). length q.decls) grew.meaning, low.decls);
      procs = omega (arith, ap length procs, length-append r.procs (x ∷ []), ready.small.procs, ok.filled);
      stmts = omega (arith, ap (λ (q : Grown). length q.stmts) grew.meaning, low.stmts);
      blocks = omega (arith, ap (λ (q : Grown). length q.blocks) grew.meaning, ap (λ (q : Grown). length q.stmts) grew.meaning, low.blocks);
      exprs = omega (arith, ap (λ (q : Grown). length q.exprs) grew.meaning, low.exprs);
    })
    tt
  where
    same : word_of (grown t1) o.name ≡ word_of (grown t) o.name → decls_over (grown t1).decls o.inputs ≡ decls_over (grown t).decls o.inputs → decls_over (grown t1).decls o.outputs ≡ decls_over (grown t).decls o.outputs → decls_over (grown t1).decls b.locals ≡ decls_over (grown t).decls b.locals → block_over (grown t1).blocks (grown t1).stmts blk ≡ ids_over (grown t) b.stmts.items → proc_over (grown t1).names (grown t1).decls (grown t1).blocks (grown t1).stmts (record { name = o.name.name; inputs = o.inputs; outputs = o.outputs; locals = b.locals; body = blk }) (record { name = o.name.at; begin = b.begin }) ≡ record { name = word_of (grown t) o.name; inputs = decls_over (grown t).decls o.inputs; outputs = decls_over (grown t).decls o.outputs; locals = decls_over (grown t).decls b.locals; begin = b.begin; body = ids_over (grown t) b.stmts.items }
    same a c d e f = cc
