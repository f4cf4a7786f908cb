-- What a state stands for, and that what it names is there, stays as the lists grow.
use Rattle.std.proofs.Common.{◌≡◌, ℕ, ◌+◌, ◌<◌, ◌≤◌, List, [], ◌∷◌, ◌++◌, length, Option, Some, None, refl, sym, ap, ◌∙◌, subst, arith, length-append}
use Rattle.std.proofs.Math.ListN.{get_or-append}
use Rattle.spl_text.specs.declared.token.Token.{Token}
use Rattle.spl_text.specs.declared.token.TokenKind.{TokenKind}
use Rattle.spl_tree.specs.declared.parts.StmtId.{StmtId}
use Rattle.spl_tree.specs.declared.parts.ExprId.{ExprId}
use Rattle.spl_tree.specs.declared.parts.NameList.{NameList}
use Rattle.spl_tree.specs.declared.parts.DeclList.{DeclList}
use Rattle.spl_tree.specs.declared.parts.Block.{Block}
use Rattle.spl_tree.specs.Lists.{Lists}
use Rattle.spl_tree.specs.Facts.{Each, IsTree}
use Rattle.spl_tree.specs.Program.{Named, Declared, ExprTree, number, StmtTree, empty}
use Rattle.spl_tree.specs.Meaning.{span_of, block_after, block_over, decls_over}
use Rattle.spl_parser.specs.declared.state.Word.{Word}
use Rattle.spl_parser.specs.declared.state.Head.{Head}
use Rattle.spl_parser.specs.declared.state.Head.TheVariants as head
use Rattle.spl_parser.specs.declared.state.DeclGoal.{DeclGoal}
use Rattle.spl_parser.specs.declared.state.DeclGoal.TheVariants as decl_goal
use Rattle.spl_parser.specs.declared.state.Before.{Before}
use Rattle.spl_parser.specs.declared.state.Before.TheVariants as before
use Rattle.spl_parser.specs.declared.state.Front.{Front}
use Rattle.spl_parser.specs.declared.state.Frame.{Frame}
use Rattle.spl_parser.specs.declared.state.Frame.TheVariants as frame
use Rattle.spl_parser.specs.declared.state.Body.{Body}
use Rattle.spl_parser.specs.declared.state.Goal.{Goal}
use Rattle.spl_parser.specs.declared.state.Goal.TheVariants as goal_
use Rattle.spl_parser.specs.declared.state.Side.{Side}
use Rattle.spl_parser.specs.declared.state.Left.{Left}
use Rattle.spl_parser.specs.declared.state.Pending.{Pending}
use Rattle.spl_parser.specs.declared.state.Targets.{Targets}
use Rattle.spl_parser.specs.declared.state.Targets.TheVariants as targets
use Rattle.spl_parser.specs.declared.state.NameGoal.{NameGoal}
use Rattle.spl_parser.specs.declared.state.NameGoal.TheVariants as name_goal
use Rattle.spl_parser.specs.declared.state.State.{State}
use Rattle.spl_parser.specs.Growth.{Grown, grown, IdsIn, BlockIn, NamesIn, DeclsIn}
use Rattle.spl_parser.specs.Machine as m
use Rattle.spl_parser.specs.Trees.{trees}
use Rattle.spl_parser.specs.View.{stacked, word_of, head_of, decl_goal_of, ids_over, frame_of, body_of, goal_of, side_of, left_of, pending_of, paren_of, targets_of, name_goal_of, state_of, ExprThere, FrontIn, WordIn, HeadIn, DeclGoalIn, BeforeIn, FrameIn, BodyIn, GoalIn, SideIn, LeftIn, PendingIn, TargetsIn, NameGoalIn, StateIn, state_waiting, Small, Ready, TokenIn, next_of, Reaches, Grows}
use Rattle.spl_parser.proofs.Grow.{each_head, each_tail, each_more, span_stays, name_stays, block_stays}

-- each kind of growth
pub grows_none : (r : Grown) → Grows r r
grows_none r = record { names = λ n lt. refl; exprs = λ e lt. refl; named = λ f c h. refl; decls = λ f c h. refl; blocks = λ f c h. refl; stmts = λ b ids h. refl; procs = refl; names_le = omega arith; exprs_le = omega arith; named_le = omega arith; decls_le = omega arith; blocks_le = omega arith; stmts_le = omega arith }

pub grows_names : (r : Grown) (l : ℕ) (x : List ℕ) → Grows r (record r { letters = l; names = r.names ++ x ∷ [] })
grows_names r l x = record { names = λ n lt. name_stays r.names (x ∷ []) n lt; exprs = λ e lt. refl; named = λ f c h. refl; decls = λ f c h. refl; blocks = λ f c h. refl; stmts = λ b ids h. refl; procs = refl; names_le = omega (arith, length-append r.names (x ∷ [])); exprs_le = omega arith; named_le = omega arith; decls_le = omega arith; blocks_le = omega arith; stmts_le = omega arith }

pub grows_exprs : (r : Grown) (x : ExprTree) → Grows r (record r { exprs = r.exprs ++ x ∷ [] })
grows_exprs r x = record { names = λ n lt. refl; exprs = λ e lt. get_or-append r.exprs (x ∷ []) (number 0 0) e.0 lt; named = λ f c h. refl; decls = λ f c h. refl; blocks = λ f c h. refl; stmts = λ b ids h. refl; procs = refl; names_le = omega arith; exprs_le = omega (arith, length-append r.exprs (x ∷ [])); named_le = omega arith; decls_le = omega arith; blocks_le = omega arith; stmts_le = omega arith }

pub grows_named : (r : Grown) (x : Named) → Grows r (record r { named = r.named ++ x ∷ [] })
grows_named r x = record { names = λ n lt. refl; exprs = λ e lt. refl; named = λ f c h. span_stays r.named (x ∷ []) f c h; decls = λ f c h. refl; blocks = λ f c h. refl; stmts = λ b ids h. refl; procs = refl; names_le = omega arith; exprs_le = omega arith; named_le = omega (arith, length-append r.named (x ∷ [])); decls_le = omega arith; blocks_le = omega arith; stmts_le = omega arith }

pub grows_decls : (r : Grown) (x : Declared) → Grows r (record r { decls = r.decls ++ x ∷ [] })
grows_decls r x = record { names = λ n lt. refl; exprs = λ e lt. refl; named = λ f c h. refl; decls = λ f c h. span_stays r.decls (x ∷ []) f c h; blocks = λ f c h. refl; stmts = λ b ids h. refl; procs = refl; names_le = omega arith; exprs_le = omega arith; named_le = omega arith; decls_le = omega (arith, length-append r.decls (x ∷ [])); blocks_le = omega arith; stmts_le = omega arith }

pub grows_blocks : (r : Grown) (x : List StmtId) → Grows r (record r { blocks = r.blocks ++ x })
grows_blocks r x = record { names = λ n lt. refl; exprs = λ e lt. refl; named = λ f c h. refl; decls = λ f c h. refl; blocks = λ f c h. span_stays r.blocks x f c h; stmts = λ b ids h. refl; procs = refl; names_le = omega arith; exprs_le = omega arith; named_le = omega arith; decls_le = omega arith; blocks_le = omega (arith, length-append r.blocks (x)); stmts_le = omega arith }

pub grows_stmts : (r : Grown) (x : StmtTree) → Grows r (record r { stmts = r.stmts ++ x ∷ [] })
grows_stmts r x = record { names = λ n lt. refl; exprs = λ e lt. refl; named = λ f c h. refl; decls = λ f c h. refl; blocks = λ f c h. refl; stmts = λ b ids h. block_stays r.stmts (x ∷ []) b ids h; procs = refl; names_le = omega arith; exprs_le = omega arith; named_le = omega arith; decls_le = omega arith; blocks_le = omega arith; stmts_le = omega (arith, length-append r.stmts (x ∷ [])) }

pub grows_then : (r r' r'' : Grown) → Grows r r' → Grows r' r'' → Grows r r''
grows_then r r' r'' g h = record {
  names = λ n lt. h.names n (omega (arith, g.names_le)) ∙ g.names n lt;
  exprs = λ e lt. h.exprs e (omega (arith, g.exprs_le)) ∙ g.exprs e lt;
  named = λ f c x. h.named f c (omega (arith, g.named_le)) ∙ g.named f c x;
  decls = λ f c x. h.decls f c (omega (arith, g.decls_le)) ∙ g.decls f c x;
  blocks = λ f c x. h.blocks f c (omega (arith, g.blocks_le)) ∙ g.blocks f c x;
  stmts = λ b ids x. h.stmts b ids (each_more (λ k (s : StmtId). s.0 < length r.stmts) (λ k (s : StmtId). s.0 < length r'.stmts) ids x (λ k s lt. omega (arith, g.stmts_le))) ∙ g.stmts b ids x;
  procs = h.procs ∙ g.procs;
  names_le = omega (arith, g.names_le, h.names_le);
  exprs_le = omega (arith, g.exprs_le, h.exprs_le);
  named_le = omega (arith, g.named_le, h.named_le);
  decls_le = omega (arith, g.decls_le, h.decls_le);
  blocks_le = omega (arith, g.blocks_le, h.blocks_le);
  stmts_le = omega (arith, g.stmts_le, h.stmts_le);
}

-- parts of a state stay
ids_in : (r r' : Grown) (ids : List StmtId) → Grows r r' → IdsIn (length r.stmts) ids → IdsIn (length r'.stmts) ids
ids_in r r' ids g h = each_more (λ k (s : StmtId). s.0 < length r.stmts) (λ k (s : StmtId). s.0 < length r'.stmts) ids h (λ k s lt. omega (arith, g.stmts_le))

pub block_in : (r r' : Grown) (b : Block) → Grows r r' → BlockIn r b → BlockIn r' b
block_in r r' b g h = record { span = omega (arith, g.blocks_le, h.span); ids = let P : List StmtId → Type 0 = λ l. IdsIn (length r'.stmts) l in subst P (sym (g.blocks b.first b.count h.span)) (ids_in r r' (span_of r.blocks b.first b.count) g h.ids) }

pub block_keeps : (r r' : Grown) (b : Block) → Grows r r' → BlockIn r b → block_over r'.blocks r'.stmts b ≡ block_over r.blocks r.stmts b
block_keeps r r' b g h = ap (λ l. block_after r'.stmts empty l) (g.blocks b.first b.count h.span) ∙ g.stmts empty (span_of r.blocks b.first b.count) h.ids

pub word_keeps : (r r' : Grown) (w : Word) → Grows r r' → WordIn r w → word_of r' w ≡ word_of r w
word_keeps r r' w g h = ap (λ n. record { name = n; at = w.at }) (g.names w.name h.0)

pub word_in : (r r' : Grown) (w : Word) → Grows r r' → WordIn r w → WordIn r' w
word_in r r' w g h = (omega (arith, g.names_le, h.0), h.1)

pub decls_in : (r r' : Grown) (s : DeclList) → Grows r r' → DeclsIn r s → DeclsIn r' s
decls_in r r' s g h = omega (arith, g.decls_le)

pub names_in : (r r' : Grown) (s : NameList) → Grows r r' → NamesIn r s → NamesIn r' s
names_in r r' s g h = omega (arith, g.named_le)

pub expr_in : (r r' : Grown) (e : ExprId) → Grows r r' → ExprThere r e → ExprThere r' e
expr_in r r' e g h = omega (arith, g.exprs_le)

pub head_keeps : (source : List ℕ) (r r' : Grown) (x : Head) → Grows r r' → HeadIn r x → head_of source r' x ≡ head_of source r x
head_keeps source r r' head.Main g h = ap (λ ps. m.main_head ps) g.procs
head_keeps source r r' (head.Proc p) g h = same (word_keeps r r' p.name g h.0) (g.decls p.inputs.first p.inputs.count h.1) (g.decls p.outputs.first p.outputs.count h.2) g.procs
  where
    same : word_of r' p.name ≡ word_of r p.name → decls_over r'.decls p.inputs ≡ decls_over r.decls p.inputs → decls_over r'.decls p.outputs ≡ decls_over r.decls p.outputs → r'.procs ≡ r.procs → head_of source r' (head.Proc p) ≡ head_of source r (head.Proc p)
    same a b c d = cc

pub head_in : (r r' : Grown) (x : Head) → Grows r r' → HeadIn r x → HeadIn r' x
head_in r r' head.Main g h = tt
head_in r r' (head.Proc p) g h = (word_in r r' p.name g h.0, decls_in r r' p.inputs g h.1, decls_in r r' p.outputs g h.2)

pub decl_goal_keeps : (source : List ℕ) (r r' : Grown) (x : DeclGoal) → Grows r r' → DeclGoalIn r x → decl_goal_of source r' x ≡ decl_goal_of source r x
decl_goal_keeps source r r' (decl_goal.Inputs n) g h = let a = word_keeps r r' n g h in let b = g.procs in cc
decl_goal_keeps source r r' (decl_goal.Outputs n ins) g h = let a = word_keeps r r' n g h.0 in let b = g.procs in let c = g.decls ins.first ins.count h.1 in cc
decl_goal_keeps source r r' (decl_goal.Locals x) g h = ap (λ y. m.vars_of y tt) (head_keeps source r r' x g h)

pub decl_goal_in : (r r' : Grown) (x : DeclGoal) → Grows r r' → DeclGoalIn r x → DeclGoalIn r' x
decl_goal_in r r' (decl_goal.Inputs n) g h = word_in r r' n g h
decl_goal_in r r' (decl_goal.Outputs n ins) g h = (word_in r r' n g h.0, decls_in r r' ins g h.1)
decl_goal_in r r' (decl_goal.Locals x) g h = head_in r r' x g h

pub before_in : (r r' : Grown) (x : Before) → Grows r r' → BeforeIn r x → BeforeIn r' x
before_in r r' before.First g h = tt
before_in r r' (before.After first) g h = omega (arith, g.decls_le)

frame_keeps : (source : List ℕ) (r r' : Grown) (x : Frame) → Grows r r' → FrameIn r x → frame_of source r' x ≡ frame_of source r x
frame_keeps source r r' (frame.Then ids f) g h = let a = g.stmts empty ids.items h.0 in let b = g.exprs f.condition h.1.1 in cc
frame_keeps source r r' (frame.Else ids f blk els) g h = let a = g.stmts empty ids.items h.0 in let b = g.exprs f.condition h.1.1 in let c = block_keeps r r' blk g h.2 in cc
frame_keeps source r r' (frame.While ids f) g h = let a = g.stmts empty ids.items h.0 in let b = g.exprs f.condition h.1.1 in cc

pub front_in : (r r' : Grown) (f : Front) → Grows r r' → FrontIn r f → FrontIn r' f
front_in r r' f g h = (h.0, expr_in r r' f.condition g h.1, h.2)

frame_in : (r r' : Grown) (x : Frame) → Grows r r' → FrameIn r x → FrameIn r' x
frame_in r r' (frame.Then ids f) g h = (ids_in r r' ids.items g h.0, front_in r r' f g h.1)
frame_in r r' (frame.Else ids f blk els) g h = (ids_in r r' ids.items g h.0, front_in r r' f g h.1, block_in r r' blk g h.2, h.3)
frame_in r r' (frame.While ids f) g h = (ids_in r r' ids.items g h.0, front_in r r' f g h.1)

pub frames_keep : (source : List ℕ) (r r' : Grown) (xs : List Frame) → Grows r r' → Each (λ k f. FrameIn r f) xs → stacked (frame_of source r') xs ≡ stacked (frame_of source r) xs
frames_keep source r r' [] g h = refl
frames_keep source r r' (x ∷ xs) g h =
    let a = frame_keeps source r r' x g (each_head (λ k f. FrameIn r f) x xs h) in
    ap (λ l. l ++ frame_of source r' x ∷ []) (frames_keep source r r' xs g (each_tail (λ k f. FrameIn r f) x xs h)) ∙ ap (λ y. stacked (frame_of source r) xs ++ y ∷ []) a

pub frames_in : (r r' : Grown) (xs : List Frame) → Grows r r' → Each (λ k f. FrameIn r f) xs → Each (λ k f. FrameIn r' f) xs
frames_in r r' xs g h = each_more (λ k f. FrameIn r f) (λ k f. FrameIn r' f) xs h (λ k f x. frame_in r r' f g x)

pub body_keeps : (source : List ℕ) (r r' : Grown) (b : Body) → Grows r r' → BodyIn r b → body_of source r' b ≡ body_of source r b
body_keeps source r r' b g h = same (head_keeps source r r' b.head g h.head) (g.decls b.locals.first b.locals.count h.locals) (frames_keep source r r' b.frames.items g h.frames) (g.stmts empty b.stmts.items h.stmts)
  where
    same : head_of source r' b.head ≡ head_of source r b.head → decls_over r'.decls b.locals ≡ decls_over r.decls b.locals → stacked (frame_of source r') b.frames.items ≡ stacked (frame_of source r) b.frames.items → ids_over r' b.stmts.items ≡ ids_over r b.stmts.items → body_of source r' b ≡ body_of source r b
    same a c d e = cc

-- a body, where no statement has gone into a block
pub body_in : (r r' : Grown) (b : Body) → Grows r r' → length r'.blocks ≡ length r.blocks → BodyIn r b → BodyIn r' b
body_in r r' b g e h = record { head = head_in r r' b.head g h.head; locals = decls_in r r' b.locals g h.locals; begin = h.begin; frames = frames_in r r' b.frames.items g h.frames; stmts = ids_in r r' b.stmts.items g h.stmts; held = omega (arith, g.stmts_le, h.held) }

pub goal_keeps : (source : List ℕ) (r r' : Grown) (x : Goal) → Grows r r' → GoalIn r x → goal_of source r' x ≡ goal_of source r x
goal_keeps source r r' (goal_.Assume w) g h = refl
goal_keeps source r r' (goal_.Assign x) g h = ap (λ n. m.assign_goal n tt) (word_keeps r r' x g h)
goal_keeps source r r' (goal_.If w) g h = refl
goal_keeps source r r' (goal_.While w) g h = refl

pub goal_in : (r r' : Grown) (x : Goal) → Grows r r' → GoalIn r x → GoalIn r' x
goal_in r r' (goal_.Assume w) g h = h
goal_in r r' (goal_.Assign x) g h = word_in r r' x g h
goal_in r r' (goal_.If w) g h = h
goal_in r r' (goal_.While w) g h = h

pub side_keeps : (r r' : Grown) (s : Option Side) → Grows r r' → SideIn r s → side_of r' s ≡ side_of r s
side_keeps r r' None g h = refl
side_keeps r r' (Some s) g h = ap (λ e. Some (e, s.place)) (g.exprs s.operand h.0)

pub side_in : (r r' : Grown) (s : Option Side) → Grows r r' → SideIn r s → SideIn r' s
side_in r r' None g h = tt
side_in r r' (Some s) g h = (expr_in r r' s.operand g h.0, h.1)

pub left_keeps : (r r' : Grown) (s : Option Left) → Grows r r' → LeftIn r s → left_of r' s ≡ left_of r s
left_keeps r r' None g h = refl
left_keeps r r' (Some s) g h = ap (λ e. Some (e, (s.operator, s.place))) (g.exprs s.operand h.0)

pub left_in : (r r' : Grown) (s : Option Left) → Grows r r' → LeftIn r s → LeftIn r' s
left_in r r' None g h = tt
left_in r r' (Some s) g h = (expr_in r r' s.operand g h.0, h.1)

pub pending_keeps : (source : List ℕ) (r r' : Grown) (p : Pending) → Grows r r' → PendingIn r p → pending_of source r' p ≡ pending_of source r p
pending_keeps source r r' p g h = same (side_keeps r r' p.either g h.either) (side_keeps r r' p.both g h.both) (left_keeps r r' p.comparison g h.comparison) (left_keeps r r' p.sum g h.sum) (left_keeps r r' p.product g h.product)
  where
    same : side_of r' p.either ≡ side_of r p.either → side_of r' p.both ≡ side_of r p.both → left_of r' p.comparison ≡ left_of r p.comparison → left_of r' p.sum ≡ left_of r p.sum → left_of r' p.product ≡ left_of r p.product → pending_of source r' p ≡ pending_of source r p
    same a b c d e = cc

pub pending_in : (r r' : Grown) (p : Pending) → Grows r r' → PendingIn r p → PendingIn r' p
pending_in r r' p g h = record { either = side_in r r' p.either g h.either; both = side_in r r' p.both g h.both; nots = h.nots; comparison = left_in r r' p.comparison g h.comparison; sum = left_in r r' p.sum g h.sum; product = left_in r r' p.product g h.product; minuses = h.minuses }

abbrev paren_at : (source : List ℕ) → m.Pending (trees source) → m.Paren (trees source)
paren_at source p = record { pending = p; left = tt }

pub parens_keep : (source : List ℕ) (r r' : Grown) (xs : List Pending) → Grows r r' → Each (λ k p. PendingIn r p) xs → stacked (paren_of source r') xs ≡ stacked (paren_of source r) xs
parens_keep source r r' [] g h = refl
parens_keep source r r' (x ∷ xs) g h =
    let a = pending_keeps source r r' x g (each_head (λ k p. PendingIn r p) x xs h) in
    ap (λ l. l ++ paren_of source r' x ∷ []) (parens_keep source r r' xs g (each_tail (λ k p. PendingIn r p) x xs h)) ∙ ap (λ p. stacked (paren_of source r) xs ++ paren_at source p ∷ []) a

pub parens_in : (r r' : Grown) (xs : List Pending) → Grows r r' → Each (λ k p. PendingIn r p) xs → Each (λ k p. PendingIn r' p) xs
parens_in r r' xs g h = each_more (λ k p. PendingIn r p) (λ k p. PendingIn r' p) xs h (λ k p x. pending_in r r' p g x)

pub targets_keep : (source : List ℕ) (r r' : Grown) (x : Targets) → Grows r r' → TargetsIn r x → targets_of source r' x ≡ targets_of source r x
targets_keep source r r' (targets.One x) g h = ap (λ n. m.one_target n tt) (word_keeps r r' x g h)
targets_keep source r r' (targets.List o ns) g h = ap (λ l. m.target_list o l tt tt) (g.named ns.first ns.count h.1)

pub targets_in : (r r' : Grown) (x : Targets) → Grows r r' → TargetsIn r x → TargetsIn r' x
targets_in r r' (targets.One x) g h = word_in r r' x g h
targets_in r r' (targets.List o ns) g h = (h.0, names_in r r' ns g h.1)

pub name_goal_keeps : (source : List ℕ) (r r' : Grown) (x : NameGoal) → Grows r r' → NameGoalIn r x → name_goal_of source r' x ≡ name_goal_of source r x
name_goal_keeps source r r' (name_goal.Targets o) g h = refl
name_goal_keeps source r r' (name_goal.Arguments c) g h = let a = targets_keep source r r' c.targets g h.0 in let b = word_keeps r r' c.called g h.1 in cc

pub name_goal_in : (r r' : Grown) (x : NameGoal) → Grows r r' → NameGoalIn r x → NameGoalIn r' x
name_goal_in r r' (name_goal.Targets o) g h = h
name_goal_in r r' (name_goal.Arguments c) g h = (targets_in r r' c.targets g h.0, word_in r r' c.called g h.1)

-- a machine's step at a token whose kind is known; what is small before a token stays small after it
pub small_on : (n n' : ℕ) (r : Grown) (w w' : ℕ) → n < n' → w' ≤ w + 1 → Small n r w → Small n' r w'
small_on n n' r w w' lt le h = record { letters = omega (arith, h.letters); names = omega (arith, h.names); named = omega (arith, h.named); decls = omega (arith, h.decls); procs = omega (arith, h.procs); stmts = omega (arith, h.stmts); blocks = h.blocks; exprs = omega (arith, h.exprs) }

-- a step that changes no part
pub still : (source : List ℕ) (t : Lists) (s s' : State) (token : Token) (k : TokenKind) → token.kind ≡ k → m.step (trees source) (state_of source (grown t) s) k (m.leaf_of token) ≡ Some (state_of source (grown t) s') → state_waiting s' ≤ state_waiting s + 1 → StateIn (grown t) s' → Ready token.start t s → TokenIn token → Reaches source token.end t s' (next_of source (grown t) s token)
still source t s s' token k e h le there ready w = record {
  goes = ap (λ x. m.step (trees source) (state_of source (grown t) s) x (m.leaf_of token)) e ∙ h;
  ready = record { tree = ready.tree; small = small_on token.start token.end (grown t) (state_waiting s) (state_waiting s') w.filled le ready.small; there = there };
}

-- a step that adds to the parts
pub moves : (source : List ℕ) (t t' : Lists) (s s' : State) (token : Token) (k : TokenKind) → token.kind ≡ k → m.step (trees source) (state_of source (grown t) s) k (m.leaf_of token) ≡ Some (state_of source (grown t') s') → IsTree t' → Small token.end (grown t') (state_waiting s') → StateIn (grown t') s' → Reaches source token.end t' s' (next_of source (grown t) s token)
moves source t t' s s' token k e h tree small there = record {
  goes = ap (λ x. m.step (trees source) (state_of source (grown t) s) x (m.leaf_of token)) e ∙ h;
  ready = record { tree = tree; small = small; there = there };
}

-- a step that changes no part, between states in which no operator waits
pub still0 : (source : List ℕ) (t : Lists) (s s' : State) (token : Token) (k : TokenKind) → token.kind ≡ k → m.step (trees source) (state_of source (grown t) s) k (m.leaf_of token) ≡ Some (state_of source (grown t) s') → state_waiting s' ≡ 0 → StateIn (grown t) s' → Ready token.start t s → TokenIn token → Reaches source token.end t s' (next_of source (grown t) s token)
still0 source t s s' token k e h zero' there ready w = still source t s s' token k e h (omega (arith, zero')) there ready w
