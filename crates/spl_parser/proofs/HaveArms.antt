-- Steps after an operand.
use Rattle.std.proofs.Common.{◌≡◌, ℕ, ◌+◌, ◌<◌, List, [], ◌∷◌, ◌++◌, length, refl, sym, ap, ◌∙◌, subst, arith, length-append, Option, Some, None, sum_by, ◌⊎◌, inl, inr}
use Rattle.std.proofs.lemmas.List.Sums.{sum_by_push}
use Rattle.std.proofs.Math.ListN.{get_or-append}
use Rattle.std.proofs.lemmas.List.{get_or_push}
use Rattle.spl_text.specs.declared.token.Token.{Token}
use Rattle.spl_text.specs.declared.token.TokenKind.{TokenKind}
use Rattle.spl_tree.specs.declared.parts.ExprId.{ExprId}
use Rattle.spl_tree.specs.declared.parts.BinOp.{BinOp}
use Rattle.spl_tree.specs.Lists.{Lists}
use Rattle.spl_tree.specs.Facts.{Each, IsPlace, IsTree}
use Rattle.spl_tree.specs.Program.{ExprTree, empty}
use Rattle.spl_tree.specs.Meaning.{name_of, expr_at}
use Rattle.spl_parser.specs.declared.state.Word.{Word}
use Rattle.spl_parser.specs.declared.state.Frame.TheVariants as frame
use Rattle.spl_parser.specs.declared.state.Body.{Body}
use Rattle.spl_parser.specs.declared.state.Goal.{Goal}
use Rattle.spl_parser.specs.declared.state.Goal.TheVariants as goal_
use Rattle.spl_parser.specs.declared.state.Left.{Left}
use Rattle.spl_parser.specs.declared.state.Pending.{Pending}
use Rattle.spl_parser.specs.declared.state.State.{State}
use Rattle.spl_parser.specs.declared.state.State.TheVariants as state
use Rattle.spl_parser.specs.Growth.{Grown, grown}
use Rattle.spl_parser.specs.Machine as m
use Rattle.spl_parser.specs.Trees.{trees}
use Rattle.spl_parser.specs.View.{stacked, body_of, goal_of, left_of, pending_of, paren_of, state_of, ExprThere, WordIn, BodyIn, GoalIn, PendingIn, waiting, StateIn, state_waiting, Small, TokenIn, next_of, Reaches, Folds, sign_of, after_operator, Shifts, whole_tree, AddsStmt, OpensBlock}
use Rattle.spl_parser.specs.declared.state.Sign.{Sign}
use Rattle.spl_parser.specs.declared.state.Sign.TheVariants as sign
use Rattle.spl_tree.specs.declared.parts.Stmt.TheVariants as stmt
use Rattle.spl_tree.specs.declared.parts.StmtAt.{StmtAt}
use Rattle.spl_tree.specs.Program.{assume, assign}
use Rattle.spl_parser.specs.TreeOf.{plain_at}
use Rattle.spl_text.specs.declared.token.TokenKind.TheVariants.{Star, Slash, Percent, Plus, Minus, Equal, NotEqual, Less, LessEqual, Greater, GreaterEqual, And, Or, RightParen, Semicolon, Then, Do}
use Rattle.spl_parser.specs.Machine.{step, step_have, on_cmp, on_right, on_semicolon, on_then, on_do}
use Rattle.spl_parser.proofs.WantArms.{stacked-push, folds_small, folds_blocks, have_keeps}
use Rattle.spl_parser.proofs.StmtArms.{stmt_arm, opens_block, opens_in}
use Rattle.spl_parser.proofs.Shifting.{whole_is}
use Rattle.spl_parser.proofs.Stay.{body_keeps, body_in, goal_keeps, goal_in, parens_keep, parens_in, pending_in}

-- a step after an operand, by the sign
abbrev by_sign : (source : List ℕ) → m.Body (trees source) → m.Goal (trees source) → List (m.Paren (trees source)) → m.Pending (trees source) → ExprTree → Sign → m.Algebra.Place (trees source) → Option (m.State (trees source))
by_sign source b g ps p a (sign.Product op) l = Some (m.want b g ps (m.before_product (trees source) p a (op, l.start)))
by_sign source b g ps p a (sign.Sum op) l = Some (m.want b g ps (m.before_sum (trees source) p a (op, l.start)))
by_sign source b g ps p a (sign.Comparison op) l = m.on_cmp (trees source) b g ps p a p.cmp_left (op, l.start)
by_sign source b g ps p a sign.And l = Some (m.want b g ps (m.before_both (trees source) p a l.start))
by_sign source b g ps p a sign.Or l = Some (m.want b g ps (m.before_either (trees source) p a l.start))
by_sign source b g ps p a sign.Right l = m.on_right (trees source) b g ps p a l
by_sign source b g ps p a sign.Semicolon l = m.on_semicolon (trees source) b g ps (m.closed_0 (trees source) p a) l
by_sign source b g ps p a sign.Then l = m.on_then (trees source) b g ps (m.closed_0 (trees source) p a) l
by_sign source b g ps p a sign.Do l = m.on_do (trees source) b g ps (m.closed_0 (trees source) p a) l
by_sign source b g ps p a sign.Other l = None

have_by_sign : (source : List ℕ) (b : m.Body (trees source)) (g : m.Goal (trees source)) (ps : List (m.Paren (trees source))) (p : m.Pending (trees source)) (a : ExprTree) (k : TokenKind) (l : m.Algebra.Place (trees source)) → m.step (trees source) (m.have b g ps p a) k l ≡ by_sign source b g ps p a (sign_of k) l
unfolding step step_have
have_by_sign source b g ps p a Star l = refl
have_by_sign source b g ps p a Slash l = refl
have_by_sign source b g ps p a Percent l = refl
have_by_sign source b g ps p a Plus l = refl
have_by_sign source b g ps p a Minus l = refl
have_by_sign source b g ps p a Equal l = refl
have_by_sign source b g ps p a NotEqual l = refl
have_by_sign source b g ps p a Less l = refl
have_by_sign source b g ps p a LessEqual l = refl
have_by_sign source b g ps p a Greater l = refl
have_by_sign source b g ps p a GreaterEqual l = refl
have_by_sign source b g ps p a And l = refl
have_by_sign source b g ps p a Or l = refl
have_by_sign source b g ps p a RightParen l = refl
have_by_sign source b g ps p a Semicolon l = refl
have_by_sign source b g ps p a Then l = refl
have_by_sign source b g ps p a Do l = refl
have_by_sign source b g ps p a _ l = refl

-- the step at a sign that is known
pub at_sign : (source : List ℕ) (r : Grown) (token : Token) (b : Body) (g : Goal) (s0 : State) (ps : List Pending) (p : Pending) (a : ExprId) (s : Sign) → sign_of token.kind ≡ s → state_of source r s0 ≡ m.have (body_of source r b) (goal_of source r g) (stacked (paren_of source r) ps) (pending_of source r p) (expr_at r.exprs a) → next_of source r s0 token ≡ by_sign source (body_of source r b) (goal_of source r g) (stacked (paren_of source r) ps) (pending_of source r p) (expr_at r.exprs a) s (m.leaf_of token)
at_sign source r token b g s0 ps p a s e shape = ap (λ x. m.step (trees source) x token.kind (m.leaf_of token)) shape ∙ (have_by_sign source (body_of source r b) (goal_of source r g) (stacked (paren_of source r) ps) (pending_of source r p) (expr_at r.exprs a) token.kind (m.leaf_of token) ∙ ap (λ x. by_sign source (body_of source r b) (goal_of source r g) (stacked (paren_of source r) ps) (pending_of source r p) (expr_at r.exprs a) x (m.leaf_of token)) e)

-- a state that is reached
reached : (source : List ℕ) (n : ℕ) (t : Lists) (s : State) (next next' : Option (m.State (trees source))) → next ≡ next' → next' ≡ Some (state_of source (grown t) s) → IsTree t → Small n (grown t) (state_waiting s) → StateIn (grown t) s → Reaches source n t s next
reached source n t s next next' e f tree small there = record { goes = e ∙ f; ready = record { tree = tree; small = small; there = there } }

shift_small : (low n : ℕ) (t t' : Lists) (p q : Pending) (a : ExprId) (s : Sign) (at outer : ℕ) → low < n → Shifts t t' p a s at q → Small low (grown t) (outer + waiting p) → Small n (grown t') (outer + waiting q)
shift_small low n t t' p q a s' at outer lt h s = record {
  letters = omega (arith, ap (λ (q : Grown). q.letters) h.only, s.letters);
  names = omega (arith, ap (λ (q : Grown). length q.names) h.only, s.names);
  named = omega (arith, ap (λ (q : Grown). length q.named) h.only, s.named);
  decls = omega (arith, ap (λ (q : Grown). length q.decls) h.only, s.decls);
  procs = omega (arith, ap (λ (q : Grown). length q.procs) h.only, s.procs);
  stmts = omega (arith, ap (λ (q : Grown). length q.stmts) h.only, s.stmts, h.count, h.grows.exprs_le);
  blocks = omega (arith, ap (λ (q : Grown). length q.blocks) h.only, ap (λ (q : Grown). length q.stmts) h.only, s.blocks);
  exprs = omega (arith, h.count, s.exprs);
}

-- an operator after an operand
pub operator_arm : (source : List ℕ) (t t' : Lists) (token : Token) (b : Body) (g : Goal) (s0 s1 : State) (ps : List Pending) (p q : Pending) (a : ExprId) (s : Sign) → sign_of token.kind ≡ s → state_of source (grown t) s0 ≡ m.have (body_of source (grown t) b) (goal_of source (grown t) g) (stacked (paren_of source (grown t)) ps) (pending_of source (grown t) p) (expr_at (grown t).exprs a) → state_of source (grown t') s1 ≡ m.want (body_of source (grown t') b) (goal_of source (grown t') g) (stacked (paren_of source (grown t')) ps) (pending_of source (grown t') q) → by_sign source (body_of source (grown t) b) (goal_of source (grown t) g) (stacked (paren_of source (grown t)) ps) (pending_of source (grown t) p) (expr_at (grown t).exprs a) s (m.leaf_of token) ≡ Some (m.want (body_of source (grown t) b) (goal_of source (grown t) g) (stacked (paren_of source (grown t)) ps) (after_operator source (grown t) p (expr_at (grown t).exprs a) s token.start)) → state_waiting s1 ≡ sum_by waiting ps + waiting q → (BodyIn (grown t') b → GoalIn (grown t') g → Each (λ j x. PendingIn (grown t') x) ps → PendingIn (grown t') q → StateIn (grown t') s1) → TokenIn token → Small token.start (grown t) (sum_by waiting ps + waiting p) → (BodyIn (grown t) b) × GoalIn (grown t) g × Each (λ j x. PendingIn (grown t) x) ps × PendingIn (grown t) p × ExprThere (grown t) a → Shifts t t' p a s token.start q → Reaches source token.end t' s1 (next_of source (grown t) s0 token)
operator_arm source t t' token b g s0 s1 ps p q a s e shape shape' goes waits there ok small here h =
    let blocks : length (grown t').blocks ≡ length (grown t).blocks = ap (λ (x : Grown). length x.blocks) h.only in
    reached source token.end t' s1 _ _ (at_sign source (grown t) token b g s0 ps p a s e shape)
    (goes
    ∙ (ap (λ y. Some (m.want y (goal_of source (grown t) g) (stacked (paren_of source (grown t)) ps) (after_operator source (grown t) p (expr_at (grown t).exprs a) s token.start))) (sym (body_keeps source (grown t) (grown t') b h.grows here.0))
    ∙ (ap (λ y. Some (m.want (body_of source (grown t') b) y (stacked (paren_of source (grown t)) ps) (after_operator source (grown t) p (expr_at (grown t).exprs a) s token.start))) (sym (goal_keeps source (grown t) (grown t') g h.grows here.1))
    ∙ (ap (λ y. Some (m.want (body_of source (grown t') b) (goal_of source (grown t') g) y (after_operator source (grown t) p (expr_at (grown t).exprs a) s token.start))) (sym (parens_keep source (grown t) (grown t') ps h.grows here.2))
    ∙ (ap (λ y. Some (m.want (body_of source (grown t') b) (goal_of source (grown t') g) (stacked (paren_of source (grown t')) ps) y)) (sym (h.goes source)) ∙ ap (λ y. Some y) (sym shape'))))))
    h.whole (subst (λ (w : ℕ). Small token.end (grown t') w) (sym waits) (shift_small token.start token.end t t' p q a s token.start (sum_by waiting ps) ok.filled h small))
    (there (body_in (grown t) (grown t') b h.grows blocks here.0) (goal_in (grown t) (grown t') g h.grows here.1) (parens_in (grown t) (grown t') ps h.grows here.2) h.there)

-- a comparison after none, and after one
pub cmp_free : (source : List ℕ) (r : Grown) (b : m.Body (trees source)) (g : m.Goal (trees source)) (ps : List (m.Paren (trees source))) (p : Pending) (a : ExprTree) (op : BinOp) (l : m.Algebra.Place (trees source)) → p.comparison ≡ None → by_sign source b g ps (pending_of source r p) a (sign.Comparison op) l ≡ Some (m.want b g ps (m.before_cmp (trees source) (pending_of source r p) a (op, l.start)))
unfolding on_cmp
cmp_free source r b g ps p a op l e = ap (λ c. m.on_cmp (trees source) b g ps (pending_of source r p) a (left_of r c) (op, l.start)) e

pub cmp_taken : (source : List ℕ) (r : Grown) (b : m.Body (trees source)) (g : m.Goal (trees source)) (ps : List (m.Paren (trees source))) (p : Pending) (a : ExprTree) (op : BinOp) (l : m.Algebra.Place (trees source)) (x : Left) → p.comparison ≡ Some x → by_sign source b g ps (pending_of source r p) a (sign.Comparison op) l ≡ None
unfolding on_cmp
cmp_taken source r b g ps p a op l x e = ap (λ c. m.on_cmp (trees source) b g ps (pending_of source r p) a (left_of r c) (op, l.start)) e

-- a parenthesis closes
each_front : (xs ys : List Pending) (r : Grown) → Each (λ j q. PendingIn r q) (xs ++ ys) → Each (λ j q. PendingIn r q) xs
each_front xs ys r h = λ k d lt. let P : Pending → Type 0 = λ x. PendingIn r x in subst P (get_or-append xs ys d k lt) (h k d (omega (arith, length-append xs ys)))

each_last : (xs : List Pending) (y : Pending) (r : Grown) → Each (λ j q. PendingIn r q) (xs ++ y ∷ []) → PendingIn r y
each_last xs y r h = let P : Pending → Type 0 = λ x. PendingIn r x in subst P (get_or_push xs y y (length xs) refl) (h (length xs) y (omega (arith, length-append xs (y ∷ []))))

pub right_arm : (source : List ℕ) (t t' : Lists) (token : Token) (b : Body) (g : Goal) (s0 s1 : State) (ps rest : List Pending) (outer p : Pending) (a e : ExprId) → sign_of token.kind ≡ sign.Right → ps ≡ rest ++ outer ∷ [] → state_of source (grown t) s0 ≡ m.have (body_of source (grown t) b) (goal_of source (grown t) g) (stacked (paren_of source (grown t)) ps) (pending_of source (grown t) p) (expr_at (grown t).exprs a) → state_of source (grown t') s1 ≡ m.have (body_of source (grown t') b) (goal_of source (grown t') g) (stacked (paren_of source (grown t')) rest) (pending_of source (grown t') outer) (expr_at (grown t').exprs e) → state_waiting s1 ≡ sum_by waiting rest + waiting outer → (BodyIn (grown t') b → GoalIn (grown t') g → Each (λ j x. PendingIn (grown t') x) rest → PendingIn (grown t') outer → ExprThere (grown t') e → StateIn (grown t') s1) → TokenIn token → Small token.start (grown t) (sum_by waiting ps + waiting p) → (BodyIn (grown t) b) × GoalIn (grown t) g × Each (λ j x. PendingIn (grown t) x) ps × PendingIn (grown t) p × ExprThere (grown t) a → Folds t t' (waiting p) e (whole_tree (grown t) p (expr_at (grown t).exprs a)) → Reaches source token.end t' s1 (next_of source (grown t) s0 token)
unfolding on_right
right_arm source t t' token b g s0 s1 ps rest outer p a e sg split shape shape' waits there ok small here f =
    let held = subst (λ (l : List Pending). Each (λ j x. PendingIn (grown t) x) l) split here.2 in
    let front = each_front rest (outer ∷ []) (grown t) held in
    let last = each_last rest outer (grown t) held in
    let stack : stacked (paren_of source (grown t)) ps ≡ paren_of source (grown t) outer ∷ stacked (paren_of source (grown t)) rest = ap (λ l. stacked (paren_of source (grown t)) l) split ∙ stacked-push (paren_of source (grown t)) rest outer in
    let closed : expr_at (grown t').exprs e ≡ m.closed_0 (trees source) (pending_of source (grown t) p) (expr_at (grown t).exprs a) = f.is ∙ whole_is source (grown t) p (expr_at (grown t).exprs a) in
    reached source token.end t' s1 _ _ (at_sign source (grown t) token b g s0 ps p a sign.Right sg shape)
    (ap (λ l. m.on_right (trees source) (body_of source (grown t) b) (goal_of source (grown t) g) l (pending_of source (grown t) p) (expr_at (grown t).exprs a) (m.leaf_of token)) stack
    ∙ (have_keeps source (grown t) (grown t') b g rest outer e (m.closed_0 (trees source) (pending_of source (grown t) p) (expr_at (grown t).exprs a)) f.grows here.0 here.1 front last closed ∙ ap (λ y. Some y) (sym shape')))
    f.whole (folds_small token.start token.end t t' (waiting p) e (whole_tree (grown t) p (expr_at (grown t).exprs a)) (sum_by waiting ps + waiting p) (state_waiting s1) ok.filled (omega (arith, waits, ap (λ l. sum_by waiting l) split, sum_by_push waiting rest outer)) f small)
    (there (body_in (grown t) (grown t') b f.grows (folds_blocks t t' (waiting p) e (whole_tree (grown t) p (expr_at (grown t).exprs a)) f) here.0) (goal_in (grown t) (grown t') g f.grows here.1) (parens_in (grown t) (grown t') rest f.grows front) (pending_in (grown t) (grown t') outer f.grows last) f.there)

pub right_none : (source : List ℕ) (r : Grown) (token : Token) (b : Body) (g : Goal) (s0 : State) (ps : List Pending) (p : Pending) (a : ExprId) → sign_of token.kind ≡ sign.Right → ps ≡ [] → state_of source r s0 ≡ m.have (body_of source r b) (goal_of source r g) (stacked (paren_of source r) ps) (pending_of source r p) (expr_at r.exprs a) → next_of source r s0 token ≡ None
unfolding on_right
right_none source r token b g s0 ps p a sg e shape = at_sign source r token b g s0 ps p a sign.Right sg shape ∙ ap (λ l. m.on_right (trees source) (body_of source r b) (goal_of source r g) (stacked (paren_of source r) l) (pending_of source r p) (expr_at r.exprs a) (m.leaf_of token)) e

-- an expression ends
ends_open : (source : List ℕ) (b : m.Body (trees source)) (g : m.Goal (trees source)) (q : m.Paren (trees source)) (ps : List (m.Paren (trees source))) (e : ExprTree) (l : m.Algebra.Place (trees source)) → (m.on_semicolon (trees source) b g (q ∷ ps) e l ≡ None) × (m.on_then (trees source) b g (q ∷ ps) e l ≡ None) × (m.on_do (trees source) b g (q ∷ ps) e l ≡ None)
unfolding on_semicolon on_then on_do
ends_open source b (m.assume_goal w) q ps e l = (refl, refl, refl)
ends_open source b (m.assign_goal x y) q ps e l = (refl, refl, refl)
ends_open source b (m.if_goal w) q ps e l = (refl, refl, refl)
ends_open source b (m.while_goal w) q ps e l = (refl, refl, refl)

-- what an expression in parentheses can't end with
pub open_none : (source : List ℕ) (r : Grown) (token : Token) (b : Body) (g : Goal) (s0 : State) (ps : List Pending) (p : Pending) (a : ExprId) (s : Sign) → sign_of token.kind ≡ s → (s ≡ sign.Semicolon) ⊎ ((s ≡ sign.Then) ⊎ (s ≡ sign.Do)) → 0 < length ps → state_of source r s0 ≡ m.have (body_of source r b) (goal_of source r g) (stacked (paren_of source r) ps) (pending_of source r p) (expr_at r.exprs a) → next_of source r s0 token ≡ None
open_none source r token b g s0 ps p a s e which lt shape = at_sign source r token b g s0 ps p a s e shape ∙ go ps lt s which
  where
    last : (xs : List Pending) → 0 < length xs → (q : m.Paren (trees source)) × (qs : List (m.Paren (trees source))) × (stacked (paren_of source r) xs ≡ q ∷ qs)
    last [] lt = absurd (omega arith)
    last (x ∷ []) lt = (paren_of source r x, [], refl)
    last (x ∷ y ∷ xs) lt =
        let r' = last (y ∷ xs) (omega arith) in
        (r'.0, r'.1 ++ paren_of source r x ∷ [], ap (λ l. l ++ paren_of source r x ∷ []) r'.2)

    go : (ps : List Pending) → 0 < length ps → (s : Sign) → (s ≡ sign.Semicolon) ⊎ ((s ≡ sign.Then) ⊎ (s ≡ sign.Do)) → by_sign source (body_of source r b) (goal_of source r g) (stacked (paren_of source r) ps) (pending_of source r p) (expr_at r.exprs a) s (m.leaf_of token) ≡ None
    go ps lt s (inl e) = let q = last ps lt in ap (λ x. by_sign source (body_of source r b) (goal_of source r g) (stacked (paren_of source r) ps) (pending_of source r p) (expr_at r.exprs a) x (m.leaf_of token)) e ∙ (ap (λ l. m.on_semicolon (trees source) (body_of source r b) (goal_of source r g) l (m.closed_0 (trees source) (pending_of source r p) (expr_at r.exprs a)) (m.leaf_of token)) q.2 ∙ (ends_open source (body_of source r b) (goal_of source r g) q.0 q.1 (m.closed_0 (trees source) (pending_of source r p) (expr_at r.exprs a)) (m.leaf_of token)).0)
    go ps lt s (inr (inl e)) = let q = last ps lt in ap (λ x. by_sign source (body_of source r b) (goal_of source r g) (stacked (paren_of source r) ps) (pending_of source r p) (expr_at r.exprs a) x (m.leaf_of token)) e ∙ (ap (λ l. m.on_then (trees source) (body_of source r b) (goal_of source r g) l (m.closed_0 (trees source) (pending_of source r p) (expr_at r.exprs a)) (m.leaf_of token)) q.2 ∙ (ends_open source (body_of source r b) (goal_of source r g) q.0 q.1 (m.closed_0 (trees source) (pending_of source r p) (expr_at r.exprs a)) (m.leaf_of token)).1)
    go ps lt s (inr (inr e)) = let q = last ps lt in ap (λ x. by_sign source (body_of source r b) (goal_of source r g) (stacked (paren_of source r) ps) (pending_of source r p) (expr_at r.exprs a) x (m.leaf_of token)) e ∙ (ap (λ l. m.on_do (trees source) (body_of source r b) (goal_of source r g) l (m.closed_0 (trees source) (pending_of source r p) (expr_at r.exprs a)) (m.leaf_of token)) q.2 ∙ (ends_open source (body_of source r b) (goal_of source r g) q.0 q.1 (m.closed_0 (trees source) (pending_of source r p) (expr_at r.exprs a)) (m.leaf_of token)).2)

-- the sign that ends an expression, outside parentheses and for a goal that is known
at_end_sign : (source : List ℕ) (r : Grown) (token : Token) (b : Body) (g g' : Goal) (s0 : State) (ps : List Pending) (p : Pending) (a : ExprId) (s : Sign) → sign_of token.kind ≡ s → ps ≡ [] → g ≡ g' → state_of source r s0 ≡ m.have (body_of source r b) (goal_of source r g) (stacked (paren_of source r) ps) (pending_of source r p) (expr_at r.exprs a) → next_of source r s0 token ≡ by_sign source (body_of source r b) (goal_of source r g') [] (pending_of source r p) (expr_at r.exprs a) s (m.leaf_of token)
at_end_sign source r token b g g' s0 ps p a s e none same shape = at_sign source r token b g s0 ps p a s e shape ∙ (ap (λ l. by_sign source (body_of source r b) (goal_of source r g) (stacked (paren_of source r) l) (pending_of source r p) (expr_at r.exprs a) s (m.leaf_of token)) none ∙ ap (λ x. by_sign source (body_of source r b) (goal_of source r x) [] (pending_of source r p) (expr_at r.exprs a) s (m.leaf_of token)) same)

pub semicolon_none : (source : List ℕ) (r : Grown) (token : Token) (b : Body) (g g' : Goal) (s0 : State) (ps : List Pending) (p : Pending) (a : ExprId) → sign_of token.kind ≡ sign.Semicolon → ps ≡ [] → g ≡ g' → m.on_semicolon (trees source) (body_of source r b) (goal_of source r g') [] (m.closed_0 (trees source) (pending_of source r p) (expr_at r.exprs a)) (m.leaf_of token) ≡ None → state_of source r s0 ≡ m.have (body_of source r b) (goal_of source r g) (stacked (paren_of source r) ps) (pending_of source r p) (expr_at r.exprs a) → next_of source r s0 token ≡ None
semicolon_none source r token b g g' s0 ps p a e none same h shape = at_end_sign source r token b g g' s0 ps p a sign.Semicolon e none same shape ∙ h

pub then_none : (source : List ℕ) (r : Grown) (token : Token) (b : Body) (g g' : Goal) (s0 : State) (ps : List Pending) (p : Pending) (a : ExprId) → sign_of token.kind ≡ sign.Then → ps ≡ [] → g ≡ g' → m.on_then (trees source) (body_of source r b) (goal_of source r g') [] (m.closed_0 (trees source) (pending_of source r p) (expr_at r.exprs a)) (m.leaf_of token) ≡ None → state_of source r s0 ≡ m.have (body_of source r b) (goal_of source r g) (stacked (paren_of source r) ps) (pending_of source r p) (expr_at r.exprs a) → next_of source r s0 token ≡ None
then_none source r token b g g' s0 ps p a e none same h shape = at_end_sign source r token b g g' s0 ps p a sign.Then e none same shape ∙ h

pub do_none : (source : List ℕ) (r : Grown) (token : Token) (b : Body) (g g' : Goal) (s0 : State) (ps : List Pending) (p : Pending) (a : ExprId) → sign_of token.kind ≡ sign.Do → ps ≡ [] → g ≡ g' → m.on_do (trees source) (body_of source r b) (goal_of source r g') [] (m.closed_0 (trees source) (pending_of source r p) (expr_at r.exprs a)) (m.leaf_of token) ≡ None → state_of source r s0 ≡ m.have (body_of source r b) (goal_of source r g) (stacked (paren_of source r) ps) (pending_of source r p) (expr_at r.exprs a) → next_of source r s0 token ≡ None
do_none source r token b g g' s0 ps p a e none same h shape = at_end_sign source r token b g g' s0 ps p a sign.Do e none same shape ∙ h

-- `;` after an assumption and after an assignment
fold_stmts : (t t' : Lists) (k : ℕ) (e : ExprId) (x : ExprTree) → Folds t t' k e x → length (grown t').stmts ≡ length (grown t).stmts
fold_stmts t t' k e x h = ap (λ (q : Grown). length q.stmts) h.only

pub assume_arm : (source : List ℕ) (t t1 t2 : Lists) (token : Token) (b b' : Body) (g : Goal) (s0 : State) (ps : List Pending) (p : Pending) (a e : ExprId) (w : ℕ) (at : StmtAt) → sign_of token.kind ≡ sign.Semicolon → ps ≡ [] → g ≡ goal_.Assume w → at ≡ plain_at w token.end → state_of source (grown t) s0 ≡ m.have (body_of source (grown t) b) (goal_of source (grown t) g) (stacked (paren_of source (grown t)) ps) (pending_of source (grown t) p) (expr_at (grown t).exprs a) → TokenIn token → Small token.start (grown t) (sum_by waiting ps + waiting p) → BodyIn (grown t) b → Folds t t1 (waiting p) e (whole_tree (grown t) p (expr_at (grown t).exprs a)) → AddsStmt t1 t2 b (stmt.Assume e) at b' → Reaches source token.end t2 (state.InBlock b') (next_of source (grown t) s0 token)
unfolding on_semicolon
assume_arm source t t1 t2 token b b' g s0 ps p a e w at sg none goal at' shape ok small hb f h =
    let closed = f.is ∙ whole_is source (grown t) p (expr_at (grown t).exprs a) in
    let few = fold_stmts t t1 (waiting p) e (whole_tree (grown t) p (expr_at (grown t).exprs a)) f in
    stmt_arm source t t1 t2 token token.kind s0 b b' (stmt.Assume e) at (assume (m.closed_0 (trees source) (pending_of source (grown t) p) (expr_at (grown t).exprs a)) (plain_at w token.end)) refl
    (at_end_sign source (grown t) token b g (goal_.Assume w) s0 ps p a sign.Semicolon sg none goal shape)
    (body_keeps source (grown t) (grown t1) b f.grows hb) (ap (λ y. assume y at) closed ∙ ap (λ y. assume (m.closed_0 (trees source) (pending_of source (grown t) p) (expr_at (grown t).exprs a)) y) at') h
    (omega (arith, few, small.stmts, ok.filled))
    (folds_small token.start token.end t t1 (waiting p) e (whole_tree (grown t) p (expr_at (grown t).exprs a)) (sum_by waiting ps + waiting p) 0 ok.filled (omega arith) f small)

pub assign_end_arm : (source : List ℕ) (t t1 t2 : Lists) (token : Token) (b b' : Body) (g : Goal) (s0 : State) (ps : List Pending) (p : Pending) (a e : ExprId) (x : Word) (at : StmtAt) → sign_of token.kind ≡ sign.Semicolon → ps ≡ [] → g ≡ goal_.Assign x → at ≡ plain_at x.at token.end → state_of source (grown t) s0 ≡ m.have (body_of source (grown t) b) (goal_of source (grown t) g) (stacked (paren_of source (grown t)) ps) (pending_of source (grown t) p) (expr_at (grown t).exprs a) → TokenIn token → Small token.start (grown t) (sum_by waiting ps + waiting p) → BodyIn (grown t) b → GoalIn (grown t) g → Folds t t1 (waiting p) e (whole_tree (grown t) p (expr_at (grown t).exprs a)) → AddsStmt t1 t2 b (stmt.Assign x.name e) at b' → Reaches source token.end t2 (state.InBlock b') (next_of source (grown t) s0 token)
unfolding on_semicolon
assign_end_arm source t t1 t2 token b b' g s0 ps p a e x at sg none goal at' shape ok small hb hg f h =
    let closed = f.is ∙ whole_is source (grown t) p (expr_at (grown t).exprs a) in
    let hx : WordIn (grown t) x = subst (λ (y : Goal). GoalIn (grown t) y) goal hg in
    let few = fold_stmts t t1 (waiting p) e (whole_tree (grown t) p (expr_at (grown t).exprs a)) f in
    stmt_arm source t t1 t2 token token.kind s0 b b' (stmt.Assign x.name e) at (assign (name_of (grown t).names x.name) (m.closed_0 (trees source) (pending_of source (grown t) p) (expr_at (grown t).exprs a)) (plain_at x.at token.end)) refl
    (at_end_sign source (grown t) token b g (goal_.Assign x) s0 ps p a sign.Semicolon sg none goal shape)
    (body_keeps source (grown t) (grown t1) b f.grows hb)
    (ap (λ y. assign y (expr_at (grown t1).exprs e) at) (f.grows.names x.name hx.0) ∙ (ap (λ y. assign (name_of (grown t).names x.name) y at) closed ∙ ap (λ y. assign (name_of (grown t).names x.name) (m.closed_0 (trees source) (pending_of source (grown t) p) (expr_at (grown t).exprs a)) y) at')) h
    (omega (arith, few, small.stmts, ok.filled))
    (folds_small token.start token.end t t1 (waiting p) e (whole_tree (grown t) p (expr_at (grown t).exprs a)) (sum_by waiting ps + waiting p) 0 ok.filled (omega arith) f small)

-- `then` and `do` after a condition
pub then_arm : (source : List ℕ) (t t1 : Lists) (token : Token) (b b' : Body) (g : Goal) (s0 : State) (ps : List Pending) (p : Pending) (a e : ExprId) (w : ℕ) → sign_of token.kind ≡ sign.Then → ps ≡ [] → g ≡ goal_.If w → state_of source (grown t) s0 ≡ m.have (body_of source (grown t) b) (goal_of source (grown t) g) (stacked (paren_of source (grown t)) ps) (pending_of source (grown t) p) (expr_at (grown t).exprs a) → TokenIn token → Small token.start (grown t) (sum_by waiting ps + waiting p) → BodyIn (grown t) b → GoalIn (grown t) g → Folds t t1 (waiting p) e (whole_tree (grown t) p (expr_at (grown t).exprs a)) → OpensBlock b (frame.Then b.stmts (record { start = w; condition = e; first = token.end })) b' → Reaches source token.end t1 (state.InBlock b') (next_of source (grown t) s0 token)
unfolding on_then
then_arm source t t1 token b b' g s0 ps p a e w sg none goal shape ok small hb hg f o =
    let closed = f.is ∙ whole_is source (grown t) p (expr_at (grown t).exprs a) in
    let at_w : IsPlace w = subst (λ (y : Goal). GoalIn (grown t) y) goal hg in
    let keeps = body_keeps source (grown t) (grown t1) b f.grows hb in
    let held = body_in (grown t) (grown t1) b f.grows (folds_blocks t t1 (waiting p) e (whole_tree (grown t) p (expr_at (grown t).exprs a)) f) hb in
    let opened : m.Body (trees source) → ExprTree → Option (m.State (trees source)) = λ bd x. Some (m.in_block (m.with_block (trees source) bd (m.in_then bd.stmts w x token.end ∷ bd.frames) empty)) in
    reached source token.end t1 (state.InBlock b') _ _ (at_end_sign source (grown t) token b g (goal_.If w) s0 ps p a sign.Then sg none goal shape)
    (ap (λ y. opened y (m.closed_0 (trees source) (pending_of source (grown t) p) (expr_at (grown t).exprs a))) (sym keeps) ∙ (ap (λ y. opened (body_of source (grown t1) b) y) (sym closed) ∙ ap (λ y. Some (m.in_block y)) (sym (opens_block source (grown t1) b b' (frame.Then b.stmts (record { start = w; condition = e; first = token.end })) o))))
    f.whole (folds_small token.start token.end t t1 (waiting p) e (whole_tree (grown t) p (expr_at (grown t).exprs a)) (sum_by waiting ps + waiting p) 0 ok.filled (omega arith) f small)
    (opens_in (grown t1) b b' (frame.Then b.stmts (record { start = w; condition = e; first = token.end })) o held (held.stmts, (at_w, f.there, ok.within)) refl)

pub do_arm : (source : List ℕ) (t t1 : Lists) (token : Token) (b b' : Body) (g : Goal) (s0 : State) (ps : List Pending) (p : Pending) (a e : ExprId) (w : ℕ) → sign_of token.kind ≡ sign.Do → ps ≡ [] → g ≡ goal_.While w → state_of source (grown t) s0 ≡ m.have (body_of source (grown t) b) (goal_of source (grown t) g) (stacked (paren_of source (grown t)) ps) (pending_of source (grown t) p) (expr_at (grown t).exprs a) → TokenIn token → Small token.start (grown t) (sum_by waiting ps + waiting p) → BodyIn (grown t) b → GoalIn (grown t) g → Folds t t1 (waiting p) e (whole_tree (grown t) p (expr_at (grown t).exprs a)) → OpensBlock b (frame.While b.stmts (record { start = w; condition = e; first = token.end })) b' → Reaches source token.end t1 (state.InBlock b') (next_of source (grown t) s0 token)
unfolding on_do
do_arm source t t1 token b b' g s0 ps p a e w sg none goal shape ok small hb hg f o =
    let closed = f.is ∙ whole_is source (grown t) p (expr_at (grown t).exprs a) in
    let at_w : IsPlace w = subst (λ (y : Goal). GoalIn (grown t) y) goal hg in
    let keeps = body_keeps source (grown t) (grown t1) b f.grows hb in
    let held = body_in (grown t) (grown t1) b f.grows (folds_blocks t t1 (waiting p) e (whole_tree (grown t) p (expr_at (grown t).exprs a)) f) hb in
    let opened : m.Body (trees source) → ExprTree → Option (m.State (trees source)) = λ bd x. Some (m.in_block (m.with_block (trees source) bd (m.in_while bd.stmts w x token.end ∷ bd.frames) empty)) in
    reached source token.end t1 (state.InBlock b') _ _ (at_end_sign source (grown t) token b g (goal_.While w) s0 ps p a sign.Do sg none goal shape)
    (ap (λ y. opened y (m.closed_0 (trees source) (pending_of source (grown t) p) (expr_at (grown t).exprs a))) (sym keeps) ∙ (ap (λ y. opened (body_of source (grown t1) b) y) (sym closed) ∙ ap (λ y. Some (m.in_block y)) (sym (opens_block source (grown t1) b b' (frame.While b.stmts (record { start = w; condition = e; first = token.end })) o))))
    f.whole (folds_small token.start token.end t t1 (waiting p) e (whole_tree (grown t) p (expr_at (grown t).exprs a)) (sum_by waiting ps + waiting p) 0 ok.filled (omega arith) f small)
    (opens_in (grown t1) b b' (frame.While b.stmts (record { start = w; condition = e; first = token.end })) o held (held.stmts, (at_w, f.there, ok.within)) refl)
