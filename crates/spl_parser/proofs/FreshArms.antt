-- Steps that begin an expression, and steps that are those of another state.
use Rattle.std.proofs.Common.{◌≡◌, ℕ, ◌+◌, List, [], length, refl, sym, ap, ◌∙◌, subst, arith, Some, None, sum_by, Result, Ok, Err}
use Rattle.spl_text.specs.declared.token.Token.{Token}
use Rattle.spl_text.specs.declared.token.TokenKind.{TokenKind}
use Rattle.spl_text.specs.declared.token.TokenKind.TheVariants.{Name, LeftParen, Semicolon}
use Rattle.spl_tree.specs.declared.parts.ExprId.{ExprId}
use Rattle.spl_tree.specs.Lists.{Lists}
use Rattle.spl_tree.specs.Facts.{Each}
use Rattle.spl_tree.specs.Program.{variable}
use Rattle.spl_tree.specs.Meaning.{name_of, expr_at}
use Rattle.spl_parser.specs.declared.state.Word.{Word}
use Rattle.spl_parser.specs.declared.state.Body.{Body}
use Rattle.spl_parser.specs.declared.state.Goal.{Goal}
use Rattle.spl_parser.specs.declared.state.Goal.TheVariants as goal
use Rattle.spl_parser.specs.declared.state.OpenExpr.{OpenExpr}
use Rattle.spl_parser.specs.declared.state.Pending.{Pending}
use Rattle.spl_parser.specs.declared.state.State.{State}
use Rattle.spl_parser.specs.declared.state.Stop.{Stop}
use Rattle.spl_parser.specs.declared.state.Stop.TheVariants as stop
use Rattle.spl_parser.specs.declared.state.State.TheVariants as state
use Rattle.spl_parser.specs.Growth.{Grown, grown}
use Rattle.spl_parser.specs.Machine as m
use Rattle.spl_parser.specs.Machine.{Algebra, step, step_after_end, step_block, step_assign_start, step_assign_name, step_want, step_have}
use Rattle.spl_parser.specs.Trees.{trees}
use Rattle.spl_parser.specs.View.{stacked, word_of, body_of, goal_of, pending_of, paren_of, state_of, BodyIn, GoalIn, WordIn, PendingIn, ExprThere, waiting, StateIn, state_waiting, Small, Ready, TokenIn, next_of, Reaches, Steps, IsFresh, Folds}
use Rattle.spl_parser.specs.declared.state.Closed.{Closed}
use Rattle.spl_parser.specs.View.{closed_of, AddsStmt, closed_stmt, closed_place, closed_word}
use Rattle.spl_parser.proofs.BodyArms.{closed_is}
use Rattle.spl_parser.proofs.WantArms.{fresh_pending, fresh_in, fresh_waiting, folds_blocks}
use Rattle.spl_parser.proofs.Stay.{still, body_keeps, body_in, word_keeps, word_in}

none_pending : (r : Grown) (ps : List Pending) → ps ≡ [] → Each (λ k q. PendingIn r q) ps
none_pending r ps e = λ k d lt. absurd (omega (arith, ap length e))

-- a statement that begins with an expression
pub begins_arm : (source : List ℕ) (t : Lists) (token : Token) (k : TokenKind) (b : Body) (g : Goal) (s' : State) (ps : List Pending) (q : Pending) → token.kind ≡ k → m.step (trees source) (m.in_block (body_of source (grown t) b)) k (m.leaf_of token) ≡ Some (m.want (body_of source (grown t) b) (goal_of source (grown t) g) [] (m.nothing_before (trees source))) → ps ≡ [] → IsFresh q → state_of source (grown t) s' ≡ m.want (body_of source (grown t) b) (goal_of source (grown t) g) (stacked (paren_of source (grown t)) ps) (pending_of source (grown t) q) → state_waiting s' ≡ sum_by waiting ps + waiting q → (BodyIn (grown t) b → GoalIn (grown t) g → Each (λ j x. PendingIn (grown t) x) ps → PendingIn (grown t) q → StateIn (grown t) s') → GoalIn (grown t) g → Ready token.start t (state.InBlock b) → TokenIn token → Reaches source token.end t s' (next_of source (grown t) (state.InBlock b) token)
begins_arm source t token k b g s' ps q is goes none fresh shape waits there hg ready ok =
    let same : Some (m.want (body_of source (grown t) b) (goal_of source (grown t) g) [] (m.nothing_before (trees source))) ≡ Some (state_of source (grown t) s') =
    ap (λ x. Some (m.want (body_of source (grown t) b) (goal_of source (grown t) g) [] x)) (sym (fresh_pending source (grown t) q fresh))
    ∙ (ap (λ l. Some (m.want (body_of source (grown t) b) (goal_of source (grown t) g) (stacked (paren_of source (grown t)) l) (pending_of source (grown t) q))) (sym none) ∙ ap (λ x. Some x) (sym shape)) in
    still source t (state.InBlock b) s' token k is (goes ∙ same) (omega (arith, waits, fresh_waiting q fresh, ap (λ l. sum_by waiting l) none)) (there ready.there hg (none_pending (grown t) ps none) (fresh_in (grown t) q fresh)) ready ok

-- a step of a state that goes on like another one, over parts that grew
pub goes_like : (source : List ℕ) (t t1 t2 : Lists) (token : Token) (s s1 : State) (r : Result State Stop) → next_of source (grown t) s token ≡ next_of source (grown t1) s1 token → Steps source t1 s1 token t2 r → Steps source t s token t2 r
goes_like source t t1 t2 token s s1 (Ok s') e h = record { goes = e ∙ h.goes; ready = h.ready }
goes_like source t t1 t2 token s s1 (Err stop.Syntax) e h = e ∙ h
goes_like source t t1 t2 token s s1 (Err stop.NoMemory) e h = tt

assign_start_is : (A : Algebra) (b : m.Body A) (x : A.Word) (q : A.Gone) (k : TokenKind) (l : A.Place) → (k ≡ Name → ⊥) → step A (m.assign_start b x q) k l ≡ step A (m.want b (m.assign_goal x q) [] (m.nothing_before A)) k l
unfolding step step_assign_start
assign_start_is A b x q Name l n = absurd (n refl)
assign_start_is A b x q _ l n = refl

assign_name_is : (A : Algebra) (b : m.Body A) (x : A.Word) (q : A.Gone) (w : A.Word) (k : TokenKind) (l : A.Place) → (k ≡ LeftParen → ⊥) → step A (m.assign_name b x q w) k l ≡ step A (m.have b (m.assign_goal x q) [] (m.nothing_before A) (A.variable w)) k l
unfolding step step_assign_name
assign_name_is A b x q w LeftParen l n = absurd (n refl)
assign_name_is A b x q w _ l n = refl

-- an assigned value that begins with no name
pub assigns_arm : (source : List ℕ) (t t2 : Lists) (token : Token) (b : Body) (x : Word) (s1 : State) (ps : List Pending) (q : Pending) (r : Result State Stop) → (token.kind ≡ Name → ⊥) → ps ≡ [] → IsFresh q → state_of source (grown t) s1 ≡ m.want (body_of source (grown t) b) (goal_of source (grown t) (goal.Assign x)) (stacked (paren_of source (grown t)) ps) (pending_of source (grown t) q) → Steps source t s1 token t2 r → Steps source t (state.AssignStart b x) token t2 r
assigns_arm source t t2 token b x s1 ps q r n none fresh shape h =
    goes_like source t t t2 token (state.AssignStart b x) s1 r
    (assign_start_is (trees source) (body_of source (grown t) b) (word_of (grown t) x) tt token.kind (m.leaf_of token) n
    ∙ (ap (λ y. m.step (trees source) (m.want (body_of source (grown t) b) (goal_of source (grown t) (goal.Assign x)) [] y) token.kind (m.leaf_of token)) (sym (fresh_pending source (grown t) q fresh))
    ∙ (ap (λ l. m.step (trees source) (m.want (body_of source (grown t) b) (goal_of source (grown t) (goal.Assign x)) (stacked (paren_of source (grown t)) l) (pending_of source (grown t) q)) token.kind (m.leaf_of token)) (sym none)
    ∙ ap (λ y. m.step (trees source) y token.kind (m.leaf_of token)) (sym shape)))) h

-- a name of an assigned value, as an operand
pub name_ready : (n : ℕ) (t t1 : Lists) (b : Body) (x w : Word) (s1 : State) (ps : List Pending) (q : Pending) (e : ExprId) → ps ≡ [] → IsFresh q → state_waiting s1 ≡ sum_by waiting ps + waiting q → (BodyIn (grown t1) b → GoalIn (grown t1) (goal.Assign x) → Each (λ j y. PendingIn (grown t1) y) ps → PendingIn (grown t1) q → ExprThere (grown t1) e → StateIn (grown t1) s1) → Folds t t1 1 e (variable (name_of (grown t).names w.name) w.at) → Ready n t (state.AssignName b x w) → Ready n t1 s1
name_ready n t t1 b x w s1 ps q e none fresh waits there f ready =
    let wait : state_waiting s1 ≡ 0 = omega (arith, waits, fresh_waiting q fresh, ap (λ l. sum_by waiting l) none) in
    let small = ready.small in
    let blocks = folds_blocks t t1 1 e (variable (name_of (grown t).names w.name) w.at) f in
    record {
      tree = f.whole;
      small = record {
        letters = omega (arith, ap (λ (y : Grown). y.letters) f.only, small.letters);
        names = omega (arith, ap (λ (y : Grown). length y.names) f.only, small.names);
        named = omega (arith, ap (λ (y : Grown). length y.named) f.only, small.named);
        decls = omega (arith, ap (λ (y : Grown). length y.decls) f.only, small.decls);
        procs = omega (arith, ap (λ (y : Grown). length y.procs) f.only, small.procs);
        stmts = omega (arith, ap (λ (y : Grown). length y.stmts) f.only, small.stmts, wait);
        blocks = omega (arith, blocks, ap (λ (y : Grown). length y.stmts) f.only, small.blocks);
        exprs = omega (arith, f.count, small.exprs, wait);
      };
      there = there (body_in (grown t) (grown t1) b f.grows blocks ready.there.0) (word_in (grown t) (grown t1) x f.grows ready.there.1) (none_pending (grown t1) ps none) (fresh_in (grown t1) q fresh) f.there;
    }

pub name_value_arm : (source : List ℕ) (t t1 t2 : Lists) (token : Token) (b : Body) (x w : Word) (s1 : State) (ps : List Pending) (q : Pending) (e : ExprId) (r : Result State Stop) → (token.kind ≡ LeftParen → ⊥) → ps ≡ [] → IsFresh q → state_of source (grown t1) s1 ≡ m.have (body_of source (grown t1) b) (goal_of source (grown t1) (goal.Assign x)) (stacked (paren_of source (grown t1)) ps) (pending_of source (grown t1) q) (expr_at (grown t1).exprs e) → Folds t t1 1 e (variable (name_of (grown t).names w.name) w.at) → BodyIn (grown t) b → WordIn (grown t) x → Steps source t1 s1 token t2 r → Steps source t (state.AssignName b x w) token t2 r
name_value_arm source t t1 t2 token b x w s1 ps q e r n none fresh shape f hb hx h =
    let P = m.step (trees source) in
    goes_like source t t1 t2 token (state.AssignName b x w) s1 r
    (assign_name_is (trees source) (body_of source (grown t) b) (word_of (grown t) x) tt (word_of (grown t) w) token.kind (m.leaf_of token) n
    ∙ (ap (λ y. m.step (trees source) (m.have y (m.assign_goal (word_of (grown t) x) tt) [] (m.nothing_before (trees source)) (variable (name_of (grown t).names w.name) w.at)) token.kind (m.leaf_of token)) (sym (body_keeps source (grown t) (grown t1) b f.grows hb))
    ∙ (ap (λ y. m.step (trees source) (m.have (body_of source (grown t1) b) (m.assign_goal y tt) [] (m.nothing_before (trees source)) (variable (name_of (grown t).names w.name) w.at)) token.kind (m.leaf_of token)) (sym (word_keeps (grown t) (grown t1) x f.grows hx))
    ∙ (ap (λ y. m.step (trees source) (m.have (body_of source (grown t1) b) (goal_of source (grown t1) (goal.Assign x)) [] (m.nothing_before (trees source)) y) token.kind (m.leaf_of token)) (sym f.is)
    ∙ (ap (λ y. m.step (trees source) (m.have (body_of source (grown t1) b) (goal_of source (grown t1) (goal.Assign x)) [] y (expr_at (grown t1).exprs e)) token.kind (m.leaf_of token)) (sym (fresh_pending source (grown t1) q fresh))
    ∙ (ap (λ l. m.step (trees source) (m.have (body_of source (grown t1) b) (goal_of source (grown t1) (goal.Assign x)) (stacked (paren_of source (grown t1)) l) (pending_of source (grown t1) q) (expr_at (grown t1).exprs e)) token.kind (m.leaf_of token)) (sym none)
    ∙ ap (λ y. m.step (trees source) y token.kind (m.leaf_of token)) (sym shape))))))) h

after_end_is : (A : Algebra) (b : m.Body A) (c : m.Closed A) (k : TokenKind) (l : A.Place) → (k ≡ Semicolon → ⊥) → step A (m.after_end b c) k l ≡ step A (m.in_block (m.with_stmt A b (m.finished A c A.no_semi))) k l
unfolding step step_after_end
after_end_is A b c Semicolon l n = absurd (n refl)
after_end_is A b c _ l n = refl

-- a conditional or a loop without its `;`, and then what follows in its block
pub after_end_arm : (source : List ℕ) (t t1 t2 : Lists) (token : Token) (b b' : Body) (c : Closed) (end : ℕ) (r : Result State Stop) → (token.kind ≡ Semicolon → ⊥) → end ≡ closed_word c → AddsStmt t t1 b (closed_stmt c) (closed_place c end) b' → Steps source t1 (state.InBlock b') token t2 r → Steps source t (state.AfterEnd b c) token t2 r
after_end_arm source t t1 t2 token b b' c end r n e f h =
    goes_like source t t1 t2 token (state.AfterEnd b c) (state.InBlock b') r
    (after_end_is (trees source) (body_of source (grown t) b) (closed_of source (grown t) c) token.kind (m.leaf_of token) n
    ∙ ap (λ y. m.step (trees source) (m.in_block y) token.kind (m.leaf_of token)) (sym (f.goes source ∙ ap (λ y. m.with_stmt (trees source) (body_of source (grown t) b) y) (closed_is source (grown t) c None end (sym e))))) h

-- the same of an expression as it is made before its first operand
abbrev pub IsNew : Body → Goal → OpenExpr → Type 0
IsNew b g x = x ≡ record { body = b; goal = g; parens = x.parens; pending = x.pending }

new_shape : (source : List ℕ) (r : Grown) (b : Body) (g : Goal) (x : OpenExpr) → IsNew b g x → state_of source r (state.Want x) ≡ m.want (body_of source r b) (goal_of source r g) (stacked (paren_of source r) x.parens.items) (pending_of source r x.pending)
new_shape source r b g x same = ap (λ (y : OpenExpr). state_of source r (state.Want y)) same

new_in : (r : Grown) (b : Body) (g : Goal) (x : OpenExpr) → IsNew b g x → BodyIn r b → GoalIn r g → Each (λ j y. PendingIn r y) x.parens.items → PendingIn r x.pending → StateIn r (state.Want x)
new_in r b g x same hb hg hs hp = let P : OpenExpr → Type 0 = λ y. StateIn r (state.Want y) in subst P (sym same) (hb, hg, hs, hp)

pub begins_new : (source : List ℕ) (t : Lists) (token : Token) (k : TokenKind) (b : Body) (g : Goal) (x : OpenExpr) → token.kind ≡ k → m.step (trees source) (m.in_block (body_of source (grown t) b)) k (m.leaf_of token) ≡ Some (m.want (body_of source (grown t) b) (goal_of source (grown t) g) [] (m.nothing_before (trees source))) → IsNew b g x → x.parens.items ≡ [] → IsFresh x.pending → GoalIn (grown t) g → Ready token.start t (state.InBlock b) → TokenIn token → Reaches source token.end t (state.Want x) (next_of source (grown t) (state.InBlock b) token)
begins_new source t token k b g x is goes same none fresh hg ready ok =
    begins_arm source t token k b g (state.Want x) x.parens.items x.pending is goes none fresh (new_shape source (grown t) b g x same) refl (new_in (grown t) b g x same) hg ready ok

pub assigns_new : (source : List ℕ) (t t2 : Lists) (token : Token) (b : Body) (x : Word) (e : OpenExpr) (r : Result State Stop) → (token.kind ≡ Name → ⊥) → IsNew b (goal.Assign x) e → e.parens.items ≡ [] → IsFresh e.pending → Steps source t (state.Want e) token t2 r → Steps source t (state.AssignStart b x) token t2 r
assigns_new source t t2 token b x e r n same none fresh h =
    assigns_arm source t t2 token b x (state.Want e) e.parens.items e.pending r n none fresh (new_shape source (grown t) b (goal.Assign x) e same) h

pub assigns_ready : (n : ℕ) (t : Lists) (b : Body) (x : Word) (e : OpenExpr) → IsNew b (goal.Assign x) e → e.parens.items ≡ [] → IsFresh e.pending → Ready n t (state.AssignStart b x) → Ready n t (state.Want e)
assigns_ready n t b x e same none fresh ready =
    let wait : state_waiting (state.Want e) ≡ 0 = omega (arith, fresh_waiting e.pending fresh, ap (λ l. sum_by waiting l) none) in
    record {
      tree = ready.tree;
      small = subst (λ (k : ℕ). Small n (grown t) k) (sym wait) ready.small;
      there = new_in (grown t) b (goal.Assign x) e same ready.there.0 ready.there.1 (none_pending (grown t) e.parens.items none) (fresh_in (grown t) e.pending fresh);
    }

pub name_new_ready : (n : ℕ) (t t1 : Lists) (b : Body) (x w : Word) (y : OpenExpr) (e : ExprId) → IsNew b (goal.Assign x) y → y.parens.items ≡ [] → IsFresh y.pending → Folds t t1 1 e (variable (name_of (grown t).names w.name) w.at) → Ready n t (state.AssignName b x w) → Ready n t1 (state.Have y e)
name_new_ready n t t1 b x w y e same none fresh f ready =
    name_ready n t t1 b x w (state.Have y e) y.parens.items y.pending e none fresh refl
    (λ hb hg hs hp he. let P : OpenExpr → Type 0 = λ z. StateIn (grown t1) (state.Have z e) in subst P (sym same) (hb, hg, hs, hp, he)) f ready

pub name_new_arm : (source : List ℕ) (t t1 t2 : Lists) (token : Token) (b : Body) (x w : Word) (y : OpenExpr) (e : ExprId) (r : Result State Stop) → (token.kind ≡ LeftParen → ⊥) → IsNew b (goal.Assign x) y → y.parens.items ≡ [] → IsFresh y.pending → Folds t t1 1 e (variable (name_of (grown t).names w.name) w.at) → BodyIn (grown t) b → WordIn (grown t) x → Steps source t1 (state.Have y e) token t2 r → Steps source t (state.AssignName b x w) token t2 r
name_new_arm source t t1 t2 token b x w y e r n same none fresh f hb hx h =
    name_value_arm source t t1 t2 token b x w (state.Have y e) y.parens.items y.pending e r n none fresh (ap (λ (z : OpenExpr). state_of source (grown t1) (state.Have z e)) same) f hb hx h
