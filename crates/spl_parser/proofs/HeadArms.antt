-- Steps over heads.
use Rattle.std.proofs.Common.{◌≡◌, ℕ, ◌≤◌, List, [], length, refl, sym, ap, ◌∙◌, subst, arith, Some, Result, sum_by}
use Rattle.spl_text.specs.declared.token.Token.{Token}
use Rattle.spl_text.specs.declared.token.TokenKind.TheVariants as kind
use Rattle.spl_tree.specs.declared.parts.DeclList.{DeclList}
use Rattle.spl_tree.specs.Lists.{Lists}
use Rattle.spl_tree.specs.Facts.{IsPlace}
use Rattle.spl_tree.specs.Program.{Declared, empty}
use Rattle.spl_tree.specs.Meaning.{decls_over}
use Rattle.spl_parser.specs.declared.state.Stop.{Stop}
use Rattle.spl_parser.specs.declared.state.Head.{Head}
use Rattle.spl_parser.specs.declared.state.Head.TheVariants as head
use Rattle.spl_parser.specs.declared.state.DeclGoal.{DeclGoal}
use Rattle.spl_parser.specs.declared.state.DeclGoal.TheVariants as decl_goal
use Rattle.spl_parser.specs.declared.state.Body.{Body}
use Rattle.spl_parser.specs.declared.state.State.{State}
use Rattle.spl_parser.specs.declared.state.State.TheVariants as state
use Rattle.spl_parser.specs.Growth.{Grown, grown, DeclsIn}
use Rattle.spl_parser.specs.Machine as m
use Rattle.spl_parser.specs.Trees.{trees}
use Rattle.spl_parser.specs.View.{stacked, word_of, head_of, decl_goal_of, ids_over, frame_of, body_of, state_of, HeadIn, DeclGoalIn, frame_held, BodyIn, state_waiting, Ready, TokenIn, next_of, Reaches, Steps, OpensBody, ClosesDecls}
use Rattle.spl_parser.specs.Machine.{step, step_begin, step_start, decls_close}
use Rattle.spl_parser.proofs.Stay.{still0}

opened : (source : List ℕ) (r : Grown) (h : Head) (locals : DeclList) (begin : ℕ) (b : Body) → OpensBody h locals begin b → m.new_body (trees source) (head_of source r h) (decls_over r.decls locals) begin ≡ body_of source r b
opened source r h locals begin b o = same (ap (λ x. head_of source r x) o.head) (ap (λ x. decls_over r.decls x) o.locals') o.begin' (ap (λ l. stacked (frame_of source r) l) o.frames) (ap (λ l. ids_over r l) o.stmts)
  where
    same : head_of source r b.head ≡ head_of source r h → decls_over r.decls b.locals ≡ decls_over r.decls locals → b.begin ≡ begin → stacked (frame_of source r) b.frames.items ≡ [] → ids_over r b.stmts.items ≡ empty → m.new_body (trees source) (head_of source r h) (decls_over r.decls locals) begin ≡ body_of source r b
    same p q s u v = cc

opened_in : (r : Grown) (h : Head) (locals : DeclList) (begin : ℕ) (b : Body) → OpensBody h locals begin b → HeadIn r h → DeclsIn r locals → IsPlace begin → length r.blocks ≤ length r.stmts → BodyIn r b
opened_in r h locals begin b o x y z le = record {
  head = subst (λ (q : Head). HeadIn r q) (sym o.head) x;
  locals = subst (λ (q : DeclList). DeclsIn r q) (sym o.locals') y;
  begin = subst (λ (q : ℕ). IsPlace q) (sym o.begin') z;
  frames = λ k d lt. absurd (omega (arith, ap length o.frames));
  stmts = λ k d lt. absurd (omega (arith, ap length o.stmts));
  held = omega (arith, ap length o.stmts, ap (λ l. sum_by frame_held l) o.frames);
}

pub begins_body : (source : List ℕ) (t : Lists) (token : Token) (h : Head) (locals : DeclList) (b : Body) → token.kind ≡ kind.Begin → OpensBody h locals token.start b → Ready token.start t (state.Begin h locals) → TokenIn token → Reaches source token.end t (state.InBlock b) (next_of source (grown t) (state.Begin h locals) token)
unfolding step step_begin
begins_body source t token h locals b e o ready w = still0 source t (state.Begin h locals) (state.InBlock b) token kind.Begin e (ap (λ x. Some (m.in_block x)) (opened source (grown t) h locals token.start b o)) refl (opened_in (grown t) h locals token.start b o ready.there.0 ready.there.1 (omega (arith, w.filled, w.within)) ready.small.blocks) ready w

pub starts_body : (source : List ℕ) (t : Lists) (token : Token) (h : Head) (b : Body) → token.kind ≡ kind.Begin → OpensBody h (record { first = 0; count = 0 }) token.start b → Ready token.start t (state.Start h) → TokenIn token → Reaches source token.end t (state.InBlock b) (next_of source (grown t) (state.Start h) token)
unfolding step step_start
starts_body source t token h b e o ready w = still0 source t (state.Start h) (state.InBlock b) token kind.Begin e (ap (λ x. Some (m.in_block x)) (opened source (grown t) h (record { first = 0; count = 0 }) token.start b o)) refl (opened_in (grown t) h (record { first = 0; count = 0 }) token.start b o ready.there (omega arith) (omega (arith, w.filled, w.within)) ready.small.blocks) ready w

-- a list of declarations ends at its `)`
pub decls_end_arm : (source : List ℕ) (t : Lists) (token : Token) (s : State) (g : DeclGoal) (list : DeclList) (result : Result State Stop) (ds : List Declared) → token.kind ≡ kind.RightParen → m.step (trees source) (state_of source (grown t) s) kind.RightParen (m.leaf_of token) ≡ m.decls_close (trees source) (decl_goal_of source (grown t) g) ds (m.leaf_of token) → decls_over (grown t).decls list ≡ ds → DeclsIn (grown t) list → DeclGoalIn (grown t) g → Ready token.start t s → state_waiting s ≡ 0 → TokenIn token → ClosesDecls g list result → Steps source t s token t result
unfolding decls_close
decls_end_arm source t token s (decl_goal.Inputs n) list result ds e f same ins there ready zero' w c = subst (λ (r : Result State Stop). Steps source t s token t r) (sym c) (still0 source t s (state.InputsAfter n list) token kind.RightParen e (f ∙ ap (λ x. Some (m.inputs_after (grown t).procs tt (word_of (grown t) n) tt x tt)) (sym same)) refl (there, ins) ready w)
decls_end_arm source t token s (decl_goal.Outputs n i) list result ds e f same ins there ready zero' w c = subst (λ (r : Result State Stop). Steps source t s token t r) (sym c) (still0 source t s (state.Start (head.Proc (record { name = n; inputs = i; outputs = list }))) token kind.RightParen e (f ∙ ap (λ x. Some (m.at_start (m.proc_head (grown t).procs tt (word_of (grown t) n) tt (decls_over (grown t).decls i) tt tt tt x tt))) (sym same)) refl (there.0, there.1, ins) ready w)
decls_end_arm source t token s (decl_goal.Locals h) list result ds e f same ins there ready zero' w c = subst (λ (r : Result State Stop). Steps source t s token t r) (sym c) (ap (λ k. m.step (trees source) (state_of source (grown t) s) k (m.leaf_of token)) e ∙ f)
