-- Steps over lists of declarations and of names.
use Rattle.std.proofs.Common.{◌≡◌, ℕ, ◌<◌, ◌≤◌, List, [], ◌∷◌, ◌++◌, length, take, drop, refl, sym, ap, ◌∙◌, subst, arith, length-append, length-drop, Some, None}
use Rattle.std.proofs.lemmas.List.{drop-append-le}
use Rattle.std.proofs.Math.Seq.{drop-append_seam, take-length}
use Rattle.spl_text.specs.declared.token.Token.{Token}
use Rattle.spl_text.specs.declared.token.TokenKind.TheVariants as kind
use Rattle.spl_tree.specs.declared.parts.NameList.{NameList}
use Rattle.spl_tree.specs.declared.parts.DeclList.{DeclList}
use Rattle.spl_tree.specs.Lists.{Lists}
use Rattle.spl_tree.specs.Program.{Named, Declared, other_kind}
use Rattle.spl_tree.specs.Meaning.{name_of, decls_over}
use Rattle.spl_parser.specs.declared.state.Word.{Word}
use Rattle.spl_parser.specs.declared.state.Head.{Head}
use Rattle.spl_parser.specs.declared.state.DeclGoal.{DeclGoal}
use Rattle.spl_parser.specs.declared.state.DeclGoal.TheVariants as decl_goal
use Rattle.spl_parser.specs.declared.state.Before.{Before}
use Rattle.spl_parser.specs.declared.state.Before.TheVariants as before
use Rattle.spl_parser.specs.declared.state.Body.{Body}
use Rattle.spl_parser.specs.declared.state.NameGoal.{NameGoal}
use Rattle.spl_parser.specs.declared.state.NameGoal.TheVariants as name_goal
use Rattle.spl_parser.specs.declared.state.State.{State}
use Rattle.spl_parser.specs.declared.state.State.TheVariants as state
use Rattle.spl_parser.specs.Growth.{Grown, grown, Grew}
use Rattle.spl_parser.specs.Machine as m
use Rattle.spl_parser.specs.Trees.{trees}
use Rattle.spl_parser.specs.View.{word_of, head_of, decl_goal_of, before_of, body_of, targets_of, state_of, DeclGoalIn, state_waiting, Small, Ready, TokenIn, next_of, Reaches, Grows, NewWord, names_end, RestOf, DeclDone}
use Rattle.spl_tree.specs.declared.parts.DeclKind.{DeclKind}
use Rattle.spl_tree.specs.declared.parts.DeclKind.TheVariants as decl_kind
use Rattle.spl_tree.specs.Meaning.{declared_of, kind_of}
use Rattle.spl_parser.specs.TreeOf.{bytes_at}
use Rattle.spl_parser.specs.Machine.{step, step_decl_colon, step_decl_after, vars_close, step_names_after, step_names_open, names_close}
use Rattle.spl_parser.proofs.NewWords.{word_small}
use Rattle.spl_parser.proofs.Stay.{moves, still0, word_keeps, decl_goal_keeps, decl_goal_in, grows_decls}

-- a declaration that was added
pub decl_done_first : (t t' : Lists) (g : DeclGoal) (name : Word) (kd : DeclKind) (place n : ℕ) → DeclGoalIn (grown t) g → n ≡ length (grown t).decls → Grew t' (record (grown t) { decls = (grown t).decls ++ declared_of (grown t).names (record { name = name.name; kind = kd }) (record { name = name.at; kind = place }) ∷ [] }) → DeclDone t t' g before.First name kd place (state.DeclAfter g n)
decl_done_first t t' g name kd place n h e grew =
    let x : Declared = declared_of (grown t).names (record { name = name.name; kind = kd }) (record { name = name.at; kind = place }) in
    let D : (grown t').decls ≡ (grown t).decls ++ x ∷ [] = ap (λ (q : Grown). q.decls) grew.meaning in
    let G : Grows (grown t) (grown t') = subst (λ (q : Grown). Grows (grown t) q) (sym grew.meaning) (grows_decls (grown t) x) in
    record {
      whole = grew.tree;
      only = grew.meaning ∙ ap (λ l. record (grown t) { decls = l }) (sym D);
      count = ap length D ∙ length-append (grown t).decls (x ∷ []);
      waits = refl;
      there = (decl_goal_in (grown t) (grown t') g G h, omega (arith, e, ap length D, length-append (grown t).decls (x ∷ [])));
      goes = λ source. ap (λ y. m.decl_after y (drop n (grown t').decls)) (decl_goal_keeps source (grown t) (grown t') g G h) ∙ ap (λ (y : List Declared). m.decl_after (decl_goal_of source (grown t) g) y) (ap (λ l. drop n l) D ∙ (ap (λ k. drop k ((grown t).decls ++ x ∷ [])) e ∙ drop-append_seam (grown t).decls (x ∷ [])));
    }

pub decl_done_after : (t t' : Lists) (g : DeclGoal) (first : ℕ) (name : Word) (kd : DeclKind) (place : ℕ) → DeclGoalIn (grown t) g → first ≤ length (grown t).decls → Grew t' (record (grown t) { decls = (grown t).decls ++ declared_of (grown t).names (record { name = name.name; kind = kd }) (record { name = name.at; kind = place }) ∷ [] }) → DeclDone t t' g (before.After first) name kd place (state.DeclAfter g first)
decl_done_after t t' g first name kd place h le grew =
    let x : Declared = declared_of (grown t).names (record { name = name.name; kind = kd }) (record { name = name.at; kind = place }) in
    let D : (grown t').decls ≡ (grown t).decls ++ x ∷ [] = ap (λ (q : Grown). q.decls) grew.meaning in
    let G : Grows (grown t) (grown t') = subst (λ (q : Grown). Grows (grown t) q) (sym grew.meaning) (grows_decls (grown t) x) in
    record {
      whole = grew.tree;
      only = grew.meaning ∙ ap (λ l. record (grown t) { decls = l }) (sym D);
      count = ap length D ∙ length-append (grown t).decls (x ∷ []);
      waits = refl;
      there = (decl_goal_in (grown t) (grown t') g G h, omega (arith, le, ap length D, length-append (grown t).decls (x ∷ [])));
      goes = λ source. ap (λ y. m.decl_after y (drop first (grown t').decls)) (decl_goal_keeps source (grown t) (grown t') g G h) ∙ ap (λ (y : List Declared). m.decl_after (decl_goal_of source (grown t) g) y) (ap (λ l. drop first l) D ∙ drop-append-le first (grown t).decls (x ∷ []) le);
    }

decl_small : (n : ℕ) (t t' : Lists) (g : DeclGoal) (b : Before) (name : Word) (kd : DeclKind) (place : ℕ) (s : State) (low : ℕ) → length (grown t).decls ≤ low → low < n → DeclDone t t' g b name kd place s → Small n (grown t) 0 → Small n (grown t') 0
decl_small n t t' g b name kd place s' low le lt h s = record {
  letters = omega (arith, ap (λ (q : Grown). q.letters) h.only, s.letters);
  names = omega (arith, ap (λ (q : Grown). length q.names) h.only, s.names);
  named = omega (arith, ap (λ (q : Grown). length q.named) h.only, s.named);
  decls = omega (arith, h.count);
  procs = omega (arith, ap (λ (q : Grown). length q.procs) h.only, s.procs);
  stmts = omega (arith, ap (λ (q : Grown). length q.stmts) h.only, s.stmts);
  blocks = omega (arith, ap (λ (q : Grown). length q.blocks) h.only, ap (λ (q : Grown). length q.stmts) h.only, s.blocks);
  exprs = omega (arith, ap (λ (q : Grown). length q.exprs) h.only, s.exprs);
}

small_with : (n : ℕ) (r : Grown) (s : State) → state_waiting s ≡ 0 → Small n r 0 → Small n r (state_waiting s)
small_with n r s e h = subst (λ (k : ℕ). Small n r k) (sym e) h

small_up : (n n' : ℕ) (r : Grown) → n < n' → Small n r 0 → Small n' r 0
small_up n n' r lt h = record { letters = omega (arith, h.letters); names = omega (arith, h.names); named = omega (arith, h.named); decls = omega (arith, h.decls); procs = omega (arith, h.procs); stmts = omega (arith, h.stmts); blocks = h.blocks; exprs = omega (arith, h.exprs) }

pub decl_int_arm : (source : List ℕ) (t t' : Lists) (token : Token) (g : DeclGoal) (b : Before) (name : Word) (s : State) → token.kind ≡ kind.Int → TokenIn token → Ready token.start t (state.DeclColon g b name) → DeclDone t t' g b name decl_kind.Int token.start s → Reaches source token.end t' s (next_of source (grown t) (state.DeclColon g b name) token)
unfolding step step_decl_colon
decl_int_arm source t t' token g b name s e ok ready h = moves source t t' (state.DeclColon g b name) s token kind.Int e (ap (λ x. Some x) (sym (h.goes source))) h.whole (small_with token.end (grown t') s h.waits (decl_small token.end t t' g b name decl_kind.Int token.start s token.start ready.small.decls ok.filled h (small_up token.start token.end (grown t) ok.filled ready.small))) h.there

pub decl_real_arm : (source : List ℕ) (t t' : Lists) (token : Token) (g : DeclGoal) (b : Before) (name : Word) (s : State) → token.kind ≡ kind.Real → TokenIn token → Ready token.start t (state.DeclColon g b name) → DeclDone t t' g b name decl_kind.Real token.start s → Reaches source token.end t' s (next_of source (grown t) (state.DeclColon g b name) token)
unfolding step step_decl_colon
decl_real_arm source t t' token g b name s e ok ready h = moves source t t' (state.DeclColon g b name) s token kind.Real e (ap (λ x. Some x) (sym (h.goes source))) h.whole (small_with token.end (grown t') s h.waits (decl_small token.end t t' g b name decl_kind.Real token.start s token.start ready.small.decls ok.filled h (small_up token.start token.end (grown t) ok.filled ready.small))) h.there

before_same' : (source : List ℕ) (r r' : Grown) (b : Before) → r'.decls ≡ r.decls → before_of source r' b ≡ before_of source r b
before_same' source r r' before.First e = refl
before_same' source r r' (before.After first) e = ap (λ (l : List Declared). m.after (drop first l) tt) e

pub decl_name_arm : (source : List ℕ) (t t1 t' : Lists) (token : Token) (g : DeclGoal) (b : Before) (name w : Word) (s : State) → token.kind ≡ kind.Name → TokenIn token → Ready token.start t (state.DeclColon g b name) → NewWord source token t t1 w → DeclDone t1 t' g b name (decl_kind.Named w.name) token.start s → Reaches source token.end t' s (next_of source (grown t) (state.DeclColon g b name) token)
unfolding step step_decl_colon
decl_name_arm source t t1 t' token g b name w s e ok ready h d =
    let G = decl_goal_keeps source (grown t) (grown t1) g h.grows ready.there.0 in
    let B = before_same' source (grown t) (grown t1) b (ap (λ (q : Grown). q.decls) h.only) in
    let N = word_keeps (grown t) (grown t1) name h.grows ready.there.2 in
    let W : name_of (grown t1).names w.name ≡ bytes_at source (m.leaf_of token) = ap (λ (x : Named). x.name) h.is in
    let goes : m.decl_after (decl_goal_of source (grown t1) g) (m.with_decl (trees source) (before_of source (grown t1) b) (word_of (grown t1) name) tt (kind_of (grown t1).names (decl_kind.Named w.name), token.start)) ≡ m.decl_after (decl_goal_of source (grown t) g) (m.with_decl (trees source) (before_of source (grown t) b) (word_of (grown t) name) tt ((trees source).other (m.leaf_of token))) =
    ap (λ x. m.decl_after x (m.with_decl (trees source) (before_of source (grown t1) b) (word_of (grown t1) name) tt (kind_of (grown t1).names (decl_kind.Named w.name), token.start))) G
    ∙ (ap (λ x. m.decl_after (decl_goal_of source (grown t) g) (m.with_decl (trees source) x (word_of (grown t1) name) tt (kind_of (grown t1).names (decl_kind.Named w.name), token.start))) B
    ∙ (ap (λ x. m.decl_after (decl_goal_of source (grown t) g) (m.with_decl (trees source) (before_of source (grown t) b) x tt (kind_of (grown t1).names (decl_kind.Named w.name), token.start))) N
    ∙ ap (λ x. m.decl_after (decl_goal_of source (grown t) g) (m.with_decl (trees source) (before_of source (grown t) b) (word_of (grown t) name) tt (other_kind x, token.start))) W)) in
    moves source t t' (state.DeclColon g b name) s token kind.Name e (ap (λ x. Some x) (sym (d.goes source ∙ goes))) d.whole
    (small_with token.end (grown t') s d.waits (decl_small token.end t1 t' g b name (decl_kind.Named w.name) token.start s token.start (omega (arith, ap (λ (q : Grown). length q.decls) h.only, ready.small.decls)) ok.filled d (word_small source token t t1 w 0 0 ok h (omega arith) ready.small))) d.there

-- lists end
rest_span : {X : Type 0} (xs : List X) (from first count : ℕ) → RestOf from (length xs) first count → from ≤ length xs → take count (drop first xs) ≡ drop from xs
rest_span xs from first count h le =
    let e : drop first xs ≡ drop from xs = ap (λ k. drop k xs) h.0 in
    let long : length (drop from xs) ≡ count = omega (arith, length-drop from xs, h.0, h.1) in
    ap (λ l. take count l) e ∙ (ap (λ k. take k (drop from xs)) (sym long) ∙ take-length (drop from xs))

pub decls_rest : (r : Grown) (from : ℕ) (list : DeclList) → RestOf from (length r.decls) list.first list.count → from ≤ length r.decls → decls_over r.decls list ≡ drop from r.decls
decls_rest r from list h le = rest_span r.decls from list.first list.count h le

pub vars_end_arm : (source : List ℕ) (t : Lists) (token : Token) (x : Head) (first : ℕ) (list : DeclList) → token.kind ≡ kind.Semicolon → TokenIn token → Ready token.start t (state.DeclAfter (decl_goal.Locals x) first) → RestOf first (length (grown t).decls) list.first list.count → Reaches source token.end t (state.Begin x list) (next_of source (grown t) (state.DeclAfter (decl_goal.Locals x) first) token)
unfolding step step_decl_after vars_close
vars_end_arm source t token x first list e ok ready rest = still0 source t (state.DeclAfter (decl_goal.Locals x) first) (state.Begin x list) token kind.Semicolon e (ap (λ (y : List Declared). Some (m.at_begin (head_of source (grown t) x) y)) (sym (decls_rest (grown t) first list rest ready.there.1))) refl (ready.there.0, omega (arith, rest.0, rest.1)) ready ok

pub names_end_arm : (source : List ℕ) (t : Lists) (token : Token) (b : Body) (g : NameGoal) (first : ℕ) (list : NameList) → token.kind ≡ kind.RightParen → TokenIn token → Ready token.start t (state.NamesAfter b g first) → RestOf first (length (grown t).named) list.first list.count → Reaches source token.end t (names_end b g list) (next_of source (grown t) (state.NamesAfter b g first) token)
unfolding step step_names_after names_close
names_end_arm source t token b (name_goal.Targets o) first list e ok ready rest = still0 source t (state.NamesAfter b (name_goal.Targets o) first) (state.TargetsAfter b o list) token kind.RightParen e (ap (λ (y : List Named). Some (m.targets_after (body_of source (grown t) b) o y tt)) (sym (rest_span (grown t).named first list.first list.count rest ready.there.2))) refl (ready.there.0, ready.there.1, omega (arith, rest.0, rest.1)) ready ok
names_end_arm source t token b (name_goal.Arguments h) first list e ok ready rest = still0 source t (state.NamesAfter b (name_goal.Arguments h) first) (state.CallAfter b h list) token kind.RightParen e (ap (λ (y : List Named). Some (m.call_after (body_of source (grown t) b) (targets_of source (grown t) h.targets) (word_of (grown t) h.called) tt y tt)) (sym (rest_span (grown t).named first list.first list.count rest ready.there.2))) refl (ready.there.0, ready.there.1, omega (arith, rest.0, rest.1)) ready ok

pub no_names_arm : (source : List ℕ) (t : Lists) (token : Token) (b : Body) (g : NameGoal) → token.kind ≡ kind.RightParen → TokenIn token → Ready token.start t (state.NamesOpen b g) → Reaches source token.end t (names_end b g (record { first = 0; count = 0 })) (next_of source (grown t) (state.NamesOpen b g) token)
unfolding step step_names_open names_close
no_names_arm source t token b (name_goal.Targets o) e ok ready = still0 source t (state.NamesOpen b (name_goal.Targets o)) (state.TargetsAfter b o (record { first = 0; count = 0 })) token kind.RightParen e refl refl (ready.there.0, ready.there.1, omega arith) ready ok
no_names_arm source t token b (name_goal.Arguments h) e ok ready = still0 source t (state.NamesOpen b (name_goal.Arguments h)) (state.CallAfter b h (record { first = 0; count = 0 })) token kind.RightParen e refl refl (ready.there.0, ready.there.1, omega arith) ready ok

pub decl_semicolon_none : (source : List ℕ) (r : Grown) (token : Token) (g : DeclGoal) (first : ℕ) → token.kind ≡ kind.Semicolon → ((ds : List Declared) (l : m.Algebra.Place (trees source)) → m.vars_close (trees source) (decl_goal_of source r g) ds l ≡ None) → next_of source r (state.DeclAfter g first) token ≡ None
unfolding step step_decl_after
decl_semicolon_none source r token g first e h = ap (λ k. m.step (trees source) (state_of source r (state.DeclAfter g first)) k (m.leaf_of token)) e ∙ h (drop first r.decls) (m.leaf_of token)
