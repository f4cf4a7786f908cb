-- Steps at a name: the name is added, and what stood before it stays.
use Rattle.std.proofs.Common.{◌≡◌, ℕ, ◌<◌, ◌≤◌, List, [], ◌∷◌, ◌++◌, length, drop, refl, sym, ap, ◌∙◌, subst, arith, length-append, Some}
use Rattle.std.proofs.lemmas.List.{drop-append-le}
use Rattle.std.proofs.Math.Seq.{drop-append_seam}
use Rattle.spl_text.specs.declared.token.Token.{Token}
use Rattle.spl_text.specs.declared.token.TokenKind.TheVariants as kind
use Rattle.spl_tree.specs.Lists.{Lists}
use Rattle.spl_tree.specs.Facts.{IsTree}
use Rattle.spl_tree.specs.Program.{Named, Declared}
use Rattle.spl_tree.specs.Meaning.{name_of}
use Rattle.spl_parser.specs.declared.state.Word.{Word}
use Rattle.spl_parser.specs.declared.state.DeclGoal.{DeclGoal}
use Rattle.spl_parser.specs.declared.state.Before.{Before}
use Rattle.spl_parser.specs.declared.state.Before.TheVariants as before
use Rattle.spl_parser.specs.declared.state.Body.{Body}
use Rattle.spl_parser.specs.declared.state.Targets.{Targets}
use Rattle.spl_parser.specs.declared.state.NameGoal.{NameGoal}
use Rattle.spl_parser.specs.declared.state.State.TheVariants as state
use Rattle.spl_parser.specs.Growth.{Grown, grown, Grew}
use Rattle.spl_parser.specs.Machine as m
use Rattle.spl_parser.specs.View.{word_of, decl_goal_of, before_of, body_of, targets_of, name_goal_of, Small, Ready, TokenIn, next_of, Reaches, Grows, NewWord}
use Rattle.spl_parser.specs.Machine.{step, step_proc_word, step_decl_open, step_decl_next, step_block, step_assign_start, step_names_open, step_names_next, step_called, step_want}
use Rattle.spl_parser.specs.TreeOf.{named}
use Rattle.spl_parser.proofs.NewWords.{word_small}
use Rattle.spl_parser.proofs.Stay.{moves, word_keeps, word_in, decl_goal_keeps, decl_goal_in, before_in, body_keeps, body_in, targets_keep, targets_in, name_goal_keeps, name_goal_in, grows_named, grows_then}

before_same : (source : List ℕ) (r r' : Grown) (b : Before) → r'.decls ≡ r.decls → before_of source r' b ≡ before_of source r b
before_same source r r' before.First e = refl
before_same source r r' (before.After first) e = ap (λ (l : List Declared). m.after (drop first l) tt) e

decls_stay' : (source : List ℕ) (token : Token) (t t' : Lists) (w : Word) → NewWord source token t t' w → (grown t').decls ≡ (grown t).decls
decls_stay' source token t t' w h = ap (λ (q : Grown). q.decls) h.only

blocks_stay' : (source : List ℕ) (token : Token) (t t' : Lists) (w : Word) → NewWord source token t t' w → length (grown t').blocks ≡ length (grown t).blocks
blocks_stay' source token t t' w h = ap (λ (q : Grown). length q.blocks) h.only

pub proc_word_arm : (source : List ℕ) (t t' : Lists) (token : Token) (w : Word) → token.kind ≡ kind.Name → TokenIn token → Ready token.start t state.ProcWord → NewWord source token t t' w → Reaches source token.end t' (state.ProcName w) (next_of source (grown t) state.ProcWord token)
unfolding step step_proc_word
proc_word_arm source t t' token w e ok ready h = moves source t t' state.ProcWord (state.ProcName w) token kind.Name e
    (ap (λ ps. Some (m.proc_name ps tt (named source (m.leaf_of token)))) (sym h.grows.procs) ∙ ap (λ x. Some (m.proc_name (grown t').procs tt x)) (sym h.is))
    h.whole (word_small source token t t' w 0 0 ok h (omega arith) ready.small) h.there

pub decl_open_arm : (source : List ℕ) (t t' : Lists) (token : Token) (g : DeclGoal) (w : Word) → token.kind ≡ kind.Name → TokenIn token → Ready token.start t (state.DeclOpen g) → NewWord source token t t' w → Reaches source token.end t' (state.DeclName g before.First w) (next_of source (grown t) (state.DeclOpen g) token)
unfolding step step_decl_open
decl_open_arm source t t' token g w e ok ready h = moves source t t' (state.DeclOpen g) (state.DeclName g before.First w) token kind.Name e
    (ap (λ y. Some (m.decl_name y m.at_first (named source (m.leaf_of token)))) (sym (decl_goal_keeps source (grown t) (grown t') g h.grows ready.there)) ∙ ap (λ x. Some (m.decl_name (decl_goal_of source (grown t') g) m.at_first x)) (sym h.is))
    h.whole (word_small source token t t' w 0 0 ok h (omega arith) ready.small) (decl_goal_in (grown t) (grown t') g h.grows ready.there, tt, h.there)

pub decl_next_arm : (source : List ℕ) (t t' : Lists) (token : Token) (g : DeclGoal) (b : Before) (w : Word) → token.kind ≡ kind.Name → TokenIn token → Ready token.start t (state.DeclNext g b) → NewWord source token t t' w → Reaches source token.end t' (state.DeclName g b w) (next_of source (grown t) (state.DeclNext g b) token)
unfolding step step_decl_next
decl_next_arm source t t' token g b w e ok ready h = moves source t t' (state.DeclNext g b) (state.DeclName g b w) token kind.Name e
    (ap (λ y. Some (m.decl_name y (before_of source (grown t) b) (named source (m.leaf_of token)))) (sym (decl_goal_keeps source (grown t) (grown t') g h.grows ready.there.0))
    ∙ (ap (λ y. Some (m.decl_name (decl_goal_of source (grown t') g) y (named source (m.leaf_of token)))) (sym (before_same source (grown t) (grown t') b (decls_stay' source token t t' w h)))
    ∙ ap (λ x. Some (m.decl_name (decl_goal_of source (grown t') g) (before_of source (grown t') b) x)) (sym h.is)))
    h.whole (word_small source token t t' w 0 0 ok h (omega arith) ready.small) (decl_goal_in (grown t) (grown t') g h.grows ready.there.0, before_in (grown t) (grown t') b h.grows ready.there.1, h.there)

pub target_arm : (source : List ℕ) (t t' : Lists) (token : Token) (b : Body) (w : Word) → token.kind ≡ kind.Name → TokenIn token → Ready token.start t (state.InBlock b) → NewWord source token t t' w → Reaches source token.end t' (state.Target b w) (next_of source (grown t) (state.InBlock b) token)
unfolding step step_block
target_arm source t t' token b w e ok ready h = moves source t t' (state.InBlock b) (state.Target b w) token kind.Name e
    (ap (λ y. Some (m.target y (named source (m.leaf_of token)))) (sym (body_keeps source (grown t) (grown t') b h.grows ready.there)) ∙ ap (λ x. Some (m.target (body_of source (grown t') b) x)) (sym h.is))
    h.whole (word_small source token t t' w 0 0 ok h (omega arith) ready.small) (body_in (grown t) (grown t') b h.grows (blocks_stay' source token t t' w h) ready.there, h.there)

pub assign_arm : (source : List ℕ) (t t' : Lists) (token : Token) (b : Body) (x w : Word) → token.kind ≡ kind.Name → TokenIn token → Ready token.start t (state.AssignStart b x) → NewWord source token t t' w → Reaches source token.end t' (state.AssignName b x w) (next_of source (grown t) (state.AssignStart b x) token)
unfolding step step_assign_start
assign_arm source t t' token b x w e ok ready h = moves source t t' (state.AssignStart b x) (state.AssignName b x w) token kind.Name e
    (ap (λ y. Some (m.assign_name y (word_of (grown t) x) tt (named source (m.leaf_of token)))) (sym (body_keeps source (grown t) (grown t') b h.grows ready.there.0))
    ∙ (ap (λ y. Some (m.assign_name (body_of source (grown t') b) y tt (named source (m.leaf_of token)))) (sym (word_keeps (grown t) (grown t') x h.grows ready.there.1))
    ∙ ap (λ y. Some (m.assign_name (body_of source (grown t') b) (word_of (grown t') x) tt y)) (sym h.is)))
    h.whole (word_small source token t t' w 0 1 ok h (omega arith) ready.small) (body_in (grown t) (grown t') b h.grows (blocks_stay' source token t t' w h) ready.there.0, word_in (grown t) (grown t') x h.grows ready.there.1, h.there)

pub called_arm : (source : List ℕ) (t t' : Lists) (token : Token) (b : Body) (ts : Targets) (w : Word) → token.kind ≡ kind.Name → TokenIn token → Ready token.start t (state.Called b ts) → NewWord source token t t' w → Reaches source token.end t' (state.CalledName b (record { targets = ts; called = w })) (next_of source (grown t) (state.Called b ts) token)
unfolding step step_called
called_arm source t t' token b ts w e ok ready h = moves source t t' (state.Called b ts) (state.CalledName b (record { targets = ts; called = w })) token kind.Name e
    (ap (λ y. Some (m.called_name y (targets_of source (grown t) ts) (named source (m.leaf_of token)))) (sym (body_keeps source (grown t) (grown t') b h.grows ready.there.0))
    ∙ (ap (λ y. Some (m.called_name (body_of source (grown t') b) y (named source (m.leaf_of token)))) (sym (targets_keep source (grown t) (grown t') ts h.grows ready.there.1))
    ∙ ap (λ y. Some (m.called_name (body_of source (grown t') b) (targets_of source (grown t') ts) y)) (sym h.is)))
    h.whole (word_small source token t t' w 0 0 ok h (omega arith) ready.small) (body_in (grown t) (grown t') b h.grows (blocks_stay' source token t t' w h) ready.there.0, (targets_in (grown t) (grown t') ts h.grows ready.there.1, h.there))

-- a name of a list of names: the name is added, and then the item of the list
record NewItem (t t' : Lists) (x : Named) : Type 0 where
  whole : IsTree t'
  is : (grown t').named ≡ (grown t).named ++ x ∷ []
  grows : Grows (grown t) (grown t')
  blocks : length (grown t').blocks ≡ length (grown t).blocks
  only : grown t' ≡ record (grown t) { named = (grown t').named }

new_item : (t t' : Lists) (x : Named) → Grew t' (record (grown t) { named = (grown t).named ++ x ∷ [] }) → NewItem t t' x
new_item t t' x g = record {
  whole = g.tree;
  is = ap (λ (q : Grown). q.named) g.meaning;
  grows = subst (λ (q : Grown). Grows (grown t) q) (sym g.meaning) (grows_named (grown t) x);
  blocks = ap (λ (q : Grown). length q.blocks) g.meaning;
  only = g.meaning ∙ ap (λ l. record (grown t) { named = l }) (sym (ap (λ (q : Grown). q.named) g.meaning));
}

item_small : (n : ℕ) (t t' : Lists) (x : Named) (low : ℕ) (wait : ℕ) → length (grown t).named ≤ low → low < n → NewItem t t' x → Small n (grown t) wait → Small n (grown t') wait
item_small n t t' x low wait le lt h s = record {
  letters = omega (arith, ap (λ (q : Grown). q.letters) h.only, s.letters);
  names = omega (arith, ap (λ (q : Grown). length q.names) h.only, s.names);
  named = omega (arith, ap length h.is, length-append (grown t).named (x ∷ []));
  decls = omega (arith, ap (λ (q : Grown). length q.decls) h.only, s.decls);
  procs = omega (arith, ap (λ (q : Grown). length q.procs) h.only, s.procs);
  stmts = omega (arith, ap (λ (q : Grown). length q.stmts) h.only, s.stmts);
  blocks = omega (arith, ap (λ (q : Grown). length q.blocks) h.only, ap (λ (q : Grown). length q.stmts) h.only, s.blocks);
  exprs = omega (arith, ap (λ (q : Grown). length q.exprs) h.only, s.exprs);
}

named_same : (source : List ℕ) (token : Token) (t t' : Lists) (w : Word) → NewWord source token t t' w → (grown t').named ≡ (grown t).named
named_same source token t t' w h = ap (λ (q : Grown). q.named) h.only

pub names_open_arm : (source : List ℕ) (t t1 t2 : Lists) (token : Token) (b : Body) (g : NameGoal) (w : Word) (first : ℕ) → token.kind ≡ kind.Name → TokenIn token → Ready token.start t (state.NamesOpen b g) → NewWord source token t t1 w → first ≡ length (grown t1).named → Grew t2 (record (grown t1) { named = (grown t1).named ++ record { name = name_of (grown t1).names w.name; at = w.at } ∷ [] }) → Reaches source token.end t2 (state.NamesAfter b g first) (next_of source (grown t) (state.NamesOpen b g) token)
unfolding step step_names_open
names_open_arm source t t1 t2 token b g w first e ok ready h at_first' grew =
    let x : Named = word_of (grown t1) w in
    let i = new_item t1 t2 x grew in
    let both = grows_then (grown t) (grown t1) (grown t2) h.grows i.grows in
    let here : drop first (grown t2).named ≡ named source (m.leaf_of token) ∷ [] = ap (λ l. drop first l) i.is ∙ (ap (λ k. drop k ((grown t1).named ++ x ∷ [])) at_first' ∙ (drop-append_seam (grown t1).named (x ∷ []) ∙ ap (λ y. ◌∷◌ y []) h.is)) in
    moves source t t2 (state.NamesOpen b g) (state.NamesAfter b g first) token kind.Name e
    (ap (λ y. Some (m.names_after y (name_goal_of source (grown t) g) (named source (m.leaf_of token) ∷ []))) (sym (body_keeps source (grown t) (grown t2) b both ready.there.0))
    ∙ (ap (λ y. Some (m.names_after (body_of source (grown t2) b) y (named source (m.leaf_of token) ∷ []))) (sym (name_goal_keeps source (grown t) (grown t2) g both ready.there.1))
    ∙ ap (λ y. Some (m.names_after (body_of source (grown t2) b) (name_goal_of source (grown t2) g) y)) (sym here)))
    i.whole (item_small token.end t1 t2 x token.start 0 (omega (arith, ap length (named_same source token t t1 w h), ready.small.named)) ok.filled i (word_small source token t t1 w 0 0 ok h (omega arith) ready.small))
    (body_in (grown t) (grown t2) b both (i.blocks ∙ blocks_stay' source token t t1 w h) ready.there.0, name_goal_in (grown t) (grown t2) g both ready.there.1, omega (arith, at_first', ap length i.is, length-append (grown t1).named (x ∷ [])))

pub names_next_arm : (source : List ℕ) (t t1 t2 : Lists) (token : Token) (b : Body) (g : NameGoal) (w : Word) (first : ℕ) → token.kind ≡ kind.Name → TokenIn token → Ready token.start t (state.NamesNext b g first) → NewWord source token t t1 w → Grew t2 (record (grown t1) { named = (grown t1).named ++ record { name = name_of (grown t1).names w.name; at = w.at } ∷ [] }) → Reaches source token.end t2 (state.NamesAfter b g first) (next_of source (grown t) (state.NamesNext b g first) token)
unfolding step step_names_next
names_next_arm source t t1 t2 token b g w first e ok ready h grew =
    let x : Named = word_of (grown t1) w in
    let i = new_item t1 t2 x grew in
    let both = grows_then (grown t) (grown t1) (grown t2) h.grows i.grows in
    let same = named_same source token t t1 w h in
    let le : first ≤ length (grown t1).named = omega (arith, ready.there.2, ap length same) in
    let here : drop first (grown t2).named ≡ drop first (grown t).named ++ named source (m.leaf_of token) ∷ [] = ap (λ l. drop first l) i.is ∙ (drop-append-le first (grown t1).named (x ∷ []) le ∙ (ap (λ l. drop first l ++ x ∷ []) same ∙ ap (λ y. drop first (grown t).named ++ y ∷ []) h.is)) in
    moves source t t2 (state.NamesNext b g first) (state.NamesAfter b g first) token kind.Name e
    (ap (λ y. Some (m.names_after y (name_goal_of source (grown t) g) (drop first (grown t).named ++ named source (m.leaf_of token) ∷ []))) (sym (body_keeps source (grown t) (grown t2) b both ready.there.0))
    ∙ (ap (λ y. Some (m.names_after (body_of source (grown t2) b) y (drop first (grown t).named ++ named source (m.leaf_of token) ∷ []))) (sym (name_goal_keeps source (grown t) (grown t2) g both ready.there.1))
    ∙ ap (λ y. Some (m.names_after (body_of source (grown t2) b) (name_goal_of source (grown t2) g) y)) (sym here)))
    i.whole (item_small token.end t1 t2 x token.start 0 (omega (arith, ap length same, ready.small.named)) ok.filled i (word_small source token t t1 w 0 0 ok h (omega arith) ready.small))
    (body_in (grown t) (grown t2) b both (i.blocks ∙ blocks_stay' source token t t1 w h) ready.there.0, name_goal_in (grown t) (grown t2) g both ready.there.1, omega (arith, le, ap length i.is, length-append (grown t1).named (x ∷ [])))
