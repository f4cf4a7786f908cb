-- Steps where an operand is wanted.
use Rattle.std.proofs.Common.{◌≡◌, ℕ, suc, ◌+◌, ◌<◌, ◌≤◌, List, [], ◌∷◌, ◌++◌, length, refl, sym, ap, ◌∙◌, subst, arith, length-append, Option, Some, None, sum_by, true, false, ◌==◌}
use Rattle.std.proofs.lemmas.List.Sums.{sum_by_push}
use Rattle.std.proofs.lemmas.Bool.Decides.{nat_tests}
use Rattle.spl_text.specs.declared.token.Token.{Token}
use Rattle.spl_text.specs.declared.token.TokenKind.{TokenKind}
use Rattle.spl_text.specs.declared.token.TokenKind.TheVariants as kind
use Rattle.spl_tree.specs.declared.parts.ExprId.{ExprId}
use Rattle.spl_tree.specs.declared.parts.BinOp.{BinOp}
use Rattle.spl_tree.specs.Lists.{Lists}
use Rattle.spl_tree.specs.Facts.{Each, IsPlace}
use Rattle.spl_tree.specs.Program.{Named, ExprTree}
use Rattle.spl_tree.specs.Meaning.{name_of, expr_at}
use Rattle.spl_parser.specs.declared.state.Word.{Word}
use Rattle.spl_parser.specs.declared.state.Body.{Body}
use Rattle.spl_parser.specs.declared.state.Goal.{Goal}
use Rattle.spl_parser.specs.declared.state.Side.{Side}
use Rattle.spl_parser.specs.declared.state.Left.{Left}
use Rattle.spl_parser.specs.declared.state.Pending.{Pending}
use Rattle.spl_parser.specs.declared.state.State.{State}
use Rattle.spl_parser.specs.Growth.{Grown, grown, Grew}
use Rattle.spl_parser.specs.Machine as m
use Rattle.spl_parser.specs.Trees.{trees}
use Rattle.spl_parser.specs.View.{stacked, body_of, goal_of, side_of, left_of, pending_of, paren_of, state_of, ExprThere, BodyIn, GoalIn, SideIn, LeftIn, PendingIn, one_if, waiting, StateIn, state_waiting, Small, Ready, TokenIn, next_of, Reaches, Grows, Folds, NewWord, IsFresh, AddsMinus, AddsNot, none_within, nothing_within}
use Rattle.spl_tree.specs.Program.{variable}
use Rattle.spl_parser.specs.TreeOf.{named}
use Rattle.spl_parser.specs.Machine.{step, step_want, on_not}
use Rattle.spl_parser.proofs.Grow.{each_push}
use Rattle.spl_parser.proofs.Folds.{folds_one}
use Rattle.spl_parser.proofs.Stay.{still, moves, body_keeps, body_in, goal_keeps, goal_in, pending_keeps, pending_in, parens_keep, parens_in, grows_then}

-- items that are stacked, with one more
pub stacked-push : {X Y : Type 0} (f : X → Y) (xs : List X) (x : X) → stacked f (xs ++ x ∷ []) ≡ f x ∷ stacked f xs
stacked-push f [] x = refl
stacked-push f (y ∷ xs) x = ap (λ l. l ++ f y ∷ []) (stacked-push f xs x)

-- after expressions what is small stays small
pub folds_small : (low n : ℕ) (t t' : Lists) (k : ℕ) (e : ExprId) (x : ExprTree) (wait wait' : ℕ) → low < n → k + wait' ≤ wait + 1 → Folds t t' k e x → Small low (grown t) wait → Small n (grown t') wait'
folds_small low n t t' k e x wait wait' lt le h s = record {
  letters = omega (arith, ap (λ (q : Grown). q.letters) h.only, s.letters);
  names = omega (arith, ap (λ (q : Grown). length q.names) h.only, s.names);
  named = omega (arith, ap (λ (q : Grown). length q.named) h.only, s.named);
  decls = omega (arith, ap (λ (q : Grown). length q.decls) h.only, s.decls);
  procs = omega (arith, ap (λ (q : Grown). length q.procs) h.only, s.procs);
  stmts = omega (arith, ap (λ (q : Grown). length q.stmts) h.only, s.stmts);
  blocks = omega (arith, ap (λ (q : Grown). length q.blocks) h.only, ap (λ (q : Grown). length q.stmts) h.only, s.blocks);
  exprs = omega (arith, h.count, s.exprs);
}

pub folds_blocks : (t t' : Lists) (k : ℕ) (e : ExprId) (x : ExprTree) → Folds t t' k e x → length (grown t').blocks ≡ length (grown t).blocks
folds_blocks t t' k e x h = ap (λ (q : Grown). length q.blocks) h.only

-- what stands around an operand stays
pub have_keeps : (source : List ℕ) (r r' : Grown) (b : Body) (g : Goal) (ps : List Pending) (p : Pending) (e : ExprId) (x : ExprTree) → Grows r r' → BodyIn r b → GoalIn r g → Each (λ k q. PendingIn r q) ps → PendingIn r p → expr_at r'.exprs e ≡ x → Some (m.have (body_of source r b) (goal_of source r g) (stacked (paren_of source r) ps) (pending_of source r p) x) ≡ Some (m.have (body_of source r' b) (goal_of source r' g) (stacked (paren_of source r') ps) (pending_of source r' p) (expr_at r'.exprs e))
have_keeps source r r' b g ps p e x w hb hg hps hp is = same (body_keeps source r r' b w hb) (goal_keeps source r r' g w hg) (parens_keep source r r' ps w hps) (pending_keeps source r r' p w hp)
  where
    same : body_of source r' b ≡ body_of source r b → goal_of source r' g ≡ goal_of source r g → stacked (paren_of source r') ps ≡ stacked (paren_of source r) ps → pending_of source r' p ≡ pending_of source r p → Some (m.have (body_of source r b) (goal_of source r g) (stacked (paren_of source r) ps) (pending_of source r p) x) ≡ Some (m.have (body_of source r' b) (goal_of source r' g) (stacked (paren_of source r') ps) (pending_of source r' p) (expr_at r'.exprs e))
    same a c d f = ap (λ y. Some (m.have y (goal_of source r g) (stacked (paren_of source r) ps) (pending_of source r p) x)) (sym a) ∙ (ap (λ y. Some (m.have (body_of source r' b) y (stacked (paren_of source r) ps) (pending_of source r p) x)) (sym c) ∙ (ap (λ y. Some (m.have (body_of source r' b) (goal_of source r' g) y (pending_of source r p) x)) (sym d) ∙ (ap (λ y. Some (m.have (body_of source r' b) (goal_of source r' g) (stacked (paren_of source r') ps) y x)) (sym f) ∙ ap (λ (y : ExprTree). Some (m.have (body_of source r' b) (goal_of source r' g) (stacked (paren_of source r') ps) (pending_of source r' p) y)) (sym is))))

-- an atom
pub atom_arm : (source : List ℕ) (t t' : Lists) (token : Token) (k : TokenKind) (b : Body) (g : Goal) (ps : List Pending) (s s' : State) (p : Pending) (e : ExprId) (x : ExprTree) → token.kind ≡ k → m.step (trees source) (state_of source (grown t) s) k (m.leaf_of token) ≡ Some (m.have (body_of source (grown t) b) (goal_of source (grown t) g) (stacked (paren_of source (grown t)) ps) (pending_of source (grown t) p) x) → state_of source (grown t') s' ≡ m.have (body_of source (grown t') b) (goal_of source (grown t') g) (stacked (paren_of source (grown t')) ps) (pending_of source (grown t') p) (expr_at (grown t').exprs e) → state_waiting s' ≡ state_waiting s → (BodyIn (grown t') b → GoalIn (grown t') g → Each (λ j q. PendingIn (grown t') q) ps → PendingIn (grown t') p → ExprThere (grown t') e → StateIn (grown t') s') → TokenIn token → Small token.start (grown t) (state_waiting s) → BodyIn (grown t) b → GoalIn (grown t) g → Each (λ j q. PendingIn (grown t) q) ps → PendingIn (grown t) p → Folds t t' 1 e x → Reaches source token.end t' s' (next_of source (grown t) s token)
atom_arm source t t' token k b g ps s s' p e x is goes shape waits there ok small hb hg hps hp f =
    moves source t t' s s' token k is (goes ∙ (have_keeps source (grown t) (grown t') b g ps p e x f.grows hb hg hps hp f.is ∙ ap (λ y. Some y) (sym shape))) f.whole
    (folds_small token.start token.end t t' 1 e x (state_waiting s) (state_waiting s') ok.filled (omega (arith, waits)) f small)
    (there (body_in (grown t) (grown t') b f.grows (folds_blocks t t' 1 e x f) hb) (goal_in (grown t) (grown t') g f.grows hg) (parens_in (grown t) (grown t') ps f.grows hps) (pending_in (grown t) (grown t') p f.grows hp) f.there)

-- a wanted operand that is an atom of one token
pub want_arm : (source : List ℕ) (t t' : Lists) (token : Token) (k : TokenKind) (b : Body) (g : Goal) (s : State) (s' : State) (ps : List Pending) (p : Pending) (e : ExprId) (x : ExprTree) → token.kind ≡ k → m.step (trees source) (state_of source (grown t) s) k (m.leaf_of token) ≡ Some (m.have (body_of source (grown t) b) (goal_of source (grown t) g) (stacked (paren_of source (grown t)) ps) (pending_of source (grown t) p) x) → state_of source (grown t') s' ≡ m.have (body_of source (grown t') b) (goal_of source (grown t') g) (stacked (paren_of source (grown t')) ps) (pending_of source (grown t') p) (expr_at (grown t').exprs e) → state_waiting s' ≡ state_waiting s → (BodyIn (grown t') b → GoalIn (grown t') g → Each (λ j q. PendingIn (grown t') q) ps → PendingIn (grown t') p → ExprThere (grown t') e → StateIn (grown t') s') → TokenIn token → Small token.start (grown t) (state_waiting s) → (BodyIn (grown t) b) × GoalIn (grown t) g × Each (λ j q. PendingIn (grown t) q) ps × PendingIn (grown t) p → e.0 ≡ length (grown t).exprs → Grew t' (record (grown t) { exprs = (grown t).exprs ++ x ∷ [] }) → Reaches source token.end t' s' (next_of source (grown t) s token)
want_arm source t t' token k b g s s' ps p e x is goes shape waits there ok small here at grew = atom_arm source t t' token k b g ps s s' p e x is goes shape waits there ok small here.0 here.1 here.2 here.3 (folds_one t t' e x at grew)

-- a wanted operand that is a name
pub want_name_arm : (source : List ℕ) (t t1 t2 : Lists) (token : Token) (b : Body) (g : Goal) (parens : List Pending) (s s' : State) (p : Pending) (w : Word) (e : ExprId) → token.kind ≡ kind.Name → m.step (trees source) (state_of source (grown t) s) kind.Name (m.leaf_of token) ≡ Some (m.have (body_of source (grown t) b) (goal_of source (grown t) g) (stacked (paren_of source (grown t)) parens) (pending_of source (grown t) p) (variable (named source (m.leaf_of token)).name (named source (m.leaf_of token)).at)) → state_of source (grown t2) s' ≡ m.have (body_of source (grown t2) b) (goal_of source (grown t2) g) (stacked (paren_of source (grown t2)) parens) (pending_of source (grown t2) p) (expr_at (grown t2).exprs e) → state_waiting s' ≡ state_waiting s → (BodyIn (grown t2) b → GoalIn (grown t2) g → Each (λ j q. PendingIn (grown t2) q) parens → PendingIn (grown t2) p → ExprThere (grown t2) e → StateIn (grown t2) s') → TokenIn token → Small token.start (grown t) (state_waiting s) → (BodyIn (grown t) b) × GoalIn (grown t) g × Each (λ j q. PendingIn (grown t) q) parens × PendingIn (grown t) p → NewWord source token t t1 w → e.0 ≡ length (grown t1).exprs → Grew t2 (record (grown t1) { exprs = (grown t1).exprs ++ variable (name_of (grown t1).names w.name) w.at ∷ [] }) → Reaches source token.end t2 s' (next_of source (grown t) s token)
want_name_arm source t t1 t2 token b g parens s s' p w e is goes shape waits there ok small here h at grew =
    let f = folds_one t1 t2 e (variable (name_of (grown t1).names w.name) w.at) at grew in
    let both = grows_then (grown t) (grown t1) (grown t2) h.grows f.grows in
    let x : expr_at (grown t2).exprs e ≡ variable (named source (m.leaf_of token)).name (named source (m.leaf_of token)).at = f.is ∙ ap (λ (y : Named). variable y.name y.at) h.is in
    let blocks : length (grown t2).blocks ≡ length (grown t).blocks = folds_blocks t1 t2 1 e (variable (name_of (grown t1).names w.name) w.at) f ∙ ap (λ (q : Grown). length q.blocks) h.only in
    moves source t t2 s s' token kind.Name is (goes ∙ (have_keeps source (grown t) (grown t2) b g parens p e (variable (named source (m.leaf_of token)).name (named source (m.leaf_of token)).at) both here.0 here.1 here.2 here.3 x ∙ ap (λ y. Some y) (sym shape))) f.whole
    (record {
      letters = omega (arith, ap (λ (q : Grown). q.letters) f.only, h.letters, ok.filled, small.letters);
      names = omega (arith, ap (λ (q : Grown). length q.names) f.only, h.count, ok.filled, small.names);
      named = omega (arith, ap (λ (q : Grown). length q.named) f.only, ap (λ (q : Grown). length q.named) h.only, ok.filled, small.named);
      decls = omega (arith, ap (λ (q : Grown). length q.decls) f.only, ap (λ (q : Grown). length q.decls) h.only, ok.filled, small.decls);
      procs = omega (arith, ap (λ (q : Grown). length q.procs) f.only, ap (λ (q : Grown). length q.procs) h.only, ok.filled, small.procs);
      stmts = omega (arith, ap (λ (q : Grown). length q.stmts) f.only, ap (λ (q : Grown). length q.stmts) h.only, ok.filled, small.stmts);
      blocks = omega (arith, blocks, ap (λ (q : Grown). length q.stmts) f.only, ap (λ (q : Grown). length q.stmts) h.only, small.blocks);
      exprs = omega (arith, f.count, ap (λ (q : Grown). length q.exprs) h.only, ok.filled, small.exprs, waits);
    })
    (there (body_in (grown t) (grown t2) b both blocks here.0) (goal_in (grown t) (grown t2) g both here.1) (parens_in (grown t) (grown t2) parens both here.2) (pending_in (grown t) (grown t2) p both here.3) f.there)

-- what stands before an operand, from its parts
pub same_pending : (source : List ℕ) (r : Grown) (p : Pending) (o : Option (ExprTree × ℕ)) (a : Option (ExprTree × ℕ)) (n : List ℕ) (c s q : Option (ExprTree × (BinOp × ℕ))) (mn : List ℕ) → side_of r p.either ≡ o → side_of r p.both ≡ a → p.nots.items ≡ n → left_of r p.comparison ≡ c → left_of r p.sum ≡ s → left_of r p.product ≡ q → p.minuses.items ≡ mn → pending_of source r p ≡ record { either_left = o; both_left = a; nots = n; cmp_left = c; sum_left = s; product_left = q; minuses = mn }
same_pending source r p o a n c s q mn e1 e2 e3 e4 e5 e6 e7 = cc

pub fresh_pending : (source : List ℕ) (r : Grown) (p : Pending) → IsFresh p → pending_of source r p ≡ m.nothing_before (trees source)
fresh_pending source r p h = same_pending source r p None None [] None None None [] (ap (λ x. side_of r x) h.either) (ap (λ x. side_of r x) h.both) h.nots (ap (λ x. left_of r x) h.comparison) (ap (λ x. left_of r x) h.sum) (ap (λ x. left_of r x) h.product) h.minuses

none_placed : (xs : List ℕ) → xs ≡ [] → Each (λ k at. IsPlace at) xs
none_placed xs e = λ k d lt. absurd (omega (arith, ap length e))

pub fresh_in : (r : Grown) (p : Pending) → IsFresh p → PendingIn r p
fresh_in r p h = record { either = subst (λ (x : Option Side). SideIn r x) (sym h.either) tt; both = subst (λ (x : Option Side). SideIn r x) (sym h.both) tt; nots = none_placed p.nots.items h.nots; comparison = subst (λ (x : Option Left). LeftIn r x) (sym h.comparison) tt; sum = subst (λ (x : Option Left). LeftIn r x) (sym h.sum) tt; product = subst (λ (x : Option Left). LeftIn r x) (sym h.product) tt; minuses = none_placed p.minuses.items h.minuses }

pub fresh_waiting : (p : Pending) → IsFresh p → waiting p ≡ 0
fresh_waiting p h = omega (arith, ap (λ x. one_if x) h.either, ap (λ x. one_if x) h.both, ap length h.nots, ap (λ x. one_if x) h.comparison, ap (λ x. one_if x) h.sum, ap (λ x. one_if x) h.product, ap length h.minuses)

-- a parenthesis opens
pub paren_arm : (source : List ℕ) (t : Lists) (token : Token) (b : Body) (g : Goal) (s s' : State) (ps ps' : List Pending) (p q : Pending) → token.kind ≡ kind.LeftParen → ps' ≡ ps ++ p ∷ [] → IsFresh q → state_of source (grown t) s ≡ m.want (body_of source (grown t) b) (goal_of source (grown t) g) (stacked (paren_of source (grown t)) ps) (pending_of source (grown t) p) → state_of source (grown t) s' ≡ m.want (body_of source (grown t) b) (goal_of source (grown t) g) (stacked (paren_of source (grown t)) ps') (pending_of source (grown t) q) → state_waiting s ≡ sum_by waiting ps + waiting p → state_waiting s' ≡ sum_by waiting ps' + waiting q → (BodyIn (grown t) b → GoalIn (grown t) g → Each (λ j x. PendingIn (grown t) x) ps' → PendingIn (grown t) q → StateIn (grown t) s') → Ready token.start t s → TokenIn token → (BodyIn (grown t) b) × GoalIn (grown t) g × Each (λ j x. PendingIn (grown t) x) ps × PendingIn (grown t) p → Reaches source token.end t s' (next_of source (grown t) s token)
unfolding step step_want
paren_arm source t token b g s s' ps ps' p q is e fresh shape shape' waits waits' there ready ok here =
    let goes : m.step (trees source) (state_of source (grown t) s) kind.LeftParen (m.leaf_of token) ≡ Some (state_of source (grown t) s') =
    ap (λ x. m.step (trees source) x kind.LeftParen (m.leaf_of token)) shape
    ∙ (ap (λ x. Some (m.want (body_of source (grown t) b) (goal_of source (grown t) g) x (m.nothing_before (trees source)))) (sym (ap (λ l. stacked (paren_of source (grown t)) l) e ∙ stacked-push (paren_of source (grown t)) ps p))
    ∙ (ap (λ x. Some (m.want (body_of source (grown t) b) (goal_of source (grown t) g) (stacked (paren_of source (grown t)) ps') x)) (sym (fresh_pending source (grown t) q fresh)) ∙ ap (λ x. Some x) (sym shape'))) in
    still source t s s' token kind.LeftParen is goes (omega (arith, waits, waits', fresh_waiting q fresh, ap (λ l. sum_by waiting l) e, sum_by_push waiting ps p)) (there here.0 here.1 (subst (λ (l : List Pending). Each (λ j x. PendingIn (grown t) x) l) (sym e) (each_push (λ j x. PendingIn (grown t) x) ps p here.2 here.3)) (fresh_in (grown t) q fresh)) ready ok

-- a prefix operator
minus_pending : (source : List ℕ) (r : Grown) (p q : Pending) (at : ℕ) → AddsMinus p at q → pending_of source r q ≡ record (pending_of source r p) { minuses = p.minuses.items ++ at ∷ [] }
minus_pending source r p q at h = same_pending source r q (side_of r p.either) (side_of r p.both) p.nots.items (left_of r p.comparison) (left_of r p.sum) (left_of r p.product) (p.minuses.items ++ at ∷ []) (ap (λ x. side_of r x) h.either) (ap (λ x. side_of r x) h.both) h.nots (ap (λ x. left_of r x) h.comparison) (ap (λ x. left_of r x) h.sum) (ap (λ x. left_of r x) h.product) h.minuses

not_pending : (source : List ℕ) (r : Grown) (p q : Pending) (at : ℕ) → AddsNot p at q → pending_of source r q ≡ record (pending_of source r p) { nots = p.nots.items ++ at ∷ [] }
not_pending source r p q at h = same_pending source r q (side_of r p.either) (side_of r p.both) (p.nots.items ++ at ∷ []) (left_of r p.comparison) (left_of r p.sum) (left_of r p.product) p.minuses.items (ap (λ x. side_of r x) h.either) (ap (λ x. side_of r x) h.both) h.nots (ap (λ x. left_of r x) h.comparison) (ap (λ x. left_of r x) h.sum) (ap (λ x. left_of r x) h.product) h.minuses

minus_in : (r : Grown) (p q : Pending) (at : ℕ) → IsPlace at → AddsMinus p at q → PendingIn r p → PendingIn r q
minus_in r p q at pl h x = record { either = subst (λ (y : Option Side). SideIn r y) (sym h.either) x.either; both = subst (λ (y : Option Side). SideIn r y) (sym h.both) x.both; nots = subst (λ (l : List ℕ). Each (λ k y. IsPlace y) l) (sym h.nots) x.nots; comparison = subst (λ (y : Option Left). LeftIn r y) (sym h.comparison) x.comparison; sum = subst (λ (y : Option Left). LeftIn r y) (sym h.sum) x.sum; product = subst (λ (y : Option Left). LeftIn r y) (sym h.product) x.product; minuses = subst (λ (l : List ℕ). Each (λ k y. IsPlace y) l) (sym h.minuses) (each_push (λ k y. IsPlace y) p.minuses.items at x.minuses pl) }

not_in : (r : Grown) (p q : Pending) (at : ℕ) → IsPlace at → AddsNot p at q → PendingIn r p → PendingIn r q
not_in r p q at pl h x = record { either = subst (λ (y : Option Side). SideIn r y) (sym h.either) x.either; both = subst (λ (y : Option Side). SideIn r y) (sym h.both) x.both; nots = subst (λ (l : List ℕ). Each (λ k y. IsPlace y) l) (sym h.nots) (each_push (λ k y. IsPlace y) p.nots.items at x.nots pl); comparison = subst (λ (y : Option Left). LeftIn r y) (sym h.comparison) x.comparison; sum = subst (λ (y : Option Left). LeftIn r y) (sym h.sum) x.sum; product = subst (λ (y : Option Left). LeftIn r y) (sym h.product) x.product; minuses = subst (λ (l : List ℕ). Each (λ k y. IsPlace y) l) (sym h.minuses) x.minuses }

minus_waiting : (p q : Pending) (at : ℕ) → AddsMinus p at q → waiting q ≡ waiting p + 1
minus_waiting p q at h = omega (arith, ap (λ x. one_if x) h.either, ap (λ x. one_if x) h.both, ap length h.nots, ap (λ x. one_if x) h.comparison, ap (λ x. one_if x) h.sum, ap (λ x. one_if x) h.product, ap length h.minuses, length-append p.minuses.items (at ∷ []))

not_waiting : (p q : Pending) (at : ℕ) → AddsNot p at q → waiting q ≡ waiting p + 1
not_waiting p q at h = omega (arith, ap (λ x. one_if x) h.either, ap (λ x. one_if x) h.both, ap length h.nots, ap (λ x. one_if x) h.comparison, ap (λ x. one_if x) h.sum, ap (λ x. one_if x) h.product, ap length h.minuses, length-append p.nots.items (at ∷ []))

pub minus_arm : (source : List ℕ) (t : Lists) (token : Token) (b : Body) (g : Goal) (s s' : State) (ps : List Pending) (p q : Pending) → token.kind ≡ kind.Minus → AddsMinus p token.start q → state_of source (grown t) s ≡ m.want (body_of source (grown t) b) (goal_of source (grown t) g) (stacked (paren_of source (grown t)) ps) (pending_of source (grown t) p) → state_of source (grown t) s' ≡ m.want (body_of source (grown t) b) (goal_of source (grown t) g) (stacked (paren_of source (grown t)) ps) (pending_of source (grown t) q) → state_waiting s ≡ sum_by waiting ps + waiting p → state_waiting s' ≡ sum_by waiting ps + waiting q → (PendingIn (grown t) q → StateIn (grown t) s') → Ready token.start t s → TokenIn token → PendingIn (grown t) p → Reaches source token.end t s' (next_of source (grown t) s token)
unfolding step step_want
minus_arm source t token b g s s' ps p q is h shape shape' waits waits' there ready ok here =
    let goes : m.step (trees source) (state_of source (grown t) s) kind.Minus (m.leaf_of token) ≡ Some (state_of source (grown t) s') = ap (λ x. m.step (trees source) x kind.Minus (m.leaf_of token)) shape ∙ (ap (λ x. Some (m.want (body_of source (grown t) b) (goal_of source (grown t) g) (stacked (paren_of source (grown t)) ps) x)) (sym (minus_pending source (grown t) p q token.start h)) ∙ ap (λ x. Some x) (sym shape')) in
    still source t s s' token kind.Minus is goes (omega (arith, waits, waits', minus_waiting p q token.start h)) (there (minus_in (grown t) p q token.start (omega (arith, ok.filled, ok.within)) h here)) ready ok

not_zero : (n : ℕ) → (suc n == 0) ≡ true → ⊥
not_zero n h = grind (arith, nat_tests)

on_not_yes : (source : List ℕ) (r : Grown) (b : m.Body (trees source)) (g : m.Goal (trees source)) (ps : List (m.Paren (trees source))) (p : m.Pending (trees source)) (c s q : Option Left) (ms : List ℕ) (l : m.Algebra.Place (trees source)) → none_within c s q (length ms) ≡ true → m.on_not (trees source) b g ps p (left_of r c) (left_of r s) (left_of r q) ms l ≡ Some (m.want b g ps (record p { nots = p.nots ++ l.start ∷ [] }))
unfolding on_not
on_not_yes source r b g ps p None None None [] l h = refl
on_not_yes source r b g ps p None None None (x ∷ ms) l h = absurd (not_zero (length ms) h)
on_not_yes source r b g ps p None None (Some x) ms l h = absurd cc
on_not_yes source r b g ps p None (Some x) q ms l h = absurd cc
on_not_yes source r b g ps p (Some x) s q ms l h = absurd cc

on_not_no : (source : List ℕ) (r : Grown) (b : m.Body (trees source)) (g : m.Goal (trees source)) (ps : List (m.Paren (trees source))) (p : m.Pending (trees source)) (c s q : Option Left) (ms : List ℕ) (l : m.Algebra.Place (trees source)) → none_within c s q (length ms) ≡ false → m.on_not (trees source) b g ps p (left_of r c) (left_of r s) (left_of r q) ms l ≡ None
unfolding on_not
on_not_no source r b g ps p None None None [] l h = absurd cc
on_not_no source r b g ps p None None None (x ∷ ms) l h = refl
on_not_no source r b g ps p None None (Some x) ms l h = refl
on_not_no source r b g ps p None (Some x) q ms l h = refl
on_not_no source r b g ps p (Some x) s q ms l h = refl

pub not_arm : (source : List ℕ) (t : Lists) (token : Token) (b : Body) (g : Goal) (s s' : State) (ps : List Pending) (p q : Pending) → token.kind ≡ kind.Not → nothing_within p ≡ true → AddsNot p token.start q → state_of source (grown t) s ≡ m.want (body_of source (grown t) b) (goal_of source (grown t) g) (stacked (paren_of source (grown t)) ps) (pending_of source (grown t) p) → state_of source (grown t) s' ≡ m.want (body_of source (grown t) b) (goal_of source (grown t) g) (stacked (paren_of source (grown t)) ps) (pending_of source (grown t) q) → state_waiting s ≡ sum_by waiting ps + waiting p → state_waiting s' ≡ sum_by waiting ps + waiting q → (PendingIn (grown t) q → StateIn (grown t) s') → Ready token.start t s → TokenIn token → PendingIn (grown t) p → Reaches source token.end t s' (next_of source (grown t) s token)
unfolding step step_want
not_arm source t token b g s s' ps p q is free h shape shape' waits waits' there ready ok here =
    let first = on_not_yes source (grown t) (body_of source (grown t) b) (goal_of source (grown t) g) (stacked (paren_of source (grown t)) ps) (pending_of source (grown t) p) p.comparison p.sum p.product p.minuses.items (m.leaf_of token) free in
    let goes : m.step (trees source) (state_of source (grown t) s) kind.Not (m.leaf_of token) ≡ Some (state_of source (grown t) s') = ap (λ x. m.step (trees source) x kind.Not (m.leaf_of token)) shape ∙ (first ∙ (ap (λ x. Some (m.want (body_of source (grown t) b) (goal_of source (grown t) g) (stacked (paren_of source (grown t)) ps) x)) (sym (not_pending source (grown t) p q token.start h)) ∙ ap (λ x. Some x) (sym shape'))) in
    still source t s s' token kind.Not is goes (omega (arith, waits, waits', not_waiting p q token.start h)) (there (not_in (grown t) p q token.start (omega (arith, ok.filled, ok.within)) h here)) ready ok

pub not_none : (source : List ℕ) (r : Grown) (token : Token) (b : Body) (g : Goal) (s : State) (ps : List Pending) (p : Pending) → token.kind ≡ kind.Not → nothing_within p ≡ false → state_of source r s ≡ m.want (body_of source r b) (goal_of source r g) (stacked (paren_of source r) ps) (pending_of source r p) → next_of source r s token ≡ None
unfolding step step_want
not_none source r token b g s ps p is busy shape = ap (λ k. m.step (trees source) (state_of source r s) k (m.leaf_of token)) is ∙ (ap (λ x. m.step (trees source) x kind.Not (m.leaf_of token)) shape ∙ on_not_no source r (body_of source r b) (goal_of source r g) (stacked (paren_of source r) ps) (pending_of source r p) p.comparison p.sum p.product p.minuses.items (m.leaf_of token) busy)
