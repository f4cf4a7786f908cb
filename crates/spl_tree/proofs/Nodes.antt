-- In a tree's lists each number stands for its own node over what its children's numbers stand for.
use Rattle.std.proofs.Common.{◌≡◌, ℕ, suc, zero, ◌+◌, ◌<◌, ◌≤◌, List, [], ◌∷◌, ◌++◌, length, drop, get_or, Option, Some, None, refl, sym, ap, ◌∙◌, subst, arith, length-append}
use Rattle.std.proofs.lemmas.List.{length-map, length-drop, length-take, get_or_push, get_or-take, get_or-drop, get_or-map}
use Rattle.std.proofs.Math.ListN.{get_or-append}
use Rattle.spl_tree.specs.declared.parts.NameId.{NameId}
use Rattle.spl_tree.specs.declared.parts.StmtId.{StmtId}
use Rattle.spl_tree.specs.declared.parts.NameSpan.{NameSpan}
use Rattle.spl_tree.specs.declared.parts.Block.{Block}
use Rattle.spl_tree.specs.declared.parts.Decl.{Decl}
use Rattle.spl_tree.specs.declared.parts.DeclAt.{DeclAt}
use Rattle.spl_tree.specs.declared.parts.ProcTree.{ProcTree}
use Rattle.spl_tree.specs.declared.parts.ProcAt.{ProcAt}
use Rattle.spl_tree.specs.declared.parts.Expr.{Expr}
use Rattle.spl_tree.specs.declared.parts.Expr.TheVariants.{Number, Variable, True, False, Random, Neg, Not, Binary}
use Rattle.spl_tree.specs.declared.parts.Stmt.{Stmt}
use Rattle.spl_tree.specs.declared.parts.Stmt.TheVariants.{Skip, Halt, Fail, Assume, Assign, Call, If, While}
use Rattle.spl_tree.specs.declared.parts.StmtAt.{StmtAt}
use Rattle.spl_tree.specs.Lists.{Lists}
use Rattle.spl_tree.specs.Facts.{Each, ExprFits, StmtFits, HasBlock, HasSecond, IsTree}
use Rattle.spl_tree.specs.Program.{Named, Declared, ExprTree, number, negative, opposite, binary, StmtTree, skip, while_do, BlockTree, empty, more, ProcMeaning, nowhere}
use Rattle.spl_tree.specs.Meaning.{span_of, name_of, named_of, declared_of, decls_of, expr_at, expr_over, exprs_after, Ground, stmt_at, block_after, block_over, if_over, second_over, stmt_over, stmts_after, proc_over, procs_of, names_in, exprs_in, decls_in, ground_in, stmts_in}
use Rattle.spl_tree.specs.Laws.{HasAsMany, StandsFor}

-- a fact of each item: of the first and of the others
pub each_head : {X : Type 0} (P : ℕ → X → Type 0) (x : X) (xs : List X) → Each P (x ∷ xs) → P 0 x
each_head P x xs h = h 0 x (omega arith)

pub each_tail : {X : Type 0} (P : ℕ → X → Type 0) (x : X) (xs : List X) → Each P (x ∷ xs) → Each (λ k. P (suc k)) xs
each_tail P x xs h = λ k d lt. h (suc k) d (omega arith)

-- the item of a span
pub get_or-span : {X : Type 0} (xs : List X) (first count j : ℕ) (d : X) → j < count → get_or (span_of xs first count) j d ≡ get_or xs (first + j) d
get_or-span xs first count j d lt = get_or-take count (drop first xs) j d lt ∙ get_or-drop first xs j d

pub length-span : {X : Type 0} (xs : List X) (first count : ℕ) → first + count ≤ length xs → length (span_of xs first count) ≡ count
length-span xs first count h = omega (arith, length-take count (drop first xs), length-drop first xs)

-- lengths
length-exprs : (names : List (List ℕ)) (trees : List ExprTree) (exprs : List Expr) (places : List ℕ) → length places ≡ length exprs → length (exprs_after names trees exprs places) ≡ length trees + length exprs
length-exprs names trees [] places e = omega arith
length-exprs names trees (x ∷ exprs) [] e = absurd (omega arith)
length-exprs names trees (x ∷ exprs) (at ∷ places) e = omega (arith, length-exprs names (trees ++ expr_over names trees x at ∷ []) exprs places (omega arith), length-append trees (expr_over names trees x at ∷ []))

length-stmts : (g : Ground) (trees : List StmtTree) (stmts : List Stmt) (places : List StmtAt) → length places ≡ length stmts → length (stmts_after g trees stmts places) ≡ length trees + length stmts
length-stmts g trees [] places e = omega arith
length-stmts g trees (x ∷ stmts) [] e = absurd (omega arith)
length-stmts g trees (x ∷ stmts) (at ∷ places) e = omega (arith, length-stmts g (trees ++ stmt_over g trees x at ∷ []) stmts places (omega arith), length-append trees (stmt_over g trees x at ∷ []))

length-named : (names : List (List ℕ)) (items : List NameId) (places : List ℕ) → length places ≡ length items → length (named_of names items places) ≡ length items
length-named names [] places e = refl
length-named names (n ∷ items) [] e = absurd (omega arith)
length-named names (n ∷ items) (at ∷ places) e = omega (arith, length-named names items places (omega arith))

length-decls : (names : List (List ℕ)) (decls : List Decl) (places : List DeclAt) → length places ≡ length decls → length (decls_of names decls places) ≡ length decls
length-decls names [] places e = refl
length-decls names (n ∷ items) [] e = absurd (omega arith)
length-decls names (n ∷ items) (at ∷ places) e = omega (arith, length-decls names items places (omega arith))

length-procs : (names : List (List ℕ)) (ds : List Declared) (bs : List StmtId) (ts : List StmtTree) (procs : List ProcTree) (places : List ProcAt) → length places ≡ length procs → length (procs_of names ds bs ts procs places) ≡ length procs
length-procs names ds bs ts [] places e = refl
length-procs names ds bs ts (p ∷ procs) [] e = absurd (omega arith)
length-procs names ds bs ts (p ∷ procs) (at ∷ places) e = omega (arith, length-procs names ds bs ts procs places (omega arith))

pub has_as_many : (t : Lists) → IsTree t → HasAsMany t
has_as_many t w = record {
  names = length-map t.names (λ (s : NameSpan). span_of t.letters s.first s.count);
  exprs = omega (arith, length-exprs (names_in t) [] t.exprs t.expr_places w.placed.expr_count);
  named = length-named (names_in t) t.name_items t.name_item_places w.placed.name_item_count;
  decls = length-decls (names_in t) t.decls t.decl_places w.placed.decl_count;
  stmts = omega (arith, length-stmts (ground_in t) [] t.stmts t.stmt_places w.placed.stmt_count);
  procs = length-procs (names_in t) (decls_in t) t.stmt_items (stmts_in t) t.procs t.proc_places w.placed.proc_count;
}

-- two lists agree below a number
abbrev SameBelow : {X : Type 0} → X → ℕ → List X → List X → Type 0
SameBelow {X} x m xs ys = (j : ℕ) → j < m → get_or xs j x ≡ get_or ys j x

same_push : {X : Type 0} (x y : X) (final xs : List X) (m : ℕ) → SameBelow x (length (xs ++ y ∷ [])) final (xs ++ y ∷ []) → SameBelow x (length xs) final xs
same_push x y final xs m h = λ j lt. h j (omega (arith, length-append xs (y ∷ []))) ∙ get_or-append xs (y ∷ []) x j lt

-- what is there stays
exprs_kept : (names : List (List ℕ)) (trees : List ExprTree) (exprs : List Expr) (places : List ℕ) → SameBelow (number 0 0) (length trees) (exprs_after names trees exprs places) trees
exprs_kept names trees [] places = λ j lt. refl
exprs_kept names trees (e ∷ exprs) [] = λ j lt. refl
exprs_kept names trees (e ∷ exprs) (at ∷ places) = same_push (number 0 0) (expr_over names trees e at) (exprs_after names (trees ++ expr_over names trees e at ∷ []) exprs places) trees 0 (exprs_kept names (trees ++ expr_over names trees e at ∷ []) exprs places)

stmts_kept : (g : Ground) (trees : List StmtTree) (stmts : List Stmt) (places : List StmtAt) → SameBelow (skip nowhere) (length trees) (stmts_after g trees stmts places) trees
stmts_kept g trees [] places = λ j lt. refl
stmts_kept g trees (s ∷ stmts) [] = λ j lt. refl
stmts_kept g trees (s ∷ stmts) (at ∷ places) = same_push (skip nowhere) (stmt_over g trees s at) (stmts_after g (trees ++ stmt_over g trees s at ∷ []) stmts places) trees 0 (stmts_kept g (trees ++ stmt_over g trees s at ∷ []) stmts places)

-- a node over lists that agree on its children
same_expr : (t : Lists) (names : List (List ℕ)) (final trees : List ExprTree) (k : ℕ) (e : Expr) (at : ℕ) → ExprFits t k e → SameBelow (number 0 0) k final trees → expr_over names final e at ≡ expr_over names trees e at
same_expr t names final trees k (Number n) at h w = refl
same_expr t names final trees k (Variable n) at h w = refl
same_expr t names final trees k True at h w = refl
same_expr t names final trees k False at h w = refl
same_expr t names final trees k Random at h w = refl
same_expr t names final trees k (Neg a) at h w = ap (λ x. negative x at) (w a.0 h)
same_expr t names final trees k (Not a) at h w = ap (λ x. opposite x at) (w a.0 h)
same_expr t names final trees k (Binary op a b) at h w = ap (λ x. binary op x (expr_at final b) at) (w a.0 h.0) ∙ ap (λ x. binary op (expr_at trees a) x at) (w b.0 h.1)

same_ids : (final trees : List StmtTree) (k : ℕ) (block : BlockTree) (ids : List StmtId) → SameBelow (skip nowhere) k final trees → Each (λ j (s : StmtId). s.0 < k) ids → block_after final block ids ≡ block_after trees block ids
same_ids final trees k block [] w h = refl
same_ids final trees k block (s ∷ ids) w h =
    ap (λ x. block_after final (more block x) ids) (w s.0 (each_head (λ j (x : StmtId). x.0 < k) s ids h))
    ∙ same_ids final trees k (more block (stmt_at trees s)) ids w (each_tail (λ j (x : StmtId). x.0 < k) s ids h)

-- the statements of a block have numbers below a bound
pub ids_below : (t : Lists) (k : ℕ) (b : Block) → HasBlock t k b → Each (λ j (s : StmtId). s.0 < k) (span_of t.stmt_items b.first b.count)
ids_below t k b h = λ j d lt.
    let few : j < b.count = omega (arith, length-span t.stmt_items b.first b.count h.span) in
    let P : StmtId → Type 0 = λ x. x.0 < k in
    subst P (sym (get_or-span t.stmt_items b.first b.count j d few)) (h.before (b.first + j) d (omega arith) (omega arith))

same_block : (t : Lists) (final trees : List StmtTree) (k : ℕ) (b : Block) → HasBlock t k b → SameBelow (skip nowhere) k final trees → block_over t.stmt_items final b ≡ block_over t.stmt_items trees b
same_block t final trees k b h w = same_ids final trees k empty (span_of t.stmt_items b.first b.count) w (ids_below t k b h)

same_second : (t : Lists) (final trees : List StmtTree) (k : ℕ) (b : Option Block) → HasSecond t k b → SameBelow (skip nowhere) k final trees → second_over t.stmt_items final b ≡ second_over t.stmt_items trees b
same_second t final trees k None h w = refl
same_second t final trees k (Some b) h w = ap (λ x. Some x) (same_block t final trees k b h w)

same_stmt : (t : Lists) (final trees : List StmtTree) (k : ℕ) (s : Stmt) (at : StmtAt) → StmtFits t k s → SameBelow (skip nowhere) k final trees → stmt_over (ground_in t) final s at ≡ stmt_over (ground_in t) trees s at
same_stmt t final trees k Skip at h w = refl
same_stmt t final trees k Halt at h w = refl
same_stmt t final trees k Fail at h w = refl
same_stmt t final trees k (Assume e) at h w = refl
same_stmt t final trees k (Assign x e) at h w = refl
same_stmt t final trees k (Call targets called args) at h w = refl
same_stmt t final trees k (If e first second) at h w =
    ap (λ x. if_over (expr_at (exprs_in t) e) x (second_over t.stmt_items final second) at) (same_block t final trees k first h.1 w)
    ∙ ap (λ x. if_over (expr_at (exprs_in t) e) (block_over t.stmt_items trees first) x at) (same_second t final trees k second h.2 w)
same_stmt t final trees k (While e body) at h w = ap (λ x. while_do (expr_at (exprs_in t) e) x at) (same_block t final trees k body h.1 w)

-- what a number past those that are there stands for
expr_node : (t : Lists) (names : List (List ℕ)) (trees : List ExprTree) (exprs : List Expr) (places : List ℕ) (k : ℕ) (d : Expr) (at : ℕ) → length places ≡ length exprs → Each (λ j e. ExprFits t (length trees + j) e) exprs → k < length exprs
    → get_or (exprs_after names trees exprs places) (length trees + k) (number 0 0) ≡ expr_over names (exprs_after names trees exprs places) (get_or exprs k d) (get_or places k at)
expr_node t names trees [] places k d at e h lt = absurd (omega arith)
expr_node t names trees (x ∷ exprs) [] k d at e h lt = absurd (omega arith)
expr_node t names trees (x ∷ exprs) (p ∷ places) zero d at e h lt =
    let one : List ExprTree = trees ++ expr_over names trees x p ∷ [] in
    let final : List ExprTree = exprs_after names one exprs places in
    let kept : SameBelow (number 0 0) (length one) final one = exprs_kept names one exprs places in
    let below : SameBelow (number 0 0) (length trees + 0) final trees = λ j l. same_push (number 0 0) (expr_over names trees x p) final trees 0 kept j (omega arith) in
    let fits : ExprFits t (length trees + 0) x = each_head (λ j y. ExprFits t (length trees + j) y) x exprs h in
    kept (length trees + 0) (omega (arith, length-append trees (expr_over names trees x p ∷ [])))
    ∙ (get_or_push trees (expr_over names trees x p) (number 0 0) (length trees + 0) (omega arith)
    ∙ sym (same_expr t names final trees (length trees + 0) x p fits below))
expr_node t names trees (x ∷ exprs) (p ∷ places) (suc k) d at e h lt =
    let one : List ExprTree = trees ++ expr_over names trees x p ∷ [] in
    let final : List ExprTree = exprs_after names one exprs places in
    let l : length one ≡ suc (length trees) = omega (arith, length-append trees (expr_over names trees x p ∷ [])) in
    let i : length one + k ≡ length trees + suc k = omega (arith, l) in
    let fits : Each (λ j y. ExprFits t (length one + j) y) exprs = λ j b m. let s : length trees + suc j ≡ length one + j = omega (arith, l) in let P : ℕ → Type 0 = λ n. ExprFits t n (get_or exprs j b) in subst P s (h (suc j) b (omega arith)) in
    ap (λ n. get_or final n (number 0 0)) (sym i) ∙ expr_node t names one exprs places k d at (omega arith) fits (omega arith)

stmt_node : (t : Lists) (trees : List StmtTree) (stmts : List Stmt) (places : List StmtAt) (k : ℕ) (d : Stmt) (at : StmtAt) → length places ≡ length stmts → Each (λ j s. StmtFits t (length trees + j) s) stmts → k < length stmts
    → get_or (stmts_after (ground_in t) trees stmts places) (length trees + k) (skip nowhere) ≡ stmt_over (ground_in t) (stmts_after (ground_in t) trees stmts places) (get_or stmts k d) (get_or places k at)
stmt_node t trees [] places k d at e h lt = absurd (omega arith)
stmt_node t trees (x ∷ stmts) [] k d at e h lt = absurd (omega arith)
stmt_node t trees (x ∷ stmts) (p ∷ places) zero d at e h lt =
    let one : List StmtTree = trees ++ stmt_over (ground_in t) trees x p ∷ [] in
    let final : List StmtTree = stmts_after (ground_in t) one stmts places in
    let kept : SameBelow (skip nowhere) (length one) final one = stmts_kept (ground_in t) one stmts places in
    let below : SameBelow (skip nowhere) (length trees + 0) final trees = λ j l. same_push (skip nowhere) (stmt_over (ground_in t) trees x p) final trees 0 kept j (omega arith) in
    let fits : StmtFits t (length trees + 0) x = each_head (λ j y. StmtFits t (length trees + j) y) x stmts h in
    kept (length trees + 0) (omega (arith, length-append trees (stmt_over (ground_in t) trees x p ∷ [])))
    ∙ (get_or_push trees (stmt_over (ground_in t) trees x p) (skip nowhere) (length trees + 0) (omega arith)
    ∙ sym (same_stmt t final trees (length trees + 0) x p fits below))
stmt_node t trees (x ∷ stmts) (p ∷ places) (suc k) d at e h lt =
    let one : List StmtTree = trees ++ stmt_over (ground_in t) trees x p ∷ [] in
    let final : List StmtTree = stmts_after (ground_in t) one stmts places in
    let l : length one ≡ suc (length trees) = omega (arith, length-append trees (stmt_over (ground_in t) trees x p ∷ [])) in
    let i : length one + k ≡ length trees + suc k = omega (arith, l) in
    let fits : Each (λ j y. StmtFits t (length one + j) y) stmts = λ j b m. let s : length trees + suc j ≡ length one + j = omega (arith, l) in let P : ℕ → Type 0 = λ n. StmtFits t n (get_or stmts j b) in subst P s (h (suc j) b (omega arith)) in
    ap (λ n. get_or final n (skip nowhere)) (sym i) ∙ stmt_node t one stmts places k d at (omega arith) fits (omega arith)

named_node : (names : List (List ℕ)) (items : List NameId) (places : List ℕ) (k : ℕ) (x : Named) (d : NameId) (at : ℕ) → length places ≡ length items → k < length items
    → get_or (named_of names items places) k x ≡ record { name = name_of names (get_or items k d); at = get_or places k at }
named_node names [] places k x d at e lt = absurd (omega arith)
named_node names (n ∷ items) [] k x d at e lt = absurd (omega arith)
named_node names (n ∷ items) (p ∷ places) zero x d at e lt = refl
named_node names (n ∷ items) (p ∷ places) (suc k) x d at e lt = named_node names items places k x d at (omega arith) (omega arith)

decl_node : (names : List (List ℕ)) (decls : List Decl) (places : List DeclAt) (k : ℕ) (x : Declared) (d : Decl) (at : DeclAt) → length places ≡ length decls → k < length decls
    → get_or (decls_of names decls places) k x ≡ declared_of names (get_or decls k d) (get_or places k at)
decl_node names [] places k x d at e lt = absurd (omega arith)
decl_node names (n ∷ decls) [] k x d at e lt = absurd (omega arith)
decl_node names (n ∷ decls) (p ∷ places) zero x d at e lt = refl
decl_node names (n ∷ decls) (p ∷ places) (suc k) x d at e lt = decl_node names decls places k x d at (omega arith) (omega arith)

proc_node : (names : List (List ℕ)) (ds : List Declared) (bs : List StmtId) (ts : List StmtTree) (procs : List ProcTree) (places : List ProcAt) (k : ℕ) (x : ProcMeaning) (d : ProcTree) (at : ProcAt) → length places ≡ length procs → k < length procs
    → get_or (procs_of names ds bs ts procs places) k x ≡ proc_over names ds bs ts (get_or procs k d) (get_or places k at)
proc_node names ds bs ts [] places k x d at e lt = absurd (omega arith)
proc_node names ds bs ts (n ∷ procs) [] k x d at e lt = absurd (omega arith)
proc_node names ds bs ts (n ∷ procs) (p ∷ places) zero x d at e lt = refl
proc_node names ds bs ts (n ∷ procs) (p ∷ places) (suc k) x d at e lt = proc_node names ds bs ts procs places k x d at (omega arith) (omega arith)

from_nothing : {X : Type 0} (P : ℕ → X → Type 0) (xs : List X) → Each P xs → Each (λ k x. P (0 + k) x) xs
from_nothing P xs h = λ k d lt. let e : k ≡ 0 + k = omega arith in let Q : ℕ → Type 0 = λ n. P n (get_or xs k d) in subst Q e (h k d lt)

at_nothing : {X : Type 0} (xs : List X) (k : ℕ) (x : X) → get_or xs k x ≡ get_or xs (0 + k) x
at_nothing xs k x = let e : k ≡ 0 + k = omega arith in ap (λ n. get_or xs n x) e

pub stands_for : (t : Lists) → IsTree t → StandsFor t
stands_for t w = record {
  name = λ n d lt. get_or-map (λ (s : NameSpan). span_of t.letters s.first s.count) t.names n d [] lt;
  expr = λ e d at lt. at_nothing (exprs_in t) e (number 0 0) ∙ expr_node t (names_in t) [] t.exprs t.expr_places e d at w.placed.expr_count (from_nothing (ExprFits t) t.exprs w.in_range.exprs) lt;
  named = λ k x d at lt. named_node (names_in t) t.name_items t.name_item_places k x d at w.placed.name_item_count lt;
  decl = λ k x d at lt. decl_node (names_in t) t.decls t.decl_places k x d at w.placed.decl_count lt;
  stmt = λ s d at lt. at_nothing (stmts_in t) s (skip nowhere) ∙ stmt_node t [] t.stmts t.stmt_places s d at w.placed.stmt_count (from_nothing (StmtFits t) t.stmts w.in_range.stmts) lt;
  proc = λ p x d at lt. proc_node (names_in t) (decls_in t) t.stmt_items (stmts_in t) t.procs t.proc_places p x d at w.placed.proc_count lt;
}
