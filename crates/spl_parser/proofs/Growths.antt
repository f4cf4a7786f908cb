-- Each kind of growth: the lists stay those of a tree, and their meaning grows by the item.
use Rattle.std.proofs.Common.{◌≡◌, ℕ, ◌+◌, ◌-◌, ◌^◌, ◌<◌, ◌≤◌, List, [], ◌∷◌, ◌++◌, length, take, drop, get_or, Option, Some, None, refl, sym, ap, ◌∙◌, subst, arith, length-append}
use Rattle.std.proofs.lemmas.List.{map-append, length-map, length-take, length-drop, get_or-take, get_or-drop}
use Rattle.std.proofs.Math.ListN.{get_or-append}
use Rattle.spl_tree.specs.declared.parts.NameId.{NameId}
use Rattle.spl_tree.specs.declared.parts.StmtId.{StmtId}
use Rattle.spl_tree.specs.declared.parts.NameSpan.{NameSpan}
use Rattle.spl_tree.specs.declared.parts.Block.{Block}
use Rattle.spl_tree.specs.declared.parts.Decl.{Decl}
use Rattle.spl_tree.specs.declared.parts.DeclAt.{DeclAt}
use Rattle.spl_tree.specs.declared.parts.DeclKind.{DeclKind}
use Rattle.spl_tree.specs.declared.parts.DeclKind.TheVariants.{Int, Real, Named as NamedKind}
use Rattle.spl_tree.specs.declared.parts.MainTree.{MainTree}
use Rattle.spl_tree.specs.declared.parts.ProcTree.{ProcTree}
use Rattle.spl_tree.specs.declared.parts.ProcAt.{ProcAt}
use Rattle.spl_tree.specs.declared.parts.Expr.{Expr}
use Rattle.spl_tree.specs.declared.parts.Expr.TheVariants.{Number, Variable, True, False, Random, Neg, Not, Binary}
use Rattle.spl_tree.specs.declared.parts.Stmt.{Stmt}
use Rattle.spl_tree.specs.declared.parts.Stmt.TheVariants.{Skip, Halt, Fail, Assume, Assign, Call, If, While}
use Rattle.spl_tree.specs.declared.parts.StmtAt.{StmtAt}
use Rattle.spl_tree.specs.Lists.{Lists}
use Rattle.spl_tree.specs.Facts.{Each, IsPlace, HasName, HasBlock, HasSecond, HasKind, DeclFits, ExprFits, StmtFits, ProcFits, DeclIsPlaced, ProcIsPlaced, StmtIsPlaced, IsTree}
use Rattle.spl_tree.specs.Program.{Named, Declared, ExprTree, number, StmtTree, empty, ProcMeaning}
use Rattle.spl_tree.specs.Meaning.{span_of, name_of, named_of, declared_of, decls_of, expr_at, expr_over, exprs_after, Ground, block_after, block_over, stmt_over, stmts_after, names_in, exprs_in, named_in, decls_in, ground_in, stmts_in, decls_over, proc_over, procs_of}
use Rattle.std.proofs.Math.Seq.{drop-append_seam, take-length}
use Rattle.spl_parser.specs.Growth.{Grown, grown, ground_of, IdsIn, BlockIn, DeclsIn, NameIn, SecondIn, ExprIn, KindIn, DeclIn, StmtIn, ProcIn, Grew}
use Rattle.spl_parser.proofs.Grow.{each_head, each_tail, each_more, each_push, each_append, span_stays, bytes_stay, name_stays, ExprNames, exprs_stay, named_stay, KindNames, DeclNames, decls_stay, GroundGrows, StmtIn as StmtOver, SecondIn as SecondOver, stmts_stay, block_stays, length-exprs, length-stmts, length-named, length-decls, exprs-push, stmts-push, named-push, decls-push, procs-push}

-- lists that hold at least as much
record Bigger (t t' : Lists) : Type 0 where
  letters : length t.letters ≤ length t'.letters
  names : length t.names ≤ length t'.names
  decls : length t.decls ≤ length t'.decls
  exprs : length t.exprs ≤ length t'.exprs
  stmts : length t.stmts ≤ length t'.stmts
  named : length t.name_items ≤ length t'.name_items
  blocks : length t.stmt_items ≤ length t'.stmt_items
  same : (i : ℕ) (d : StmtId) → i < length t.stmt_items → get_or t'.stmt_items i d ≡ get_or t.stmt_items i d

block_grows : (t t' : Lists) (k k' : ℕ) (b : Block) → Bigger t t' → k ≤ k' → HasBlock t k b → HasBlock t' k' b
block_grows t t' k k' b w le h = record {
  span = omega (arith, h.span, w.blocks);
  before = λ i d lo hi. let lt : i < length t.stmt_items = omega (arith, h.span) in let e = w.same i d lt in let P : StmtId → Type 0 = λ x. x.0 < k' in subst P (sym e) (omega (arith, h.before i d lo hi));
}

second_grows : (t t' : Lists) (k k' : ℕ) (b : Option Block) → Bigger t t' → k ≤ k' → HasSecond t k b → HasSecond t' k' b
second_grows t t' k k' None w le h = tt
second_grows t t' k k' (Some b) w le h = block_grows t t' k k' b w le h

kind_grows : (t t' : Lists) (k : DeclKind) → Bigger t t' → HasKind t k → HasKind t' k
kind_grows t t' Int w h = tt
kind_grows t t' Real w h = tt
kind_grows t t' (NamedKind n) w h = omega (arith, w.names)

decl_grows : (t t' : Lists) (d : Decl) → Bigger t t' → DeclFits t d → DeclFits t' d
decl_grows t t' d w h = (omega (arith, w.names, h.0), kind_grows t t' d.kind w h.1)

expr_grows : (t t' : Lists) (k : ℕ) (e : Expr) → Bigger t t' → ExprFits t k e → ExprFits t' k e
expr_grows t t' k (Number n) w h = h
expr_grows t t' k (Variable n) w h = omega (arith, w.names)
expr_grows t t' k True w h = tt
expr_grows t t' k False w h = tt
expr_grows t t' k Random w h = tt
expr_grows t t' k (Neg a) w h = h
expr_grows t t' k (Not a) w h = h
expr_grows t t' k (Binary op a b) w h = h

stmt_grows : (t t' : Lists) (k : ℕ) (s : Stmt) → Bigger t t' → StmtFits t k s → StmtFits t' k s
stmt_grows t t' k Skip w h = tt
stmt_grows t t' k Halt w h = tt
stmt_grows t t' k Fail w h = tt
stmt_grows t t' k (Assume e) w h = omega (arith, w.exprs)
stmt_grows t t' k (Assign x e) w h = (omega (arith, w.names, h.0), omega (arith, w.exprs, h.1))
stmt_grows t t' k (Call targets called args) w h = (omega (arith, w.named, h.0), omega (arith, w.names, h.1), omega (arith, w.named, h.2))
stmt_grows t t' k (If e first second) w h = (omega (arith, w.exprs, h.0), block_grows t t' k k first w (omega arith) h.1, second_grows t t' k k second w (omega arith) h.2)
stmt_grows t t' k (While e body) w h = (omega (arith, w.exprs, h.0), block_grows t t' k k body w (omega arith) h.1)

proc_grows : (t t' : Lists) (p : ProcTree) → Bigger t t' → ProcFits t p → ProcFits t' p
proc_grows t t' p w h = record { name = omega (arith, w.names, h.name); inputs = omega (arith, w.decls, h.inputs); outputs = omega (arith, w.decls, h.outputs); locals = omega (arith, w.decls, h.locals); body = block_grows t t' (length t.stmts) (length t'.stmts) p.body w w.stmts h.body }

-- lengths of meanings
length-names_in : (t : Lists) → length (names_in t) ≡ length t.names
length-names_in t = length-map t.names (λ (s : NameSpan). span_of t.letters s.first s.count)

length-exprs_in : (t : Lists) → IsTree t → length (exprs_in t) ≡ length t.exprs
length-exprs_in t h = omega (arith, length-exprs (names_in t) [] t.exprs t.expr_places h.placed.expr_count)

length-named_in : (t : Lists) → IsTree t → length (named_in t) ≡ length t.name_items
length-named_in t h = length-named (names_in t) t.name_items t.name_item_places h.placed.name_item_count

length-decls_in : (t : Lists) → IsTree t → length (decls_in t) ≡ length t.decls
length-decls_in t h = length-decls (names_in t) t.decls t.decl_places h.placed.decl_count

length-stmts_in : (t : Lists) → IsTree t → length (stmts_in t) ≡ length t.stmts
length-stmts_in t h = omega (arith, length-stmts (ground_in t) [] t.stmts t.stmt_places h.placed.stmt_count)

-- what the parts of a tree name is in their meaning
expr_names : (t : Lists) (k : ℕ) (e : Expr) → ExprFits t k e → ExprNames (length (names_in t)) e
expr_names t k (Number n) h = tt
expr_names t k (Variable n) h = omega (arith, length-names_in t)
expr_names t k True h = tt
expr_names t k False h = tt
expr_names t k Random h = tt
expr_names t k (Neg a) h = tt
expr_names t k (Not a) h = tt
expr_names t k (Binary op a b) h = tt

kind_names : (t : Lists) (k : DeclKind) → HasKind t k → KindNames (length (names_in t)) k
kind_names t Int h = tt
kind_names t Real h = tt
kind_names t (NamedKind n) h = omega (arith, length-names_in t)

decl_names : (t : Lists) (d : Decl) → DeclFits t d → DeclNames (length (names_in t)) d
decl_names t d h = (omega (arith, length-names_in t, h.0), kind_names t d.kind h.1)

second_over' : (t : Lists) (k : ℕ) (b : Option Block) → HasSecond t k b → SecondOver (length t.stmt_items) b
second_over' t k None h = tt
second_over' t k (Some b) h = h.span

stmt_in : (t : Lists) (k : ℕ) (s : Stmt) → IsTree t → StmtFits t k s → StmtOver (ground_in t) s
stmt_in t k Skip w h = tt
stmt_in t k Halt w h = tt
stmt_in t k Fail w h = tt
stmt_in t k (Assume e) w h = omega (arith, length-exprs_in t w)
stmt_in t k (Assign x e) w h = (omega (arith, length-names_in t, h.0), omega (arith, length-exprs_in t w, h.1))
stmt_in t k (Call targets called args) w h = (omega (arith, length-named_in t w, h.0), omega (arith, length-names_in t, h.1), omega (arith, length-named_in t w, h.2))
stmt_in t k (If e first second) w h = (omega (arith, length-exprs_in t w, h.0), h.1.span, second_over' t k second h.2)
stmt_in t k (While e body) w h = (omega (arith, length-exprs_in t w, h.0), h.1.span)

exprs_named : (t : Lists) → IsTree t → Each (λ k e. ExprNames (length (names_in t)) e) t.exprs
exprs_named t w = each_more (ExprFits t) (λ k e. ExprNames (length (names_in t)) e) t.exprs w.in_range.exprs (λ k e h. expr_names t k e h)

decls_named : (t : Lists) → IsTree t → Each (λ k d. DeclNames (length (names_in t)) d) t.decls
decls_named t w = each_more (λ k d. DeclFits t d) (λ k d. DeclNames (length (names_in t)) d) t.decls w.in_range.decls (λ k d h. decl_names t d h)

items_named : (t : Lists) → IsTree t → Each (λ k (n : NameId). n.0 < length (names_in t)) t.name_items
items_named t w = each_more (λ k n. HasName t n) (λ k (n : NameId). n.0 < length (names_in t)) t.name_items w.in_range.name_items (λ k n h. omega (arith, length-names_in t))

stmts_over : (t : Lists) → IsTree t → Each (λ k s. StmtOver (ground_in t) s) t.stmts
stmts_over t w = each_more (StmtFits t) (λ k s. StmtOver (ground_in t) s) t.stmts w.in_range.stmts (λ k s h. stmt_in t k s w h)

-- the statements of a block are there
span_ids : (t : Lists) (k : ℕ) (b : Block) → HasBlock t k b → IdsIn k (span_of t.stmt_items b.first b.count)
span_ids t k b h = λ j d lt.
    let few : j < b.count = omega (arith, length-take b.count (drop b.first t.stmt_items)) in
    let e : get_or (span_of t.stmt_items b.first b.count) j d ≡ get_or t.stmt_items (b.first + j) d = get_or-take b.count (drop b.first t.stmt_items) j d few ∙ get_or-drop b.first t.stmt_items j d in
    let P : StmtId → Type 0 = λ x. x.0 < k in
    subst P (sym e) (h.before (b.first + j) d (omega arith) (omega arith))

-- procedures over longer lists
record ProcGrows (t : Lists) (names : List (List ℕ)) (ds : List Declared) (bs : List StmtId) (ts : List StmtTree) : Type 0 where
  names' : (n : NameId) → n.0 < length (names_in t) → name_of names n ≡ name_of (names_in t) n
  decls' : (f c : ℕ) → f + c ≤ length (decls_in t) → span_of ds f c ≡ span_of (decls_in t) f c
  body' : (b : Block) → HasBlock t (length t.stmts) b → block_over bs ts b ≡ block_over t.stmt_items (stmts_in t) b

procs_stay : (t : Lists) (names : List (List ℕ)) (ds : List Declared) (bs : List StmtId) (ts : List StmtTree) (procs : List ProcTree) (places : List ProcAt) → IsTree t → ProcGrows t names ds bs ts → Each (λ k p. ProcFits t p) procs → procs_of names ds bs ts procs places ≡ procs_of (names_in t) (decls_in t) t.stmt_items (stmts_in t) procs places
procs_stay t names ds bs ts [] places tree w h = refl
procs_stay t names ds bs ts (p ∷ procs) [] tree w h = refl
procs_stay t names ds bs ts (p ∷ procs) (at ∷ places) tree w h =
    let f = each_head (λ k x. ProcFits t x) p procs h in
    let rest = procs_stay t names ds bs ts procs places tree w (each_tail (λ k x. ProcFits t x) p procs h) in
    let a = w.names' p.name (omega (arith, length-names_in t, f.name)) in
    let b = w.decls' p.inputs.first p.inputs.count (omega (arith, length-decls_in t tree, f.inputs)) in
    let c = w.decls' p.outputs.first p.outputs.count (omega (arith, length-decls_in t tree, f.outputs)) in
    let d = w.decls' p.locals.first p.locals.count (omega (arith, length-decls_in t tree, f.locals)) in
    let e = w.body' p.body f.body in
    same_proc a b c d e rest
  where
    same_proc : name_of names p.name ≡ name_of (names_in t) p.name → decls_over ds p.inputs ≡ decls_over (decls_in t) p.inputs → decls_over ds p.outputs ≡ decls_over (decls_in t) p.outputs → decls_over ds p.locals ≡ decls_over (decls_in t) p.locals → block_over bs ts p.body ≡ block_over t.stmt_items (stmts_in t) p.body → procs_of names ds bs ts procs places ≡ procs_of (names_in t) (decls_in t) t.stmt_items (stmts_in t) procs places → procs_of names ds bs ts (p ∷ procs) (at ∷ places) ≡ procs_of (names_in t) (decls_in t) t.stmt_items (stmts_in t) (p ∷ procs) (at ∷ places)
    same_proc a b c d e f = cc

-- meanings are the same where each part is
same_grown : (a a' : ℕ) (b b' : List (List ℕ)) (c c' : List ExprTree) (d d' : List Named) (e e' : List Declared) (f f' : List StmtId) (g g' : List StmtTree) (h h' : List ProcMeaning) → a ≡ a' → b ≡ b' → c ≡ c' → d ≡ d' → e ≡ e' → f ≡ f' → g ≡ g' → h ≡ h'
    → ◌≡◌ {A = Grown} (record { letters = a; names = b; exprs = c; named = d; decls = e; blocks = f; stmts = g; procs = h }) (record { letters = a'; names = b'; exprs = c'; named = d'; decls = e'; blocks = f'; stmts = g'; procs = h' })
same_grown a a' b b' c c' d d' e e' f f' g g' h h' p1 p2 p3 p4 p5 p6 p7 p8 = cc

-- lists that are added to
abbrev pub with_name : Lists → List ℕ → Lists
with_name t bytes = record t { letters = t.letters ++ bytes; names = t.names ++ record { first = length t.letters; count = length bytes } ∷ [] }

abbrev pub with_expr : Lists → Expr → ℕ → Lists
with_expr t e at = record t { exprs = t.exprs ++ e ∷ []; expr_places = t.expr_places ++ at ∷ [] }

abbrev pub with_named : Lists → NameId → ℕ → Lists
with_named t n at = record t { name_items = t.name_items ++ n ∷ []; name_item_places = t.name_item_places ++ at ∷ [] }

abbrev pub with_decl : Lists → Decl → DeclAt → Lists
with_decl t d at = record t { decls = t.decls ++ d ∷ []; decl_places = t.decl_places ++ at ∷ [] }

abbrev pub with_stmt : Lists → Stmt → StmtAt → Lists
with_stmt t s at = record t { stmts = t.stmts ++ s ∷ []; stmt_places = t.stmt_places ++ at ∷ [] }

abbrev pub with_ids : Lists → List StmtId → Lists
with_ids t ids = record t { stmt_items = t.stmt_items ++ ids }

abbrev pub with_proc : Lists → ProcTree → ProcAt → Lists
with_proc t p at = record t { procs = t.procs ++ p ∷ []; proc_places = t.proc_places ++ at ∷ [] }

bigger-with_name : (t : Lists) (bytes : List ℕ) → Bigger t (with_name t bytes)
bigger-with_name t bytes = record { letters = omega (arith, length-append t.letters (bytes)); names = omega (arith, length-append t.names (record { first = length t.letters; count = length bytes } ∷ [])); decls = omega arith; exprs = omega arith; stmts = omega arith; named = omega arith; blocks = omega arith; same = λ i d lt. refl }

tree-with_name : (t : Lists) (bytes : List ℕ) → IsTree t → length t.letters + length bytes ≤ 2 ^ 20 → length t.names < 2 ^ 20 → IsTree (with_name t bytes)
tree-with_name t bytes w fits few =
    let big = bigger-with_name t bytes in
    record {
      few = record { letters = omega (arith, length-append t.letters (bytes), w.few.letters); names = omega (arith, length-append t.names (record { first = length t.letters; count = length bytes } ∷ []), w.few.names); decls = w.few.decls; procs = w.few.procs; exprs = w.few.exprs; stmts = w.few.stmts; name_items = w.few.name_items; stmt_items = w.few.stmt_items };
      placed = record { decl_count = w.placed.decl_count; decls = w.placed.decls; proc_count = w.placed.proc_count; procs = w.placed.procs; expr_count = w.placed.expr_count; exprs = w.placed.exprs; stmt_count = w.placed.stmt_count; stmts = w.placed.stmts; name_item_count = w.placed.name_item_count; name_items = w.placed.name_items; main = w.placed.main };
      in_range = record {
        names = each_push (λ k (s : NameSpan). s.first + s.count ≤ length (t.letters ++ bytes)) t.names (record { first = length t.letters; count = length bytes }) (each_more (λ k (s : NameSpan). s.first + s.count ≤ length t.letters) (λ k (s : NameSpan). s.first + s.count ≤ length (t.letters ++ bytes)) t.names w.in_range.names (λ k s h. omega (arith, length-append t.letters bytes))) (omega (arith, length-append t.letters bytes));
        decls = each_more (λ k d. DeclFits t d) (λ k x. DeclFits (with_name t bytes) x) t.decls w.in_range.decls (λ k x h. decl_grows t (with_name t bytes) x big h);
        procs = each_more (λ k p. ProcFits t p) (λ k x. ProcFits (with_name t bytes) x) t.procs w.in_range.procs (λ k x h. proc_grows t (with_name t bytes) x big h);
        exprs = each_more (ExprFits t) (ExprFits (with_name t bytes)) t.exprs w.in_range.exprs (λ k x h. expr_grows t (with_name t bytes) k x big h);
        stmts = each_more (StmtFits t) (StmtFits (with_name t bytes)) t.stmts w.in_range.stmts (λ k x h. stmt_grows t (with_name t bytes) k x big h);
        name_items = each_more (λ k n. HasName t n) (λ k x. HasName (with_name t bytes) x) t.name_items w.in_range.name_items (λ k n h. omega (arith, big.names));
        stmt_items = each_more (λ k (s : StmtId). s.0 < length t.stmts) (λ k (x : StmtId). x.0 < length (with_name t bytes).stmts) t.stmt_items w.in_range.stmt_items (λ k s h. omega (arith, big.stmts));
        locals = omega (arith, big.decls, w.in_range.locals);
        body = block_grows t (with_name t bytes) (length t.stmts) (length (with_name t bytes).stmts) t.main.body big big.stmts w.in_range.body;
      };
    }

bigger-with_expr : (t : Lists) (e : Expr) (at : ℕ) → Bigger t (with_expr t e at)
bigger-with_expr t e at = record { letters = omega arith; names = omega arith; decls = omega arith; exprs = omega (arith, length-append t.exprs (e ∷ [])); stmts = omega arith; named = omega arith; blocks = omega arith; same = λ i d lt. refl }

tree-with_expr : (t : Lists) (e : Expr) (at : ℕ) → IsTree t → length t.exprs < 2 ^ 20 → IsPlace at → ExprFits t (length t.exprs) e → IsTree (with_expr t e at)
tree-with_expr t e at w few placed fits =
    let big = bigger-with_expr t e at in
    record {
      few = record { letters = w.few.letters; names = w.few.names; decls = w.few.decls; procs = w.few.procs; exprs = omega (arith, length-append t.exprs (e ∷ []), w.few.exprs); stmts = w.few.stmts; name_items = w.few.name_items; stmt_items = w.few.stmt_items };
      placed = record { decl_count = w.placed.decl_count; decls = w.placed.decls; proc_count = w.placed.proc_count; procs = w.placed.procs; expr_count = omega (arith, length-append t.exprs (e ∷ []), length-append t.expr_places (at ∷ []), w.placed.expr_count); exprs = each_push (λ k at. IsPlace at) t.expr_places at w.placed.exprs placed; stmt_count = w.placed.stmt_count; stmts = w.placed.stmts; name_item_count = w.placed.name_item_count; name_items = w.placed.name_items; main = w.placed.main };
      in_range = record {
        names = w.in_range.names;
        decls = each_more (λ k d. DeclFits t d) (λ k x. DeclFits (with_expr t e at) x) t.decls w.in_range.decls (λ k x h. decl_grows t (with_expr t e at) x big h);
        procs = each_more (λ k p. ProcFits t p) (λ k x. ProcFits (with_expr t e at) x) t.procs w.in_range.procs (λ k x h. proc_grows t (with_expr t e at) x big h);
        exprs = each_push (ExprFits (with_expr t e at)) t.exprs e (each_more (ExprFits t) (ExprFits (with_expr t e at)) t.exprs w.in_range.exprs (λ k x h. expr_grows t (with_expr t e at) k x big h)) (expr_grows t (with_expr t e at) (length t.exprs) e big fits);
        stmts = each_more (StmtFits t) (StmtFits (with_expr t e at)) t.stmts w.in_range.stmts (λ k x h. stmt_grows t (with_expr t e at) k x big h);
        name_items = each_more (λ k n. HasName t n) (λ k x. HasName (with_expr t e at) x) t.name_items w.in_range.name_items (λ k n h. omega (arith, big.names));
        stmt_items = each_more (λ k (s : StmtId). s.0 < length t.stmts) (λ k (x : StmtId). x.0 < length (with_expr t e at).stmts) t.stmt_items w.in_range.stmt_items (λ k s h. omega (arith, big.stmts));
        locals = omega (arith, big.decls, w.in_range.locals);
        body = block_grows t (with_expr t e at) (length t.stmts) (length (with_expr t e at).stmts) t.main.body big big.stmts w.in_range.body;
      };
    }

bigger-with_named : (t : Lists) (n : NameId) (at : ℕ) → Bigger t (with_named t n at)
bigger-with_named t n at = record { letters = omega arith; names = omega arith; decls = omega arith; exprs = omega arith; stmts = omega arith; named = omega (arith, length-append t.name_items (n ∷ [])); blocks = omega arith; same = λ i d lt. refl }

tree-with_named : (t : Lists) (n : NameId) (at : ℕ) → IsTree t → length t.name_items < 2 ^ 20 → IsPlace at → HasName t n → IsTree (with_named t n at)
tree-with_named t n at w few placed fits =
    let big = bigger-with_named t n at in
    record {
      few = record { letters = w.few.letters; names = w.few.names; decls = w.few.decls; procs = w.few.procs; exprs = w.few.exprs; stmts = w.few.stmts; name_items = omega (arith, length-append t.name_items (n ∷ []), w.few.name_items); stmt_items = w.few.stmt_items };
      placed = record { decl_count = w.placed.decl_count; decls = w.placed.decls; proc_count = w.placed.proc_count; procs = w.placed.procs; expr_count = w.placed.expr_count; exprs = w.placed.exprs; stmt_count = w.placed.stmt_count; stmts = w.placed.stmts; name_item_count = omega (arith, length-append t.name_items (n ∷ []), length-append t.name_item_places (at ∷ []), w.placed.name_item_count); name_items = each_push (λ k at. IsPlace at) t.name_item_places at w.placed.name_items placed; main = w.placed.main };
      in_range = record {
        names = w.in_range.names;
        decls = each_more (λ k d. DeclFits t d) (λ k x. DeclFits (with_named t n at) x) t.decls w.in_range.decls (λ k x h. decl_grows t (with_named t n at) x big h);
        procs = each_more (λ k p. ProcFits t p) (λ k x. ProcFits (with_named t n at) x) t.procs w.in_range.procs (λ k x h. proc_grows t (with_named t n at) x big h);
        exprs = each_more (ExprFits t) (ExprFits (with_named t n at)) t.exprs w.in_range.exprs (λ k x h. expr_grows t (with_named t n at) k x big h);
        stmts = each_more (StmtFits t) (StmtFits (with_named t n at)) t.stmts w.in_range.stmts (λ k x h. stmt_grows t (with_named t n at) k x big h);
        name_items = each_push (λ k x. HasName (with_named t n at) x) t.name_items n (each_more (λ k n. HasName t n) (λ k x. HasName (with_named t n at) x) t.name_items w.in_range.name_items (λ k n h. omega (arith, big.names))) (fits);
        stmt_items = each_more (λ k (s : StmtId). s.0 < length t.stmts) (λ k (x : StmtId). x.0 < length (with_named t n at).stmts) t.stmt_items w.in_range.stmt_items (λ k s h. omega (arith, big.stmts));
        locals = omega (arith, big.decls, w.in_range.locals);
        body = block_grows t (with_named t n at) (length t.stmts) (length (with_named t n at).stmts) t.main.body big big.stmts w.in_range.body;
      };
    }

bigger-with_decl : (t : Lists) (d : Decl) (at : DeclAt) → Bigger t (with_decl t d at)
bigger-with_decl t d at = record { letters = omega arith; names = omega arith; decls = omega (arith, length-append t.decls (d ∷ [])); exprs = omega arith; stmts = omega arith; named = omega arith; blocks = omega arith; same = λ i d lt. refl }

tree-with_decl : (t : Lists) (d : Decl) (at : DeclAt) → IsTree t → length t.decls < 2 ^ 20 → DeclIsPlaced at → DeclFits t d → IsTree (with_decl t d at)
tree-with_decl t d at w few placed fits =
    let big = bigger-with_decl t d at in
    record {
      few = record { letters = w.few.letters; names = w.few.names; decls = omega (arith, length-append t.decls (d ∷ []), w.few.decls); procs = w.few.procs; exprs = w.few.exprs; stmts = w.few.stmts; name_items = w.few.name_items; stmt_items = w.few.stmt_items };
      placed = record { decl_count = omega (arith, length-append t.decls (d ∷ []), length-append t.decl_places (at ∷ []), w.placed.decl_count); decls = each_push (λ k at. DeclIsPlaced at) t.decl_places at w.placed.decls placed; proc_count = w.placed.proc_count; procs = w.placed.procs; expr_count = w.placed.expr_count; exprs = w.placed.exprs; stmt_count = w.placed.stmt_count; stmts = w.placed.stmts; name_item_count = w.placed.name_item_count; name_items = w.placed.name_items; main = w.placed.main };
      in_range = record {
        names = w.in_range.names;
        decls = each_push (λ k x. DeclFits (with_decl t d at) x) t.decls d (each_more (λ k d. DeclFits t d) (λ k x. DeclFits (with_decl t d at) x) t.decls w.in_range.decls (λ k x h. decl_grows t (with_decl t d at) x big h)) (decl_grows t (with_decl t d at) d big fits);
        procs = each_more (λ k p. ProcFits t p) (λ k x. ProcFits (with_decl t d at) x) t.procs w.in_range.procs (λ k x h. proc_grows t (with_decl t d at) x big h);
        exprs = each_more (ExprFits t) (ExprFits (with_decl t d at)) t.exprs w.in_range.exprs (λ k x h. expr_grows t (with_decl t d at) k x big h);
        stmts = each_more (StmtFits t) (StmtFits (with_decl t d at)) t.stmts w.in_range.stmts (λ k x h. stmt_grows t (with_decl t d at) k x big h);
        name_items = each_more (λ k n. HasName t n) (λ k x. HasName (with_decl t d at) x) t.name_items w.in_range.name_items (λ k n h. omega (arith, big.names));
        stmt_items = each_more (λ k (s : StmtId). s.0 < length t.stmts) (λ k (x : StmtId). x.0 < length (with_decl t d at).stmts) t.stmt_items w.in_range.stmt_items (λ k s h. omega (arith, big.stmts));
        locals = omega (arith, big.decls, w.in_range.locals);
        body = block_grows t (with_decl t d at) (length t.stmts) (length (with_decl t d at).stmts) t.main.body big big.stmts w.in_range.body;
      };
    }

bigger-with_stmt : (t : Lists) (s : Stmt) (at : StmtAt) → Bigger t (with_stmt t s at)
bigger-with_stmt t s at = record { letters = omega arith; names = omega arith; decls = omega arith; exprs = omega arith; stmts = omega (arith, length-append t.stmts (s ∷ [])); named = omega arith; blocks = omega arith; same = λ i d lt. refl }

tree-with_stmt : (t : Lists) (s : Stmt) (at : StmtAt) → IsTree t → length t.stmts < 2 ^ 20 → StmtIsPlaced at → StmtFits t (length t.stmts) s → IsTree (with_stmt t s at)
tree-with_stmt t s at w few placed fits =
    let big = bigger-with_stmt t s at in
    record {
      few = record { letters = w.few.letters; names = w.few.names; decls = w.few.decls; procs = w.few.procs; exprs = w.few.exprs; stmts = omega (arith, length-append t.stmts (s ∷ []), w.few.stmts); name_items = w.few.name_items; stmt_items = w.few.stmt_items };
      placed = record { decl_count = w.placed.decl_count; decls = w.placed.decls; proc_count = w.placed.proc_count; procs = w.placed.procs; expr_count = w.placed.expr_count; exprs = w.placed.exprs; stmt_count = omega (arith, length-append t.stmts (s ∷ []), length-append t.stmt_places (at ∷ []), w.placed.stmt_count); stmts = each_push (λ k at. StmtIsPlaced at) t.stmt_places at w.placed.stmts placed; name_item_count = w.placed.name_item_count; name_items = w.placed.name_items; main = w.placed.main };
      in_range = record {
        names = w.in_range.names;
        decls = each_more (λ k d. DeclFits t d) (λ k x. DeclFits (with_stmt t s at) x) t.decls w.in_range.decls (λ k x h. decl_grows t (with_stmt t s at) x big h);
        procs = each_more (λ k p. ProcFits t p) (λ k x. ProcFits (with_stmt t s at) x) t.procs w.in_range.procs (λ k x h. proc_grows t (with_stmt t s at) x big h);
        exprs = each_more (ExprFits t) (ExprFits (with_stmt t s at)) t.exprs w.in_range.exprs (λ k x h. expr_grows t (with_stmt t s at) k x big h);
        stmts = each_push (StmtFits (with_stmt t s at)) t.stmts s (each_more (StmtFits t) (StmtFits (with_stmt t s at)) t.stmts w.in_range.stmts (λ k x h. stmt_grows t (with_stmt t s at) k x big h)) (stmt_grows t (with_stmt t s at) (length t.stmts) s big fits);
        name_items = each_more (λ k n. HasName t n) (λ k x. HasName (with_stmt t s at) x) t.name_items w.in_range.name_items (λ k n h. omega (arith, big.names));
        stmt_items = each_more (λ k (s : StmtId). s.0 < length t.stmts) (λ k (x : StmtId). x.0 < length (with_stmt t s at).stmts) t.stmt_items w.in_range.stmt_items (λ k s h. omega (arith, big.stmts));
        locals = omega (arith, big.decls, w.in_range.locals);
        body = block_grows t (with_stmt t s at) (length t.stmts) (length (with_stmt t s at).stmts) t.main.body big big.stmts w.in_range.body;
      };
    }

bigger-with_ids : (t : Lists) (ids : List StmtId) → Bigger t (with_ids t ids)
bigger-with_ids t ids = record { letters = omega arith; names = omega arith; decls = omega arith; exprs = omega arith; stmts = omega arith; named = omega arith; blocks = omega (arith, length-append t.stmt_items (ids)); same = λ i d lt. get_or-append t.stmt_items (ids) d i lt }

tree-with_ids : (t : Lists) (ids : List StmtId) → IsTree t → length t.stmt_items + length ids ≤ 2 ^ 20 → IdsIn (length t.stmts) ids → IsTree (with_ids t ids)
tree-with_ids t ids w few there =
    let big = bigger-with_ids t ids in
    record {
      few = record { letters = w.few.letters; names = w.few.names; decls = w.few.decls; procs = w.few.procs; exprs = w.few.exprs; stmts = w.few.stmts; name_items = w.few.name_items; stmt_items = omega (arith, length-append t.stmt_items (ids), w.few.stmt_items) };
      placed = record { decl_count = w.placed.decl_count; decls = w.placed.decls; proc_count = w.placed.proc_count; procs = w.placed.procs; expr_count = w.placed.expr_count; exprs = w.placed.exprs; stmt_count = w.placed.stmt_count; stmts = w.placed.stmts; name_item_count = w.placed.name_item_count; name_items = w.placed.name_items; main = w.placed.main };
      in_range = record {
        names = w.in_range.names;
        decls = each_more (λ k d. DeclFits t d) (λ k x. DeclFits (with_ids t ids) x) t.decls w.in_range.decls (λ k x h. decl_grows t (with_ids t ids) x big h);
        procs = each_more (λ k p. ProcFits t p) (λ k x. ProcFits (with_ids t ids) x) t.procs w.in_range.procs (λ k x h. proc_grows t (with_ids t ids) x big h);
        exprs = each_more (ExprFits t) (ExprFits (with_ids t ids)) t.exprs w.in_range.exprs (λ k x h. expr_grows t (with_ids t ids) k x big h);
        stmts = each_more (StmtFits t) (StmtFits (with_ids t ids)) t.stmts w.in_range.stmts (λ k x h. stmt_grows t (with_ids t ids) k x big h);
        name_items = each_more (λ k n. HasName t n) (λ k x. HasName (with_ids t ids) x) t.name_items w.in_range.name_items (λ k n h. omega (arith, big.names));
        stmt_items = each_append (λ (s : StmtId). s.0 < length t.stmts) t.stmt_items ids w.in_range.stmt_items there;
        locals = omega (arith, big.decls, w.in_range.locals);
        body = block_grows t (with_ids t ids) (length t.stmts) (length (with_ids t ids).stmts) t.main.body big big.stmts w.in_range.body;
      };
    }

bigger-with_proc : (t : Lists) (p : ProcTree) (at : ProcAt) → Bigger t (with_proc t p at)
bigger-with_proc t p at = record { letters = omega arith; names = omega arith; decls = omega arith; exprs = omega arith; stmts = omega arith; named = omega arith; blocks = omega arith; same = λ i d lt. refl }

tree-with_proc : (t : Lists) (p : ProcTree) (at : ProcAt) → IsTree t → length t.procs < 2 ^ 20 → ProcIsPlaced at → ProcFits t p → IsTree (with_proc t p at)
tree-with_proc t p at w few placed fits =
    let big = bigger-with_proc t p at in
    record {
      few = record { letters = w.few.letters; names = w.few.names; decls = w.few.decls; procs = omega (arith, length-append t.procs (p ∷ []), w.few.procs); exprs = w.few.exprs; stmts = w.few.stmts; name_items = w.few.name_items; stmt_items = w.few.stmt_items };
      placed = record { decl_count = w.placed.decl_count; decls = w.placed.decls; proc_count = omega (arith, length-append t.procs (p ∷ []), length-append t.proc_places (at ∷ []), w.placed.proc_count); procs = each_push (λ k at. ProcIsPlaced at) t.proc_places at w.placed.procs placed; expr_count = w.placed.expr_count; exprs = w.placed.exprs; stmt_count = w.placed.stmt_count; stmts = w.placed.stmts; name_item_count = w.placed.name_item_count; name_items = w.placed.name_items; main = w.placed.main };
      in_range = record {
        names = w.in_range.names;
        decls = each_more (λ k d. DeclFits t d) (λ k x. DeclFits (with_proc t p at) x) t.decls w.in_range.decls (λ k x h. decl_grows t (with_proc t p at) x big h);
        procs = each_push (λ k x. ProcFits (with_proc t p at) x) t.procs p (each_more (λ k p. ProcFits t p) (λ k x. ProcFits (with_proc t p at) x) t.procs w.in_range.procs (λ k x h. proc_grows t (with_proc t p at) x big h)) (proc_grows t (with_proc t p at) p big fits);
        exprs = each_more (ExprFits t) (ExprFits (with_proc t p at)) t.exprs w.in_range.exprs (λ k x h. expr_grows t (with_proc t p at) k x big h);
        stmts = each_more (StmtFits t) (StmtFits (with_proc t p at)) t.stmts w.in_range.stmts (λ k x h. stmt_grows t (with_proc t p at) k x big h);
        name_items = each_more (λ k n. HasName t n) (λ k x. HasName (with_proc t p at) x) t.name_items w.in_range.name_items (λ k n h. omega (arith, big.names));
        stmt_items = each_more (λ k (s : StmtId). s.0 < length t.stmts) (λ k (x : StmtId). x.0 < length (with_proc t p at).stmts) t.stmt_items w.in_range.stmt_items (λ k s h. omega (arith, big.stmts));
        locals = omega (arith, big.decls, w.in_range.locals);
        body = block_grows t (with_proc t p at) (length t.stmts) (length (with_proc t p at).stmts) t.main.body big big.stmts w.in_range.body;
      };
    }

-- statements and procedures over a ground that grows
stmts_same : (t : Lists) (g : Ground) → IsTree t → GroundGrows (ground_in t) g → stmts_after g [] t.stmts t.stmt_places ≡ stmts_in t
stmts_same t g w h = stmts_stay (ground_in t) g [] t.stmts t.stmt_places h (stmts_over t w)

procs_same : (t : Lists) (names : List (List ℕ)) (ds : List Declared) (bs : List StmtId) (ts : List StmtTree) → IsTree t → ProcGrows t names ds bs ts → procs_of names ds bs ts t.procs t.proc_places ≡ procs_of (names_in t) (decls_in t) t.stmt_items (stmts_in t) t.procs t.proc_places
procs_same t names ds bs ts w h = procs_stay t names ds bs ts t.procs t.proc_places w h w.in_range.procs

new_bytes : (letters bytes : List ℕ) → span_of (letters ++ bytes) (length letters) (length bytes) ≡ bytes
new_bytes letters bytes = ap (λ l. take (length bytes) l) (drop-append_seam letters bytes) ∙ take-length bytes

names-with_name : (t : Lists) (bytes : List ℕ) → IsTree t → names_in (with_name t bytes) ≡ names_in t ++ bytes ∷ []
names-with_name t bytes w =
    let f : NameSpan → List ℕ = λ s. span_of (t.letters ++ bytes) s.first s.count in
    map-append f t.names (record { first = length t.letters; count = length bytes } ∷ [])
    ∙ (ap (λ x. x ++ span_of (t.letters ++ bytes) (length t.letters) (length bytes) ∷ []) (bytes_stay t.letters bytes t.names w.in_range.names)
    ∙ ap (λ x. names_in t ++ x ∷ []) (new_bytes t.letters bytes))

pub mean-with_name : (t : Lists) (bytes : List ℕ) → IsTree t → grown (with_name t bytes) ≡ record (grown t) { letters = length t.letters + length bytes; names = names_in t ++ bytes ∷ [] }
unfolding grown
mean-with_name t bytes w =
    let u = with_name t bytes in
    let N = names-with_name t bytes w in
    let E : exprs_in u ≡ exprs_in t = ap (λ x. exprs_after x [] t.exprs t.expr_places) N ∙ exprs_stay (names_in t) (bytes ∷ []) [] t.exprs t.expr_places (exprs_named t w) in
    let M : named_in u ≡ named_in t = ap (λ x. named_of x t.name_items t.name_item_places) N ∙ named_stay (names_in t) (bytes ∷ []) t.name_items t.name_item_places (items_named t w) in
    let K : decls_in u ≡ decls_in t = ap (λ x. decls_of x t.decls t.decl_places) N ∙ decls_stay (names_in t) (bytes ∷ []) t.decls t.decl_places (decls_named t w) in
    let same : (n : NameId) → n.0 < length (names_in t) → name_of (names_in u) n ≡ name_of (names_in t) n = λ n lt. ap (λ x. name_of x n) N ∙ name_stays (names_in t) (bytes ∷ []) n lt in
    let S : stmts_in u ≡ stmts_in t = stmts_same t (ground_in u) w (record { names = same; exprs = λ e lt. ap (λ x. expr_at x e) E; named = λ f c h. ap (λ x. span_of x f c) M; blocks = λ f c h. refl }) in
    let P = procs_same t (names_in u) (decls_in u) t.stmt_items (stmts_in u) w (record { names' = same; decls' = λ f c h. ap (λ x. span_of x f c) K; body' = λ b h. ap (λ x. block_over t.stmt_items x b) S }) in
    same_grown _ _ _ _ _ _ _ _ _ _ _ _ _ _ _ _ (length-append t.letters bytes) N E M K refl S P

pub mean-with_expr : (t : Lists) (e : Expr) (at : ℕ) → IsTree t → grown (with_expr t e at) ≡ record (grown t) { exprs = exprs_in t ++ expr_over (names_in t) (exprs_in t) e at ∷ [] }
unfolding grown
mean-with_expr t e at w =
    let u = with_expr t e at in
    let x = expr_over (names_in t) (exprs_in t) e at in
    let E : exprs_in u ≡ exprs_in t ++ x ∷ [] = exprs-push (names_in t) [] t.exprs t.expr_places e at w.placed.expr_count in
    let S : stmts_in u ≡ stmts_in t = stmts_same t (ground_in u) w (record { names = λ n lt. refl; exprs = λ i lt. ap (λ l. expr_at l i) E ∙ get_or-append (exprs_in t) (x ∷ []) (number 0 0) i.0 lt; named = λ f c h. refl; blocks = λ f c h. refl }) in
    let P = procs_same t (names_in t) (decls_in t) t.stmt_items (stmts_in u) w (record { names' = λ n lt. refl; decls' = λ f c h. refl; body' = λ b h. ap (λ l. block_over t.stmt_items l b) S }) in
    same_grown _ _ _ _ _ _ _ _ _ _ _ _ _ _ _ _ refl refl E refl refl refl S P

pub mean-with_named : (t : Lists) (n : NameId) (at : ℕ) → IsTree t → grown (with_named t n at) ≡ record (grown t) { named = named_in t ++ record { name = name_of (names_in t) n; at = at } ∷ [] }
unfolding grown
mean-with_named t n at w =
    let u = with_named t n at in
    let x : Named = record { name = name_of (names_in t) n; at = at } in
    let M : named_in u ≡ named_in t ++ x ∷ [] = named-push (names_in t) t.name_items t.name_item_places n at w.placed.name_item_count in
    let S : stmts_in u ≡ stmts_in t = stmts_same t (ground_in u) w (record { names = λ n lt. refl; exprs = λ i lt. refl; named = λ f c h. ap (λ l. span_of l f c) M ∙ span_stays (named_in t) (x ∷ []) f c h; blocks = λ f c h. refl }) in
    let P = procs_same t (names_in t) (decls_in t) t.stmt_items (stmts_in u) w (record { names' = λ n lt. refl; decls' = λ f c h. refl; body' = λ b h. ap (λ l. block_over t.stmt_items l b) S }) in
    same_grown _ _ _ _ _ _ _ _ _ _ _ _ _ _ _ _ refl refl refl M refl refl S P

pub mean-with_decl : (t : Lists) (d : Decl) (at : DeclAt) → IsTree t → grown (with_decl t d at) ≡ record (grown t) { decls = decls_in t ++ declared_of (names_in t) d at ∷ [] }
unfolding grown
mean-with_decl t d at w =
    let u = with_decl t d at in
    let x = declared_of (names_in t) d at in
    let K : decls_in u ≡ decls_in t ++ x ∷ [] = decls-push (names_in t) t.decls t.decl_places d at w.placed.decl_count in
    let P = procs_same t (names_in t) (decls_in u) t.stmt_items (stmts_in t) w (record { names' = λ n lt. refl; decls' = λ f c h. ap (λ l. span_of l f c) K ∙ span_stays (decls_in t) (x ∷ []) f c h; body' = λ b h. refl }) in
    same_grown _ _ _ _ _ _ _ _ _ _ _ _ _ _ _ _ refl refl refl refl K refl refl P

pub mean-with_stmt : (t : Lists) (s : Stmt) (at : StmtAt) → IsTree t → grown (with_stmt t s at) ≡ record (grown t) { stmts = stmts_in t ++ stmt_over (ground_in t) (stmts_in t) s at ∷ [] }
unfolding grown
mean-with_stmt t s at w =
    let u = with_stmt t s at in
    let x = stmt_over (ground_in t) (stmts_in t) s at in
    let S : stmts_in u ≡ stmts_in t ++ x ∷ [] = stmts-push (ground_in t) [] t.stmts t.stmt_places s at w.placed.stmt_count in
    let body : (b : Block) → HasBlock t (length t.stmts) b → block_over t.stmt_items (stmts_in u) b ≡ block_over t.stmt_items (stmts_in t) b = λ b h. ap (λ l. block_over t.stmt_items l b) S ∙ block_stays (stmts_in t) (x ∷ []) empty (span_of t.stmt_items b.first b.count) (each_more (λ k (i : StmtId). i.0 < length t.stmts) (λ k (i : StmtId). i.0 < length (stmts_in t)) (span_of t.stmt_items b.first b.count) (span_ids t (length t.stmts) b h) (λ k i lt. omega (arith, length-stmts_in t w))) in
    let P = procs_same t (names_in t) (decls_in t) t.stmt_items (stmts_in u) w (record { names' = λ n lt. refl; decls' = λ f c h. refl; body' = body }) in
    same_grown _ _ _ _ _ _ _ _ _ _ _ _ _ _ _ _ refl refl refl refl refl refl S P

pub mean-with_ids : (t : Lists) (ids : List StmtId) → IsTree t → grown (with_ids t ids) ≡ record (grown t) { blocks = t.stmt_items ++ ids }
unfolding grown
mean-with_ids t ids w =
    let u = with_ids t ids in
    let S : stmts_in u ≡ stmts_in t = stmts_same t (ground_in u) w (record { names = λ n lt. refl; exprs = λ i lt. refl; named = λ f c h. refl; blocks = λ f c h. span_stays t.stmt_items ids f c h }) in
    let P = procs_same t (names_in t) (decls_in t) (t.stmt_items ++ ids) (stmts_in u) w (record { names' = λ n lt. refl; decls' = λ f c h. refl; body' = λ b h. ap (λ l. block_over (t.stmt_items ++ ids) l b) S ∙ ap (λ l. block_after (stmts_in t) empty l) (span_stays t.stmt_items ids b.first b.count h.span) }) in
    same_grown _ _ _ _ _ _ _ _ _ _ _ _ _ _ _ _ refl refl refl refl refl refl S P

pub mean-with_proc : (t : Lists) (p : ProcTree) (at : ProcAt) → IsTree t → grown (with_proc t p at) ≡ record (grown t) { procs = (grown t).procs ++ proc_over (names_in t) (decls_in t) t.stmt_items (stmts_in t) p at ∷ [] }
unfolding grown
mean-with_proc t p at w =
    let P = procs-push (names_in t) (decls_in t) t.stmt_items (stmts_in t) t.procs t.proc_places p at w.placed.proc_count in
    same_grown _ _ _ _ _ _ _ _ _ _ _ _ _ _ _ _ refl refl refl refl refl refl refl P

-- what is named in a meaning is in range of the lists
expr_fits : (t : Lists) (e : Expr) → IsTree t → ExprIn (grown t) e → ExprFits t (length t.exprs) e
unfolding grown
expr_fits t (Number n) w h = h
expr_fits t (Variable n) w h = omega (arith, length-names_in t)
expr_fits t True w h = tt
expr_fits t False w h = tt
expr_fits t Random w h = tt
expr_fits t (Neg a) w h = omega (arith, length-exprs_in t w)
expr_fits t (Not a) w h = omega (arith, length-exprs_in t w)
expr_fits t (Binary op a b) w h = (omega (arith, length-exprs_in t w, h.0), omega (arith, length-exprs_in t w, h.1))

kind_fits : (t : Lists) (k : DeclKind) → KindIn (grown t) k → HasKind t k
unfolding grown
kind_fits t Int h = tt
kind_fits t Real h = tt
kind_fits t (NamedKind n) h = omega (arith, length-names_in t)

decl_fits : (t : Lists) (d : Decl) → DeclIn (grown t) d → DeclFits t d
unfolding grown
decl_fits t d h = (omega (arith, length-names_in t, h.0), kind_fits t d.kind h.1)

block_fits : (t : Lists) (b : Block) → IsTree t → BlockIn (grown t) b → HasBlock t (length t.stmts) b
unfolding grown
block_fits t b w h = record {
  span = h.span;
  before = λ i d lo hi.
      let j = i - b.first in
      let few : j < b.count = omega arith in
      let long : j < length (span_of t.stmt_items b.first b.count) = omega (arith, length-take b.count (drop b.first t.stmt_items), length-drop b.first t.stmt_items, h.span) in
      let e : get_or (span_of t.stmt_items b.first b.count) j d ≡ get_or t.stmt_items (b.first + j) d = get_or-take b.count (drop b.first t.stmt_items) j d few ∙ get_or-drop b.first t.stmt_items j d in
      let back : b.first + j ≡ i = omega arith in
      let P : StmtId → Type 0 = λ x. x.0 < length t.stmts in
      let here : (get_or (span_of t.stmt_items b.first b.count) j d).0 < length t.stmts = omega (arith, h.ids j d long, length-stmts_in t w) in
      subst P (e ∙ ap (λ q. get_or t.stmt_items q d) back) here;
}

second_fits : (t : Lists) (b : Option Block) → IsTree t → SecondIn (grown t) b → HasSecond t (length t.stmts) b
second_fits t None w h = tt
second_fits t (Some b) w h = block_fits t b w h

stmt_fits : (t : Lists) (s : Stmt) → IsTree t → StmtIn (grown t) s → StmtFits t (length t.stmts) s
unfolding grown
stmt_fits t Skip w h = tt
stmt_fits t Halt w h = tt
stmt_fits t Fail w h = tt
stmt_fits t (Assume e) w h = omega (arith, length-exprs_in t w)
stmt_fits t (Assign x e) w h = (omega (arith, length-names_in t, h.0), omega (arith, length-exprs_in t w, h.1))
stmt_fits t (Call targets called args) w h = (omega (arith, length-named_in t w, h.0), omega (arith, length-names_in t, h.1), omega (arith, length-named_in t w, h.2))
stmt_fits t (If e first second) w h = (omega (arith, length-exprs_in t w, h.0), block_fits t first w h.1, second_fits t second w h.2)
stmt_fits t (While e body) w h = (omega (arith, length-exprs_in t w, h.0), block_fits t body w h.1)

proc_fits : (t : Lists) (p : ProcTree) → IsTree t → ProcIn (grown t) p → ProcFits t p
unfolding grown
proc_fits t p w h = record { name = omega (arith, length-names_in t, h.name); inputs = omega (arith, length-decls_in t w, h.inputs); outputs = omega (arith, length-decls_in t w, h.outputs); locals = omega (arith, length-decls_in t w, h.locals); body = block_fits t p.body w h.body }

length-procs : (names : List (List ℕ)) (ds : List Declared) (bs : List StmtId) (ts : List StmtTree) (procs : List ProcTree) (places : List ProcAt) → length places ≡ length procs → length (procs_of names ds bs ts procs places) ≡ length procs
length-procs names ds bs ts [] places e = refl
length-procs names ds bs ts (p ∷ procs) [] e = absurd (omega arith)
length-procs names ds bs ts (p ∷ procs) (at ∷ places) e = omega (arith, length-procs names ds bs ts procs places (omega arith))

-- how long the lists are, by their meaning
pub record Lengths (t : Lists) : Type 0 where
  pub names : length (grown t).names ≡ length t.names
  pub exprs : length (grown t).exprs ≡ length t.exprs
  pub named : length (grown t).named ≡ length t.name_items
  pub decls : length (grown t).decls ≡ length t.decls
  pub stmts : length (grown t).stmts ≡ length t.stmts
  pub blocks : length (grown t).blocks ≡ length t.stmt_items
  pub procs : length (grown t).procs ≡ length t.procs

pub lengths : (t : Lists) → IsTree t → Lengths t
unfolding grown
lengths t w = record { names = length-names_in t; exprs = length-exprs_in t w; named = length-named_in t w; decls = length-decls_in t w; stmts = length-stmts_in t w; blocks = refl; procs = length-procs (names_in t) (decls_in t) t.stmt_items (stmts_in t) t.procs t.proc_places w.placed.proc_count }

-- the parts with what main is
pub tree-with_main : (t : Lists) (main : MainTree) (begin : ℕ) → IsTree t → DeclsIn (grown t) main.locals → IsPlace begin → BlockIn (grown t) main.body → IsTree (record t { main = main; main_begin = begin })
tree-with_main t main begin w locals placed body =
    let u : Lists = record t { main = main; main_begin = begin } in
    let big : Bigger t u = record { letters = omega arith; names = omega arith; decls = omega arith; exprs = omega arith; stmts = omega arith; named = omega arith; blocks = omega arith; same = λ i d lt. refl } in
    record {
      few = record { letters = w.few.letters; names = w.few.names; decls = w.few.decls; procs = w.few.procs; exprs = w.few.exprs; stmts = w.few.stmts; name_items = w.few.name_items; stmt_items = w.few.stmt_items };
      placed = record { decl_count = w.placed.decl_count; decls = w.placed.decls; proc_count = w.placed.proc_count; procs = w.placed.procs; expr_count = w.placed.expr_count; exprs = w.placed.exprs; stmt_count = w.placed.stmt_count; stmts = w.placed.stmts; name_item_count = w.placed.name_item_count; name_items = w.placed.name_items; main = placed };
      in_range = record {
        names = w.in_range.names;
        decls = each_more (λ k d. DeclFits t d) (λ k x. DeclFits u x) t.decls w.in_range.decls (λ k x h. decl_grows t u x big h);
        procs = each_more (λ k p. ProcFits t p) (λ k x. ProcFits u x) t.procs w.in_range.procs (λ k x h. proc_grows t u x big h);
        exprs = each_more (ExprFits t) (ExprFits u) t.exprs w.in_range.exprs (λ k x h. expr_grows t u k x big h);
        stmts = each_more (StmtFits t) (StmtFits u) t.stmts w.in_range.stmts (λ k x h. stmt_grows t u k x big h);
        name_items = w.in_range.name_items;
        stmt_items = w.in_range.stmt_items;
        locals = omega (arith, locals, (lengths t w).decls);
        body = block_grows t u (length t.stmts) (length u.stmts) main.body big (omega arith) (block_fits t main.body w body);
      };
    }

-- each kind of growth
pub grew-with_name : (t : Lists) (bytes : List ℕ) → IsTree t → (grown t).letters + length bytes ≤ 2 ^ 20 → length (grown t).names < 2 ^ 20 → Grew (with_name t bytes) (record (grown t) { letters = (grown t).letters + length bytes; names = (grown t).names ++ bytes ∷ [] })
unfolding grown
grew-with_name t bytes w fits few = record { tree = tree-with_name t bytes w fits (omega (arith, length-names_in t)); meaning = mean-with_name t bytes w }

pub grew-with_expr : (t : Lists) (e : Expr) (at : ℕ) → IsTree t → length (grown t).exprs < 2 ^ 20 → IsPlace at → ExprIn (grown t) e → Grew (with_expr t e at) (record (grown t) { exprs = (grown t).exprs ++ expr_over (grown t).names (grown t).exprs e at ∷ [] })
grew-with_expr t e at w few placed fits = record { tree = tree-with_expr t e at w (omega (arith, (lengths t w).exprs)) placed (expr_fits t e w fits); meaning = unfold grown in mean-with_expr t e at w }

pub grew-with_named : (t : Lists) (n : NameId) (at : ℕ) → IsTree t → length (grown t).named < 2 ^ 20 → IsPlace at → NameIn (grown t) n → Grew (with_named t n at) (record (grown t) { named = (grown t).named ++ record { name = name_of (grown t).names n; at = at } ∷ [] })
grew-with_named t n at w few placed fits = record { tree = tree-with_named t n at w (omega (arith, (lengths t w).named)) placed (omega (arith, (lengths t w).names)); meaning = unfold grown in mean-with_named t n at w }

pub grew-with_decl : (t : Lists) (d : Decl) (at : DeclAt) → IsTree t → length (grown t).decls < 2 ^ 20 → DeclIsPlaced at → DeclIn (grown t) d → Grew (with_decl t d at) (record (grown t) { decls = (grown t).decls ++ declared_of (grown t).names d at ∷ [] })
grew-with_decl t d at w few placed fits = record { tree = tree-with_decl t d at w (omega (arith, (lengths t w).decls)) placed (decl_fits t d fits); meaning = unfold grown in mean-with_decl t d at w }

pub grew-with_stmt : (t : Lists) (s : Stmt) (at : StmtAt) → IsTree t → length (grown t).stmts < 2 ^ 20 → StmtIsPlaced at → StmtIn (grown t) s → Grew (with_stmt t s at) (record (grown t) { stmts = (grown t).stmts ++ stmt_over (ground_of (grown t)) (grown t).stmts s at ∷ [] })
grew-with_stmt t s at w few placed fits = record { tree = tree-with_stmt t s at w (omega (arith, (lengths t w).stmts)) placed (stmt_fits t s w fits); meaning = unfold grown in mean-with_stmt t s at w }

pub grew-with_ids : (t : Lists) (ids : List StmtId) → IsTree t → length (grown t).blocks + length ids ≤ 2 ^ 20 → IdsIn (length (grown t).stmts) ids → Grew (with_ids t ids) (record (grown t) { blocks = (grown t).blocks ++ ids })
grew-with_ids t ids w few there = record { tree = tree-with_ids t ids w (omega (arith, (lengths t w).blocks)) (each_more (λ k (i : StmtId). i.0 < length (grown t).stmts) (λ k (i : StmtId). i.0 < length t.stmts) ids there (λ k i lt. omega (arith, (lengths t w).stmts))); meaning = unfold grown in mean-with_ids t ids w }

pub grew-with_proc : (t : Lists) (p : ProcTree) (at : ProcAt) → IsTree t → length (grown t).procs < 2 ^ 20 → ProcIsPlaced at → ProcIn (grown t) p → Grew (with_proc t p at) (record (grown t) { procs = (grown t).procs ++ proc_over (grown t).names (grown t).decls (grown t).blocks (grown t).stmts p at ∷ [] })
grew-with_proc t p at w few placed fits = record { tree = tree-with_proc t p at w (omega (arith, (lengths t w).procs)) placed (proc_fits t p w fits); meaning = unfold grown in mean-with_proc t p at w }

-- the same, for lists that are known to be these
pub by_name : (t : Lists) (bytes xs : List ℕ) (ys : List NameSpan) → xs ≡ t.letters ++ bytes → ys ≡ t.names ++ record { first = length t.letters; count = length bytes } ∷ [] → IsTree t → (grown t).letters + length bytes ≤ 2 ^ 20 → length (grown t).names < 2 ^ 20 → Grew (record t { letters = xs; names = ys }) (record (grown t) { letters = (grown t).letters + length bytes; names = (grown t).names ++ bytes ∷ [] })
by_name t bytes xs ys e f w fits few = let P : List ℕ → List NameSpan → Type 0 = λ x y. Grew (record t { letters = x; names = y }) (record (grown t) { letters = (grown t).letters + length bytes; names = (grown t).names ++ bytes ∷ [] }) in subst (λ (x : List ℕ). P x ys) (sym e) (subst (λ (y : List NameSpan). P (t.letters ++ bytes) y) (sym f) (grew-with_name t bytes w fits few))

pub by_expr : (t : Lists) (e : Expr) (at : ℕ) (xs : List Expr) (ys : List ℕ) → xs ≡ t.exprs ++ e ∷ [] → ys ≡ t.expr_places ++ at ∷ [] → IsTree t → length (grown t).exprs < 2 ^ 20 → IsPlace at → ExprIn (grown t) e → Grew (record t { exprs = xs; expr_places = ys }) (record (grown t) { exprs = (grown t).exprs ++ expr_over (grown t).names (grown t).exprs e at ∷ [] })
by_expr t e at xs ys p q w few placed fits = let P : List Expr → List ℕ → Type 0 = λ x y. Grew (record t { exprs = x; expr_places = y }) (record (grown t) { exprs = (grown t).exprs ++ expr_over (grown t).names (grown t).exprs e at ∷ [] }) in subst (λ (x : List Expr). P x ys) (sym p) (subst (λ (y : List ℕ). P (t.exprs ++ e ∷ []) y) (sym q) (grew-with_expr t e at w few placed fits))

pub by_named : (t : Lists) (n : NameId) (at : ℕ) (xs : List NameId) (ys : List ℕ) → xs ≡ t.name_items ++ n ∷ [] → ys ≡ t.name_item_places ++ at ∷ [] → IsTree t → length (grown t).named < 2 ^ 20 → IsPlace at → NameIn (grown t) n → Grew (record t { name_items = xs; name_item_places = ys }) (record (grown t) { named = (grown t).named ++ record { name = name_of (grown t).names n; at = at } ∷ [] })
by_named t n at xs ys p q w few placed fits = let P : List NameId → List ℕ → Type 0 = λ x y. Grew (record t { name_items = x; name_item_places = y }) (record (grown t) { named = (grown t).named ++ record { name = name_of (grown t).names n; at = at } ∷ [] }) in subst (λ (x : List NameId). P x ys) (sym p) (subst (λ (y : List ℕ). P (t.name_items ++ n ∷ []) y) (sym q) (grew-with_named t n at w few placed fits))

pub by_decl : (t : Lists) (d : Decl) (at : DeclAt) (xs : List Decl) (ys : List DeclAt) → xs ≡ t.decls ++ d ∷ [] → ys ≡ t.decl_places ++ at ∷ [] → IsTree t → length (grown t).decls < 2 ^ 20 → DeclIsPlaced at → DeclIn (grown t) d → Grew (record t { decls = xs; decl_places = ys }) (record (grown t) { decls = (grown t).decls ++ declared_of (grown t).names d at ∷ [] })
by_decl t d at xs ys p q w few placed fits = let P : List Decl → List DeclAt → Type 0 = λ x y. Grew (record t { decls = x; decl_places = y }) (record (grown t) { decls = (grown t).decls ++ declared_of (grown t).names d at ∷ [] }) in subst (λ (x : List Decl). P x ys) (sym p) (subst (λ (y : List DeclAt). P (t.decls ++ d ∷ []) y) (sym q) (grew-with_decl t d at w few placed fits))

pub by_stmt : (t : Lists) (s : Stmt) (at : StmtAt) (xs : List Stmt) (ys : List StmtAt) → xs ≡ t.stmts ++ s ∷ [] → ys ≡ t.stmt_places ++ at ∷ [] → IsTree t → length (grown t).stmts < 2 ^ 20 → StmtIsPlaced at → StmtIn (grown t) s → Grew (record t { stmts = xs; stmt_places = ys }) (record (grown t) { stmts = (grown t).stmts ++ stmt_over (ground_of (grown t)) (grown t).stmts s at ∷ [] })
by_stmt t s at xs ys p q w few placed fits = let P : List Stmt → List StmtAt → Type 0 = λ x y. Grew (record t { stmts = x; stmt_places = y }) (record (grown t) { stmts = (grown t).stmts ++ stmt_over (ground_of (grown t)) (grown t).stmts s at ∷ [] }) in subst (λ (x : List Stmt). P x ys) (sym p) (subst (λ (y : List StmtAt). P (t.stmts ++ s ∷ []) y) (sym q) (grew-with_stmt t s at w few placed fits))

pub by_ids : (t : Lists) (ids xs : List StmtId) → xs ≡ t.stmt_items ++ ids → IsTree t → length (grown t).blocks + length ids ≤ 2 ^ 20 → IdsIn (length (grown t).stmts) ids → Grew (record t { stmt_items = xs }) (record (grown t) { blocks = (grown t).blocks ++ ids })
by_ids t ids xs p w few there = subst (λ (x : List StmtId). Grew (record t { stmt_items = x }) (record (grown t) { blocks = (grown t).blocks ++ ids })) (sym p) (grew-with_ids t ids w few there)

pub by_proc : (t : Lists) (p : ProcTree) (at : ProcAt) (xs : List ProcTree) (ys : List ProcAt) → xs ≡ t.procs ++ p ∷ [] → ys ≡ t.proc_places ++ at ∷ [] → IsTree t → length (grown t).procs < 2 ^ 20 → ProcIsPlaced at → ProcIn (grown t) p → Grew (record t { procs = xs; proc_places = ys }) (record (grown t) { procs = (grown t).procs ++ proc_over (grown t).names (grown t).decls (grown t).blocks (grown t).stmts p at ∷ [] })
by_proc t p at xs ys e f w few placed fits = let P : List ProcTree → List ProcAt → Type 0 = λ x y. Grew (record t { procs = x; proc_places = y }) (record (grown t) { procs = (grown t).procs ++ proc_over (grown t).names (grown t).decls (grown t).blocks (grown t).stmts p at ∷ [] }) in subst (λ (x : List ProcTree). P x ys) (sym e) (subst (λ (y : List ProcAt). P (t.procs ++ p ∷ []) y) (sym f) (grew-with_proc t p at w few placed fits))
