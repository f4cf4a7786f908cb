-- An item that is added changes the meaning of nothing that was there, and the lists stay those of a tree.
use Rattle.std.proofs.Common.{◌≡◌, ℕ, suc, ◌+◌, ◌<◌, ◌≤◌, List, [], ◌∷◌, ◌++◌, length, take, drop, get_or, Option, Some, None, refl, sym, ap, ◌∙◌, subst, arith, length-append, zero, ◌⊎◌, inl, inr}
use Rattle.std.proofs.lemmas.List.{take-append-le, drop-append-le, length-drop, get_or_push}
use Rattle.std.proofs.Math.ListN.{get_or-append}
use Rattle.spl_tree.specs.declared.parts.NameId.{NameId}
use Rattle.spl_tree.specs.declared.parts.StmtId.{StmtId}
use Rattle.spl_tree.specs.declared.parts.ExprId.{ExprId}
use Rattle.spl_tree.specs.declared.parts.NameSpan.{NameSpan}
use Rattle.spl_tree.specs.declared.parts.Block.{Block}
use Rattle.spl_tree.specs.declared.parts.Decl.{Decl}
use Rattle.spl_tree.specs.declared.parts.DeclAt.{DeclAt}
use Rattle.spl_tree.specs.declared.parts.DeclKind.{DeclKind}
use Rattle.spl_tree.specs.declared.parts.DeclKind.TheVariants.{Int, Real, Named as NamedKind}
use Rattle.spl_tree.specs.declared.parts.ProcTree.{ProcTree}
use Rattle.spl_tree.specs.declared.parts.ProcAt.{ProcAt}
use Rattle.spl_tree.specs.declared.parts.Expr.{Expr}
use Rattle.spl_tree.specs.declared.parts.Expr.TheVariants.{Number, Variable, True, False, Random, Neg, Not, Binary}
use Rattle.spl_tree.specs.declared.parts.Stmt.{Stmt}
use Rattle.spl_tree.specs.declared.parts.Stmt.TheVariants.{Skip, Halt, Fail, Assume, Assign, Call, If, While}
use Rattle.spl_tree.specs.declared.parts.StmtAt.{StmtAt}
use Rattle.spl_tree.specs.Facts.{Each}
use Rattle.spl_tree.specs.Program.{Named, other_kind, Declared, ExprTree, variable, StmtTree, skip, assume, while_do, BlockTree, empty, more as one_more, nowhere}
use Rattle.spl_tree.specs.Meaning.{span_of, bytes_of, name_of, named_of, kind_of, declared_of, decls_of, expr_at, expr_over, exprs_after, Ground, stmt_at, block_after, block_over, if_over, second_over, stmt_over, stmts_after, proc_over, procs_of}

-- facts of each item: of none, of the first and the others, of one more, of weaker facts
pub each_head : {X : Type 0} (P : ℕ → X → Type 0) (x : X) (xs : List X) → Each P (x ∷ xs) → P 0 x
each_head P x xs h = h 0 x (omega arith)

pub each_tail : {X : Type 0} (P : ℕ → X → Type 0) (x : X) (xs : List X) → Each P (x ∷ xs) → Each (λ k. P (suc k)) xs
each_tail P x xs h = λ k d lt. h (suc k) d (omega arith)

pub each_more : {X : Type 0} (P Q : ℕ → X → Type 0) (xs : List X) → Each P xs → ((k : ℕ) (x : X) → P k x → Q k x) → Each Q xs
each_more P Q xs h f = λ k d lt. f k (get_or xs k d) (h k d lt)

last_or : (k n : ℕ) → k < n + 1 → (k < n) ⊎ (k ≡ n)
last_or k n h = grind arith

pub each_push : {X : Type 0} (P : ℕ → X → Type 0) (xs : List X) (x : X) → Each P xs → P (length xs) x → Each P (xs ++ x ∷ [])
each_push {X} P xs x h hx = λ k d lt. go k d (last_or k (length xs) (omega (arith, length-append xs (x ∷ []))))
  where
    go : (k : ℕ) (d : X) → (k < length xs) ⊎ (k ≡ length xs) → P k (get_or (xs ++ x ∷ []) k d)
    go k d (inl l) = let R : X → Type 0 = λ y. P k y in subst R (sym (get_or-append xs (x ∷ []) d k l)) (h k d l)
    go k d (inr e) =
        let R : X → Type 0 = λ y. P k y in
        let S : ℕ → Type 0 = λ j. P j x in
        subst R (sym (get_or_push xs x d k (sym e))) (subst S (sym e) hx)

pub each_append : {X : Type 0} (P : X → Type 0) (xs ys : List X) → Each (λ k x. P x) xs → Each (λ k x. P x) ys → Each (λ k x. P x) (xs ++ ys)
each_append {X} P [] ys h g = g
each_append {X} P (x ∷ xs) ys h g = λ k d lt. go k d lt (each_append P xs ys (each_tail (λ k y. P y) x xs h) g)
  where
    go : (k : ℕ) (d : X) → k < length (x ∷ (xs ++ ys)) → Each (λ j y. P y) (xs ++ ys) → P (get_or (x ∷ (xs ++ ys)) k d)
    go zero d lt r = each_head (λ j y. P y) x xs h
    go (suc k) d lt r = r k d (omega arith)

-- a span, and a name, in a longer list
pub span_stays : {X : Type 0} (xs ys : List X) (f c : ℕ) → f + c ≤ length xs → span_of (xs ++ ys) f c ≡ span_of xs f c
span_stays xs ys f c h =
    let le : f ≤ length xs = omega arith in
    let room : c ≤ length (drop f xs) = omega (arith, length-drop f xs) in
    ap (λ l. take c l) (drop-append-le f xs ys le) ∙ take-append-le c (drop f xs) ys room

pub bytes_stay : (letters more : List ℕ) (names : List NameSpan) → Each (λ k (s : NameSpan). s.first + s.count ≤ length letters) names → bytes_of (letters ++ more) names ≡ bytes_of letters names
bytes_stay letters more [] h = refl
bytes_stay letters more (s ∷ names) h =
    let head = span_stays letters more s.first s.count (each_head (λ k (x : NameSpan). x.first + x.count ≤ length letters) s names h) in
    let tail = bytes_stay letters more names (each_tail (λ k (x : NameSpan). x.first + x.count ≤ length letters) s names h) in
    ap (λ x. x ∷ bytes_of (letters ++ more) names) head ∙ ap (λ x. span_of letters s.first s.count ∷ x) tail

pub name_stays : (names more : List (List ℕ)) (n : NameId) → n.0 < length names → name_of (names ++ more) n ≡ name_of names n
name_stays names more n lt = get_or-append names more [] n.0 lt

-- the names of an expression, of a declaration
abbrev pub ExprNames : ℕ → Expr → Type 0
ExprNames m (Variable n) = n.0 < m
ExprNames m _ = Unit {0}

expr_over_stays : (names more : List (List ℕ)) (trees : List ExprTree) (e : Expr) (at : ℕ) → ExprNames (length names) e → expr_over (names ++ more) trees e at ≡ expr_over names trees e at
expr_over_stays names more trees (Number n) at h = refl
expr_over_stays names more trees (Variable n) at h = ap (λ x. variable x at) (name_stays names more n h)
expr_over_stays names more trees True at h = refl
expr_over_stays names more trees False at h = refl
expr_over_stays names more trees Random at h = refl
expr_over_stays names more trees (Neg a) at h = refl
expr_over_stays names more trees (Not a) at h = refl
expr_over_stays names more trees (Binary op a b) at h = refl

pub exprs_stay : (names more : List (List ℕ)) (trees : List ExprTree) (exprs : List Expr) (places : List ℕ) → Each (λ k e. ExprNames (length names) e) exprs → exprs_after (names ++ more) trees exprs places ≡ exprs_after names trees exprs places
exprs_stay names more trees [] places h = refl
exprs_stay names more trees (e ∷ exprs) [] h = refl
exprs_stay names more trees (e ∷ exprs) (at ∷ places) h =
    ap (λ x. exprs_after (names ++ more) (trees ++ x ∷ []) exprs places) (expr_over_stays names more trees e at (each_head (λ k x. ExprNames (length names) x) e exprs h))
    ∙ exprs_stay names more (trees ++ expr_over names trees e at ∷ []) exprs places (each_tail (λ k x. ExprNames (length names) x) e exprs h)

pub named_stay : (names more : List (List ℕ)) (items : List NameId) (places : List ℕ) → Each (λ k (n : NameId). n.0 < length names) items → named_of (names ++ more) items places ≡ named_of names items places
named_stay names more [] places h = refl
named_stay names more (n ∷ items) [] h = refl
named_stay names more (n ∷ items) (at ∷ places) h =
    let head : Named → List Named = λ x. x ∷ named_of (names ++ more) items places in
    ap (λ b. head (record { name = b; at = at })) (name_stays names more n (each_head (λ k (x : NameId). x.0 < length names) n items h))
    ∙ ap (λ x. record { name = name_of names n; at = at } ∷ x) (named_stay names more items places (each_tail (λ k (x : NameId). x.0 < length names) n items h))

abbrev pub KindNames : ℕ → DeclKind → Type 0
KindNames m Int = Unit {0}
KindNames m Real = Unit {0}
KindNames m (NamedKind n) = n.0 < m

kind_stays : (names more : List (List ℕ)) (k : DeclKind) → KindNames (length names) k → kind_of (names ++ more) k ≡ kind_of names k
kind_stays names more Int h = refl
kind_stays names more Real h = refl
kind_stays names more (NamedKind n) h = ap (λ b. other_kind b) (name_stays names more n h)

abbrev pub DeclNames : ℕ → Decl → Type 0
DeclNames m d = (d.name.0 < m) × KindNames m d.kind

pub decls_stay : (names more : List (List ℕ)) (decls : List Decl) (places : List DeclAt) → Each (λ k d. DeclNames (length names) d) decls → decls_of (names ++ more) decls places ≡ decls_of names decls places
decls_stay names more [] places h = refl
decls_stay names more (d ∷ decls) [] h = refl
decls_stay names more (d ∷ decls) (at ∷ places) h =
    let first = each_head (λ k x. DeclNames (length names) x) d decls h in
    ap (λ b. record { name = record { name = b; at = at.name }; kind = kind_of (names ++ more) d.kind; kind_at = at.kind } ∷ decls_of (names ++ more) decls places) (name_stays names more d.name first.0)
    ∙ (ap (λ k. record { name = record { name = name_of names d.name; at = at.name }; kind = k; kind_at = at.kind } ∷ decls_of (names ++ more) decls places) (kind_stays names more d.kind first.1)
    ∙ ap (λ x. declared_of names d at ∷ x) (decls_stay names more decls places (each_tail (λ k x. DeclNames (length names) x) d decls h)))

-- what a statement stands on, in longer lists
pub record GroundGrows (g g' : Ground) : Type 0 where
  pub names : (n : NameId) → n.0 < length g.names → name_of g'.names n ≡ name_of g.names n
  pub exprs : (e : ExprId) → e.0 < length g.exprs → expr_at g'.exprs e ≡ expr_at g.exprs e
  pub named : (f c : ℕ) → f + c ≤ length g.named → span_of g'.named f c ≡ span_of g.named f c
  pub blocks : (f c : ℕ) → f + c ≤ length g.blocks → span_of g'.blocks f c ≡ span_of g.blocks f c

abbrev pub SecondIn : ℕ → Option Block → Type 0
SecondIn m None = Unit {0}
SecondIn m (Some b) = b.first + b.count ≤ m

abbrev pub StmtIn : Ground → Stmt → Type 0
StmtIn g Skip = Unit {0}
StmtIn g Halt = Unit {0}
StmtIn g Fail = Unit {0}
StmtIn g (Assume e) = e.0 < length g.exprs
StmtIn g (Assign x e) = (x.0 < length g.names) × (e.0 < length g.exprs)
StmtIn g (Call targets called args) = (targets.first + targets.count ≤ length g.named) × (called.0 < length g.names) × (args.first + args.count ≤ length g.named)
StmtIn g (If e first second) = (e.0 < length g.exprs) × (first.first + first.count ≤ length g.blocks) × SecondIn (length g.blocks) second
StmtIn g (While e body) = (e.0 < length g.exprs) × (body.first + body.count ≤ length g.blocks)

second_stays : (g g' : Ground) (trees : List StmtTree) (b : Option Block) → GroundGrows g g' → SecondIn (length g.blocks) b → second_over g'.blocks trees b ≡ second_over g.blocks trees b
second_stays g g' trees None w h = refl
second_stays g g' trees (Some b) w h = ap (λ l. Some (block_after trees empty l)) (w.blocks b.first b.count h)

stmt_over_stays : (g g' : Ground) (trees : List StmtTree) (s : Stmt) (at : StmtAt) → GroundGrows g g' → StmtIn g s → stmt_over g' trees s at ≡ stmt_over g trees s at
stmt_over_stays g g' trees Skip at w h = refl
stmt_over_stays g g' trees Halt at w h = refl
stmt_over_stays g g' trees Fail at w h = refl
stmt_over_stays g g' trees (Assume e) at w h = ap (λ x. assume x at) (w.exprs e h)
stmt_over_stays g g' trees (Assign x e) at w h = let a = w.names x h.0 in let b = w.exprs e h.1 in cc
stmt_over_stays g g' trees (Call targets called args) at w h = let a = w.named targets.first targets.count h.0 in let b = w.names called h.1 in let c = w.named args.first args.count h.2 in cc
stmt_over_stays g g' trees (If e first second) at w h =
    ap (λ x. if_over x (block_over g'.blocks trees first) (second_over g'.blocks trees second) at) (w.exprs e h.0)
    ∙ (ap (λ l. if_over (expr_at g.exprs e) (block_after trees empty l) (second_over g'.blocks trees second) at) (w.blocks first.first first.count h.1)
    ∙ ap (λ x. if_over (expr_at g.exprs e) (block_over g.blocks trees first) x at) (second_stays g g' trees second w h.2))
stmt_over_stays g g' trees (While e body) at w h =
    ap (λ x. while_do x (block_over g'.blocks trees body) at) (w.exprs e h.0)
    ∙ ap (λ l. while_do (expr_at g.exprs e) (block_after trees empty l) at) (w.blocks body.first body.count h.1)

pub stmts_stay : (g g' : Ground) (trees : List StmtTree) (stmts : List Stmt) (places : List StmtAt) → GroundGrows g g' → Each (λ k s. StmtIn g s) stmts → stmts_after g' trees stmts places ≡ stmts_after g trees stmts places
stmts_stay g g' trees [] places w h = refl
stmts_stay g g' trees (s ∷ stmts) [] w h = refl
stmts_stay g g' trees (s ∷ stmts) (at ∷ places) w h =
    ap (λ x. stmts_after g' (trees ++ x ∷ []) stmts places) (stmt_over_stays g g' trees s at w (each_head (λ k x. StmtIn g x) s stmts h))
    ∙ stmts_stay g g' (trees ++ stmt_over g trees s at ∷ []) stmts places w (each_tail (λ k x. StmtIn g x) s stmts h)

-- a block over more statements
pub block_stays : (trees more' : List StmtTree) (block : BlockTree) (ids : List StmtId) → Each (λ k (s : StmtId). s.0 < length trees) ids → block_after (trees ++ more') block ids ≡ block_after trees block ids
block_stays trees more' block [] h = refl
block_stays trees more' block (s ∷ ids) h =
    ap (λ x. block_after (trees ++ more') (one_more block x) ids) (get_or-append trees more' (skip nowhere) s.0 (each_head (λ k (x : StmtId). x.0 < length trees) s ids h))
    ∙ block_stays trees more' (one_more block (stmt_at trees s)) ids (each_tail (λ k (x : StmtId). x.0 < length trees) s ids h)

-- lengths
pub length-exprs : (names : List (List ℕ)) (trees : List ExprTree) (exprs : List Expr) (places : List ℕ) → length places ≡ length exprs → length (exprs_after names trees exprs places) ≡ length trees + length exprs
length-exprs names trees [] places e = omega arith
length-exprs names trees (x ∷ exprs) [] e = absurd (omega arith)
length-exprs names trees (x ∷ exprs) (at ∷ places) e = omega (arith, length-exprs names (trees ++ expr_over names trees x at ∷ []) exprs places (omega arith), length-append trees (expr_over names trees x at ∷ []))

pub length-stmts : (g : Ground) (trees : List StmtTree) (stmts : List Stmt) (places : List StmtAt) → length places ≡ length stmts → length (stmts_after g trees stmts places) ≡ length trees + length stmts
length-stmts g trees [] places e = omega arith
length-stmts g trees (x ∷ stmts) [] e = absurd (omega arith)
length-stmts g trees (x ∷ stmts) (at ∷ places) e = omega (arith, length-stmts g (trees ++ stmt_over g trees x at ∷ []) stmts places (omega arith), length-append trees (stmt_over g trees x at ∷ []))

pub length-named : (names : List (List ℕ)) (items : List NameId) (places : List ℕ) → length places ≡ length items → length (named_of names items places) ≡ length items
length-named names [] places e = refl
length-named names (n ∷ items) [] e = absurd (omega arith)
length-named names (n ∷ items) (at ∷ places) e = omega (arith, length-named names items places (omega arith))

pub length-decls : (names : List (List ℕ)) (decls : List Decl) (places : List DeclAt) → length places ≡ length decls → length (decls_of names decls places) ≡ length decls
length-decls names [] places e = refl
length-decls names (n ∷ items) [] e = absurd (omega arith)
length-decls names (n ∷ items) (at ∷ places) e = omega (arith, length-decls names items places (omega arith))

-- one more item
pub exprs-push : (names : List (List ℕ)) (trees : List ExprTree) (exprs : List Expr) (places : List ℕ) (e : Expr) (at : ℕ) → length places ≡ length exprs → exprs_after names trees (exprs ++ e ∷ []) (places ++ at ∷ []) ≡ exprs_after names trees exprs places ++ expr_over names (exprs_after names trees exprs places) e at ∷ []
exprs-push names trees [] [] e at h = refl
exprs-push names trees [] (p ∷ places) e at h = absurd (omega arith)
exprs-push names trees (x ∷ exprs) [] e at h = absurd (omega arith)
exprs-push names trees (x ∷ exprs) (p ∷ places) e at h = exprs-push names (trees ++ expr_over names trees x p ∷ []) exprs places e at (omega arith)

pub stmts-push : (g : Ground) (trees : List StmtTree) (stmts : List Stmt) (places : List StmtAt) (s : Stmt) (at : StmtAt) → length places ≡ length stmts → stmts_after g trees (stmts ++ s ∷ []) (places ++ at ∷ []) ≡ stmts_after g trees stmts places ++ stmt_over g (stmts_after g trees stmts places) s at ∷ []
stmts-push g trees [] [] s at h = refl
stmts-push g trees [] (p ∷ places) s at h = absurd (omega arith)
stmts-push g trees (x ∷ stmts) [] s at h = absurd (omega arith)
stmts-push g trees (x ∷ stmts) (p ∷ places) s at h = stmts-push g (trees ++ stmt_over g trees x p ∷ []) stmts places s at (omega arith)

pub named-push : (names : List (List ℕ)) (items : List NameId) (places : List ℕ) (n : NameId) (at : ℕ) → length places ≡ length items → named_of names (items ++ n ∷ []) (places ++ at ∷ []) ≡ named_of names items places ++ record { name = name_of names n; at = at } ∷ []
named-push names [] [] n at h = refl
named-push names [] (p ∷ places) n at h = absurd (omega arith)
named-push names (x ∷ items) [] n at h = absurd (omega arith)
named-push names (x ∷ items) (p ∷ places) n at h = ap (λ l. record { name = name_of names x; at = p } ∷ l) (named-push names items places n at (omega arith))

pub decls-push : (names : List (List ℕ)) (decls : List Decl) (places : List DeclAt) (d : Decl) (at : DeclAt) → length places ≡ length decls → decls_of names (decls ++ d ∷ []) (places ++ at ∷ []) ≡ decls_of names decls places ++ declared_of names d at ∷ []
decls-push names [] [] n at h = refl
decls-push names [] (p ∷ places) n at h = absurd (omega arith)
decls-push names (x ∷ items) [] n at h = absurd (omega arith)
decls-push names (x ∷ items) (p ∷ places) n at h = ap (λ l. declared_of names x p ∷ l) (decls-push names items places n at (omega arith))

pub procs-push : (names : List (List ℕ)) (ds : List Declared) (bs : List StmtId) (ts : List StmtTree) (procs : List ProcTree) (places : List ProcAt) (p : ProcTree) (at : ProcAt) → length places ≡ length procs → procs_of names ds bs ts (procs ++ p ∷ []) (places ++ at ∷ []) ≡ procs_of names ds bs ts procs places ++ proc_over names ds bs ts p at ∷ []
procs-push names ds bs ts [] [] n at h = refl
procs-push names ds bs ts [] (p ∷ places) n at h = absurd (omega arith)
procs-push names ds bs ts (x ∷ items) [] n at h = absurd (omega arith)
procs-push names ds bs ts (x ∷ items) (p ∷ places) n at h = ap (λ l. proc_over names ds bs ts x p ∷ l) (procs-push names ds bs ts items places n at (omega arith))
