-- The program that the numbers of a tree stand for.
use Rattle.std.specs.Prelude.{ℕ, List, [], ◌∷◌, ◌++◌, map, take, drop, slice_index_or, Option, Some, None}
use Rattle.spl_tree.specs.declared.parts.NameId.{NameId}
use Rattle.spl_tree.specs.declared.parts.StmtId.{StmtId}
use Rattle.spl_tree.specs.declared.parts.ExprId.{ExprId}
use Rattle.spl_tree.specs.declared.parts.NameSpan.{NameSpan}
use Rattle.spl_tree.specs.declared.parts.NameList.{NameList}
use Rattle.spl_tree.specs.declared.parts.Block.{Block}
use Rattle.spl_tree.specs.declared.parts.DeclList.{DeclList}
use Rattle.spl_tree.specs.declared.parts.Decl.{Decl}
use Rattle.spl_tree.specs.declared.parts.DeclAt.{DeclAt}
use Rattle.spl_tree.specs.declared.parts.DeclKind.{DeclKind}
use Rattle.spl_tree.specs.declared.parts.DeclKind.TheVariants.{Int, Real, Named as NamedKind}
use Rattle.spl_tree.specs.declared.parts.ProcTree.{ProcTree}
use Rattle.spl_tree.specs.declared.parts.ProcAt.{ProcAt}
use Rattle.spl_tree.specs.declared.parts.Expr.{Expr}
use Rattle.spl_tree.specs.declared.parts.Expr.TheVariants.{Number, Variable, True, False, Random, Neg, Not, Binary}
use Rattle.spl_tree.specs.declared.parts.Stmt.{Stmt}
use Rattle.spl_tree.specs.declared.parts.Stmt.TheVariants.{Skip, Halt, Fail, Assume, Assign, Call, If, While}
use Rattle.spl_tree.specs.declared.parts.StmtAt.{StmtAt}
use Rattle.spl_tree.specs.Lists.{Lists}
use Rattle.spl_tree.specs.Program.{Named, Kind, int_kind, real_kind, other_kind, Declared, ExprTree, number, variable, true_value, false_value, random_value, negative, opposite, binary, StmtTree, skip, halt, fail, assume, assign, call, if_then, if_else, while_do, BlockTree, empty, more, ProcMeaning, Program, nowhere}

-- the items of a span
abbrev pub span_of : {X : Type 0} → List X → ℕ → ℕ → List X
span_of xs first count = take count (drop first xs)

-- the bytes of each name
abbrev pub bytes_of : List ℕ → List NameSpan → List (List ℕ)
bytes_of letters names = map (λ (s : NameSpan). span_of letters s.first s.count) names

-- the bytes of the name with this number
abbrev pub name_of : List (List ℕ) → NameId → List ℕ
name_of names n = slice_index_or names n.0 []

-- a name in a statement, in its place; the names of statements
abbrev pub named_of : List (List ℕ) → List NameId → List ℕ → List Named
named_of names [] places = []
named_of names (n ∷ items) [] = []
named_of names (n ∷ items) (at ∷ places) = record { name = name_of names n; at = at } ∷ named_of names items places

-- the type of a declaration, a declaration in its place, the declarations
abbrev pub kind_of : List (List ℕ) → DeclKind → Kind
kind_of names Int = int_kind
kind_of names Real = real_kind
kind_of names (NamedKind n) = other_kind (name_of names n)

abbrev pub declared_of : List (List ℕ) → Decl → DeclAt → Declared
declared_of names d at = record { name = record { name = name_of names d.name; at = at.name }; kind = kind_of names d.kind; kind_at = at.kind }

abbrev pub decls_of : List (List ℕ) → List Decl → List DeclAt → List Declared
decls_of names [] places = []
decls_of names (d ∷ decls) [] = []
decls_of names (d ∷ decls) (at ∷ places) = declared_of names d at ∷ decls_of names decls places

-- the tree with this number
abbrev pub expr_at : List ExprTree → ExprId → ExprTree
expr_at trees e = slice_index_or trees e.0 (number 0 0)

-- an expression over the trees before it
abbrev pub expr_over : List (List ℕ) → List ExprTree → Expr → ℕ → ExprTree
expr_over names trees (Number n) at = number n at
expr_over names trees (Variable n) at = variable (name_of names n) at
expr_over names trees True at = true_value at
expr_over names trees False at = false_value at
expr_over names trees Random at = random_value at
expr_over names trees (Neg a) at = negative (expr_at trees a) at
expr_over names trees (Not a) at = opposite (expr_at trees a) at
expr_over names trees (Binary op a b) at = binary op (expr_at trees a) (expr_at trees b) at

-- the trees of expressions, after those that are there
abbrev pub exprs_after : List (List ℕ) → List ExprTree → List Expr → List ℕ → List ExprTree
exprs_after names trees [] places = trees
exprs_after names trees (e ∷ exprs) [] = trees
exprs_after names trees (e ∷ exprs) (at ∷ places) = exprs_after names (trees ++ expr_over names trees e at ∷ []) exprs places

-- what statements stand on: the bytes of names, the trees of expressions, names in statements, statements in blocks
pub record Ground : Type 0 where
  pub names : List (List ℕ)
  pub exprs : List ExprTree
  pub named : List Named
  pub blocks : List StmtId

-- the statement with this number
abbrev pub stmt_at : List StmtTree → StmtId → StmtTree
stmt_at trees s = slice_index_or trees s.0 (skip nowhere)

-- these statements, one after the other
abbrev pub block_after : List StmtTree → BlockTree → List StmtId → BlockTree
block_after trees block [] = block
block_after trees block (s ∷ ids) = block_after trees (more block (stmt_at trees s)) ids

-- the statements of a block
abbrev pub block_over : List StmtId → List StmtTree → Block → BlockTree
block_over blocks trees b = block_after trees empty (span_of blocks b.first b.count)

-- the names of a list in a call
abbrev pub names_over : List Named → NameList → List Named
names_over named s = span_of named s.first s.count

-- a conditional, with or without its second block
abbrev pub if_over : ExprTree → BlockTree → Option BlockTree → StmtAt → StmtTree
if_over e first None at = if_then e first at
if_over e first (Some second) at = if_else e first second at

abbrev pub second_over : List StmtId → List StmtTree → Option Block → Option BlockTree
second_over blocks trees None = None
second_over blocks trees (Some b) = Some (block_over blocks trees b)

-- a statement over the trees before it
abbrev pub stmt_over : Ground → List StmtTree → Stmt → StmtAt → StmtTree
stmt_over g trees Skip at = skip at
stmt_over g trees Halt at = halt at
stmt_over g trees Fail at = fail at
stmt_over g trees (Assume e) at = assume (expr_at g.exprs e) at
stmt_over g trees (Assign x e) at = assign (name_of g.names x) (expr_at g.exprs e) at
stmt_over g trees (Call targets called args) at = call (names_over g.named targets) (name_of g.names called) (names_over g.named args) at
stmt_over g trees (If e first second) at = if_over (expr_at g.exprs e) (block_over g.blocks trees first) (second_over g.blocks trees second) at
stmt_over g trees (While e body) at = while_do (expr_at g.exprs e) (block_over g.blocks trees body) at

-- the trees of statements, after those that are there
abbrev pub stmts_after : Ground → List StmtTree → List Stmt → List StmtAt → List StmtTree
stmts_after g trees [] places = trees
stmts_after g trees (s ∷ stmts) [] = trees
stmts_after g trees (s ∷ stmts) (at ∷ places) = stmts_after g (trees ++ stmt_over g trees s at ∷ []) stmts places

-- what the parts of a tree stand for, list by list
abbrev pub names_in : Lists → List (List ℕ)
names_in t = bytes_of t.letters t.names

abbrev pub exprs_in : Lists → List ExprTree
exprs_in t = exprs_after (names_in t) [] t.exprs t.expr_places

abbrev pub named_in : Lists → List Named
named_in t = named_of (names_in t) t.name_items t.name_item_places

abbrev pub decls_in : Lists → List Declared
decls_in t = decls_of (names_in t) t.decls t.decl_places

abbrev pub ground_in : Lists → Ground
ground_in t = record { names = names_in t; exprs = exprs_in t; named = named_in t; blocks = t.stmt_items }

abbrev pub stmts_in : Lists → List StmtTree
stmts_in t = stmts_after (ground_in t) [] t.stmts t.stmt_places

-- the declarations of a span
abbrev pub decls_over : List Declared → DeclList → List Declared
decls_over decls s = span_of decls s.first s.count

-- a procedure over the lists
abbrev pub proc_over : List (List ℕ) → List Declared → List StmtId → List StmtTree → ProcTree → ProcAt → ProcMeaning
proc_over names decls blocks trees p at = record {
  name = record { name = name_of names p.name; at = at.name };
  inputs = decls_over decls p.inputs;
  outputs = decls_over decls p.outputs;
  locals = decls_over decls p.locals;
  begin = at.begin;
  body = block_over blocks trees p.body;
}

abbrev pub procs_of : List (List ℕ) → List Declared → List StmtId → List StmtTree → List ProcTree → List ProcAt → List ProcMeaning
procs_of names decls blocks trees [] places = []
procs_of names decls blocks trees (p ∷ procs) [] = []
procs_of names decls blocks trees (p ∷ procs) (at ∷ places) = proc_over names decls blocks trees p at ∷ procs_of names decls blocks trees procs places

-- the program that a tree stands for
unfoldable pub program_of : Lists → Program
program_of t = record {
  procs = procs_of (names_in t) (decls_in t) t.stmt_items (stmts_in t) t.procs t.proc_places;
  locals = decls_over (decls_in t) t.main.locals;
  begin = t.main_begin;
  body = block_over t.stmt_items (stmts_in t) t.main.body;
}
