-- What the parts of a tree keep: numbers in range, children before parents, literals, sizes and places within limits.
use Rattle.std.specs.Prelude.{◌≡◌, ℕ, ◌+◌, ◌^◌, ◌<◌, ◌≤◌, List, length, slice_index_or, Option, Some, None}
use Rattle.spl_tree.specs.declared.parts.NameId.{NameId}
use Rattle.spl_tree.specs.declared.parts.StmtId.{StmtId}
use Rattle.spl_tree.specs.declared.parts.NameList.{NameList}
use Rattle.spl_tree.specs.declared.parts.Block.{Block}
use Rattle.spl_tree.specs.declared.parts.DeclList.{DeclList}
use Rattle.spl_tree.specs.declared.parts.Decl.{Decl}
use Rattle.spl_tree.specs.declared.parts.DeclAt.{DeclAt}
use Rattle.spl_tree.specs.declared.parts.DeclKind.{DeclKind}
use Rattle.spl_tree.specs.declared.parts.DeclKind.TheVariants.{Int, Real, Named}
use Rattle.spl_tree.specs.declared.parts.ProcTree.{ProcTree}
use Rattle.spl_tree.specs.declared.parts.ProcAt.{ProcAt}
use Rattle.spl_tree.specs.declared.parts.Expr.{Expr}
use Rattle.spl_tree.specs.declared.parts.Expr.TheVariants.{Number, Variable, True, False, Random, Neg, Not, Binary}
use Rattle.spl_tree.specs.declared.parts.Stmt.{Stmt}
use Rattle.spl_tree.specs.declared.parts.Stmt.TheVariants.{Skip, Halt, Fail, Assume, Assign, Call, If, While}
use Rattle.spl_tree.specs.declared.parts.StmtAt.{StmtAt}
use Rattle.spl_tree.specs.Lists.{Lists}

-- a fact of each item of a list and its number
abbrev pub Each : {X : Type 0} → (ℕ → X → Type 0) → List X → Type 0
Each {X} P xs = (k : ℕ) (d : X) → k < length xs → P k (slice_index_or xs k d)

-- a list of at most 2^20 items
abbrev pub IsFew : {X : Type 0} → List X → Type 0
IsFew xs = length xs ≤ 2 ^ 20

-- an offset of at most 2^20
abbrev pub IsPlace : ℕ → Type 0
IsPlace at = at ≤ 2 ^ 20

-- a name's number in range
abbrev pub HasName : Lists → NameId → Type 0
HasName t n = n.0 < length t.names

-- a span of names in statements, in range
abbrev pub HasNames : Lists → NameList → Type 0
HasNames t s = s.first + s.count ≤ length t.name_items

-- a span of declarations in range
abbrev pub HasDecls : Lists → DeclList → Type 0
HasDecls t s = s.first + s.count ≤ length t.decls

-- a span of statements in blocks, in range, each of whose statements has a number below k
pub record HasBlock (t : Lists) (k : ℕ) (b : Block) : Type 0 where
  pub span : b.first + b.count ≤ length t.stmt_items
  pub before : (i : ℕ) (d : StmtId) → b.first ≤ i → i < b.first + b.count → (slice_index_or t.stmt_items i d).0 < k

-- an optional block, where there is one
abbrev pub HasSecond : Lists → ℕ → Option Block → Type 0
HasSecond t k None = Unit {0}
HasSecond t k (Some b) = HasBlock t k b

-- the type in a declaration, its name in range
abbrev pub HasKind : Lists → DeclKind → Type 0
HasKind t Int = Unit {0}
HasKind t Real = Unit {0}
HasKind t (Named n) = HasName t n

-- the numbers of a declaration in range
abbrev pub DeclFits : Lists → Decl → Type 0
DeclFits t d = HasName t d.name × HasKind t d.kind

-- an expression with this number: its children have lower numbers, and its literal is at most 2^61
abbrev pub ExprFits : Lists → ℕ → Expr → Type 0
ExprFits t k (Number n) = n ≤ 2 ^ 61
ExprFits t k (Variable n) = HasName t n
ExprFits t k True = Unit {0}
ExprFits t k False = Unit {0}
ExprFits t k Random = Unit {0}
ExprFits t k (Neg a) = a.0 < k
ExprFits t k (Not a) = a.0 < k
ExprFits t k (Binary op a b) = (a.0 < k) × (b.0 < k)

-- a statement with this number: its numbers are in range, and the statements of its blocks have lower numbers
abbrev pub StmtFits : Lists → ℕ → Stmt → Type 0
StmtFits t k Skip = Unit {0}
StmtFits t k Halt = Unit {0}
StmtFits t k Fail = Unit {0}
StmtFits t k (Assume e) = e.0 < length t.exprs
StmtFits t k (Assign x e) = HasName t x × (e.0 < length t.exprs)
StmtFits t k (Call targets called args) = HasNames t targets × HasName t called × HasNames t args
StmtFits t k (If e first second) = (e.0 < length t.exprs) × HasBlock t k first × HasSecond t k second
StmtFits t k (While e body) = (e.0 < length t.exprs) × HasBlock t k body

-- a procedure's numbers in range
pub record ProcFits (t : Lists) (p : ProcTree) : Type 0 where
  pub name : HasName t p.name
  pub inputs : HasDecls t p.inputs
  pub outputs : HasDecls t p.outputs
  pub locals : HasDecls t p.locals
  pub body : HasBlock t (length t.stmts) p.body

-- the places of a declaration, a procedure and a statement
abbrev pub DeclIsPlaced : DeclAt → Type 0
DeclIsPlaced d = IsPlace d.name × IsPlace d.kind

abbrev pub ProcIsPlaced : ProcAt → Type 0
ProcIsPlaced p = IsPlace p.name × IsPlace p.begin

pub record StmtIsPlaced (s : StmtAt) : Type 0 where
  pub start : IsPlace s.start
  pub called : IsPlace s.called
  pub first_block : IsPlace s.first_block
  pub second_block : IsPlace s.second_block
  pub end : IsPlace s.end

-- no list has more than 2^20 items
pub record AreFew (t : Lists) : Type 0 where
  pub letters : IsFew t.letters
  pub names : IsFew t.names
  pub decls : IsFew t.decls
  pub procs : IsFew t.procs
  pub exprs : IsFew t.exprs
  pub stmts : IsFew t.stmts
  pub name_items : IsFew t.name_items
  pub stmt_items : IsFew t.stmt_items

-- there is a place for each item, and no place is past 2^20
pub record ArePlaced (t : Lists) : Type 0 where
  pub decl_count : length t.decl_places ≡ length t.decls
  pub proc_count : length t.proc_places ≡ length t.procs
  pub expr_count : length t.expr_places ≡ length t.exprs
  pub stmt_count : length t.stmt_places ≡ length t.stmts
  pub name_item_count : length t.name_item_places ≡ length t.name_items
  pub decls : Each (λ k at. DeclIsPlaced at) t.decl_places
  pub procs : Each (λ k at. ProcIsPlaced at) t.proc_places
  pub exprs : Each (λ k at. IsPlace at) t.expr_places
  pub stmts : Each (λ k at. StmtIsPlaced at) t.stmt_places
  pub name_items : Each (λ k at. IsPlace at) t.name_item_places
  pub main : IsPlace t.main_begin

-- every number is in range, and children come before their parents
pub record AreInRange (t : Lists) : Type 0 where
  pub names : Each (λ k s. s.first + s.count ≤ length t.letters) t.names
  pub decls : Each (λ k d. DeclFits t d) t.decls
  pub procs : Each (λ k p. ProcFits t p) t.procs
  pub exprs : Each (ExprFits t) t.exprs
  pub stmts : Each (StmtFits t) t.stmts
  pub name_items : Each (λ k n. HasName t n) t.name_items
  pub stmt_items : Each (λ k (s : StmtId). s.0 < length t.stmts) t.stmt_items
  pub locals : HasDecls t t.main.locals
  pub body : HasBlock t (length t.stmts) t.main.body

-- the parts of a tree
pub record IsTree (t : Lists) : Type 0 where
  pub few : AreFew t
  pub placed : ArePlaced t
  pub in_range : AreInRange t
