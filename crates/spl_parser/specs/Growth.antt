-- What the parts of a tree stand for while they grow, list by list, and what may be added to them.
use Rattle.std.specs.Prelude.{◌≡◌, ℕ, ◌+◌, ◌^◌, ◌<◌, ◌≤◌, List, length, Option, Some, None}
use Rattle.spl_tree.specs.declared.parts.NameId.{NameId}
use Rattle.spl_tree.specs.declared.parts.StmtId.{StmtId}
use Rattle.spl_tree.specs.declared.parts.NameList.{NameList}
use Rattle.spl_tree.specs.declared.parts.DeclList.{DeclList}
use Rattle.spl_tree.specs.declared.parts.Block.{Block}
use Rattle.spl_tree.specs.declared.parts.Decl.{Decl}
use Rattle.spl_tree.specs.declared.parts.DeclKind.{DeclKind}
use Rattle.spl_tree.specs.declared.parts.DeclKind.TheVariants.{Int, Real, Named as NamedKind}
use Rattle.spl_tree.specs.declared.parts.ProcTree.{ProcTree}
use Rattle.spl_tree.specs.declared.parts.Expr.{Expr}
use Rattle.spl_tree.specs.declared.parts.Expr.TheVariants.{Number, Variable, True, False, Random, Neg, Not, Binary}
use Rattle.spl_tree.specs.declared.parts.Stmt.{Stmt}
use Rattle.spl_tree.specs.declared.parts.Stmt.TheVariants.{Skip, Halt, Fail, Assume, Assign, Call, If, While}
use Rattle.spl_tree.specs.Lists.{Lists}
use Rattle.spl_tree.specs.Facts.{Each, IsTree}
use Rattle.spl_tree.specs.Program.{Named, Declared, ExprTree, StmtTree, ProcMeaning}
use Rattle.spl_tree.specs.Meaning.{span_of, Ground, names_in, exprs_in, named_in, decls_in, stmts_in, procs_of}

-- the number of letters, and the meaning of each list
pub record Grown : Type 0 where
  pub letters : ℕ
  pub names : List (List ℕ)
  pub exprs : List ExprTree
  pub named : List Named
  pub decls : List Declared
  pub blocks : List StmtId
  pub stmts : List StmtTree
  pub procs : List ProcMeaning

-- what the lists stand for
unfoldable pub grown : Lists → Grown
grown t = record {
  letters = length t.letters;
  names = names_in t;
  exprs = exprs_in t;
  named = named_in t;
  decls = decls_in t;
  blocks = t.stmt_items;
  stmts = stmts_in t;
  procs = procs_of (names_in t) (decls_in t) t.stmt_items (stmts_in t) t.procs t.proc_places;
}

-- what statements stand on
abbrev pub ground_of : Grown → Ground
ground_of r = record { names = r.names; exprs = r.exprs; named = r.named; blocks = r.blocks }

-- statements that there are
abbrev pub IdsIn : ℕ → List StmtId → Type 0
IdsIn m ids = Each (λ k (s : StmtId). s.0 < m) ids

-- a block of statements that there are
pub record BlockIn (r : Grown) (b : Block) : Type 0 where
  pub span : b.first + b.count ≤ length r.blocks
  pub ids : IdsIn (length r.stmts) (span_of r.blocks b.first b.count)

abbrev pub NamesIn : Grown → NameList → Type 0
NamesIn r s = s.first + s.count ≤ length r.named

abbrev pub DeclsIn : Grown → DeclList → Type 0
DeclsIn r s = s.first + s.count ≤ length r.decls

abbrev pub NameIn : Grown → NameId → Type 0
NameIn r n = n.0 < length r.names

abbrev pub SecondIn : Grown → Option Block → Type 0
SecondIn r None = Unit {0}
SecondIn r (Some b) = BlockIn r b

-- what an expression, a declaration, a statement and a procedure name is there
abbrev pub ExprIn : Grown → Expr → Type 0
ExprIn r (Number n) = n ≤ 2 ^ 61
ExprIn r (Variable n) = NameIn r n
ExprIn r True = Unit {0}
ExprIn r False = Unit {0}
ExprIn r Random = Unit {0}
ExprIn r (Neg a) = a.0 < length r.exprs
ExprIn r (Not a) = a.0 < length r.exprs
ExprIn r (Binary op a b) = (a.0 < length r.exprs) × (b.0 < length r.exprs)

abbrev pub KindIn : Grown → DeclKind → Type 0
KindIn r Int = Unit {0}
KindIn r Real = Unit {0}
KindIn r (NamedKind n) = NameIn r n

abbrev pub DeclIn : Grown → Decl → Type 0
DeclIn r d = NameIn r d.name × KindIn r d.kind

abbrev pub StmtIn : Grown → Stmt → Type 0
StmtIn r Skip = Unit {0}
StmtIn r Halt = Unit {0}
StmtIn r Fail = Unit {0}
StmtIn r (Assume e) = e.0 < length r.exprs
StmtIn r (Assign x e) = NameIn r x × (e.0 < length r.exprs)
StmtIn r (Call targets called args) = NamesIn r targets × NameIn r called × NamesIn r args
StmtIn r (If e first second) = (e.0 < length r.exprs) × BlockIn r first × SecondIn r second
StmtIn r (While e body) = (e.0 < length r.exprs) × BlockIn r body

pub record ProcIn (r : Grown) (p : ProcTree) : Type 0 where
  pub name : NameIn r p.name
  pub inputs : DeclsIn r p.inputs
  pub outputs : DeclsIn r p.outputs
  pub locals : DeclsIn r p.locals
  pub body : BlockIn r p.body

-- the parts are those of a tree, and stand for this
pub record Grew (t : Lists) (r : Grown) : Type 0 where
  pub tree : IsTree t
  pub meaning : grown t ≡ r
