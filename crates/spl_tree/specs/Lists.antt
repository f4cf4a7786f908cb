-- A tree as contracts see it: the parts with their lists.
use Rattle.std.specs.Prelude.{ℕ, List}
use Rattle.spl_tree.specs.declared.parts.NameId.{NameId}
use Rattle.spl_tree.specs.declared.parts.StmtId.{StmtId}
use Rattle.spl_tree.specs.declared.parts.NameSpan.{NameSpan}
use Rattle.spl_tree.specs.declared.parts.Decl.{Decl}
use Rattle.spl_tree.specs.declared.parts.DeclAt.{DeclAt}
use Rattle.spl_tree.specs.declared.parts.ProcTree.{ProcTree}
use Rattle.spl_tree.specs.declared.parts.ProcAt.{ProcAt}
use Rattle.spl_tree.specs.declared.parts.Expr.{Expr}
use Rattle.spl_tree.specs.declared.parts.Stmt.{Stmt}
use Rattle.spl_tree.specs.declared.parts.StmtAt.{StmtAt}
use Rattle.spl_tree.specs.declared.parts.MainTree.{MainTree}
use Rattle.spl_tree.specs.declared.parts.TreeParts.{TreeParts}

-- the parts of a tree, each list as a list
pub record Lists : Type 0 where
  pub letters : List ℕ
  pub names : List NameSpan
  pub decls : List Decl
  pub decl_places : List DeclAt
  pub procs : List ProcTree
  pub proc_places : List ProcAt
  pub exprs : List Expr
  pub expr_places : List ℕ
  pub stmts : List Stmt
  pub stmt_places : List StmtAt
  pub name_items : List NameId
  pub name_item_places : List ℕ
  pub stmt_items : List StmtId
  pub main : MainTree
  pub main_begin : ℕ

-- the lists of the parts
abbrev pub lists_of : TreeParts → Lists
lists_of p = record {
  letters = p.letters.items;
  names = p.names.items;
  decls = p.decls.items;
  decl_places = p.decl_places.items;
  procs = p.procs.items;
  proc_places = p.proc_places.items;
  exprs = p.exprs.items;
  expr_places = p.expr_places.items;
  stmts = p.stmts.items;
  stmt_places = p.stmt_places.items;
  name_items = p.name_items.items;
  name_item_places = p.name_item_places.items;
  stmt_items = p.stmt_items.items;
  main = p.main;
  main_begin = p.main_begin;
}
