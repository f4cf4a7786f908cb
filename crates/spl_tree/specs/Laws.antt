-- What each number of a tree stands for, by its own node: the case of the node over what its children stand for.
use Rattle.std.specs.Prelude.{◌≡◌, ℕ, ◌<◌, List, [], length, slice_index_or}
use Rattle.spl_tree.specs.declared.parts.NameSpan.{NameSpan}
use Rattle.spl_tree.specs.declared.parts.NameId.{NameId}
use Rattle.spl_tree.specs.declared.parts.Decl.{Decl}
use Rattle.spl_tree.specs.declared.parts.DeclAt.{DeclAt}
use Rattle.spl_tree.specs.declared.parts.Expr.{Expr}
use Rattle.spl_tree.specs.declared.parts.Stmt.{Stmt}
use Rattle.spl_tree.specs.declared.parts.StmtAt.{StmtAt}
use Rattle.spl_tree.specs.declared.parts.ProcTree.{ProcTree}
use Rattle.spl_tree.specs.declared.parts.ProcAt.{ProcAt}
use Rattle.spl_tree.specs.Lists.{Lists}
use Rattle.spl_tree.specs.Facts.{IsTree}
use Rattle.spl_tree.specs.Program.{Named, Declared, number, skip, ProcMeaning, nowhere}
use Rattle.spl_tree.specs.Meaning.{span_of, name_of, declared_of, expr_over, stmt_over, proc_over, procs_of, names_in, exprs_in, named_in, decls_in, ground_in, stmts_in}

-- the procedures of a tree
abbrev pub procs_in : Lists → List ProcMeaning
procs_in t = procs_of (names_in t) (decls_in t) t.stmt_items (stmts_in t) t.procs t.proc_places

-- there is as much of each as there are numbers
pub record HasAsMany (t : Lists) : Type 0 where
  pub names : length (names_in t) ≡ length t.names
  pub exprs : length (exprs_in t) ≡ length t.exprs
  pub named : length (named_in t) ≡ length t.name_items
  pub decls : length (decls_in t) ≡ length t.decls
  pub stmts : length (stmts_in t) ≡ length t.stmts
  pub procs : length (procs_in t) ≡ length t.procs

-- each number stands for what its node is; the letters `d` and `at` are what a list has past its end
pub record StandsFor (t : Lists) : Type 0 where
  pub name : (n : ℕ) (d : NameSpan) → n < length t.names
      → slice_index_or (names_in t) n [] ≡ span_of t.letters (slice_index_or t.names n d).first (slice_index_or t.names n d).count
  pub expr : (e : ℕ) (d : Expr) (at : ℕ) → e < length t.exprs
      → slice_index_or (exprs_in t) e (number 0 0) ≡ expr_over (names_in t) (exprs_in t) (slice_index_or t.exprs e d) (slice_index_or t.expr_places e at)
  pub named : (k : ℕ) (x : Named) (d : NameId) (at : ℕ) → k < length t.name_items
      → slice_index_or (named_in t) k x ≡ record { name = name_of (names_in t) (slice_index_or t.name_items k d); at = slice_index_or t.name_item_places k at }
  pub decl : (k : ℕ) (x : Declared) (d : Decl) (at : DeclAt) → k < length t.decls
      → slice_index_or (decls_in t) k x ≡ declared_of (names_in t) (slice_index_or t.decls k d) (slice_index_or t.decl_places k at)
  pub stmt : (s : ℕ) (d : Stmt) (at : StmtAt) → s < length t.stmts
      → slice_index_or (stmts_in t) s (skip nowhere) ≡ stmt_over (ground_in t) (stmts_in t) (slice_index_or t.stmts s d) (slice_index_or t.stmt_places s at)
  pub proc : (p : ℕ) (x : ProcMeaning) (d : ProcTree) (at : ProcAt) → p < length t.procs
      → slice_index_or (procs_in t) p x ≡ proc_over (names_in t) (decls_in t) t.stmt_items (stmts_in t) (slice_index_or t.procs p d) (slice_index_or t.proc_places p at)

-- in the parts of a tree the numbers stand for their nodes
abbrev pub NumbersStandForNodes : Type 0
NumbersStandForNodes = (t : Lists) → IsTree t → HasAsMany t × StandsFor t
