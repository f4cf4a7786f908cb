-- Derivations as the trees that they stand for, and as nothing at all.
use Rattle.std.proofs.Common.{◌≡◌, ℕ, List, Option, Some, None, refl}
use Rattle.spl_parser.specs.Grammar.{Leaf, E0, OptSemicolon, no_semicolon, a_semicolon, Stmts, if_stmt, while_stmt, OptElse, no_else, some_else}
use Rattle.spl_tree.specs.Program.{BlockTree}
use Rattle.spl_parser.specs.TreeOf.{named, kind_tree, kind_start, decl_trees, opt_decl_trees, var_trees, name_trees, opt_name_trees, cmp_op, cmp_place, sum_op, sum_place, product_op, product_place, tree_0, tree_1, tree_2, tree_3, tree_4, tree_5, tree_6, tree_atom, stmt_trees, stmt_tree, proc_trees, tree_of}
use Rattle.spl_parser.specs.Trees.{trees, point_after, conditional_of}
use Rattle.spl_parser.proofs.Algebras.{derivations as D, nothing}
use Rattle.spl_parser.proofs.Morphisms.{Morphism}

-- where an optional `;` ends, and the second block with where it begins
abbrev pub semi_place : OptSemicolon → Option ℕ
semi_place no_semicolon = None
semi_place (a_semicolon l) = Some l.end

abbrev pub tail_tree : List ℕ → OptElse → Option (ℕ × BlockTree)
tail_tree source no_else = None
tail_tree source (some_else l ss) = Some (l.end, stmt_trees source ss)

pub conditional-is : (source : List ℕ) (w : Leaf) (e : E0) (t : Leaf) (ss : Stmts) (els : OptElse) (f : Leaf) (s : OptSemicolon) → stmt_tree source (if_stmt w e t ss els f s) ≡ conditional_of w.start (tree_0 source e) t.end (stmt_trees source ss) (tail_tree source els) (point_after f.end (semi_place s))
conditional-is source w e t ss no_else f no_semicolon = refl
conditional-is source w e t ss no_else f (a_semicolon l) = refl
conditional-is source w e t ss (some_else l es) f no_semicolon = refl
conditional-is source w e t ss (some_else l es) f (a_semicolon q) = refl

pub loop-is : (source : List ℕ) (w : Leaf) (e : E0) (d : Leaf) (ss : Stmts) (f : Leaf) (s : OptSemicolon) → stmt_tree source (while_stmt w e d ss f s) ≡ (trees source).loop w.start (tree_0 source e) d.end (stmt_trees source ss) f.end (semi_place s)
loop-is source w e d ss f no_semicolon = refl
loop-is source w e d ss f (a_semicolon l) = refl

-- a derivation as its tree
abbrev pub sees : (source : List ℕ) → Morphism D (trees source)
sees source = record {
  on_place = λ l. l;
  on_word = λ l. named source l;
  on_start = λ (l : Leaf). l.start;
  on_stop = λ (l : Leaf). l.end;
  on_gone = λ _. tt;
  on_kind = λ t. (kind_tree source t, kind_start t);
  on_decls = decl_trees source;
  on_optdecls = opt_decl_trees source;
  on_vars = var_trees source;
  on_names = name_trees source;
  on_optnames = opt_name_trees source;
  on_cmpsign = λ c. (cmp_op c, cmp_place c);
  on_sumsign = λ c. (sum_op c, sum_place c);
  on_productsign = λ c. (product_op c, product_place c);
  on_e0 = tree_0 source;
  on_e1 = tree_1 source;
  on_e2 = tree_2 source;
  on_e3 = tree_3 source;
  on_e4 = tree_4 source;
  on_e5 = tree_5 source;
  on_e6 = tree_6 source;
  on_atom = tree_atom source;
  on_semi = semi_place;
  on_stmts = stmt_trees source;
  on_stmt = stmt_tree source;
  on_tail = tail_tree source;
  on_procs = proc_trees source;
  on_result = tree_of source;
  place = λ _. refl;
  word = λ _. refl;
  start = λ _. refl;
  stop = λ _. refl;
  gone = λ _. refl;
  int = λ _. refl;
  real = λ _. refl;
  other = λ _. refl;
  decls_one = λ _ _ _. refl;
  decls_more = λ _ _ _ _ _. refl;
  no_decls = refl;
  some_decls = λ _. refl;
  no_vars = refl;
  some_vars = λ _ _ _. refl;
  names_one = λ _. refl;
  names_more = λ _ _ _. refl;
  no_names = refl;
  some_names = λ _. refl;
  equal = λ _. refl;
  not_equal = λ _. refl;
  less = λ _. refl;
  less_equal = λ _. refl;
  greater = λ _. refl;
  greater_equal = λ _. refl;
  plus = λ _. refl;
  minus = λ _. refl;
  star = λ _. refl;
  slash = λ _. refl;
  percent = λ _. refl;
  only_1 = λ _. refl;
  either = λ _ _ _. refl;
  only_2 = λ _. refl;
  both = λ _ _ _. refl;
  only_3 = λ _. refl;
  opposite = λ _ _. refl;
  only_4 = λ _. refl;
  compared = λ _ _ _. refl;
  only_5 = λ _. refl;
  sum = λ _ _ _. refl;
  only_6 = λ _. refl;
  product = λ _ _ _. refl;
  only_atom = λ _. refl;
  negative = λ _ _. refl;
  number = λ _ _. refl;
  variable = λ _. refl;
  true_value = λ _. refl;
  false_value = λ _. refl;
  random = λ _. refl;
  brandom = λ _. refl;
  in_parens = λ _ _ _. refl;
  no_semi = refl;
  a_semi = λ _. refl;
  no_stmts = refl;
  more_stmts = λ _ _. refl;
  skip = λ _ _. refl;
  halt = λ _ _. refl;
  fail = λ _ _. refl;
  assume = λ _ _ _. refl;
  assign = λ _ _ _ _. refl;
  call = λ _ _ _ _ _ _ _. refl;
  calls = λ _ _ _ _ _ _ _ _ _. refl;
  conditional = conditional-is source;
  loop = loop-is source;
  no_else = refl;
  some_else = λ _ _. refl;
  no_procs = refl;
  more_procs = λ _ _ _ _ _ _ _ _ _ _ _ _ _ _. refl;
  program = λ _ _ _ _ _. refl;
}

-- a derivation as nothing
abbrev pub forgets : Morphism D nothing
forgets = record {
  on_place = λ _. tt;
  on_word = λ _. tt;
  on_start = λ _. tt;
  on_stop = λ _. tt;
  on_gone = λ _. tt;
  on_kind = λ _. tt;
  on_decls = λ _. tt;
  on_optdecls = λ _. tt;
  on_vars = λ _. tt;
  on_names = λ _. tt;
  on_optnames = λ _. tt;
  on_cmpsign = λ _. tt;
  on_sumsign = λ _. tt;
  on_productsign = λ _. tt;
  on_e0 = λ _. tt;
  on_e1 = λ _. tt;
  on_e2 = λ _. tt;
  on_e3 = λ _. tt;
  on_e4 = λ _. tt;
  on_e5 = λ _. tt;
  on_e6 = λ _. tt;
  on_atom = λ _. tt;
  on_semi = λ _. tt;
  on_stmts = λ _. tt;
  on_stmt = λ _. tt;
  on_tail = λ _. tt;
  on_procs = λ _. tt;
  on_result = λ _. tt;
  place = λ _. refl;
  word = λ _. refl;
  start = λ _. refl;
  stop = λ _. refl;
  gone = λ _. refl;
  int = λ _. refl;
  real = λ _. refl;
  other = λ _. refl;
  decls_one = λ _ _ _. refl;
  decls_more = λ _ _ _ _ _. refl;
  no_decls = refl;
  some_decls = λ _. refl;
  no_vars = refl;
  some_vars = λ _ _ _. refl;
  names_one = λ _. refl;
  names_more = λ _ _ _. refl;
  no_names = refl;
  some_names = λ _. refl;
  equal = λ _. refl;
  not_equal = λ _. refl;
  less = λ _. refl;
  less_equal = λ _. refl;
  greater = λ _. refl;
  greater_equal = λ _. refl;
  plus = λ _. refl;
  minus = λ _. refl;
  star = λ _. refl;
  slash = λ _. refl;
  percent = λ _. refl;
  only_1 = λ _. refl;
  either = λ _ _ _. refl;
  only_2 = λ _. refl;
  both = λ _ _ _. refl;
  only_3 = λ _. refl;
  opposite = λ _ _. refl;
  only_4 = λ _. refl;
  compared = λ _ _ _. refl;
  only_5 = λ _. refl;
  sum = λ _ _ _. refl;
  only_6 = λ _. refl;
  product = λ _ _ _. refl;
  only_atom = λ _. refl;
  negative = λ _ _. refl;
  number = λ _ _. refl;
  variable = λ _. refl;
  true_value = λ _. refl;
  false_value = λ _. refl;
  random = λ _. refl;
  brandom = λ _. refl;
  in_parens = λ _ _ _. refl;
  no_semi = refl;
  a_semi = λ _. refl;
  no_stmts = refl;
  more_stmts = λ _ _. refl;
  skip = λ _ _. refl;
  halt = λ _ _. refl;
  fail = λ _ _. refl;
  assume = λ _ _ _. refl;
  assign = λ _ _ _ _. refl;
  call = λ _ _ _ _ _ _ _. refl;
  calls = λ _ _ _ _ _ _ _ _ _. refl;
  conditional = λ _ _ _ _ _ _ _. refl;
  loop = λ _ _ _ _ _ _. refl;
  no_else = refl;
  some_else = λ _ _. refl;
  no_procs = refl;
  more_procs = λ _ _ _ _ _ _ _ _ _ _ _ _ _ _. refl;
  program = λ _ _ _ _ _. refl;
}
