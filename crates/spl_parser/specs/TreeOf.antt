-- The program that a derivation stands for, over the bytes of the source, with the offset of each node.
use Rattle.std.specs.Prelude.{ℕ, ◌-◌, List, [], ◌∷◌, ◌++◌}
use Rattle.spl_tree.specs.declared.parts.BinOp.{BinOp}
use Rattle.spl_tree.specs.declared.parts.StmtAt.{StmtAt}
use Rattle.spl_tree.specs.Meaning.{span_of}
use Rattle.spl_tree.specs.Program.{Named, Kind, int_kind, real_kind, other_kind, Declared, ExprTree, number, variable, true_value, false_value, random_value, negative, opposite, binary, StmtTree, skip, halt, fail, assume, assign, call, if_then, if_else, while_do, BlockTree, empty, more, ProcMeaning, Program}
use Rattle.spl_parser.specs.Grammar.{Leaf, TypeWord, int_word, real_word, name_word, Decl, decl, Decls, one_decl, more_decls, OptDecls, no_decls, some_decls, Vars, no_vars, some_vars, Names, one_name, more_names, OptNames, no_names, some_names, Cmp, equal, not_equal, less, less_equal, greater, greater_equal, SumSign, plus, minus, ProductSign, star, slash, percent, E0, only_1, either, E1, only_2, both, E2, only_3, opposite_of, E3, only_4, compared, E4, only_5, sum_of, E5, only_6, product_of, E6, only_atom, negative_of, Atom, number_atom, name_atom, true_atom, false_atom, random_atom, brandom_atom, paren_atom, OptSemicolon, no_semicolon, a_semicolon, Stmts, no_stmts, more_stmts, Stmt, skip_stmt, halt_stmt, fail_stmt, assume_stmt, assign_stmt, call_stmt, calls_stmt, if_stmt, while_stmt, OptElse, no_else, some_else, Proc, proc, Procs, no_procs, more_procs, Derivation, program}

-- a name is the bytes of its token
abbrev pub bytes_at : List ℕ → Leaf → List ℕ
bytes_at source l = span_of source l.start (l.end - l.start)

abbrev pub named : List ℕ → Leaf → Named
named source l = record { name = bytes_at source l; at = l.start }

-- a type, with where it starts
abbrev pub kind_tree : List ℕ → TypeWord → Kind
kind_tree source (int_word l) = int_kind
kind_tree source (real_word l) = real_kind
kind_tree source (name_word l) = other_kind (bytes_at source l)

abbrev pub kind_start : TypeWord → ℕ
kind_start (int_word l) = l.start
kind_start (real_word l) = l.start
kind_start (name_word l) = l.start

abbrev pub decl_tree : List ℕ → Decl → Declared
decl_tree source (decl n c t) = record { name = named source n; kind = kind_tree source t; kind_at = kind_start t }

abbrev pub decl_trees : List ℕ → Decls → List Declared
decl_trees source (one_decl d) = decl_tree source d ∷ []
decl_trees source (more_decls ds c d) = decl_trees source ds ++ decl_tree source d ∷ []

abbrev pub opt_decl_trees : List ℕ → OptDecls → List Declared
opt_decl_trees source no_decls = []
opt_decl_trees source (some_decls ds) = decl_trees source ds

abbrev pub var_trees : List ℕ → Vars → List Declared
var_trees source no_vars = []
var_trees source (some_vars v ds s) = decl_trees source ds

abbrev pub name_trees : List ℕ → Names → List Named
name_trees source (one_name n) = named source n ∷ []
name_trees source (more_names ns c n) = name_trees source ns ++ named source n ∷ []

abbrev pub opt_name_trees : List ℕ → OptNames → List Named
opt_name_trees source no_names = []
opt_name_trees source (some_names ns) = name_trees source ns

-- the operator of a sign, and its place
abbrev pub cmp_op : Cmp → BinOp
cmp_op (equal l) = BinOp.Eq
cmp_op (not_equal l) = BinOp.Ne
cmp_op (less l) = BinOp.Lt
cmp_op (less_equal l) = BinOp.Le
cmp_op (greater l) = BinOp.Gt
cmp_op (greater_equal l) = BinOp.Ge

abbrev pub cmp_place : Cmp → ℕ
cmp_place (equal l) = l.start
cmp_place (not_equal l) = l.start
cmp_place (less l) = l.start
cmp_place (less_equal l) = l.start
cmp_place (greater l) = l.start
cmp_place (greater_equal l) = l.start

abbrev pub sum_op : SumSign → BinOp
sum_op (plus l) = BinOp.Add
sum_op (minus l) = BinOp.Sub

abbrev pub sum_place : SumSign → ℕ
sum_place (plus l) = l.start
sum_place (minus l) = l.start

abbrev pub product_op : ProductSign → BinOp
product_op (star l) = BinOp.Mul
product_op (slash l) = BinOp.Div
product_op (percent l) = BinOp.Rem

abbrev pub product_place : ProductSign → ℕ
product_place (star l) = l.start
product_place (slash l) = l.start
product_place (percent l) = l.start

-- an expression: a binary node has its operator's place, any other its first token's, and parentheses leave no trace
abbrev mutual
  pub tree_0 : List ℕ → E0 → ExprTree
  tree_0 source (only_1 e) = tree_1 source e
  tree_0 source (either a l b) = binary BinOp.Or (tree_0 source a) (tree_1 source b) l.start

  pub tree_1 : List ℕ → E1 → ExprTree
  tree_1 source (only_2 e) = tree_2 source e
  tree_1 source (both a l b) = binary BinOp.And (tree_1 source a) (tree_2 source b) l.start

  pub tree_2 : List ℕ → E2 → ExprTree
  tree_2 source (only_3 e) = tree_3 source e
  tree_2 source (opposite_of l e) = opposite (tree_2 source e) l.start

  pub tree_3 : List ℕ → E3 → ExprTree
  tree_3 source (only_4 e) = tree_4 source e
  tree_3 source (compared a c b) = binary (cmp_op c) (tree_4 source a) (tree_4 source b) (cmp_place c)

  pub tree_4 : List ℕ → E4 → ExprTree
  tree_4 source (only_5 e) = tree_5 source e
  tree_4 source (sum_of a s b) = binary (sum_op s) (tree_4 source a) (tree_5 source b) (sum_place s)

  pub tree_5 : List ℕ → E5 → ExprTree
  tree_5 source (only_6 e) = tree_6 source e
  tree_5 source (product_of a s b) = binary (product_op s) (tree_5 source a) (tree_6 source b) (product_place s)

  pub tree_6 : List ℕ → E6 → ExprTree
  tree_6 source (only_atom a) = tree_atom source a
  tree_6 source (negative_of l e) = negative (tree_6 source e) l.start

  pub tree_atom : List ℕ → Atom → ExprTree
  tree_atom source (number_atom n l) = number n l.start
  tree_atom source (name_atom l) = variable (bytes_at source l) l.start
  tree_atom source (true_atom l) = true_value l.start
  tree_atom source (false_atom l) = false_value l.start
  tree_atom source (random_atom l) = random_value l.start
  tree_atom source (brandom_atom l) = random_value l.start
  tree_atom source (paren_atom o e c) = tree_0 source e

-- the places of a statement without blocks and without a called name
abbrev pub plain_at : ℕ → ℕ → StmtAt
plain_at start end = record { start = start; called = start; first_block = start; second_block = start; end = end }

-- the places of a call
abbrev pub call_at : ℕ → ℕ → ℕ → StmtAt
call_at start called end = record { start = start; called = called; first_block = start; second_block = start; end = end }

-- the places of a statement with blocks
abbrev pub block_at : ℕ → ℕ → ℕ → ℕ → StmtAt
block_at start first second end = record { start = start; called = start; first_block = first; second_block = second; end = end }

-- where the point after `endif` or `done` is: past the `;` where there is one
abbrev pub end_after : OptSemicolon → Leaf → ℕ
end_after no_semicolon word = word.end
end_after (a_semicolon l) word = l.end

abbrev mutual
  pub stmt_trees : List ℕ → Stmts → BlockTree
  stmt_trees source no_stmts = empty
  stmt_trees source (more_stmts ss s) = more (stmt_trees source ss) (stmt_tree source s)

  pub stmt_tree : List ℕ → Stmt → StmtTree
  stmt_tree source (skip_stmt w s) = skip (plain_at w.start s.end)
  stmt_tree source (halt_stmt w s) = halt (plain_at w.start s.end)
  stmt_tree source (fail_stmt w s) = fail (plain_at w.start s.end)
  stmt_tree source (assume_stmt w e s) = assume (tree_0 source e) (plain_at w.start s.end)
  stmt_tree source (assign_stmt x b e s) = assign (bytes_at source x) (tree_0 source e) (plain_at x.start s.end)
  stmt_tree source (call_stmt x b f o args c s) = call (named source x ∷ []) (bytes_at source f) (opt_name_trees source args) (call_at x.start f.start s.end)
  stmt_tree source (calls_stmt o xs c b f o' args c' s) = call (opt_name_trees source xs) (bytes_at source f) (opt_name_trees source args) (call_at o.start f.start s.end)
  stmt_tree source (if_stmt w e t ss els f s) = if_tree source (tree_0 source e) (stmt_trees source ss) els w.start t.end (end_after s f)
  stmt_tree source (while_stmt w e d ss f s) = while_do (tree_0 source e) (stmt_trees source ss) (block_at w.start d.end w.start (end_after s f))

  pub if_tree : List ℕ → ExprTree → BlockTree → OptElse → ℕ → ℕ → ℕ → StmtTree
  if_tree source e first no_else start at end = if_then e first (block_at start at start end)
  if_tree source e first (some_else w ss) start at end = if_else e first (stmt_trees source ss) (block_at start at w.end end)

abbrev pub proc_tree : List ℕ → Proc → ProcMeaning
proc_tree source (proc w n o ins c r o' outs c' vs b ss e) = record {
  name = named source n;
  inputs = opt_decl_trees source ins;
  outputs = opt_decl_trees source outs;
  locals = var_trees source vs;
  begin = b.start;
  body = stmt_trees source ss;
}

abbrev pub proc_trees : List ℕ → Procs → List ProcMeaning
proc_trees source no_procs = []
proc_trees source (more_procs ps p) = proc_trees source ps ++ proc_tree source p ∷ []

-- the program of a derivation
abbrev pub tree_of : List ℕ → Derivation → Program
tree_of source (program ps vs b ss e) = record {
  procs = proc_trees source ps;
  locals = var_trees source vs;
  begin = b.start;
  body = stmt_trees source ss;
}
