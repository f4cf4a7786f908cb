-- The machine over trees: each production makes the part of the program that it stands for, over the bytes of the source.
use Rattle.std.specs.Prelude.{ℕ, List, [], ◌∷◌, ◌++◌, Option, Some, None}
use Rattle.spl_tree.specs.declared.parts.BinOp.{BinOp}
use Rattle.spl_tree.specs.Program.{Named, Kind, int_kind, real_kind, other_kind, Declared, ExprTree, number, variable, true_value, false_value, random_value, negative, opposite, binary, StmtTree, skip, halt, fail, assume, assign, call, if_then, if_else, while_do, BlockTree, empty, more, ProcMeaning, Program}
use Rattle.spl_parser.specs.Grammar.{Leaf}
use Rattle.spl_parser.specs.TreeOf.{bytes_at, named, plain_at, call_at, block_at}
use Rattle.spl_parser.specs.Machine.{Algebra}

-- a declaration with its name and type
abbrev pub declared : Named → Kind × ℕ → Declared
declared n k = record { name = n; kind = k.0; kind_at = k.1 }

-- where the point after `endif` or `done` is: past the `;` where there is one
abbrev pub point_after : ℕ → Option ℕ → ℕ
point_after word None = word
point_after word (Some semicolon) = semicolon

-- a conditional with or without `else`
abbrev pub conditional_of : ℕ → ExprTree → ℕ → BlockTree → Option (ℕ × BlockTree) → ℕ → StmtTree
conditional_of w e t ss None end = if_then e ss (block_at w t w end)
conditional_of w e t ss (Some els) end = if_else e ss els.1 (block_at w t els.0 end)

-- each production makes its part of the program
abbrev pub trees : List ℕ → Algebra
trees source = record {
  Place = Leaf;
  Word = Named;
  Start = ℕ;
  Stop = ℕ;
  Gone = Unit {0};
  Kind = Kind × ℕ;
  Decls = List Declared;
  OptDecls = List Declared;
  Vars = List Declared;
  Names = List Named;
  OptNames = List Named;
  CmpSign = BinOp × ℕ;
  SumSign = BinOp × ℕ;
  ProductSign = BinOp × ℕ;
  E0 = ExprTree;
  E1 = ExprTree;
  E2 = ExprTree;
  E3 = ExprTree;
  E4 = ExprTree;
  E5 = ExprTree;
  E6 = ExprTree;
  Atom = ExprTree;
  Semi = Option ℕ;
  Stmts = BlockTree;
  Stmt = StmtTree;
  Tail = Option (ℕ × BlockTree);
  Procs = List ProcMeaning;
  Result = Program;
  place = λ l. l;
  word = λ l. named source l;
  start = λ l. l.start;
  stop = λ l. l.end;
  gone = λ l. tt;
  int = λ l. (int_kind, l.start);
  real = λ l. (real_kind, l.start);
  other = λ l. (other_kind (bytes_at source l), l.start);
  decls_one = λ n c k. declared n k ∷ [];
  decls_more = λ ds m n c k. ds ++ declared n k ∷ [];
  no_decls = [];
  some_decls = λ ds. ds;
  no_vars = [];
  some_vars = λ v ds s. ds;
  names_one = λ n. n ∷ [];
  names_more = λ ns c n. ns ++ n ∷ [];
  no_names = [];
  some_names = λ ns. ns;
  equal = λ l. (BinOp.Eq, l.start);
  not_equal = λ l. (BinOp.Ne, l.start);
  less = λ l. (BinOp.Lt, l.start);
  less_equal = λ l. (BinOp.Le, l.start);
  greater = λ l. (BinOp.Gt, l.start);
  greater_equal = λ l. (BinOp.Ge, l.start);
  plus = λ l. (BinOp.Add, l.start);
  minus = λ l. (BinOp.Sub, l.start);
  star = λ l. (BinOp.Mul, l.start);
  slash = λ l. (BinOp.Div, l.start);
  percent = λ l. (BinOp.Rem, l.start);
  only_1 = λ e. e;
  either = λ a l b. binary BinOp.Or a b l;
  only_2 = λ e. e;
  both = λ a l b. binary BinOp.And a b l;
  only_3 = λ e. e;
  opposite = λ l e. opposite e l;
  only_4 = λ e. e;
  compared = λ a s b. binary s.0 a b s.1;
  only_5 = λ e. e;
  sum = λ a s b. binary s.0 a b s.1;
  only_6 = λ e. e;
  product = λ a s b. binary s.0 a b s.1;
  only_atom = λ a. a;
  negative = λ l e. negative e l;
  number = λ n l. number n l.start;
  variable = λ n. variable n.name n.at;
  true_value = λ l. true_value l.start;
  false_value = λ l. false_value l.start;
  random = λ l. random_value l.start;
  brandom = λ l. random_value l.start;
  in_parens = λ o e c. e;
  no_semi = None;
  a_semi = λ l. Some l;
  no_stmts = empty;
  more_stmts = λ ss s. more ss s;
  skip = λ w s. skip (plain_at w s);
  halt = λ w s. halt (plain_at w s);
  fail = λ w s. fail (plain_at w s);
  assume = λ w e s. assume e (plain_at w s);
  assign = λ x q e s. assign x.name e (plain_at x.at s);
  call = λ x q f o ns c s. call (x ∷ []) f.name ns (call_at x.at f.at s);
  calls = λ o xs c q f o' ns c' s. call xs f.name ns (call_at o f.at s);
  conditional = λ w e t ss els f s. conditional_of w e t ss els (point_after f s);
  loop = λ w e d ss f s. while_do e ss (block_at w d w (point_after f s));
  no_else = None;
  some_else = λ l ss. Some (l, ss);
  no_procs = [];
  more_procs = λ ps w n o ins c r o' outs c' vs b ss e. ps ++ record { name = n; inputs = ins; outputs = outs; locals = vs; begin = b; body = ss } ∷ [];
  program = λ ps vs b ss e. record { procs = ps; locals = vs; begin = b; body = ss };
}
