-- The tokens that a derivation spells, in order.
use Rattle.std.specs.Prelude.{List, [], ◌∷◌, ◌++◌}
use Rattle.spl_text.specs.declared.token.Token.{Token}
use Rattle.spl_text.specs.declared.token.TokenKind.{TokenKind}
use Rattle.spl_parser.specs.Grammar.{Leaf, TypeWord, int_word, real_word, name_word, Decl, decl, Decls, one_decl, more_decls, OptDecls, no_decls, some_decls, Vars, no_vars, some_vars, Names, one_name, more_names, OptNames, no_names, some_names, Cmp, equal, not_equal, less, less_equal, greater, greater_equal, SumSign, plus, minus, ProductSign, star, slash, percent, E0, only_1, either, E1, only_2, both, E2, only_3, opposite_of, E3, only_4, compared, E4, only_5, sum_of, E5, only_6, product_of, E6, only_atom, negative_of, Atom, number_atom, name_atom, true_atom, false_atom, random_atom, brandom_atom, paren_atom, OptSemicolon, no_semicolon, a_semicolon, Stmts, no_stmts, more_stmts, Stmt, skip_stmt, halt_stmt, fail_stmt, assume_stmt, assign_stmt, call_stmt, calls_stmt, if_stmt, while_stmt, OptElse, no_else, some_else, Proc, proc, Procs, no_procs, more_procs, Derivation, program}

-- the token of this kind in its place
abbrev pub token : TokenKind → Leaf → Token
token kind leaf = record { kind = kind; start = leaf.start; end = leaf.end }

abbrev pub spelled_type : TypeWord → Token
spelled_type (int_word l) = token TokenKind.Int l
spelled_type (real_word l) = token TokenKind.Real l
spelled_type (name_word l) = token TokenKind.Name l

abbrev pub spelled_decl : Decl → List Token
spelled_decl (decl n c t) = token TokenKind.Name n ∷ token TokenKind.Colon c ∷ spelled_type t ∷ []

abbrev pub spelled_decls : Decls → List Token
spelled_decls (one_decl d) = spelled_decl d
spelled_decls (more_decls ds c d) = spelled_decls ds ++ token TokenKind.Comma c ∷ spelled_decl d

abbrev pub spelled_opt_decls : OptDecls → List Token
spelled_opt_decls no_decls = []
spelled_opt_decls (some_decls ds) = spelled_decls ds

abbrev pub spelled_vars : Vars → List Token
spelled_vars no_vars = []
spelled_vars (some_vars v ds s) = token TokenKind.Var v ∷ (spelled_decls ds ++ token TokenKind.Semicolon s ∷ [])

abbrev pub spelled_names : Names → List Token
spelled_names (one_name n) = token TokenKind.Name n ∷ []
spelled_names (more_names ns c n) = spelled_names ns ++ token TokenKind.Comma c ∷ token TokenKind.Name n ∷ []

abbrev pub spelled_opt_names : OptNames → List Token
spelled_opt_names no_names = []
spelled_opt_names (some_names ns) = spelled_names ns

abbrev pub spelled_cmp : Cmp → Token
spelled_cmp (equal l) = token TokenKind.Equal l
spelled_cmp (not_equal l) = token TokenKind.NotEqual l
spelled_cmp (less l) = token TokenKind.Less l
spelled_cmp (less_equal l) = token TokenKind.LessEqual l
spelled_cmp (greater l) = token TokenKind.Greater l
spelled_cmp (greater_equal l) = token TokenKind.GreaterEqual l

abbrev pub spelled_sum : SumSign → Token
spelled_sum (plus l) = token TokenKind.Plus l
spelled_sum (minus l) = token TokenKind.Minus l

abbrev pub spelled_product : ProductSign → Token
spelled_product (star l) = token TokenKind.Star l
spelled_product (slash l) = token TokenKind.Slash l
spelled_product (percent l) = token TokenKind.Percent l

abbrev mutual
  pub spelled_0 : E0 → List Token
  spelled_0 (only_1 e) = spelled_1 e
  spelled_0 (either a l b) = spelled_0 a ++ token TokenKind.Or l ∷ spelled_1 b

  pub spelled_1 : E1 → List Token
  spelled_1 (only_2 e) = spelled_2 e
  spelled_1 (both a l b) = spelled_1 a ++ token TokenKind.And l ∷ spelled_2 b

  pub spelled_2 : E2 → List Token
  spelled_2 (only_3 e) = spelled_3 e
  spelled_2 (opposite_of l e) = token TokenKind.Not l ∷ spelled_2 e

  pub spelled_3 : E3 → List Token
  spelled_3 (only_4 e) = spelled_4 e
  spelled_3 (compared a c b) = spelled_4 a ++ spelled_cmp c ∷ spelled_4 b

  pub spelled_4 : E4 → List Token
  spelled_4 (only_5 e) = spelled_5 e
  spelled_4 (sum_of a s b) = spelled_4 a ++ spelled_sum s ∷ spelled_5 b

  pub spelled_5 : E5 → List Token
  spelled_5 (only_6 e) = spelled_6 e
  spelled_5 (product_of a s b) = spelled_5 a ++ spelled_product s ∷ spelled_6 b

  pub spelled_6 : E6 → List Token
  spelled_6 (only_atom a) = spelled_atom a
  spelled_6 (negative_of l e) = token TokenKind.Minus l ∷ spelled_6 e

  pub spelled_atom : Atom → List Token
  spelled_atom (number_atom n l) = token (TokenKind.Number n) l ∷ []
  spelled_atom (name_atom l) = token TokenKind.Name l ∷ []
  spelled_atom (true_atom l) = token TokenKind.True l ∷ []
  spelled_atom (false_atom l) = token TokenKind.False l ∷ []
  spelled_atom (random_atom l) = token TokenKind.Random l ∷ []
  spelled_atom (brandom_atom l) = token TokenKind.Brandom l ∷ []
  spelled_atom (paren_atom o e c) = token TokenKind.LeftParen o ∷ (spelled_0 e ++ token TokenKind.RightParen c ∷ [])

abbrev pub spelled_semicolon : OptSemicolon → List Token
spelled_semicolon no_semicolon = []
spelled_semicolon (a_semicolon l) = token TokenKind.Semicolon l ∷ []

abbrev mutual
  pub spelled_stmts : Stmts → List Token
  spelled_stmts no_stmts = []
  spelled_stmts (more_stmts ss s) = spelled_stmts ss ++ spelled_stmt s

  pub spelled_stmt : Stmt → List Token
  spelled_stmt (skip_stmt w s) = token TokenKind.Skip w ∷ token TokenKind.Semicolon s ∷ []
  spelled_stmt (halt_stmt w s) = token TokenKind.Halt w ∷ token TokenKind.Semicolon s ∷ []
  spelled_stmt (fail_stmt w s) = token TokenKind.Fail w ∷ token TokenKind.Semicolon s ∷ []
  spelled_stmt (assume_stmt w e s) = token TokenKind.Assume w ∷ (spelled_0 e ++ token TokenKind.Semicolon s ∷ [])
  spelled_stmt (assign_stmt x b e s) = token TokenKind.Name x ∷ token TokenKind.Becomes b ∷ (spelled_0 e ++ token TokenKind.Semicolon s ∷ [])
  spelled_stmt (call_stmt x b f o args c s) = token TokenKind.Name x ∷ token TokenKind.Becomes b ∷ token TokenKind.Name f ∷ token TokenKind.LeftParen o ∷ (spelled_opt_names args ++ token TokenKind.RightParen c ∷ token TokenKind.Semicolon s ∷ [])
  spelled_stmt (calls_stmt o xs c b f o' args c' s) = token TokenKind.LeftParen o ∷ (spelled_opt_names xs ++ token TokenKind.RightParen c ∷ token TokenKind.Becomes b ∷ token TokenKind.Name f ∷ token TokenKind.LeftParen o' ∷ (spelled_opt_names args ++ token TokenKind.RightParen c' ∷ token TokenKind.Semicolon s ∷ []))
  spelled_stmt (if_stmt w e t ss els f s) = token TokenKind.If w ∷ (spelled_0 e ++ token TokenKind.Then t ∷ (spelled_stmts ss ++ (spelled_else els ++ token TokenKind.Endif f ∷ spelled_semicolon s)))
  spelled_stmt (while_stmt w e d ss f s) = token TokenKind.While w ∷ (spelled_0 e ++ token TokenKind.Do d ∷ (spelled_stmts ss ++ token TokenKind.Done f ∷ spelled_semicolon s))

  pub spelled_else : OptElse → List Token
  spelled_else no_else = []
  spelled_else (some_else w ss) = token TokenKind.Else w ∷ spelled_stmts ss

abbrev pub spelled_proc : Proc → List Token
spelled_proc (proc w n o ins c r o' outs c' vs b ss e) = token TokenKind.Proc w ∷ token TokenKind.Name n ∷ token TokenKind.LeftParen o ∷ (spelled_opt_decls ins ++ token TokenKind.RightParen c ∷ token TokenKind.Returns r ∷ token TokenKind.LeftParen o' ∷ (spelled_opt_decls outs ++ token TokenKind.RightParen c' ∷ (spelled_vars vs ++ token TokenKind.Begin b ∷ (spelled_stmts ss ++ token TokenKind.End e ∷ []))))

abbrev pub spelled_procs : Procs → List Token
spelled_procs no_procs = []
spelled_procs (more_procs ps p) = spelled_procs ps ++ spelled_proc p

-- the tokens of a program
abbrev pub spelled : Derivation → List Token
spelled (program ps vs b ss e) = spelled_procs ps ++ (spelled_vars vs ++ token TokenKind.Begin b ∷ (spelled_stmts ss ++ token TokenKind.End e ∷ []))
