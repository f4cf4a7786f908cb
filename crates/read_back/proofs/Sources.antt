-- The canonical text of what a source derives says no more than the source: it is as fit, and keeps the limits.
use Rattle.std.proofs.Common.{◌≡◌, ℕ, ◌+◌, List, [], ◌∷◌, ◌++◌, map, flat_map, arith, ap, sym, ◌∙◌, refl, subst, append_assoc, append-nil}
use Rattle.std.proofs.lemmas.List.{map-append}
use Rattle.spl_text.specs.declared.token.Token.{Token}
use Rattle.spl_text.specs.declared.token.TokenKind.{TokenKind}
use Rattle.spl_tree.specs.declared.parts.BinOp.{BinOp}
use Rattle.spl_tree.specs.Program.{Named, Declared, ExprTree, number, variable, true_value, false_value, random_value, negative, opposite, binary, ProcMeaning}
use Rattle.spl_parser.specs.Grammar.{Leaf, int_word, real_word, name_word, Decl, decl, Decls, one_decl, more_decls, OptDecls, no_decls, some_decls, Vars, no_vars, some_vars, Names, one_name, more_names, OptNames, no_names, some_names, Cmp, equal, not_equal, less, less_equal, greater, greater_equal, SumSign, plus, minus, ProductSign, star, slash, percent, E0, only_1, either, E1, only_2, both, E2, only_3, opposite_of, E3, only_4, compared, E4, only_5, sum_of, E5, only_6, product_of, E6, only_atom, negative_of, Atom, number_atom, name_atom, true_atom, false_atom, random_atom, brandom_atom, paren_atom, OptSemicolon, no_semicolon, a_semicolon, Stmts, no_stmts, more_stmts, Stmt, skip_stmt, halt_stmt, fail_stmt, assume_stmt, assign_stmt, call_stmt, calls_stmt, if_stmt, while_stmt, no_else, some_else, Proc, proc, Procs, no_procs, more_procs, Derivation, program}
use Rattle.spl_parser.specs.Spelling.{token, spelled_decl, spelled_decls, spelled_opt_decls, spelled_vars, spelled_names, spelled_opt_names, spelled_cmp, spelled_sum, spelled_product, spelled_0, spelled_1, spelled_2, spelled_3, spelled_4, spelled_5, spelled_6, spelled_atom, spelled_semicolon, spelled_stmts, spelled_stmt, spelled_proc, spelled_procs, spelled}
use Rattle.spl_parser.specs.TreeOf.{named, bytes_at, cmp_op, cmp_place, sum_op, sum_place, product_op, product_place, decl_tree, decl_trees, opt_decl_trees, var_trees, name_trees, opt_name_trees, tree_0, tree_1, tree_2, tree_3, tree_4, tree_5, tree_6, tree_atom, stmt_trees, stmt_tree, proc_tree, proc_trees, tree_of}
use Rattle.spl_print.specs.Canonical.{left_level, right_level, level_of}
use Rattle.read_back.proofs.Lexemes.{Lexeme, key, name, said, op_kind, in_parens, operand, expr_says, others_say, listed_say, one_name_says, names_say, decl_says, decls_say, targets_say, call_says, stmt_says, block_says, locals_say, body_says, proc_says, program_says}
use Rattle.read_back.proofs.Limits.{Lighter, lighter_nil, lighter_cons, lighter_same, lighter_equal, lighter_then, lighter_both, lighter_around, IsBalanced, balanced_append, balanced_operand, lighter_bare, lighter_lower, lighter_wanted, lighter_lowest, lighter_random, lighter_endif, lighter_done}

-- ---- expressions

balanced_op : (op : BinOp) → IsBalanced (key (op_kind op) ∷ [])
balanced_op BinOp.Or d = refl
balanced_op BinOp.And d = refl
balanced_op BinOp.Eq d = refl
balanced_op BinOp.Ne d = refl
balanced_op BinOp.Lt d = refl
balanced_op BinOp.Le d = refl
balanced_op BinOp.Gt d = refl
balanced_op BinOp.Ge d = refl
balanced_op BinOp.Add d = refl
balanced_op BinOp.Sub d = refl
balanced_op BinOp.Mul d = refl
balanced_op BinOp.Div d = refl
balanced_op BinOp.Rem d = refl

-- an expression ends at the depth at which it begins
balanced_expr : (e : ExprTree) → IsBalanced (expr_says e)
balanced_expr (number n at) d = refl
balanced_expr (variable x at) d = refl
balanced_expr (true_value at) d = refl
balanced_expr (false_value at) d = refl
balanced_expr (random_value at) d = refl
balanced_expr (negative a at) d = balanced_operand 6 (level_of a) (expr_says a) (balanced_expr a) d
balanced_expr (opposite a at) d = balanced_operand 2 (level_of a) (expr_says a) (balanced_expr a) d
balanced_expr (binary op a b at) d =
    let right : List Lexeme = operand (right_level op) (level_of b) (expr_says b) in
    balanced_append (operand (left_level op) (level_of a) (expr_says a)) (key (op_kind op) ∷ right)
    (balanced_operand (left_level op) (level_of a) (expr_says a) (balanced_expr a))
    (balanced_append (key (op_kind op) ∷ []) right (balanced_op op) (balanced_operand (right_level op) (level_of b) (expr_says b) (balanced_expr b))) d

-- an expression where this level is wanted
abbrev at_level : ℕ → ExprTree → List Lexeme
at_level wanted e = operand wanted (level_of e) (expr_says e)

lower : (wanted : ℕ) (e : ExprTree) (xs : List Lexeme) → Lighter xs (at_level (wanted + 1) e) → Lighter xs (at_level wanted e)
lower wanted e xs w = lighter_then xs (at_level (wanted + 1) e) (at_level wanted e) w (lighter_lower (wanted + 1) wanted (level_of e) (expr_says e) (omega arith) (balanced_expr e))

parens : (source : List ℕ) (us : List Token) (o c : Leaf) (e : ExprTree) → Lighter (map (said source) us) (at_level 0 e)
    → Lighter (map (said source) (token TokenKind.LeftParen o ∷ (us ++ token TokenKind.RightParen c ∷ []))) (at_level 7 e)
parens source us o c e w =
    let inner : Lighter (map (said source) us) (expr_says e) = lighter_lowest (level_of e) (map (said source) us) (expr_says e) w in
    let whole = lighter_cons (key TokenKind.LeftParen) _ _ (lighter_around (said source) us (token TokenKind.RightParen c) [] (expr_says e) [] inner lighter_nil) in
    lighter_then _ (in_parens (expr_says e)) (at_level 7 e) whole (lighter_wanted 7 (level_of e) (expr_says e) (balanced_expr e))

-- two operands and the sign between
around_cmp : (source : List ℕ) (s : Cmp) (us vs : List Token) (a b : ExprTree) → Lighter (map (said source) us) (at_level 4 a) → Lighter (map (said source) vs) (at_level 4 b)
    → Lighter (map (said source) (us ++ spelled_cmp s ∷ vs)) (at_level 3 (binary (cmp_op s) a b (cmp_place s)))
around_cmp source (equal l) us vs a b x y = lighter_around (said source) us (token TokenKind.Equal l) vs (at_level 4 a) (at_level 4 b) x y
around_cmp source (not_equal l) us vs a b x y = lighter_around (said source) us (token TokenKind.NotEqual l) vs (at_level 4 a) (at_level 4 b) x y
around_cmp source (less l) us vs a b x y = lighter_around (said source) us (token TokenKind.Less l) vs (at_level 4 a) (at_level 4 b) x y
around_cmp source (less_equal l) us vs a b x y = lighter_around (said source) us (token TokenKind.LessEqual l) vs (at_level 4 a) (at_level 4 b) x y
around_cmp source (greater l) us vs a b x y = lighter_around (said source) us (token TokenKind.Greater l) vs (at_level 4 a) (at_level 4 b) x y
around_cmp source (greater_equal l) us vs a b x y = lighter_around (said source) us (token TokenKind.GreaterEqual l) vs (at_level 4 a) (at_level 4 b) x y

around_sum : (source : List ℕ) (s : SumSign) (us vs : List Token) (a b : ExprTree) → Lighter (map (said source) us) (at_level 4 a) → Lighter (map (said source) vs) (at_level 5 b)
    → Lighter (map (said source) (us ++ spelled_sum s ∷ vs)) (at_level 4 (binary (sum_op s) a b (sum_place s)))
around_sum source (plus l) us vs a b x y = lighter_around (said source) us (token TokenKind.Plus l) vs (at_level 4 a) (at_level 5 b) x y
around_sum source (minus l) us vs a b x y = lighter_around (said source) us (token TokenKind.Minus l) vs (at_level 4 a) (at_level 5 b) x y

around_product : (source : List ℕ) (s : ProductSign) (us vs : List Token) (a b : ExprTree) → Lighter (map (said source) us) (at_level 5 a) → Lighter (map (said source) vs) (at_level 6 b)
    → Lighter (map (said source) (us ++ spelled_product s ∷ vs)) (at_level 5 (binary (product_op s) a b (product_place s)))
around_product source (star l) us vs a b x y = lighter_around (said source) us (token TokenKind.Star l) vs (at_level 5 a) (at_level 6 b) x y
around_product source (slash l) us vs a b x y = lighter_around (said source) us (token TokenKind.Slash l) vs (at_level 5 a) (at_level 6 b) x y
around_product source (percent l) us vs a b x y = lighter_around (said source) us (token TokenKind.Percent l) vs (at_level 5 a) (at_level 6 b) x y

mutual
  lighter_0 : (source : List ℕ) (e : E0) → Lighter (map (said source) (spelled_0 e)) (at_level 0 (tree_0 source e))
  lighter_0 source (only_1 e) = lower 0 (tree_1 source e) (map (said source) (spelled_1 e)) (lighter_1 source e)
  lighter_0 source (either a l b) =
      lighter_around (said source) (spelled_0 a) (token TokenKind.Or l) (spelled_1 b) (at_level 0 (tree_0 source a)) (at_level 1 (tree_1 source b)) (lighter_0 source a) (lighter_1 source b)

  lighter_1 : (source : List ℕ) (e : E1) → Lighter (map (said source) (spelled_1 e)) (at_level 1 (tree_1 source e))
  lighter_1 source (only_2 e) = lower 1 (tree_2 source e) (map (said source) (spelled_2 e)) (lighter_2 source e)
  lighter_1 source (both a l b) =
      lighter_around (said source) (spelled_1 a) (token TokenKind.And l) (spelled_2 b) (at_level 1 (tree_1 source a)) (at_level 2 (tree_2 source b)) (lighter_1 source a) (lighter_2 source b)

  lighter_2 : (source : List ℕ) (e : E2) → Lighter (map (said source) (spelled_2 e)) (at_level 2 (tree_2 source e))
  lighter_2 source (only_3 e) = lower 2 (tree_3 source e) (map (said source) (spelled_3 e)) (lighter_3 source e)
  lighter_2 source (opposite_of l e) = lighter_cons (key TokenKind.Not) (map (said source) (spelled_2 e)) (at_level 2 (tree_2 source e)) (lighter_2 source e)

  lighter_3 : (source : List ℕ) (e : E3) → Lighter (map (said source) (spelled_3 e)) (at_level 3 (tree_3 source e))
  lighter_3 source (only_4 e) = lower 3 (tree_4 source e) (map (said source) (spelled_4 e)) (lighter_4 source e)
  lighter_3 source (compared a s b) =
      around_cmp source s (spelled_4 a) (spelled_4 b) (tree_4 source a) (tree_4 source b) (lighter_4 source a) (lighter_4 source b)

  lighter_4 : (source : List ℕ) (e : E4) → Lighter (map (said source) (spelled_4 e)) (at_level 4 (tree_4 source e))
  lighter_4 source (only_5 e) = lower 4 (tree_5 source e) (map (said source) (spelled_5 e)) (lighter_5 source e)
  lighter_4 source (sum_of a s b) =
      around_sum source s (spelled_4 a) (spelled_5 b) (tree_4 source a) (tree_5 source b) (lighter_4 source a) (lighter_5 source b)

  lighter_5 : (source : List ℕ) (e : E5) → Lighter (map (said source) (spelled_5 e)) (at_level 5 (tree_5 source e))
  lighter_5 source (only_6 e) = lower 5 (tree_6 source e) (map (said source) (spelled_6 e)) (lighter_6 source e)
  lighter_5 source (product_of a s b) =
      around_product source s (spelled_5 a) (spelled_6 b) (tree_5 source a) (tree_6 source b) (lighter_5 source a) (lighter_6 source b)

  lighter_6 : (source : List ℕ) (e : E6) → Lighter (map (said source) (spelled_6 e)) (at_level 6 (tree_6 source e))
  lighter_6 source (only_atom a) = lower 6 (tree_atom source a) (map (said source) (spelled_atom a)) (lighter_atom source a)
  lighter_6 source (negative_of l e) = lighter_cons (key TokenKind.Minus) (map (said source) (spelled_6 e)) (at_level 6 (tree_6 source e)) (lighter_6 source e)

  lighter_atom : (source : List ℕ) (a : Atom) → Lighter (map (said source) (spelled_atom a)) (at_level 7 (tree_atom source a))
  lighter_atom source (number_atom n l) = lighter_same (key (TokenKind.Number n) ∷ [])
  lighter_atom source (name_atom l) = lighter_same (name (bytes_at source l) ∷ [])
  lighter_atom source (true_atom l) = lighter_same (key TokenKind.True ∷ [])
  lighter_atom source (false_atom l) = lighter_same (key TokenKind.False ∷ [])
  lighter_atom source (random_atom l) = lighter_same (key TokenKind.Random ∷ [])
  lighter_atom source (brandom_atom l) = lighter_random
  lighter_atom source (paren_atom o e c) = parens source (spelled_0 e) o c (tree_0 source e) (lighter_0 source e)

lighter_expr : (source : List ℕ) (e : E0) → Lighter (map (said source) (spelled_0 e)) (expr_says (tree_0 source e))
lighter_expr source e = lighter_lowest (level_of (tree_0 source e)) (map (said source) (spelled_0 e)) (expr_says (tree_0 source e)) (lighter_0 source e)

-- ---- lists: they say the same

others_push : (ts : List (List Lexeme)) (u : List Lexeme) → others_say (ts ++ u ∷ []) ≡ others_say ts ++ key TokenKind.Comma ∷ u
others_push [] u = ap (λ x. key TokenKind.Comma ∷ x) (append-nil u)
others_push (t ∷ ts) u = ap (λ x. key TokenKind.Comma ∷ (t ++ x)) (others_push ts u) ∙ ap (λ x. key TokenKind.Comma ∷ x) (sym (append_assoc t (others_say ts) (key TokenKind.Comma ∷ u)))

-- one more at the end of a list that isn't empty
listed_push : {X : Type 0} (says : X → List Lexeme) (xs : List X) (x y : X) (ys : List X) → xs ≡ y ∷ ys
    → listed_say (map says (xs ++ x ∷ [])) ≡ listed_say (map says xs) ++ key TokenKind.Comma ∷ says x
listed_push says xs x y ys e =
    let front : map says xs ≡ says y ∷ map says ys = ap (map says) e in
    ap listed_say (map-append says xs (x ∷ []) ∙ ap (λ z. z ++ says x ∷ []) front)
    ∙ ap (λ z. says y ++ z) (others_push (map says ys) (says x))
    ∙ sym (append_assoc (says y) (others_say (map says ys)) (key TokenKind.Comma ∷ says x))
    ∙ ap (λ z. listed_say z ++ key TokenKind.Comma ∷ says x) (sym front)

names_some : (source : List ℕ) (ns : Names) → (y : Named) × (ys : List Named) × (name_trees source ns ≡ y ∷ ys)
names_some source (one_name n) = (named source n, [], refl)
names_some source (more_names ns c n) =
    let s = names_some source ns in
    (s.0, s.1 ++ named source n ∷ [], ap (λ xs. xs ++ named source n ∷ []) s.2)

same_names : (source : List ℕ) (ns : Names) → map (said source) (spelled_names ns) ≡ names_say (name_trees source ns)
same_names source (one_name n) = refl
same_names source (more_names ns c n) =
    let s = names_some source ns in
    let last : List Lexeme = key TokenKind.Comma ∷ name (bytes_at source n) ∷ [] in
    map-append (said source) (spelled_names ns) (token TokenKind.Comma c ∷ token TokenKind.Name n ∷ [])
    ∙ ap (λ x. x ++ last) (same_names source ns)
    ∙ sym (listed_push one_name_says (name_trees source ns) (named source n) s.0 s.1 s.2)

lighter_names : (source : List ℕ) (ns : OptNames) → Lighter (map (said source) (spelled_opt_names ns)) (names_say (opt_name_trees source ns))
lighter_names source no_names = lighter_nil
lighter_names source (some_names ns) = lighter_equal (map (said source) (spelled_names ns)) (names_say (name_trees source ns)) (same_names source ns)

same_decl : (source : List ℕ) (d : Decl) → map (said source) (spelled_decl d) ≡ decl_says (decl_tree source d)
same_decl source (decl n c (int_word l)) = refl
same_decl source (decl n c (real_word l)) = refl
same_decl source (decl n c (name_word l)) = refl

decls_some : (source : List ℕ) (ds : Decls) → (y : Declared) × (ys : List Declared) × (decl_trees source ds ≡ y ∷ ys)
decls_some source (one_decl d) = (decl_tree source d, [], refl)
decls_some source (more_decls ds c d) =
    let s = decls_some source ds in
    (s.0, s.1 ++ decl_tree source d ∷ [], ap (λ xs. xs ++ decl_tree source d ∷ []) s.2)

same_decls : (source : List ℕ) (ds : Decls) → map (said source) (spelled_decls ds) ≡ decls_say (decl_trees source ds)
same_decls source (one_decl d) = same_decl source d ∙ sym (append-nil (decl_says (decl_tree source d)))
same_decls source (more_decls ds c d) =
    let s = decls_some source ds in
    map-append (said source) (spelled_decls ds) (token TokenKind.Comma c ∷ spelled_decl d)
    ∙ ap (λ x. x ++ key TokenKind.Comma ∷ map (said source) (spelled_decl d)) (same_decls source ds)
    ∙ ap (λ x. decls_say (decl_trees source ds) ++ key TokenKind.Comma ∷ x) (same_decl source d)
    ∙ sym (listed_push decl_says (decl_trees source ds) (decl_tree source d) s.0 s.1 s.2)

lighter_decls : (source : List ℕ) (ds : OptDecls) → Lighter (map (said source) (spelled_opt_decls ds)) (decls_say (opt_decl_trees source ds))
lighter_decls source no_decls = lighter_nil
lighter_decls source (some_decls ds) = lighter_equal (map (said source) (spelled_decls ds)) (decls_say (decl_trees source ds)) (same_decls source ds)

lighter_vars : (source : List ℕ) (vs : Vars) → Lighter (map (said source) (spelled_vars vs)) (locals_say (var_trees source vs))
lighter_vars source no_vars = lighter_nil
lighter_vars source (some_vars v ds s) =
    let some = decls_some source ds in
    let trees : List Declared = decl_trees source ds in
    let last : List Lexeme = key TokenKind.Semicolon ∷ [] in
    let e : map (said source) (spelled_decls ds ++ token TokenKind.Semicolon s ∷ []) ≡ decls_say trees ++ last =
    map-append (said source) (spelled_decls ds) (token TokenKind.Semicolon s ∷ []) ∙ ap (λ x. x ++ last) (same_decls source ds) in
    let f : locals_say trees ≡ key TokenKind.Var ∷ (decls_say trees ++ last) =
    ap locals_say some.2 ∙ ap (λ x. key TokenKind.Var ∷ (decls_say x ++ last)) (sym some.2) in
    lighter_equal (map (said source) (spelled_vars (some_vars v ds s))) (locals_say trees) (ap (λ x. key TokenKind.Var ∷ x) e ∙ sym f)

-- ---- statements

-- an expression between words
lighter_headed : (source : List ℕ) (e : E0) (t : Token) (vs : List Token) (ys : List Lexeme) → Lighter (map (said source) vs) ys
    → Lighter (map (said source) (spelled_0 e ++ t ∷ vs)) (expr_says (tree_0 source e) ++ said source t ∷ ys)
lighter_headed source e t vs ys w = lighter_around (said source) (spelled_0 e) t vs (expr_says (tree_0 source e)) ys (lighter_expr source e) w

lighter_closed_if : (source : List ℕ) (f : Leaf) (s : OptSemicolon) → Lighter (map (said source) (token TokenKind.Endif f ∷ spelled_semicolon s)) (key TokenKind.Endif ∷ key TokenKind.Semicolon ∷ [])
lighter_closed_if source f no_semicolon = lighter_endif
lighter_closed_if source f (a_semicolon l) = lighter_same (key TokenKind.Endif ∷ key TokenKind.Semicolon ∷ [])

lighter_closed_do : (source : List ℕ) (f : Leaf) (s : OptSemicolon) → Lighter (map (said source) (token TokenKind.Done f ∷ spelled_semicolon s)) (key TokenKind.Done ∷ key TokenKind.Semicolon ∷ [])
lighter_closed_do source f no_semicolon = lighter_done
lighter_closed_do source f (a_semicolon l) = lighter_same (key TokenKind.Done ∷ key TokenKind.Semicolon ∷ [])

-- what comes after the targets of a call
lighter_called : (source : List ℕ) (b f o : Leaf) (args : OptNames) (c s : Leaf)
    → Lighter (map (said source) (token TokenKind.Becomes b ∷ token TokenKind.Name f ∷ token TokenKind.LeftParen o ∷ (spelled_opt_names args ++ token TokenKind.RightParen c ∷ token TokenKind.Semicolon s ∷ [])))
    (key TokenKind.Becomes ∷ name (bytes_at source f) ∷ key TokenKind.LeftParen ∷ (names_say (opt_name_trees source args) ++ key TokenKind.RightParen ∷ key TokenKind.Semicolon ∷ []))
lighter_called source b f o args c s =
    let after : List Lexeme = key TokenKind.Semicolon ∷ [] in
    let w = lighter_around (said source) (spelled_opt_names args) (token TokenKind.RightParen c) (token TokenKind.Semicolon s ∷ []) (names_say (opt_name_trees source args)) after
    (lighter_names source args) (lighter_same after) in
    lighter_cons (key TokenKind.Becomes) _ _ (lighter_cons (name (bytes_at source f)) _ _ (lighter_cons (key TokenKind.LeftParen) _ _ w))

-- a list of targets, or one alone without its parentheses
lighter_targets : (source : List ℕ) (o : Leaf) (xs : OptNames) (c : Leaf)
    → Lighter (map (said source) (token TokenKind.LeftParen o ∷ (spelled_opt_names xs ++ token TokenKind.RightParen c ∷ []))) (targets_say (opt_name_trees source xs))
lighter_targets source o xs c =
    let w = lighter_cons (key TokenKind.LeftParen) _ _ (lighter_around (said source) (spelled_opt_names xs) (token TokenKind.RightParen c) [] (names_say (opt_name_trees source xs)) []
    (lighter_names source xs) lighter_nil) in
    by (opt_name_trees source xs) w
  where
    by : (ys : List Named) → Lighter (map (said source) (token TokenKind.LeftParen o ∷ (spelled_opt_names xs ++ token TokenKind.RightParen c ∷ []))) (in_parens (names_say ys))
        → Lighter (map (said source) (token TokenKind.LeftParen o ∷ (spelled_opt_names xs ++ token TokenKind.RightParen c ∷ []))) (targets_say ys)
    by [] w = w
    by (y ∷ []) w = lighter_then _ (in_parens (names_say (y ∷ []))) (targets_say (y ∷ [])) w (lighter_bare (name y.name ∷ []) (λ d. refl))
    by (y ∷ z ∷ zs) w = w

mutual
  lighter_stmts : (source : List ℕ) (ss : Stmts) → Lighter (map (said source) (spelled_stmts ss)) (block_says (stmt_trees source ss))
  lighter_stmts source no_stmts = lighter_nil
  lighter_stmts source (more_stmts ss s) =
      lighter_both (said source) (spelled_stmts ss) (spelled_stmt s) (block_says (stmt_trees source ss)) (stmt_says (stmt_tree source s)) (lighter_stmts source ss) (lighter_stmt source s)

  lighter_stmt : (source : List ℕ) (s : Stmt) → Lighter (map (said source) (spelled_stmt s)) (stmt_says (stmt_tree source s))
  lighter_stmt source (skip_stmt w s) = lighter_same (key TokenKind.Skip ∷ key TokenKind.Semicolon ∷ [])
  lighter_stmt source (halt_stmt w s) = lighter_same (key TokenKind.Halt ∷ key TokenKind.Semicolon ∷ [])
  lighter_stmt source (fail_stmt w s) = lighter_same (key TokenKind.Fail ∷ key TokenKind.Semicolon ∷ [])
  lighter_stmt source (assume_stmt w e s) =
      lighter_cons (key TokenKind.Assume) _ _ (lighter_headed source e (token TokenKind.Semicolon s) [] [] lighter_nil)
  lighter_stmt source (assign_stmt x b e s) =
      lighter_cons (name (bytes_at source x)) _ _ (lighter_cons (key TokenKind.Becomes) _ _ (lighter_headed source e (token TokenKind.Semicolon s) [] [] lighter_nil))
  lighter_stmt source (call_stmt x b f o args c s) = lighter_cons (name (bytes_at source x)) _ _ (lighter_called source b f o args c s)
  lighter_stmt source (calls_stmt o xs c b f o' args c' s) =
      let called : List Token = token TokenKind.Becomes b ∷ token TokenKind.Name f ∷ token TokenKind.LeftParen o' ∷ (spelled_opt_names args ++ token TokenKind.RightParen c' ∷ token TokenKind.Semicolon s ∷ []) in
      let targets : List Token = token TokenKind.LeftParen o ∷ (spelled_opt_names xs ++ token TokenKind.RightParen c ∷ []) in
      subst (λ us. Lighter (map (said source) (token TokenKind.LeftParen o ∷ us)) (call_says (opt_name_trees source xs) (bytes_at source f) (opt_name_trees source args)))
      (append_assoc (spelled_opt_names xs) (token TokenKind.RightParen c ∷ []) called)
      (lighter_both (said source) targets called (targets_say (opt_name_trees source xs)) _ (lighter_targets source o xs c) (lighter_called source b f o' args c' s))
  lighter_stmt source (if_stmt w e t ss no_else f s) =
      let after : List Lexeme = key TokenKind.Endif ∷ key TokenKind.Semicolon ∷ [] in
      lighter_cons (key TokenKind.If) _ _ (lighter_headed source e (token TokenKind.Then t) _ _
      (lighter_both (said source) (spelled_stmts ss) (token TokenKind.Endif f ∷ spelled_semicolon s) (block_says (stmt_trees source ss)) after (lighter_stmts source ss) (lighter_closed_if source f s)))
  lighter_stmt source (if_stmt w e t ss (some_else l qs) f s) =
      let after : List Lexeme = key TokenKind.Endif ∷ key TokenKind.Semicolon ∷ [] in
      lighter_cons (key TokenKind.If) _ _ (lighter_headed source e (token TokenKind.Then t) _ _
      (lighter_around (said source) (spelled_stmts ss) (token TokenKind.Else l) (spelled_stmts qs ++ token TokenKind.Endif f ∷ spelled_semicolon s) (block_says (stmt_trees source ss)) (block_says (stmt_trees source qs) ++ after)
      (lighter_stmts source ss)
      (lighter_both (said source) (spelled_stmts qs) (token TokenKind.Endif f ∷ spelled_semicolon s) (block_says (stmt_trees source qs)) after (lighter_stmts source qs) (lighter_closed_if source f s))))
  lighter_stmt source (while_stmt w e d ss f s) =
      let after : List Lexeme = key TokenKind.Done ∷ key TokenKind.Semicolon ∷ [] in
      lighter_cons (key TokenKind.While) _ _ (lighter_headed source e (token TokenKind.Do d) _ _
      (lighter_both (said source) (spelled_stmts ss) (token TokenKind.Done f ∷ spelled_semicolon s) (block_says (stmt_trees source ss)) after (lighter_stmts source ss) (lighter_closed_do source f s)))

-- ---- programs

lighter_body : (source : List ℕ) (vs : Vars) (b : Leaf) (ss : Stmts) (e : Leaf)
    → Lighter (map (said source) (spelled_vars vs ++ token TokenKind.Begin b ∷ (spelled_stmts ss ++ token TokenKind.End e ∷ []))) (body_says (var_trees source vs) (stmt_trees source ss))
lighter_body source vs b ss e =
    lighter_around (said source) (spelled_vars vs) (token TokenKind.Begin b) (spelled_stmts ss ++ token TokenKind.End e ∷ []) (locals_say (var_trees source vs)) (block_says (stmt_trees source ss) ++ key TokenKind.End ∷ [])
    (lighter_vars source vs)
    (lighter_around (said source) (spelled_stmts ss) (token TokenKind.End e) [] (block_says (stmt_trees source ss)) [] (lighter_stmts source ss) lighter_nil)

lighter_proc : (source : List ℕ) (p : Proc) → Lighter (map (said source) (spelled_proc p)) (proc_says (proc_tree source p))
lighter_proc source (proc w n o ins c r o' outs c' vs b ss e) =
    lighter_cons (key TokenKind.Proc) _ _ (lighter_cons (name (bytes_at source n)) _ _ (lighter_cons (key TokenKind.LeftParen) _ _
    (lighter_around (said source) (spelled_opt_decls ins) (token TokenKind.RightParen c) _ (decls_say (opt_decl_trees source ins)) _ (lighter_decls source ins)
    (lighter_cons (key TokenKind.Returns) _ _ (lighter_cons (key TokenKind.LeftParen) _ _
    (lighter_around (said source) (spelled_opt_decls outs) (token TokenKind.RightParen c') _ (decls_say (opt_decl_trees source outs)) _ (lighter_decls source outs) (lighter_body source vs b ss e)))))))

procs_push : (ps : List ProcMeaning) (p : ProcMeaning) → flat_map proc_says (ps ++ p ∷ []) ≡ flat_map proc_says ps ++ proc_says p
procs_push [] p = append-nil (proc_says p)
procs_push (q ∷ ps) p = ap (λ x. proc_says q ++ x) (procs_push ps p) ∙ sym (append_assoc (proc_says q) (flat_map proc_says ps) (proc_says p))

lighter_procs : (source : List ℕ) (ps : Procs) → Lighter (map (said source) (spelled_procs ps)) (flat_map proc_says (proc_trees source ps))
lighter_procs source no_procs = lighter_nil
lighter_procs source (more_procs ps p) =
    subst (Lighter (map (said source) (spelled_procs ps ++ spelled_proc p))) (sym (procs_push (proc_trees source ps) (proc_tree source p)))
    (lighter_both (said source) (spelled_procs ps) (spelled_proc p) (flat_map proc_says (proc_trees source ps)) (proc_says (proc_tree source p)) (lighter_procs source ps) (lighter_proc source p))

-- what a derivation stands for is written with no more than what it spells
pub lighter_program : (source : List ℕ) (d : Derivation) → Lighter (map (said source) (spelled d)) (program_says (tree_of source d))
lighter_program source (program ps vs b ss e) =
    lighter_both (said source) (spelled_procs ps) (spelled_vars vs ++ token TokenKind.Begin b ∷ (spelled_stmts ss ++ token TokenKind.End e ∷ []))
    (flat_map proc_says (proc_trees source ps)) (body_says (var_trees source vs) (stmt_trees source ss)) (lighter_procs source ps) (lighter_body source vs b ss e)
