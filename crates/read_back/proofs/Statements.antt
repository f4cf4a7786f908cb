-- Tokens that say the statements of the canonical text, and its program, derive them.
use Rattle.std.proofs.Common.{◌≡◌, ℕ, List, [], ◌∷◌, ◌++◌, map, flat_map, ap, ap₂, sym, ◌∙◌, refl, append_assoc, append-nil}
use Rattle.std.proofs.lemmas.List.{map-append}
use Rattle.spl_text.specs.declared.token.Token.{Token}
use Rattle.spl_text.specs.declared.token.TokenKind.{TokenKind}
use Rattle.spl_tree.specs.Program.{Named, Declared, ExprTree, StmtTree, skip, halt, fail, assume, assign, call, if_then, if_else, while_do, BlockTree, empty, more, ProcMeaning, Program, nowhere, placeless_name, placeless_decl, placeless_expr, placeless_stmt, placeless_block, placeless_proc, SamePlacesAside}
use Rattle.spl_parser.specs.Grammar.{Leaf, OptNames, E0, a_semicolon, Stmts, no_stmts, more_stmts, Stmt, skip_stmt, halt_stmt, fail_stmt, assume_stmt, assign_stmt, call_stmt, calls_stmt, if_stmt, while_stmt, no_else, some_else, Vars, no_vars, some_vars, Proc, proc, Procs, no_procs, more_procs, Derivation, program}
use Rattle.spl_parser.specs.Spelling.{token, spelled_0, spelled_opt_names, spelled_vars, spelled_stmts, spelled_stmt, spelled_proc, spelled_procs, spelled}
use Rattle.spl_parser.specs.TreeOf.{named, bytes_at, tree_0, opt_name_trees, var_trees, stmt_trees, stmt_tree, proc_tree, proc_trees, tree_of}
use Rattle.read_back.proofs.Lexemes.{Lexeme, key, name, in_parens, expr_says, names_say, decls_say, call_says, stmt_says, block_says, locals_say, body_says, proc_says, program_says}
use Rattle.read_back.proofs.Splits.{Says, split, first, first_name, nothing, last, last_two}
use Rattle.read_back.proofs.Operands.{expr_derives}
use Rattle.read_back.proofs.NameLists.{names_derive, decls_derive, some_decls_derive}

-- an expression, and what comes after it
record Expr (bytes : List ℕ) (ts : List Token) (e : ExprTree) (ls : List Lexeme) : Type 0 where
  d : E0
  rest : List Token
  is : ts ≡ spelled_0 d ++ rest
  same : placeless_expr (tree_0 bytes d) ≡ placeless_expr e
  says : Says bytes rest ls

expr_first : (bytes : List ℕ) (ts : List Token) (e : ExprTree) (ls : List Lexeme) → Says bytes ts (expr_says e ++ ls) → Expr bytes ts e ls
expr_first bytes ts e ls h =
    let s = split bytes ts (expr_says e) ls h in
    let p = expr_derives e bytes s.first s.left in
    record { d = p.0; rest = s.second; is = s.joins ∙ ap (λ us. us ++ s.second) (sym p.1); same = p.2; says = s.right }

-- ---- calls

-- what comes after the targets
record Called (bytes : List ℕ) (ts : List Token) (called : List ℕ) (args : List Named) : Type 0 where
  b : Leaf
  f : Leaf
  o : Leaf
  xs : OptNames
  c : Leaf
  s : Leaf
  is : ts ≡ token TokenKind.Becomes b ∷ token TokenKind.Name f ∷ token TokenKind.LeftParen o ∷ (spelled_opt_names xs ++ token TokenKind.RightParen c ∷ token TokenKind.Semicolon s ∷ [])
  names : bytes_at bytes f ≡ called
  same : map placeless_name (opt_name_trees bytes xs) ≡ map placeless_name args

called_derives : (bytes : List ℕ) (ts : List Token) (called : List ℕ) (args : List Named)
    → Says bytes ts (key TokenKind.Becomes ∷ name called ∷ key TokenKind.LeftParen ∷ (names_say args ++ key TokenKind.RightParen ∷ key TokenKind.Semicolon ∷ []))
    → Called bytes ts called args
called_derives bytes ts called args h =
    let after : List Lexeme = key TokenKind.RightParen ∷ key TokenKind.Semicolon ∷ [] in
    let b = first bytes ts TokenKind.Becomes [] (name called ∷ key TokenKind.LeftParen ∷ (names_say args ++ after)) h in
    let f = first_name bytes b.rest called (key TokenKind.LeftParen ∷ (names_say args ++ after)) b.says in
    let o = first bytes f.rest TokenKind.LeftParen [] (names_say args ++ after) f.says in
    let s = split bytes o.rest (names_say args) after o.says in
    let xs = names_derive args bytes s.first s.left in
    let c = last_two bytes s.second TokenKind.RightParen TokenKind.Semicolon s.right in
    record {
      b = b.place;
      f = f.place;
      o = o.place;
      xs = xs.0;
      c = c.0;
      s = c.1;
      is = b.is ∙ ap (λ us. token TokenKind.Becomes b.place ∷ us) (f.is ∙ ap (λ us. token TokenKind.Name f.place ∷ us)
          (o.is ∙ ap (λ us. token TokenKind.LeftParen o.place ∷ us) (s.joins ∙ ap₂ (λ us vs. us ++ vs) (sym xs.1) c.2)));
      names = f.named;
      same = xs.2;
    }

abbrev Derived : List ℕ → List Token → StmtTree → Type 0
Derived bytes ts s = (d : Stmt) × (spelled_stmt d ≡ ts) × (placeless_stmt (stmt_tree bytes d) ≡ placeless_stmt s)

-- a call whose targets are in parentheses
listed_call : (targets : List Named) (called : List ℕ) (args : List Named) (bytes : List ℕ) (ts : List Token)
    → Says bytes ts (in_parens (names_say targets) ++ key TokenKind.Becomes ∷ name called ∷ key TokenKind.LeftParen
    ∷ (names_say args ++ key TokenKind.RightParen ∷ key TokenKind.Semicolon ∷ []))
    → (d : Stmt) × (spelled_stmt d ≡ ts) × (placeless_stmt (stmt_tree bytes d) ≡ call (map placeless_name targets) called (map placeless_name args) nowhere)
listed_call targets called args bytes ts h =
    let s = split bytes ts (in_parens (names_say targets)) _ h in
    let o = first bytes s.first TokenKind.LeftParen [] (names_say targets ++ key TokenKind.RightParen ∷ []) s.left in
    let m = split bytes o.rest (names_say targets) (key TokenKind.RightParen ∷ []) o.says in
    let xs = names_derive targets bytes m.first m.left in
    let c = last bytes m.second TokenKind.RightParen m.right in
    let t = called_derives bytes s.second called args s.right in
    let front : s.first ≡ token TokenKind.LeftParen o.place ∷ (spelled_opt_names xs.0 ++ token TokenKind.RightParen c.0 ∷ []) =
    o.is ∙ ap (λ us. token TokenKind.LeftParen o.place ∷ us) (m.joins ∙ ap₂ (λ us vs. us ++ vs) (sym xs.1) c.1) in
    let whole : ts ≡ token TokenKind.LeftParen o.place ∷ (spelled_opt_names xs.0 ++ token TokenKind.RightParen c.0 ∷ s.second) =
    s.joins ∙ ap (λ us. us ++ s.second) front ∙ ap (λ us. token TokenKind.LeftParen o.place ∷ us) (append_assoc (spelled_opt_names xs.0) (token TokenKind.RightParen c.0 ∷ []) s.second) in (
      calls_stmt o.place xs.0 c.0 t.b t.f t.o t.xs t.c t.s,
      sym (whole ∙ ap (λ us. token TokenKind.LeftParen o.place ∷ (spelled_opt_names xs.0 ++ token TokenKind.RightParen c.0 ∷ us)) t.is),
      ap₂ (λ x y. call x y (map placeless_name (opt_name_trees bytes t.xs)) nowhere) xs.2 t.names ∙ ap (λ z. call (map placeless_name targets) called z nowhere) t.same,
    )

call_derives : (targets : List Named) (called : List ℕ) (args : List Named) (bytes : List ℕ) (ts : List Token) → Says bytes ts (call_says targets called args)
    → (d : Stmt) × (spelled_stmt d ≡ ts) × (placeless_stmt (stmt_tree bytes d) ≡ call (map placeless_name targets) called (map placeless_name args) nowhere)
call_derives [] called args bytes ts h = listed_call [] called args bytes ts h
call_derives (x ∷ []) called args bytes ts h =
    let n = first_name bytes ts x.name _ h in
    let t = called_derives bytes n.rest called args n.says in (
      call_stmt n.place t.b t.f t.o t.xs t.c t.s,
      sym (n.is ∙ ap (λ us. token TokenKind.Name n.place ∷ us) t.is),
      ap₂ (λ y z. call (record { name = y; at = 0 } ∷ []) z (map placeless_name (opt_name_trees bytes t.xs)) nowhere) n.named t.names
          ∙ ap (λ z. call (record { name = x.name; at = 0 } ∷ []) called z nowhere) t.same,
    )
call_derives (x ∷ y ∷ ys) called args bytes ts h = listed_call (x ∷ y ∷ ys) called args bytes ts h

-- ---- statements

plain_derives : (bytes : List ℕ) (ts : List Token) (kind : TokenKind) (make : Leaf → Leaf → Stmt) → ((k l : Leaf) → spelled_stmt (make k l) ≡ token kind k ∷ token TokenKind.Semicolon l ∷ [])
    → (s : StmtTree) → ((k l : Leaf) → placeless_stmt (stmt_tree bytes (make k l)) ≡ placeless_stmt s) → Says bytes ts (key kind ∷ key TokenKind.Semicolon ∷ []) → Derived bytes ts s
plain_derives bytes ts kind make spells s same h =
    let t = last_two bytes ts kind TokenKind.Semicolon h in
    (make t.0 t.1, spells t.0 t.1 ∙ sym t.2, same t.0 t.1)

mutual
  stmt_derives : (s : StmtTree) (bytes : List ℕ) (ts : List Token) → Says bytes ts (stmt_says s) → Derived bytes ts s
  stmt_derives (skip at) bytes ts h = plain_derives bytes ts TokenKind.Skip skip_stmt (λ k l. refl) (skip at) (λ k l. refl) h
  stmt_derives (halt at) bytes ts h = plain_derives bytes ts TokenKind.Halt halt_stmt (λ k l. refl) (halt at) (λ k l. refl) h
  stmt_derives (fail at) bytes ts h = plain_derives bytes ts TokenKind.Fail fail_stmt (λ k l. refl) (fail at) (λ k l. refl) h
  stmt_derives (assume e at) bytes ts h =
      let w = first bytes ts TokenKind.Assume [] (expr_says e ++ key TokenKind.Semicolon ∷ []) h in
      let x = expr_first bytes w.rest e (key TokenKind.Semicolon ∷ []) w.says in
      let s = last bytes x.rest TokenKind.Semicolon x.says in (
        assume_stmt w.place x.d s.0,
        sym (w.is ∙ ap (λ us. token TokenKind.Assume w.place ∷ us) (x.is ∙ ap (λ us. spelled_0 x.d ++ us) s.1)),
        ap (λ y. assume y nowhere) x.same,
      )
  stmt_derives (assign v e at) bytes ts h =
      let n = first_name bytes ts v (key TokenKind.Becomes ∷ (expr_says e ++ key TokenKind.Semicolon ∷ [])) h in
      let w = first bytes n.rest TokenKind.Becomes [] (expr_says e ++ key TokenKind.Semicolon ∷ []) n.says in
      let x = expr_first bytes w.rest e (key TokenKind.Semicolon ∷ []) w.says in
      let s = last bytes x.rest TokenKind.Semicolon x.says in (
        assign_stmt n.place w.place x.d s.0,
        sym (n.is ∙ ap (λ us. token TokenKind.Name n.place ∷ us) (w.is ∙ ap (λ us. token TokenKind.Becomes w.place ∷ us) (x.is ∙ ap (λ us. spelled_0 x.d ++ us) s.1))),
        ap₂ (λ y z. assign y z nowhere) n.named x.same,
      )
  stmt_derives (call targets called args at) bytes ts h = call_derives targets called args bytes ts h
  stmt_derives (if_then e a at) bytes ts h =
      let after : List Lexeme = key TokenKind.Endif ∷ key TokenKind.Semicolon ∷ [] in
      let w = first bytes ts TokenKind.If [] (expr_says e ++ key TokenKind.Then ∷ (block_says a ++ after)) h in
      let x = expr_first bytes w.rest e (key TokenKind.Then ∷ (block_says a ++ after)) w.says in
      let t = first bytes x.rest TokenKind.Then [] (block_says a ++ after) x.says in
      let s = split bytes t.rest (block_says a) after t.says in
      let b = block_derives a bytes s.first s.left in
      let f = last_two bytes s.second TokenKind.Endif TokenKind.Semicolon s.right in (
        if_stmt w.place x.d t.place b.0 no_else f.0 (a_semicolon f.1),
        sym (w.is ∙ ap (λ us. token TokenKind.If w.place ∷ us) (x.is ∙ ap (λ us. spelled_0 x.d ++ us) (t.is ∙ ap (λ us. token TokenKind.Then t.place ∷ us)
            (s.joins ∙ ap₂ (λ us vs. us ++ vs) (sym b.1) f.2)))),
        ap₂ (λ y z. if_then y z nowhere) x.same b.2,
      )
  stmt_derives (if_else e a b at) bytes ts h =
      let after : List Lexeme = key TokenKind.Endif ∷ key TokenKind.Semicolon ∷ [] in
      let second : List Lexeme = key TokenKind.Else ∷ (block_says b ++ after) in
      let w = first bytes ts TokenKind.If [] (expr_says e ++ key TokenKind.Then ∷ (block_says a ++ second)) h in
      let x = expr_first bytes w.rest e (key TokenKind.Then ∷ (block_says a ++ second)) w.says in
      let t = first bytes x.rest TokenKind.Then [] (block_says a ++ second) x.says in
      let s = split bytes t.rest (block_says a) second t.says in
      let p = block_derives a bytes s.first s.left in
      let l = first bytes s.second TokenKind.Else [] (block_says b ++ after) s.right in
      let r = split bytes l.rest (block_says b) after l.says in
      let q = block_derives b bytes r.first r.left in
      let f = last_two bytes r.second TokenKind.Endif TokenKind.Semicolon r.right in (
        if_stmt w.place x.d t.place p.0 (some_else l.place q.0) f.0 (a_semicolon f.1),
        sym (w.is ∙ ap (λ us. token TokenKind.If w.place ∷ us) (x.is ∙ ap (λ us. spelled_0 x.d ++ us) (t.is ∙ ap (λ us. token TokenKind.Then t.place ∷ us)
            (s.joins ∙ ap₂ (λ us vs. us ++ vs) (sym p.1) (l.is ∙ ap (λ us. token TokenKind.Else l.place ∷ us) (r.joins ∙ ap₂ (λ us vs. us ++ vs) (sym q.1) f.2)))))),
        ap₂ (λ y z. if_else y z (placeless_block (stmt_trees bytes q.0)) nowhere) x.same p.2 ∙ ap (λ z. if_else (placeless_expr e) (placeless_block a) z nowhere) q.2,
      )
  stmt_derives (while_do e a at) bytes ts h =
      let after : List Lexeme = key TokenKind.Done ∷ key TokenKind.Semicolon ∷ [] in
      let w = first bytes ts TokenKind.While [] (expr_says e ++ key TokenKind.Do ∷ (block_says a ++ after)) h in
      let x = expr_first bytes w.rest e (key TokenKind.Do ∷ (block_says a ++ after)) w.says in
      let t = first bytes x.rest TokenKind.Do [] (block_says a ++ after) x.says in
      let s = split bytes t.rest (block_says a) after t.says in
      let b = block_derives a bytes s.first s.left in
      let f = last_two bytes s.second TokenKind.Done TokenKind.Semicolon s.right in (
        while_stmt w.place x.d t.place b.0 f.0 (a_semicolon f.1),
        sym (w.is ∙ ap (λ us. token TokenKind.While w.place ∷ us) (x.is ∙ ap (λ us. spelled_0 x.d ++ us) (t.is ∙ ap (λ us. token TokenKind.Do t.place ∷ us)
            (s.joins ∙ ap₂ (λ us vs. us ++ vs) (sym b.1) f.2)))),
        ap₂ (λ y z. while_do y z nowhere) x.same b.2,
      )

  block_derives : (b : BlockTree) (bytes : List ℕ) (ts : List Token) → Says bytes ts (block_says b)
      → (d : Stmts) × (spelled_stmts d ≡ ts) × (placeless_block (stmt_trees bytes d) ≡ placeless_block b)
  block_derives empty bytes ts h = (no_stmts, sym (nothing bytes ts h), refl)
  block_derives (more b s) bytes ts h =
      let p = split bytes ts (block_says b) (stmt_says s) h in
      let x = block_derives b bytes p.first p.left in
      let y = stmt_derives s bytes p.second p.right in
      (more_stmts x.0 y.0, ap₂ (λ us vs. us ++ vs) x.1 y.1 ∙ sym p.joins, ap₂ (λ u v. more u v) x.2 y.2)

-- ---- programs

vars_derive : (ds : List Declared) (bytes : List ℕ) (ts : List Token) → Says bytes ts (locals_say ds)
    → (d : Vars) × (spelled_vars d ≡ ts) × (map placeless_decl (var_trees bytes d) ≡ map placeless_decl ds)
vars_derive [] bytes ts h = (no_vars, sym (nothing bytes ts h), refl)
vars_derive (x ∷ xs) bytes ts h =
    let v = first bytes ts TokenKind.Var [] (decls_say (x ∷ xs) ++ key TokenKind.Semicolon ∷ []) h in
    let s = split bytes v.rest (decls_say (x ∷ xs)) (key TokenKind.Semicolon ∷ []) v.says in
    let d = some_decls_derive x xs bytes s.first s.left in
    let l = last bytes s.second TokenKind.Semicolon s.right in (
      some_vars v.place d.0 l.0,
      sym (v.is ∙ ap (λ us. token TokenKind.Var v.place ∷ us) (s.joins ∙ ap₂ (λ us vs. us ++ vs) (sym d.1) l.1)),
      d.2,
    )

-- locals and body
record Body (bytes : List ℕ) (ts : List Token) (locals : List Declared) (body : BlockTree) : Type 0 where
  vs : Vars
  b : Leaf
  ss : Stmts
  e : Leaf
  is : ts ≡ spelled_vars vs ++ token TokenKind.Begin b ∷ (spelled_stmts ss ++ token TokenKind.End e ∷ [])
  same_locals : map placeless_decl (var_trees bytes vs) ≡ map placeless_decl locals
  same_body : placeless_block (stmt_trees bytes ss) ≡ placeless_block body

body_derives : (locals : List Declared) (body : BlockTree) (bytes : List ℕ) (ts : List Token) → Says bytes ts (body_says locals body) → Body bytes ts locals body
body_derives locals body bytes ts h =
    let s = split bytes ts (locals_say locals) (key TokenKind.Begin ∷ (block_says body ++ key TokenKind.End ∷ [])) h in
    let vs = vars_derive locals bytes s.first s.left in
    let b = first bytes s.second TokenKind.Begin [] (block_says body ++ key TokenKind.End ∷ []) s.right in
    let p = split bytes b.rest (block_says body) (key TokenKind.End ∷ []) b.says in
    let ss = block_derives body bytes p.first p.left in
    let e = last bytes p.second TokenKind.End p.right in
    record {
      vs = vs.0;
      b = b.place;
      ss = ss.0;
      e = e.0;
      is = s.joins ∙ ap₂ (λ us ws. us ++ ws) (sym vs.1) (b.is ∙ ap (λ us. token TokenKind.Begin b.place ∷ us) (p.joins ∙ ap₂ (λ us ws. us ++ ws) (sym ss.1) e.1));
      same_locals = vs.2;
      same_body = ss.2;
    }

proc_derives : (p : ProcMeaning) (bytes : List ℕ) (ts : List Token) → Says bytes ts (proc_says p)
    → (d : Proc) × (spelled_proc d ≡ ts) × (placeless_proc (proc_tree bytes d) ≡ placeless_proc p)
proc_derives p bytes ts h =
    let rest_2 : List Lexeme = key TokenKind.RightParen ∷ body_says p.locals p.body in
    let rest_1 : List Lexeme = key TokenKind.RightParen ∷ key TokenKind.Returns ∷ key TokenKind.LeftParen ∷ (decls_say p.outputs ++ rest_2) in
    let w = first bytes ts TokenKind.Proc [] (name p.name.name ∷ key TokenKind.LeftParen ∷ (decls_say p.inputs ++ rest_1)) h in
    let n = first_name bytes w.rest p.name.name (key TokenKind.LeftParen ∷ (decls_say p.inputs ++ rest_1)) w.says in
    let o = first bytes n.rest TokenKind.LeftParen [] (decls_say p.inputs ++ rest_1) n.says in
    let i = split bytes o.rest (decls_say p.inputs) rest_1 o.says in
    let ins = decls_derive p.inputs bytes i.first i.left in
    let c = first bytes i.second TokenKind.RightParen [] (key TokenKind.Returns ∷ key TokenKind.LeftParen ∷ (decls_say p.outputs ++ rest_2)) i.right in
    let r = first bytes c.rest TokenKind.Returns [] (key TokenKind.LeftParen ∷ (decls_say p.outputs ++ rest_2)) c.says in
    let o' = first bytes r.rest TokenKind.LeftParen [] (decls_say p.outputs ++ rest_2) r.says in
    let j = split bytes o'.rest (decls_say p.outputs) rest_2 o'.says in
    let outs = decls_derive p.outputs bytes j.first j.left in
    let c' = first bytes j.second TokenKind.RightParen [] (body_says p.locals p.body) j.right in
    let b = body_derives p.locals p.body bytes c'.rest c'.says in
    let named_same : placeless_name (named bytes n.place) ≡ placeless_name p.name = ap (λ y. record { name = y; at = 0 }) n.named in (
      proc w.place n.place o.place ins.0 c.place r.place o'.place outs.0 c'.place b.vs b.b b.ss b.e,
      sym (w.is ∙ ap (λ us. token TokenKind.Proc w.place ∷ us) (n.is ∙ ap (λ us. token TokenKind.Name n.place ∷ us) (o.is ∙ ap (λ us. token TokenKind.LeftParen o.place ∷ us)
          (i.joins ∙ ap₂ (λ us vs. us ++ vs) (sym ins.1) (c.is ∙ ap (λ us. token TokenKind.RightParen c.place ∷ us) (r.is ∙ ap (λ us. token TokenKind.Returns r.place ∷ us)
          (o'.is ∙ ap (λ us. token TokenKind.LeftParen o'.place ∷ us) (j.joins ∙ ap₂ (λ us vs. us ++ vs) (sym outs.1) (c'.is ∙ ap (λ us. token TokenKind.RightParen c'.place ∷ us) b.is))))))))),
      same_proc _ _ _ _ _ _ _ _ _ _ named_same ins.2 outs.2 b.same_locals b.same_body,
    )
  where
    same_proc : (n n' : Named) (i i' o o' l l' : List Declared) (b b' : BlockTree) → n ≡ n' → i ≡ i' → o ≡ o' → l ≡ l' → b ≡ b'
        → Path ProcMeaning (record { name = n; inputs = i; outputs = o; locals = l; begin = 0; body = b }) (record { name = n'; inputs = i'; outputs = o'; locals = l'; begin = 0; body = b' })
    same_proc n n' i i' o o' l l' b b' e f g h k = rw (e, f, g, h, k) refl

-- procedures, after those that are there
procs_derive : (ps : List ProcMeaning) (bytes : List ℕ) (before : Procs) (ts : List Token) → Says bytes ts (flat_map proc_says ps)
    → (d : Procs) × (spelled_procs d ≡ spelled_procs before ++ ts) × (map placeless_proc (proc_trees bytes d) ≡ map placeless_proc (proc_trees bytes before) ++ map placeless_proc ps)
procs_derive [] bytes before ts h =
    let e = nothing bytes ts h in
    (before, sym (append-nil (spelled_procs before)) ∙ ap (λ us. spelled_procs before ++ us) (sym e), sym (append-nil (map placeless_proc (proc_trees bytes before))))
procs_derive (p ∷ ps) bytes before ts h =
    let s = split bytes ts (proc_says p) (flat_map proc_says ps) h in
    let n = proc_derives p bytes s.first s.left in
    let d = procs_derive ps bytes (more_procs before n.0) s.second s.right in
    let whole : spelled_proc n.0 ++ s.second ≡ ts = ap (λ us. us ++ s.second) n.1 ∙ sym s.joins in (
      d.0,
      d.1 ∙ append_assoc (spelled_procs before) (spelled_proc n.0) s.second ∙ ap (λ us. spelled_procs before ++ us) whole,
      d.2 ∙ ap (λ us. us ++ map placeless_proc ps) (map-append placeless_proc (proc_trees bytes before) (proc_tree bytes n.0 ∷ []))
          ∙ append_assoc (map placeless_proc (proc_trees bytes before)) (placeless_proc (proc_tree bytes n.0) ∷ []) (map placeless_proc ps)
          ∙ ap (λ y. map placeless_proc (proc_trees bytes before) ++ y ∷ map placeless_proc ps) n.2,
    )

-- tokens that say a program derive it, places aside
pub program_derives : (p : Program) (bytes : List ℕ) (ts : List Token) → Says bytes ts (program_says p)
    → (d : Derivation) × (spelled d ≡ ts) × SamePlacesAside (tree_of bytes d) p
program_derives p bytes ts h =
    let s = split bytes ts (flat_map proc_says p.procs) (body_says p.locals p.body) h in
    let ps = procs_derive p.procs bytes no_procs s.first s.left in
    let b = body_derives p.locals p.body bytes s.second s.right in (
      program ps.0 b.vs b.b b.ss b.e,
      sym (s.joins ∙ ap₂ (λ us vs. us ++ vs) (sym ps.1) b.is),
      same_program _ _ _ _ _ _ ps.2 b.same_locals b.same_body,
    )
  where
    same_program : (i i' : List ProcMeaning) (l l' : List Declared) (b b' : BlockTree) → i ≡ i' → l ≡ l' → b ≡ b'
        → Path Program (record { procs = i; locals = l; begin = 0; body = b }) (record { procs = i'; locals = l'; begin = 0; body = b' })
    same_program i i' l l' b b' e f g = rw (e, f, g) refl
