-- The machine reads every statement, every block, every list of declarations, every procedure and every program.
use Rattle.std.proofs.Common.{◌≡◌, List, [], ◌∷◌, ◌++◌, Option, Some, Bool, true, false, IsTrue, refl, sym, ap, ◌∙◌, append_assoc, option_and_then}
use Rattle.spl_text.specs.declared.token.Token.{Token}
use Rattle.spl_text.specs.declared.token.TokenKind.{TokenKind}
use Rattle.spl_text.specs.declared.token.TokenKind.TheVariants.{Name, Proc, Returns, Begin, End, Skip, Halt, Fail, Assume, If, Then, Else, Endif, While, Do, Done, LeftParen, RightParen, Comma, Semicolon, Colon, Becomes}
use Rattle.spl_parser.specs.Grammar.{Leaf, TypeWord, int_word, real_word, name_word, Decl, decl, Decls, one_decl, more_decls, OptDecls, no_decls, some_decls, Vars, no_vars, some_vars, Names, one_name, more_names, OptNames, no_names, some_names, E0, Atom, name_atom, OptSemicolon, no_semicolon, a_semicolon, Stmts, no_stmts, more_stmts, Stmt, skip_stmt, halt_stmt, fail_stmt, assume_stmt, assign_stmt, call_stmt, calls_stmt, if_stmt, while_stmt, OptElse, no_else, some_else, Proc as ProcD, proc, Procs, no_procs, more_procs, Derivation, program}
use Rattle.spl_parser.specs.Spelling.{token, spelled_type, spelled_decl, spelled_decls, spelled_opt_decls, spelled_vars, spelled_names, spelled_opt_names, spelled_0, spelled_semicolon, spelled_stmts, spelled_stmt, spelled_proc, spelled_procs, spelled}
use Rattle.spl_parser.specs.Machine.{Head, main_head, proc_head, DeclGoal, inputs_of, outputs_of, vars_of, Before, at_first, after, Frame, in_then, in_else, in_while, Body, assume_goal, assign_goal, if_goal, while_goal, Pending, Targets, one_target, target_list, NameGoal, target_names, argument_names, Closed, closed_if, closed_while, State, at_start, at_begin, decl_open, decl_next, decl_name, decl_colon, decl_after, inputs_after, in_block, target, assign_start, assign_name, want, have, names_open, names_next, names_after, targets_after, after_end, done, nothing_before, closed_0, with_stmt, with_block, new_body, with_decl, finished, call_stmt_of, leaf_of, run, initial, step, starts_proc, step_start, step_begin, step_proc_word, step_proc_name, decls_close, vars_close, step_decl_open, step_decl_next, step_decl_name, step_decl_colon, step_decl_after, step_inputs_after, step_returns_word, on_else, on_endif, on_done, body_close, on_end, step_block, step_simple, step_target, step_want, on_semicolon, on_then, on_do, step_have, step_assign_start, step_assign_name, names_close, step_names_open, step_names_next, step_names_after, step_targets_after, step_called, step_called_name, step_call_after, step_after_end}
use Rattle.spl_parser.proofs.Algebras.{derivations as D}
use Rattle.spl_parser.proofs.Expressions.{then_run, goes_on, reads_0}

-- the kinds but `;`
abbrev no_semi : TokenKind → Bool
no_semi Semicolon = false
no_semi _ = true

-- a state goes on as the block does, but for a `;`
abbrev pub AtBlock : State D → Body D → Type 0
AtBlock s b = (k : TokenKind) (l : Leaf) → IsTrue (no_semi k) → step D s k l ≡ step_block D b k l

at_now : (b : Body D) → AtBlock (in_block b) b
unfolding step
at_now b k l h = refl

at_soon : (b : Body D) (c : Closed D) → AtBlock (after_end b c) (with_stmt D b (finished D c no_semicolon))
unfolding step step_after_end
at_soon b c Semicolon l h = cc
at_soon b c _ l h = refl

-- a step and a run
pub step_run : (s s1 : State D) (t : Token) (ts : List Token) (r : Option (State D)) → step D s t.kind (leaf_of t) ≡ Some s1 → run D s1 ts ≡ r → run D s (t ∷ ts) ≡ r
step_run s s1 t ts r e h = ap (λ o. option_and_then (λ s'. run D s' ts) o) e ∙ h

-- the state after a statement, and after statements
record ReadsStmt (s : State D) (b : Body D) (d : Stmt) : Type 0 where
  s' : State D
  runs : run D s (spelled_stmt d) ≡ Some s'
  at : AtBlock s' (with_stmt D b d)

record ReadsStmts (b : Body D) (fs : List (Frame D)) (ss : Stmts) : Type 0 where
  s' : State D
  runs : run D (in_block (with_block D b fs no_stmts)) (spelled_stmts ss) ≡ Some s'
  at : AtBlock s' (with_block D b fs ss)

record ReadsEnd (b : Body D) (c : Closed D) (q : OptSemicolon) : Type 0 where
  s' : State D
  runs : run D (after_end b c) (spelled_semicolon q) ≡ Some s'
  at : AtBlock s' (with_stmt D b (finished D c q))

reads_end : (b : Body D) (c : Closed D) (q : OptSemicolon) → ReadsEnd b c q
unfolding step step_after_end
reads_end b c no_semicolon = record { s' = after_end b c; runs = refl; at = at_soon b c }
reads_end b c (a_semicolon l) = record { s' = in_block (with_stmt D b (finished D c (a_semicolon l))); runs = refl; at = at_now (with_stmt D b (finished D c (a_semicolon l))) }

-- names
step-names_close : (b : Body D) (g : NameGoal D) (ns : Names) (c : Leaf) → step D (names_after b g ns) RightParen c ≡ Some (names_close D b g (some_names ns) c)
unfolding step step_names_after
step-names_close b g ns c = refl

reads_names : (ns : Names) (b : Body D) (g : NameGoal D) → run D (names_open b g) (spelled_names ns) ≡ Some (names_after b g ns)
unfolding step step_names_open step_names_next step_names_after
reads_names (one_name n) b g = refl
reads_names (more_names ns c n) b g = goes_on _ _ (names_next b g ns c) (spelled_names ns) (token Name n ∷ []) (token Comma c) _ (reads_names ns b g) refl refl

reads_opt_names : (ns : OptNames) (b : Body D) (g : NameGoal D) (c : Leaf) (ts : List Token) → run D (names_open b g) (spelled_opt_names ns ++ token RightParen c ∷ ts) ≡ run D (names_close D b g ns c) ts
unfolding step step_names_open
reads_opt_names no_names b g c ts = refl
reads_opt_names (some_names ns) b g c ts = goes_on _ _ _ (spelled_names ns) ts (token RightParen c) _ (reads_names ns b g) (step-names_close b g ns c) refl

-- statements without blocks
reads_skip : (s : State D) (b : Body D) (w q : Leaf) → AtBlock s b → ReadsStmt s b (skip_stmt w q)
unfolding step step_block step_simple
reads_skip s b w q h = record { s' = in_block (with_stmt D b (skip_stmt w q)); runs = step_run s _ (token Skip w) (token Semicolon q ∷ []) _ (h Skip w refl) refl; at = at_now (with_stmt D b (skip_stmt w q)) }

reads_halt : (s : State D) (b : Body D) (w q : Leaf) → AtBlock s b → ReadsStmt s b (halt_stmt w q)
unfolding step step_block step_simple
reads_halt s b w q h = record { s' = in_block (with_stmt D b (halt_stmt w q)); runs = step_run s _ (token Halt w) (token Semicolon q ∷ []) _ (h Halt w refl) refl; at = at_now (with_stmt D b (halt_stmt w q)) }

reads_fail : (s : State D) (b : Body D) (w q : Leaf) → AtBlock s b → ReadsStmt s b (fail_stmt w q)
unfolding step step_block step_simple
reads_fail s b w q h = record { s' = in_block (with_stmt D b (fail_stmt w q)); runs = step_run s _ (token Fail w) (token Semicolon q ∷ []) _ (h Fail w refl) refl; at = at_now (with_stmt D b (fail_stmt w q)) }

step-assume : (b : Body D) (w : Leaf) (p : Pending D) (x : Atom) (q : Leaf) (e : E0) → closed_0 D p x ≡ e → step D (have b (assume_goal w) [] p x) Semicolon q ≡ Some (in_block (with_stmt D b (assume_stmt w e q)))
unfolding step step_have on_semicolon
step-assume b w p x q e h = ap (λ y. Some (in_block (with_stmt D b (assume_stmt w y q)))) h

reads_assume : (s : State D) (b : Body D) (w : Leaf) (e : E0) (q : Leaf) → AtBlock s b → ReadsStmt s b (assume_stmt w e q)
unfolding step_block
reads_assume s b w e q h =
    let r = reads_0 e b (assume_goal w) [] in
    record {
      s' = in_block (with_stmt D b (assume_stmt w e q));
      runs = step_run s _ (token Assume w) _ _ (h Assume w refl) (goes_on _ _ _ (spelled_0 e) [] (token Semicolon q) _ r.runs (step-assume b w r.p r.x q e r.closes) refl);
      at = at_now (with_stmt D b (assume_stmt w e q));
    }

step-assign : (b : Body D) (n q : Leaf) (p : Pending D) (x : Atom) (l : Leaf) (e : E0) → closed_0 D p x ≡ e → step D (have b (assign_goal n q) [] p x) Semicolon l ≡ Some (in_block (with_stmt D b (assign_stmt n q e l)))
unfolding step step_have on_semicolon
step-assign b n q p x l e h = ap (λ y. Some (in_block (with_stmt D b (assign_stmt n q y l)))) h

-- after `x = NAME` a run that ends in a block goes as it does in any expression, since no `(` follows a name there
assign_name_as : (b : Body D) (x q n : Leaf) (ts : List Token) (b' : Body D) → run D (have b (assign_goal x q) [] (nothing_before D) (name_atom n)) ts ≡ Some (in_block b') → run D (assign_name b x q n) ts ≡ Some (in_block b')
unfolding step step_assign_name step_have
assign_name_as b x q n [] b' h = cc
assign_name_as b x q n (t ∷ ts) b' h = go t.kind h
  where
    go : (k : TokenKind) → option_and_then (λ s'. run D s' ts) (step_have D b (assign_goal x q) [] (nothing_before D) (name_atom n) k (leaf_of t)) ≡ Some (in_block b') → option_and_then (λ s'. run D s' ts) (step_assign_name D b x q n k (leaf_of t)) ≡ Some (in_block b')
    go LeftParen h = cc
    go _ h = h

assign_start_as : (b : Body D) (x q : Leaf) (ts : List Token) (b' : Body D) → run D (want b (assign_goal x q) [] (nothing_before D)) ts ≡ Some (in_block b') → run D (assign_start b x q) ts ≡ Some (in_block b')
unfolding step step_assign_start step_want
assign_start_as b x q [] b' h = cc
assign_start_as b x q (t ∷ ts) b' h = go t.kind h
  where
    go : (k : TokenKind) → option_and_then (λ s'. run D s' ts) (step_want D b (assign_goal x q) [] (nothing_before D) k (leaf_of t)) ≡ Some (in_block b') → option_and_then (λ s'. run D s' ts) (step_assign_start D b x q k (leaf_of t)) ≡ Some (in_block b')
    go Name h = assign_name_as b x q (leaf_of t) ts b' h
    go _ h = h

run-becomes : (b : Body D) (x q : Leaf) (ts : List Token) → run D (target b x) (token Becomes q ∷ ts) ≡ run D (assign_start b x q) ts
unfolding step step_target
run-becomes b x q ts = refl

reads_assign : (s : State D) (b : Body D) (x q : Leaf) (e : E0) (l : Leaf) → AtBlock s b → ReadsStmt s b (assign_stmt x q e l)
unfolding step_block
reads_assign s b x q e l h =
    let r = reads_0 e b (assign_goal x q) [] in
    let runs = goes_on _ _ _ (spelled_0 e) [] (token Semicolon l) _ r.runs (step-assign b x q r.p r.x l e r.closes) refl in
    record {
      s' = in_block (with_stmt D b (assign_stmt x q e l));
      runs = step_run s _ (token Name x) (token Becomes q ∷ (spelled_0 e ++ token Semicolon l ∷ [])) _ (h Name x refl) (run-becomes b x q (spelled_0 e ++ token Semicolon l ∷ []) ∙ assign_start_as b x q (spelled_0 e ++ token Semicolon l ∷ []) (with_stmt D b (assign_stmt x q e l)) runs);
      at = at_now (with_stmt D b (assign_stmt x q e l));
    }

run-one_called : (b : Body D) (x q f o : Leaf) (ts : List Token) → run D (target b x) (token Becomes q ∷ token Name f ∷ token LeftParen o ∷ ts) ≡ run D (names_open b (argument_names (one_target x q) f o)) ts
unfolding step step_target step_assign_start step_assign_name
run-one_called b x q f o ts = refl

run-list_called : (b : Body D) (o : Leaf) (ns : OptNames) (c q f o' : Leaf) (ts : List Token) → run D (targets_after b o ns c) (token Becomes q ∷ token Name f ∷ token LeftParen o' ∷ ts) ≡ run D (names_open b (argument_names (target_list o ns c q) f o')) ts
unfolding step step_targets_after step_called step_called_name
run-list_called b o ns c q f o' ts = refl

run-call_after : (b : Body D) (ts : Targets D) (f o : Leaf) (ns : OptNames) (c l : Leaf) → run D (names_close D b (argument_names ts f o) ns c) (token Semicolon l ∷ []) ≡ Some (in_block (with_stmt D b (call_stmt_of D ts f o ns c l)))
unfolding step names_close step_call_after
run-call_after b ts f o ns c l = refl

names_close-targets : (b : Body D) (o : Leaf) (ns : OptNames) (c : Leaf) (ts : List Token) → run D (names_close D b (target_names o) ns c) ts ≡ run D (targets_after b o ns c) ts
unfolding names_close
names_close-targets b o ns c ts = refl

reads_call : (s : State D) (b : Body D) (x q f o : Leaf) (args : OptNames) (c l : Leaf) → AtBlock s b → ReadsStmt s b (call_stmt x q f o args c l)
unfolding step_block
reads_call s b x q f o args c l h =
    record {
      s' = in_block (with_stmt D b (call_stmt x q f o args c l));
      runs = step_run s _ (token Name x) (token Becomes q ∷ token Name f ∷ token LeftParen o ∷ (spelled_opt_names args ++ token RightParen c ∷ token Semicolon l ∷ [])) _ (h Name x refl) (run-one_called b x q f o (spelled_opt_names args ++ token RightParen c ∷ token Semicolon l ∷ []) ∙ (reads_opt_names args b (argument_names (one_target x q) f o) c (token Semicolon l ∷ []) ∙ run-call_after b (one_target x q) f o args c l));
      at = at_now (with_stmt D b (call_stmt x q f o args c l));
    }

reads_calls : (s : State D) (b : Body D) (o : Leaf) (xs : OptNames) (c q f o' : Leaf) (args : OptNames) (c' l : Leaf) → AtBlock s b → ReadsStmt s b (calls_stmt o xs c q f o' args c' l)
unfolding step_block
reads_calls s b o xs c q f o' args c' l h =
    record {
      s' = in_block (with_stmt D b (calls_stmt o xs c q f o' args c' l));
      runs = step_run s _ (token LeftParen o) (spelled_opt_names xs ++ token RightParen c ∷ token Becomes q ∷ token Name f ∷ token LeftParen o' ∷ (spelled_opt_names args ++ token RightParen c' ∷ token Semicolon l ∷ [])) _ (h LeftParen o refl) (reads_opt_names xs b (target_names o) c (token Becomes q ∷ token Name f ∷ token LeftParen o' ∷ (spelled_opt_names args ++ token RightParen c' ∷ token Semicolon l ∷ [])) ∙ (names_close-targets b o xs c (token Becomes q ∷ token Name f ∷ token LeftParen o' ∷ (spelled_opt_names args ++ token RightParen c' ∷ token Semicolon l ∷ [])) ∙ (run-list_called b o xs c q f o' (spelled_opt_names args ++ token RightParen c' ∷ token Semicolon l ∷ []) ∙ (reads_opt_names args b (argument_names (target_list o xs c q) f o') c' (token Semicolon l ∷ []) ∙ run-call_after b (target_list o xs c q) f o' args c' l))));
      at = at_now (with_stmt D b (calls_stmt o xs c q f o' args c' l));
    }

-- statements with blocks, once their blocks are read
step-do : (b : Body D) (w : Leaf) (p : Pending D) (x : Atom) (d : Leaf) (e : E0) → closed_0 D p x ≡ e → step D (have b (while_goal w) [] p x) Do d ≡ Some (in_block (with_block D b (in_while b.stmts w e d ∷ b.frames) no_stmts))
unfolding step step_have on_do
step-do b w p x d e h = ap (λ y. Some (in_block (with_block D b (in_while b.stmts w y d ∷ b.frames) no_stmts))) h

step-then : (b : Body D) (w : Leaf) (p : Pending D) (x : Atom) (t : Leaf) (e : E0) → closed_0 D p x ≡ e → step D (have b (if_goal w) [] p x) Then t ≡ Some (in_block (with_block D b (in_then b.stmts w e t ∷ b.frames) no_stmts))
unfolding step step_have on_then
step-then b w p x t e h = ap (λ y. Some (in_block (with_block D b (in_then b.stmts w y t ∷ b.frames) no_stmts))) h

block-done : (b : Body D) (w : Leaf) (e : E0) (d : Leaf) (ss : Stmts) (f : Leaf) → step_block D (with_block D b (in_while b.stmts w e d ∷ b.frames) ss) Done f ≡ Some (after_end b (closed_while w e d ss f))
unfolding step_block on_done
block-done b w e d ss f = refl

block-endif : (b : Body D) (w : Leaf) (e : E0) (t : Leaf) (ss : Stmts) (f : Leaf) → step_block D (with_block D b (in_then b.stmts w e t ∷ b.frames) ss) Endif f ≡ Some (after_end b (closed_if w e t ss no_else f))
unfolding step_block on_endif
block-endif b w e t ss f = refl

block-else : (b : Body D) (w : Leaf) (e : E0) (t : Leaf) (ss : Stmts) (l : Leaf) → step_block D (with_block D b (in_then b.stmts w e t ∷ b.frames) ss) Else l ≡ Some (in_block (with_block D b (in_else b.stmts w e t ss l ∷ b.frames) no_stmts))
unfolding step_block on_else
block-else b w e t ss l = refl

block-endif_else : (b : Body D) (w : Leaf) (e : E0) (t : Leaf) (ts : Stmts) (l : Leaf) (ss : Stmts) (f : Leaf) → step_block D (with_block D b (in_else b.stmts w e t ts l ∷ b.frames) ss) Endif f ≡ Some (after_end b (closed_if w e t ts (some_else l ss) f))
unfolding step_block on_endif
block-endif_else b w e t ts l ss f = refl

block-if : (b : Body D) (w : Leaf) → step_block D b If w ≡ Some (want b (if_goal w) [] (nothing_before D))
unfolding step_block
block-if b w = refl

block-while : (b : Body D) (w : Leaf) → step_block D b While w ≡ Some (want b (while_goal w) [] (nothing_before D))
unfolding step_block
block-while b w = refl

reads_while : (s : State D) (b : Body D) (w : Leaf) (e : E0) (d : Leaf) (ss : Stmts) (f : Leaf) (q : OptSemicolon) → AtBlock s b → ReadsStmts b (in_while b.stmts w e d ∷ b.frames) ss → ReadsStmt s b (while_stmt w e d ss f q)
reads_while s b w e d ss f q h body =
    let r = reads_0 e b (while_goal w) [] in
    let z = reads_end b (closed_while w e d ss f) q in
    record {
      s' = z.s';
      runs = step_run s _ (token While w) _ _ (h While w refl ∙ block-while b w)
          (goes_on _ _ _ (spelled_0 e) (spelled_stmts ss ++ token Done f ∷ spelled_semicolon q) (token Do d) _ r.runs (step-do b w r.p r.x d e r.closes)
          (goes_on _ _ _ (spelled_stmts ss) (spelled_semicolon q) (token Done f) _ body.runs (body.at Done f refl ∙ block-done b w e d ss f) z.runs));
      at = z.at;
    }

reads_if : (s : State D) (b : Body D) (w : Leaf) (e : E0) (t : Leaf) (ss : Stmts) (f : Leaf) (q : OptSemicolon) → AtBlock s b → ReadsStmts b (in_then b.stmts w e t ∷ b.frames) ss → ReadsStmt s b (if_stmt w e t ss no_else f q)
reads_if s b w e t ss f q h body =
    let r = reads_0 e b (if_goal w) [] in
    let z = reads_end b (closed_if w e t ss no_else f) q in
    record {
      s' = z.s';
      runs = step_run s _ (token If w) _ _ (h If w refl ∙ block-if b w)
          (goes_on _ _ _ (spelled_0 e) (spelled_stmts ss ++ token Endif f ∷ spelled_semicolon q) (token Then t) _ r.runs (step-then b w r.p r.x t e r.closes)
          (goes_on _ _ _ (spelled_stmts ss) (spelled_semicolon q) (token Endif f) _ body.runs (body.at Endif f refl ∙ block-endif b w e t ss f) z.runs));
      at = z.at;
    }

reads_if_else : (s : State D) (b : Body D) (w : Leaf) (e : E0) (t : Leaf) (ts : Stmts) (l : Leaf) (ss : Stmts) (f : Leaf) (q : OptSemicolon) → AtBlock s b → ReadsStmts b (in_then b.stmts w e t ∷ b.frames) ts → ReadsStmts b (in_else b.stmts w e t ts l ∷ b.frames) ss → ReadsStmt s b (if_stmt w e t ts (some_else l ss) f q)
reads_if_else s b w e t ts l ss f q h first second =
    let r = reads_0 e b (if_goal w) [] in
    let z = reads_end b (closed_if w e t ts (some_else l ss) f) q in
    record {
      s' = z.s';
      runs = step_run s _ (token If w) _ _ (h If w refl ∙ block-if b w)
          (goes_on _ _ _ (spelled_0 e) (spelled_stmts ts ++ token Else l ∷ (spelled_stmts ss ++ token Endif f ∷ spelled_semicolon q)) (token Then t) _ r.runs (step-then b w r.p r.x t e r.closes)
          (goes_on _ _ _ (spelled_stmts ts) (spelled_stmts ss ++ token Endif f ∷ spelled_semicolon q) (token Else l) _ first.runs (first.at Else l refl ∙ block-else b w e t ts l)
          (goes_on _ _ _ (spelled_stmts ss) (spelled_semicolon q) (token Endif f) _ second.runs (second.at Endif f refl ∙ block-endif_else b w e t ts l ss f) z.runs)));
      at = z.at;
    }

no_stmts_read : (b : Body D) (fs : List (Frame D)) → ReadsStmts b fs no_stmts
no_stmts_read b fs = record { s' = in_block (with_block D b fs no_stmts); runs = refl; at = at_now (with_block D b fs no_stmts) }

one_more : (b : Body D) (fs : List (Frame D)) (ss : Stmts) (d : Stmt) (r : ReadsStmts b fs ss) → ReadsStmt r.s' (with_block D b fs ss) d → ReadsStmts b fs (more_stmts ss d)
one_more b fs ss d r q = record { s' = q.s'; runs = then_run D _ r.s' (spelled_stmts ss) (spelled_stmt d) _ r.runs q.runs; at = q.at }

mutual
  reads_stmts : (ss : Stmts) (b : Body D) (fs : List (Frame D)) → ReadsStmts b fs ss
  reads_stmts no_stmts b fs = no_stmts_read b fs
  reads_stmts (more_stmts ss d) b fs =
      let r = reads_stmts ss b fs in
      one_more b fs ss d r (reads_stmt d r.s' (with_block D b fs ss) r.at)

  reads_stmt : (d : Stmt) (s : State D) (b : Body D) → AtBlock s b → ReadsStmt s b d
  reads_stmt (skip_stmt w q) s b h = reads_skip s b w q h
  reads_stmt (halt_stmt w q) s b h = reads_halt s b w q h
  reads_stmt (fail_stmt w q) s b h = reads_fail s b w q h
  reads_stmt (assume_stmt w e q) s b h = reads_assume s b w e q h
  reads_stmt (assign_stmt x q e l) s b h = reads_assign s b x q e l h
  reads_stmt (call_stmt x q f o args c l) s b h = reads_call s b x q f o args c l h
  reads_stmt (calls_stmt o xs c q f o' args c' l) s b h = reads_calls s b o xs c q f o' args c' l h
  reads_stmt (if_stmt w e t ts els f q) s b h = reads_tail els s b w e t ts f q h (reads_stmts ts b (in_then b.stmts w e t ∷ b.frames))
  reads_stmt (while_stmt w e d ss f q) s b h = reads_while s b w e d ss f q h (reads_stmts ss b (in_while b.stmts w e d ∷ b.frames))

  reads_tail : (els : OptElse) (s : State D) (b : Body D) (w : Leaf) (e : E0) (t : Leaf) (ts : Stmts) (f : Leaf) (q : OptSemicolon) → AtBlock s b → ReadsStmts b (in_then b.stmts w e t ∷ b.frames) ts → ReadsStmt s b (if_stmt w e t ts els f q)
  reads_tail no_else s b w e t ts f q h first = reads_if s b w e t ts f q h first
  reads_tail (some_else l ss) s b w e t ts f q h first = reads_if_else s b w e t ts l ss f q h first (reads_stmts ss b (in_else b.stmts w e t ts l ∷ b.frames))

-- declarations
reads_type : (t : TypeWord) (g : DeclGoal D) (b : Before D) (n c : Leaf) (ts : List Token) → run D (decl_colon g b n c) (spelled_type t ∷ ts) ≡ run D (decl_after g (with_decl D b n c t)) ts
unfolding step step_decl_colon
reads_type (int_word l) g b n c ts = refl
reads_type (real_word l) g b n c ts = refl
reads_type (name_word l) g b n c ts = refl

reads_colon : (g : DeclGoal D) (b : Before D) (n c : Leaf) (ts : List Token) → run D (decl_name g b n) (token Colon c ∷ ts) ≡ run D (decl_colon g b n c) ts
unfolding step step_decl_name
reads_colon g b n c ts = refl

step-decl_next : (g : DeclGoal D) (b : Before D) (n : Leaf) → step D (decl_next g b) Name n ≡ Some (decl_name g b n)
unfolding step step_decl_next
step-decl_next g b n = refl

step-comma : (g : DeclGoal D) (ds : Decls) (c : Leaf) → step D (decl_after g ds) Comma c ≡ Some (decl_next g (after ds c))
unfolding step step_decl_after
step-comma g ds c = refl

reads_decl : (d : Decl) (s : State D) (g : DeclGoal D) (b : Before D) → ((n : Leaf) → step D s Name n ≡ Some (decl_name g b n)) → (ds : Decls) → ((n c : Leaf) (t : TypeWord) → d ≡ decl n c t → with_decl D b n c t ≡ ds) → run D s (spelled_decl d) ≡ Some (decl_after g ds)
reads_decl (decl n c t) s g b h ds e = step_run s _ (token Name n) (token Colon c ∷ spelled_type t ∷ []) _ (h n) (reads_colon g b n c (spelled_type t ∷ []) ∙ (reads_type t g b n c [] ∙ ap (λ x. Some (decl_after g x)) (e n c t refl)))

first_decl : (d : Decl) (n c : Leaf) (t : TypeWord) → d ≡ decl n c t → with_decl D at_first n c t ≡ one_decl d
first_decl d n c t e = ap (λ x. one_decl x) (sym e)

next_decl : (ds : Decls) (m : Leaf) (d : Decl) (n c : Leaf) (t : TypeWord) → d ≡ decl n c t → with_decl D (after ds m) n c t ≡ more_decls ds m d
next_decl ds m d n c t e = ap (λ x. more_decls ds m x) (sym e)

reads_decls : (ds : Decls) (s : State D) (g : DeclGoal D) → ((n : Leaf) → step D s Name n ≡ Some (decl_name g at_first n)) → run D s (spelled_decls ds) ≡ Some (decl_after g ds)
reads_decls (one_decl d) s g h = reads_decl d s g at_first h (one_decl d) (first_decl d)
reads_decls (more_decls ds c d) s g h = goes_on s _ (decl_next g (after ds c)) (spelled_decls ds) (spelled_decl d) (token Comma c) _ (reads_decls ds s g h) (step-comma g ds c) (reads_decl d (decl_next g (after ds c)) g (after ds c) (step-decl_next g (after ds c)) (more_decls ds c d) (next_decl ds c d))

step-decl_open : (g : DeclGoal D) (n : Leaf) → step D (decl_open g) Name n ≡ Some (decl_name g at_first n)
unfolding step step_decl_open
step-decl_open g n = refl

-- a list of inputs or outputs up to its `)`
reads_inputs : (ins : OptDecls) (ps : Procs) (w n o c : Leaf) (ts : List Token) → run D (decl_open (inputs_of ps w n o)) (spelled_opt_decls ins ++ token RightParen c ∷ ts) ≡ run D (inputs_after ps w n o ins c) ts
unfolding step step_decl_open step_decl_after decls_close
reads_inputs no_decls ps w n o c ts = refl
reads_inputs (some_decls ds) ps w n o c ts = goes_on _ (decl_after (inputs_of ps w n o) ds) (inputs_after ps w n o (some_decls ds) c) (spelled_decls ds) ts (token RightParen c) _ (reads_decls ds _ (inputs_of ps w n o) (step-decl_open (inputs_of ps w n o))) refl refl

reads_outputs : (outs : OptDecls) (ps : Procs) (w n o : Leaf) (ins : OptDecls) (c r o' c' : Leaf) (ts : List Token) → run D (decl_open (outputs_of ps w n o ins c r o')) (spelled_opt_decls outs ++ token RightParen c' ∷ ts) ≡ run D (at_start (proc_head ps w n o ins c r o' outs c')) ts
unfolding step step_decl_open step_decl_after decls_close
reads_outputs no_decls ps w n o ins c r o' c' ts = refl
reads_outputs (some_decls ds) ps w n o ins c r o' c' ts = goes_on _ (decl_after (outputs_of ps w n o ins c r o') ds) (at_start (proc_head ps w n o ins c r o' (some_decls ds) c')) (spelled_decls ds) ts (token RightParen c') _ (reads_decls ds _ (outputs_of ps w n o ins c r o') (step-decl_open (outputs_of ps w n o ins c r o'))) refl refl

-- the variables up to `begin`
reads_vars : (vs : Vars) (h : Head D) (b : Leaf) (ts : List Token) → run D (at_start h) (spelled_vars vs ++ token Begin b ∷ ts) ≡ run D (in_block (new_body D h vs b)) ts
unfolding step step_start step_begin step_decl_after vars_close
reads_vars no_vars h b ts = refl
reads_vars (some_vars v ds q) h b ts =
    let runs : run D (decl_next (vars_of h v) at_first) (spelled_decls ds ++ token Semicolon q ∷ token Begin b ∷ ts) ≡ run D (in_block (new_body D h (some_vars v ds q) b)) ts = goes_on _ (decl_after (vars_of h v) ds) (at_begin h (some_vars v ds q)) (spelled_decls ds) (token Begin b ∷ ts) (token Semicolon q) _ (reads_decls ds _ (vars_of h v) (step-decl_next (vars_of h v) at_first)) refl refl in
    ap (λ l. run D (decl_next (vars_of h v) at_first) l) (append_assoc (spelled_decls ds) (token Semicolon q ∷ []) (token Begin b ∷ ts)) ∙ runs

-- a body up to its `end`
block-end : (b : Body D) (ss : Stmts) (l : Leaf) → step_block D (with_block D b [] ss) End l ≡ Some (body_close D b.head b.vars b.begin ss l)
unfolding step_block on_end
block-end b ss l = refl

reads_body : (ss : Stmts) (h : Head D) (vs : Vars) (b e : Leaf) (ts : List Token) → run D (in_block (new_body D h vs b)) (spelled_stmts ss ++ token End e ∷ ts) ≡ run D (body_close D h vs b ss e) ts
reads_body ss h vs b e ts =
    let r = reads_stmts ss (new_body D h vs b) [] in
    goes_on _ _ _ (spelled_stmts ss) ts (token End e) _ r.runs (r.at End e refl ∙ block-end (new_body D h vs b) ss e) refl

reads_all : (ss : Stmts) (h : Head D) (vs : Vars) (b e : Leaf) (ts : List Token) → run D (at_start h) (spelled_vars vs ++ token Begin b ∷ (spelled_stmts ss ++ token End e ∷ ts)) ≡ run D (body_close D h vs b ss e) ts
reads_all ss h vs b e ts = reads_vars vs h b (spelled_stmts ss ++ token End e ∷ ts) ∙ reads_body ss h vs b e ts

-- procedures and the program
run-proc : (ps : Procs) (w n o : Leaf) (ts : List Token) → run D (at_start (main_head ps)) (token Proc w ∷ token Name n ∷ token LeftParen o ∷ ts) ≡ run D (decl_open (inputs_of ps w n o)) ts
unfolding step step_start starts_proc step_proc_word step_proc_name
run-proc ps w n o ts = refl

run-returns : (ps : Procs) (w n o : Leaf) (ins : OptDecls) (c r o' : Leaf) (ts : List Token) → run D (inputs_after ps w n o ins c) (token Returns r ∷ token LeftParen o' ∷ ts) ≡ run D (decl_open (outputs_of ps w n o ins c r o')) ts
unfolding step step_inputs_after step_returns_word
run-returns ps w n o ins c r o' ts = refl

close-proc : (ps : Procs) (w n o : Leaf) (ins : OptDecls) (c r o' : Leaf) (outs : OptDecls) (c' : Leaf) (vs : Vars) (b : Leaf) (ss : Stmts) (e : Leaf) → run D (body_close D (proc_head ps w n o ins c r o' outs c') vs b ss e) [] ≡ Some (at_start (main_head (more_procs ps (proc w n o ins c r o' outs c' vs b ss e))))
unfolding body_close
close-proc ps w n o ins c r o' outs c' vs b ss e = refl

reads_proc : (d : ProcD) (ps : Procs) → run D (at_start (main_head ps)) (spelled_proc d) ≡ Some (at_start (main_head (more_procs ps d)))
reads_proc (proc w n o ins c r o' outs c' vs b ss e) ps =
    run-proc ps w n o _ ∙ (reads_inputs ins ps w n o c _ ∙ (run-returns ps w n o ins c r o' _ ∙ (reads_outputs outs ps w n o ins c r o' c' _ ∙ (reads_all ss (proc_head ps w n o ins c r o' outs c') vs b e [] ∙ close-proc ps w n o ins c r o' outs c' vs b ss e))))

reads_procs : (ps : Procs) → run D (initial D) (spelled_procs ps) ≡ Some (at_start (main_head ps))
reads_procs no_procs = refl
reads_procs (more_procs ps d) = then_run D _ (at_start (main_head ps)) (spelled_procs ps) (spelled_proc d) _ (reads_procs ps) (reads_proc d ps)

close-main : (ps : Procs) (vs : Vars) (b : Leaf) (ss : Stmts) (e : Leaf) → run D (body_close D (main_head ps) vs b ss e) [] ≡ Some (done (program ps vs b ss e))
unfolding body_close
close-main ps vs b ss e = refl

-- the machine reads every program
pub reads_program : (d : Derivation) → run D (initial D) (spelled d) ≡ Some (done d)
reads_program (program ps vs b ss e) = then_run D _ (at_start (main_head ps)) (spelled_procs ps) (spelled_vars vs ++ token Begin b ∷ (spelled_stmts ss ++ token End e ∷ [])) _ (reads_procs ps) (reads_all ss (main_head ps) vs b e [] ∙ close-main ps vs b ss e)
