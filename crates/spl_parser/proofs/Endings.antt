-- Every state can be completed: some tokens lead from it to the end of a program.
use Rattle.std.proofs.Common.{◌≡◌, List, [], ◌∷◌, Some, refl}
use Rattle.spl_text.specs.declared.token.Token.{Token}
use Rattle.spl_text.specs.declared.token.TokenKind.{TokenKind}
use Rattle.spl_text.specs.declared.token.TokenKind.TheVariants.{Name, Returns, Begin, End, Int, Then, Endif, Do, Done, True, LeftParen, RightParen, Semicolon, Colon, Becomes}
use Rattle.spl_parser.specs.Grammar.{Leaf, int_word, Decls, OptDecls, no_decls, some_decls, Vars, no_vars, some_vars, Names, more_names, OptNames, no_names, some_names, E0, Atom, name_atom, true_atom, paren_atom, a_semicolon, Stmts, no_stmts, more_stmts, Stmt, assume_stmt, assign_stmt, if_stmt, while_stmt, no_else, some_else, proc, Procs, more_procs, Derivation, program}
use Rattle.spl_parser.specs.Spelling.{token}
use Rattle.spl_parser.specs.Machine.{Head, main_head, proc_head, DeclGoal, inputs_of, outputs_of, vars_of, Before, at_first, Frame, in_then, in_else, in_while, Body, Goal, assume_goal, assign_goal, if_goal, while_goal, Pending, Paren, Simple, Targets, target_list, NameGoal, target_names, argument_names, Closed, closed_if, closed_while, State, at_start, at_begin, proc_word, proc_name, decl_open, decl_next, decl_name, decl_colon, decl_after, inputs_after, returns_word, in_block, simple, target, assign_start, assign_name, want, have, names_open, names_next, names_after, targets_after, called, called_name, call_after, after_end, done, nothing_before, closed_0, with_stmt, with_block, new_body, with_decl, finished, simple_stmt, call_stmt_of, run, step, step_start, step_begin, step_proc_word, step_proc_name, decls_close, vars_close, step_decl_open, step_decl_next, step_decl_name, step_decl_colon, step_decl_after, step_inputs_after, step_returns_word, on_endif, on_done, body_close, on_end, step_block, step_simple, step_target, step_want, on_right, on_semicolon, on_then, on_do, step_have, step_assign_start, step_assign_name, names_close, step_names_open, step_names_next, step_names_after, step_targets_after, step_called, step_called_name, step_call_after, step_after_end}
use Rattle.spl_parser.proofs.Algebras.{derivations as D}
use Rattle.spl_parser.proofs.Programs.{step_run}

-- tokens that lead from a state to the end of a program
pub record Ends (s : State D) : Type 0 where
  pub tokens : List Token
  pub program : Derivation
  pub runs : run D s tokens ≡ Some (done program)

-- a token without a place
abbrev somewhere : Leaf
somewhere = record { start = 0; end = 0 }

ends_by : (s s1 : State D) (k : TokenKind) → step D s k somewhere ≡ Some s1 → Ends s1 → Ends s
ends_by s s1 k e h = record { tokens = token k somewhere ∷ h.tokens; program = h.program; runs = step_run s s1 (token k somewhere) h.tokens _ e h.runs }

ends_done : (p : Derivation) → Ends (done p)
ends_done p = record { tokens = []; program = p; runs = refl }

ends_main : (ps : Procs) → Ends (at_start (main_head ps))
unfolding step step_start step_block on_end body_close
ends_main ps = ends_by _ (in_block (new_body D (main_head ps) no_vars somewhere)) Begin refl (ends_by _ (done (program ps no_vars somewhere no_stmts somewhere)) End refl (ends_done (program ps no_vars somewhere no_stmts somewhere)))

ends_close : (h : Head D) (vs : Vars) (b : Leaf) (ss : Stmts) (l : Leaf) → Ends (body_close D h vs b ss l)
unfolding body_close
ends_close (main_head ps) vs b ss l = ends_done (program ps vs b ss l)
ends_close (proc_head ps w n o ins c r o' outs c') vs b ss l = ends_main (more_procs ps (proc w n o ins c r o' outs c' vs b ss l))

ends_block : (fs : List (Frame D)) (b : Body D) (ss : Stmts) → Ends (in_block (with_block D b fs ss))
unfolding step step_block on_end on_endif on_done step_after_end
ends_block [] b ss = ends_by _ (body_close D b.head b.vars b.begin ss somewhere) End refl (ends_close b.head b.vars b.begin ss somewhere)
ends_block (in_then before w e t ∷ fs) b ss =
    let s : Stmt = if_stmt w e t ss no_else somewhere (a_semicolon somewhere) in
    ends_by _ (after_end (with_block D b fs before) (closed_if w e t ss no_else somewhere)) Endif refl (ends_by _ (in_block (with_block D b fs (more_stmts before s))) Semicolon refl (ends_block fs b (more_stmts before s)))
ends_block (in_else before w e t ts l ∷ fs) b ss =
    let s : Stmt = if_stmt w e t ts (some_else l ss) somewhere (a_semicolon somewhere) in
    ends_by _ (after_end (with_block D b fs before) (closed_if w e t ts (some_else l ss) somewhere)) Endif refl (ends_by _ (in_block (with_block D b fs (more_stmts before s))) Semicolon refl (ends_block fs b (more_stmts before s)))
ends_block (in_while before w e d ∷ fs) b ss =
    let s : Stmt = while_stmt w e d ss somewhere (a_semicolon somewhere) in
    ends_by _ (after_end (with_block D b fs before) (closed_while w e d ss somewhere)) Done refl (ends_by _ (in_block (with_block D b fs (more_stmts before s))) Semicolon refl (ends_block fs b (more_stmts before s)))

ends_body : (b : Body D) → Ends (in_block b)
ends_body b = ends_block b.frames b b.stmts

ends_start : (h : Head D) → Ends (at_start h)
unfolding step step_start
ends_start h = ends_by _ (in_block (new_body D h no_vars somewhere)) Begin refl (ends_body (new_body D h no_vars somewhere))

ends_begin : (h : Head D) (vs : Vars) → Ends (at_begin h vs)
unfolding step step_begin
ends_begin h vs = ends_by _ (in_block (new_body D h vs somewhere)) Begin refl (ends_body (new_body D h vs somewhere))

-- an expression ends by its parentheses, and by the sign or word after it
ends_have : (ps : List (Paren D)) (b : Body D) (g : Goal D) (p : Pending D) (x : Atom) → Ends (have b g ps p x)
unfolding step step_have on_right on_semicolon on_then on_do
ends_have [] b (assume_goal w) p x = ends_by _ (in_block (with_stmt D b (assume_stmt w (closed_0 D p x) somewhere))) Semicolon refl (ends_body (with_stmt D b (assume_stmt w (closed_0 D p x) somewhere)))
ends_have [] b (assign_goal n q) p x = ends_by _ (in_block (with_stmt D b (assign_stmt n q (closed_0 D p x) somewhere))) Semicolon refl (ends_body (with_stmt D b (assign_stmt n q (closed_0 D p x) somewhere)))
ends_have [] b (if_goal w) p x = ends_by _ (in_block (with_block D b (in_then b.stmts w (closed_0 D p x) somewhere ∷ b.frames) no_stmts)) Then refl (ends_block (in_then b.stmts w (closed_0 D p x) somewhere ∷ b.frames) b no_stmts)
ends_have [] b (while_goal w) p x = ends_by _ (in_block (with_block D b (in_while b.stmts w (closed_0 D p x) somewhere ∷ b.frames) no_stmts)) Do refl (ends_block (in_while b.stmts w (closed_0 D p x) somewhere ∷ b.frames) b no_stmts)
ends_have (q ∷ ps) b g p x = ends_by _ (have b g ps q.pending (paren_atom q.left (closed_0 D p x) somewhere)) RightParen refl (ends_have ps b g q.pending (paren_atom q.left (closed_0 D p x) somewhere))

ends_want : (ps : List (Paren D)) (b : Body D) (g : Goal D) (p : Pending D) → Ends (want b g ps p)
unfolding step step_want
ends_want ps b g p = ends_by _ (have b g ps p (true_atom somewhere)) True refl (ends_have ps b g p (true_atom somewhere))

ends_assign_start : (b : Body D) (x q : Leaf) → Ends (assign_start b x q)
unfolding step step_assign_start step_want
ends_assign_start b x q = ends_by _ (have b (assign_goal x q) [] (nothing_before D) (true_atom somewhere)) True refl (ends_have [] b (assign_goal x q) (nothing_before D) (true_atom somewhere))

ends_assign_name : (b : Body D) (x q n : Leaf) → Ends (assign_name b x q n)
unfolding step step_assign_name step_have on_semicolon
ends_assign_name b x q n =
    let e : E0 = closed_0 D (nothing_before D) (name_atom n) in
    ends_by _ (in_block (with_stmt D b (assign_stmt x q e somewhere))) Semicolon refl (ends_body (with_stmt D b (assign_stmt x q e somewhere)))

ends_target : (b : Body D) (x : Leaf) → Ends (target b x)
unfolding step step_target
ends_target b x = ends_by _ (assign_start b x somewhere) Becomes refl (ends_assign_start b x somewhere)

ends_simple : (b : Body D) (w : Simple D) → Ends (simple b w)
unfolding step step_simple
ends_simple b w = ends_by _ (in_block (with_stmt D b (simple_stmt D w somewhere))) Semicolon refl (ends_body (with_stmt D b (simple_stmt D w somewhere)))

ends_after_end : (b : Body D) (c : Closed D) → Ends (after_end b c)
unfolding step step_after_end
ends_after_end b c = ends_by _ (in_block (with_stmt D b (finished D c (a_semicolon somewhere)))) Semicolon refl (ends_body (with_stmt D b (finished D c (a_semicolon somewhere))))

-- calls
ends_call_after : (b : Body D) (ts : Targets D) (f o : Leaf) (ns : OptNames) (c : Leaf) → Ends (call_after b ts f o ns c)
unfolding step step_call_after
ends_call_after b ts f o ns c = ends_by _ (in_block (with_stmt D b (call_stmt_of D ts f o ns c somewhere))) Semicolon refl (ends_body (with_stmt D b (call_stmt_of D ts f o ns c somewhere)))

ends_called_name : (b : Body D) (ts : Targets D) (f : Leaf) → Ends (called_name b ts f)
unfolding step step_called_name step_names_open names_close
ends_called_name b ts f = ends_by _ (names_open b (argument_names ts f somewhere)) LeftParen refl (ends_by _ (call_after b ts f somewhere no_names somewhere) RightParen refl (ends_call_after b ts f somewhere no_names somewhere))

ends_called : (b : Body D) (ts : Targets D) → Ends (called b ts)
unfolding step step_called
ends_called b ts = ends_by _ (called_name b ts somewhere) Name refl (ends_called_name b ts somewhere)

ends_targets_after : (b : Body D) (o : Leaf) (ns : OptNames) (c : Leaf) → Ends (targets_after b o ns c)
unfolding step step_targets_after
ends_targets_after b o ns c = ends_by _ (called b (target_list o ns c somewhere)) Becomes refl (ends_called b (target_list o ns c somewhere))

ends_names_close : (b : Body D) (g : NameGoal D) (ns : OptNames) (l : Leaf) → Ends (names_close D b g ns l)
unfolding names_close
ends_names_close b (target_names o) ns l = ends_targets_after b o ns l
ends_names_close b (argument_names ts f o) ns l = ends_call_after b ts f o ns l

ends_names_open : (b : Body D) (g : NameGoal D) → Ends (names_open b g)
unfolding step step_names_open
ends_names_open b g = ends_by _ (names_close D b g no_names somewhere) RightParen refl (ends_names_close b g no_names somewhere)

ends_names_after : (b : Body D) (g : NameGoal D) (ns : Names) → Ends (names_after b g ns)
unfolding step step_names_after
ends_names_after b g ns = ends_by _ (names_close D b g (some_names ns) somewhere) RightParen refl (ends_names_close b g (some_names ns) somewhere)

ends_names_next : (b : Body D) (g : NameGoal D) (ns : Names) (c : Leaf) → Ends (names_next b g ns c)
unfolding step step_names_next
ends_names_next b g ns c = ends_by _ (names_after b g (more_names ns c somewhere)) Name refl (ends_names_after b g (more_names ns c somewhere))

-- declarations
ends_inputs_after : (ps : Procs) (w n o : Leaf) (ins : OptDecls) (c : Leaf) → Ends (inputs_after ps w n o ins c)
unfolding step step_inputs_after step_returns_word step_decl_open decls_close
ends_inputs_after ps w n o ins c =
    ends_by _ (returns_word ps w n o ins c somewhere) Returns refl
    (ends_by _ (decl_open (outputs_of ps w n o ins c somewhere somewhere)) LeftParen refl
    (ends_by _ (at_start (proc_head ps w n o ins c somewhere somewhere no_decls somewhere)) RightParen refl (ends_start (proc_head ps w n o ins c somewhere somewhere no_decls somewhere))))

ends_returns_word : (ps : Procs) (w n o : Leaf) (ins : OptDecls) (c r : Leaf) → Ends (returns_word ps w n o ins c r)
unfolding step step_returns_word step_decl_open decls_close
ends_returns_word ps w n o ins c r =
    ends_by _ (decl_open (outputs_of ps w n o ins c r somewhere)) LeftParen refl
    (ends_by _ (at_start (proc_head ps w n o ins c r somewhere no_decls somewhere)) RightParen refl (ends_start (proc_head ps w n o ins c r somewhere no_decls somewhere)))

ends_decl_after : (g : DeclGoal D) (ds : Decls) → Ends (decl_after g ds)
unfolding step step_decl_after decls_close vars_close
ends_decl_after (inputs_of ps w n o) ds = ends_by _ (inputs_after ps w n o (some_decls ds) somewhere) RightParen refl (ends_inputs_after ps w n o (some_decls ds) somewhere)
ends_decl_after (outputs_of ps w n o ins c r o') ds = ends_by _ (at_start (proc_head ps w n o ins c r o' (some_decls ds) somewhere)) RightParen refl (ends_start (proc_head ps w n o ins c r o' (some_decls ds) somewhere))
ends_decl_after (vars_of h v) ds = ends_by _ (at_begin h (some_vars v ds somewhere)) Semicolon refl (ends_begin h (some_vars v ds somewhere))

ends_decl_colon : (g : DeclGoal D) (b : Before D) (n c : Leaf) → Ends (decl_colon g b n c)
unfolding step step_decl_colon
ends_decl_colon g b n c = ends_by _ (decl_after g (with_decl D b n c (int_word somewhere))) Int refl (ends_decl_after g (with_decl D b n c (int_word somewhere)))

ends_decl_name : (g : DeclGoal D) (b : Before D) (n : Leaf) → Ends (decl_name g b n)
unfolding step step_decl_name
ends_decl_name g b n = ends_by _ (decl_colon g b n somewhere) Colon refl (ends_decl_colon g b n somewhere)

ends_decl_next : (g : DeclGoal D) (b : Before D) → Ends (decl_next g b)
unfolding step step_decl_next
ends_decl_next g b = ends_by _ (decl_name g b somewhere) Name refl (ends_decl_name g b somewhere)

ends_decl_open : (g : DeclGoal D) → Ends (decl_open g)
unfolding step step_decl_open
ends_decl_open g = ends_by _ (decl_name g at_first somewhere) Name refl (ends_decl_name g at_first somewhere)

ends_proc_name : (ps : Procs) (w n : Leaf) → Ends (proc_name ps w n)
unfolding step step_proc_name
ends_proc_name ps w n = ends_by _ (decl_open (inputs_of ps w n somewhere)) LeftParen refl (ends_decl_open (inputs_of ps w n somewhere))

ends_proc_word : (ps : Procs) (w : Leaf) → Ends (proc_word ps w)
unfolding step step_proc_word
ends_proc_word ps w = ends_by _ (proc_name ps w somewhere) Name refl (ends_proc_name ps w somewhere)

-- every state can be completed
pub ends : (s : State D) → Ends s
ends (at_start h) = ends_start h
ends (at_begin h vs) = ends_begin h vs
ends (proc_word ps w) = ends_proc_word ps w
ends (proc_name ps w n) = ends_proc_name ps w n
ends (decl_open g) = ends_decl_open g
ends (decl_next g b) = ends_decl_next g b
ends (decl_name g b n) = ends_decl_name g b n
ends (decl_colon g b n c) = ends_decl_colon g b n c
ends (decl_after g ds) = ends_decl_after g ds
ends (inputs_after ps w n o ins c) = ends_inputs_after ps w n o ins c
ends (returns_word ps w n o ins c r) = ends_returns_word ps w n o ins c r
ends (in_block b) = ends_body b
ends (simple b w) = ends_simple b w
ends (target b x) = ends_target b x
ends (assign_start b x q) = ends_assign_start b x q
ends (assign_name b x q n) = ends_assign_name b x q n
ends (want b g ps p) = ends_want ps b g p
ends (have b g ps p x) = ends_have ps b g p x
ends (names_open b g) = ends_names_open b g
ends (names_next b g ns c) = ends_names_next b g ns c
ends (names_after b g ns) = ends_names_after b g ns
ends (targets_after b o ns c) = ends_targets_after b o ns c
ends (called b ts) = ends_called b ts
ends (called_name b ts f) = ends_called_name b ts f
ends (call_after b ts f o ns c) = ends_call_after b ts f o ns c
ends (after_end b c) = ends_after_end b c
ends (done p) = ends_done p
