-- Maps between kinds of values that keep what each production makes. A step over mapped values is the mapped step.
use Rattle.std.proofs.Common.{◌≡◌, ℕ, List, [], ◌∷◌, ◌++◌, Option, Some, None, refl, sym, ap, ◌∙◌}
use Rattle.spl_text.specs.declared.token.TokenKind.{TokenKind}
use Rattle.spl_text.specs.declared.token.TokenKind.TheVariants.{Name, Number, Proc, Returns, Var, Begin, End, Int, Real, Skip, Halt, Fail, Assume, Random, Brandom, If, Then, Else, Endif, While, Do, Done, Not, And, Or, True, False, LeftParen, RightParen, Comma, Semicolon, Colon, Becomes, Equal, NotEqual, Less, LessEqual, Greater, GreaterEqual, Plus, Minus, Star, Slash, Percent}
use Rattle.spl_parser.specs.Grammar.{Leaf}
use Rattle.spl_parser.specs.Machine.{Algebra, Head, main_head, proc_head, DeclGoal, inputs_of, outputs_of, vars_of, Before, at_first, after, Frame, in_then, in_else, in_while, Body, Goal, assume_goal, assign_goal, if_goal, while_goal, Pending, Paren, Simple, skip_word, halt_word, fail_word, Targets, one_target, target_list, NameGoal, target_names, argument_names, Closed, closed_if, closed_while, State, at_start, at_begin, proc_word, proc_name, decl_open, decl_next, decl_name, decl_colon, decl_after, inputs_after, returns_word, in_block, simple, target, assign_start, assign_name, want, have, names_open, names_next, names_after, targets_after, called, called_name, call_after, after_end, done, nothing_before, under_minuses, under_nots, with_product, with_sum, with_cmp, with_both, with_either, closed_5, closed_4, closed_1, closed_0, with_stmt, with_decl, finished, simple_stmt, call_stmt_of, step, starts_proc, step_start, step_begin, step_proc_word, step_proc_name, decls_close, vars_close, step_decl_open, step_decl_next, step_decl_name, step_decl_colon, step_decl_after, step_inputs_after, step_returns_word, on_else, on_endif, on_done, body_close, on_end, step_block, step_simple, step_target, on_not, step_want, on_cmp, on_right, on_semicolon, on_then, on_do, step_have, step_assign_start, step_assign_name, names_close, step_names_open, step_names_next, step_names_after, step_targets_after, step_called, step_called_name, step_call_after, step_after_end}

-- a map for each type of values, which keeps each production
pub record Morphism (A B : Algebra) : Type 0 where
  pub on_place : A.Place → B.Place
  pub on_word : A.Word → B.Word
  pub on_start : A.Start → B.Start
  pub on_stop : A.Stop → B.Stop
  pub on_gone : A.Gone → B.Gone
  pub on_kind : A.Kind → B.Kind
  pub on_decls : A.Decls → B.Decls
  pub on_optdecls : A.OptDecls → B.OptDecls
  pub on_vars : A.Vars → B.Vars
  pub on_names : A.Names → B.Names
  pub on_optnames : A.OptNames → B.OptNames
  pub on_cmpsign : A.CmpSign → B.CmpSign
  pub on_sumsign : A.SumSign → B.SumSign
  pub on_productsign : A.ProductSign → B.ProductSign
  pub on_e0 : A.E0 → B.E0
  pub on_e1 : A.E1 → B.E1
  pub on_e2 : A.E2 → B.E2
  pub on_e3 : A.E3 → B.E3
  pub on_e4 : A.E4 → B.E4
  pub on_e5 : A.E5 → B.E5
  pub on_e6 : A.E6 → B.E6
  pub on_atom : A.Atom → B.Atom
  pub on_semi : A.Semi → B.Semi
  pub on_stmts : A.Stmts → B.Stmts
  pub on_stmt : A.Stmt → B.Stmt
  pub on_tail : A.Tail → B.Tail
  pub on_procs : A.Procs → B.Procs
  pub on_result : A.Result → B.Result
  pub place : (a : Leaf) → on_place (A.place a) ≡ B.place a
  pub word : (a : A.Place) → on_word (A.word a) ≡ B.word (on_place a)
  pub start : (a : A.Place) → on_start (A.start a) ≡ B.start (on_place a)
  pub stop : (a : A.Place) → on_stop (A.stop a) ≡ B.stop (on_place a)
  pub gone : (a : A.Place) → on_gone (A.gone a) ≡ B.gone (on_place a)
  pub int : (a : A.Place) → on_kind (A.int a) ≡ B.int (on_place a)
  pub real : (a : A.Place) → on_kind (A.real a) ≡ B.real (on_place a)
  pub other : (a : A.Place) → on_kind (A.other a) ≡ B.other (on_place a)
  pub decls_one : (a : A.Word) (b : A.Gone) (c : A.Kind) → on_decls (A.decls_one a b c) ≡ B.decls_one (on_word a) (on_gone b) (on_kind c)
  pub decls_more : (a : A.Decls) (b : A.Gone) (c : A.Word) (d : A.Gone) (e : A.Kind) → on_decls (A.decls_more a b c d e) ≡ B.decls_more (on_decls a) (on_gone b) (on_word c) (on_gone d) (on_kind e)
  pub no_decls : on_optdecls A.no_decls ≡ B.no_decls
  pub some_decls : (a : A.Decls) → on_optdecls (A.some_decls a) ≡ B.some_decls (on_decls a)
  pub no_vars : on_vars A.no_vars ≡ B.no_vars
  pub some_vars : (a : A.Gone) (b : A.Decls) (c : A.Gone) → on_vars (A.some_vars a b c) ≡ B.some_vars (on_gone a) (on_decls b) (on_gone c)
  pub names_one : (a : A.Word) → on_names (A.names_one a) ≡ B.names_one (on_word a)
  pub names_more : (a : A.Names) (b : A.Gone) (c : A.Word) → on_names (A.names_more a b c) ≡ B.names_more (on_names a) (on_gone b) (on_word c)
  pub no_names : on_optnames A.no_names ≡ B.no_names
  pub some_names : (a : A.Names) → on_optnames (A.some_names a) ≡ B.some_names (on_names a)
  pub equal : (a : A.Place) → on_cmpsign (A.equal a) ≡ B.equal (on_place a)
  pub not_equal : (a : A.Place) → on_cmpsign (A.not_equal a) ≡ B.not_equal (on_place a)
  pub less : (a : A.Place) → on_cmpsign (A.less a) ≡ B.less (on_place a)
  pub less_equal : (a : A.Place) → on_cmpsign (A.less_equal a) ≡ B.less_equal (on_place a)
  pub greater : (a : A.Place) → on_cmpsign (A.greater a) ≡ B.greater (on_place a)
  pub greater_equal : (a : A.Place) → on_cmpsign (A.greater_equal a) ≡ B.greater_equal (on_place a)
  pub plus : (a : A.Place) → on_sumsign (A.plus a) ≡ B.plus (on_place a)
  pub minus : (a : A.Place) → on_sumsign (A.minus a) ≡ B.minus (on_place a)
  pub star : (a : A.Place) → on_productsign (A.star a) ≡ B.star (on_place a)
  pub slash : (a : A.Place) → on_productsign (A.slash a) ≡ B.slash (on_place a)
  pub percent : (a : A.Place) → on_productsign (A.percent a) ≡ B.percent (on_place a)
  pub only_1 : (a : A.E1) → on_e0 (A.only_1 a) ≡ B.only_1 (on_e1 a)
  pub either : (a : A.E0) (b : A.Start) (c : A.E1) → on_e0 (A.either a b c) ≡ B.either (on_e0 a) (on_start b) (on_e1 c)
  pub only_2 : (a : A.E2) → on_e1 (A.only_2 a) ≡ B.only_2 (on_e2 a)
  pub both : (a : A.E1) (b : A.Start) (c : A.E2) → on_e1 (A.both a b c) ≡ B.both (on_e1 a) (on_start b) (on_e2 c)
  pub only_3 : (a : A.E3) → on_e2 (A.only_3 a) ≡ B.only_3 (on_e3 a)
  pub opposite : (a : A.Start) (b : A.E2) → on_e2 (A.opposite a b) ≡ B.opposite (on_start a) (on_e2 b)
  pub only_4 : (a : A.E4) → on_e3 (A.only_4 a) ≡ B.only_4 (on_e4 a)
  pub compared : (a : A.E4) (b : A.CmpSign) (c : A.E4) → on_e3 (A.compared a b c) ≡ B.compared (on_e4 a) (on_cmpsign b) (on_e4 c)
  pub only_5 : (a : A.E5) → on_e4 (A.only_5 a) ≡ B.only_5 (on_e5 a)
  pub sum : (a : A.E4) (b : A.SumSign) (c : A.E5) → on_e4 (A.sum a b c) ≡ B.sum (on_e4 a) (on_sumsign b) (on_e5 c)
  pub only_6 : (a : A.E6) → on_e5 (A.only_6 a) ≡ B.only_6 (on_e6 a)
  pub product : (a : A.E5) (b : A.ProductSign) (c : A.E6) → on_e5 (A.product a b c) ≡ B.product (on_e5 a) (on_productsign b) (on_e6 c)
  pub only_atom : (a : A.Atom) → on_e6 (A.only_atom a) ≡ B.only_atom (on_atom a)
  pub negative : (a : A.Start) (b : A.E6) → on_e6 (A.negative a b) ≡ B.negative (on_start a) (on_e6 b)
  pub number : (a : ℕ) (b : A.Place) → on_atom (A.number a b) ≡ B.number a (on_place b)
  pub variable : (a : A.Word) → on_atom (A.variable a) ≡ B.variable (on_word a)
  pub true_value : (a : A.Place) → on_atom (A.true_value a) ≡ B.true_value (on_place a)
  pub false_value : (a : A.Place) → on_atom (A.false_value a) ≡ B.false_value (on_place a)
  pub random : (a : A.Place) → on_atom (A.random a) ≡ B.random (on_place a)
  pub brandom : (a : A.Place) → on_atom (A.brandom a) ≡ B.brandom (on_place a)
  pub in_parens : (a : A.Gone) (b : A.E0) (c : A.Gone) → on_atom (A.in_parens a b c) ≡ B.in_parens (on_gone a) (on_e0 b) (on_gone c)
  pub no_semi : on_semi A.no_semi ≡ B.no_semi
  pub a_semi : (a : A.Stop) → on_semi (A.a_semi a) ≡ B.a_semi (on_stop a)
  pub no_stmts : on_stmts A.no_stmts ≡ B.no_stmts
  pub more_stmts : (a : A.Stmts) (b : A.Stmt) → on_stmts (A.more_stmts a b) ≡ B.more_stmts (on_stmts a) (on_stmt b)
  pub skip : (a : A.Start) (b : A.Stop) → on_stmt (A.skip a b) ≡ B.skip (on_start a) (on_stop b)
  pub halt : (a : A.Start) (b : A.Stop) → on_stmt (A.halt a b) ≡ B.halt (on_start a) (on_stop b)
  pub fail : (a : A.Start) (b : A.Stop) → on_stmt (A.fail a b) ≡ B.fail (on_start a) (on_stop b)
  pub assume : (a : A.Start) (b : A.E0) (c : A.Stop) → on_stmt (A.assume a b c) ≡ B.assume (on_start a) (on_e0 b) (on_stop c)
  pub assign : (a : A.Word) (b : A.Gone) (c : A.E0) (d : A.Stop) → on_stmt (A.assign a b c d) ≡ B.assign (on_word a) (on_gone b) (on_e0 c) (on_stop d)
  pub call : (a : A.Word) (b : A.Gone) (c : A.Word) (d : A.Gone) (e : A.OptNames) (f : A.Gone) (g : A.Stop) → on_stmt (A.call a b c d e f g) ≡ B.call (on_word a) (on_gone b) (on_word c) (on_gone d) (on_optnames e) (on_gone f) (on_stop g)
  pub calls : (a : A.Start) (b : A.OptNames) (c : A.Gone) (d : A.Gone) (e : A.Word) (f : A.Gone) (g : A.OptNames) (h : A.Gone) (i : A.Stop) → on_stmt (A.calls a b c d e f g h i) ≡ B.calls (on_start a) (on_optnames b) (on_gone c) (on_gone d) (on_word e) (on_gone f) (on_optnames g) (on_gone h) (on_stop i)
  pub conditional : (a : A.Start) (b : A.E0) (c : A.Stop) (d : A.Stmts) (e : A.Tail) (f : A.Stop) (g : A.Semi) → on_stmt (A.conditional a b c d e f g) ≡ B.conditional (on_start a) (on_e0 b) (on_stop c) (on_stmts d) (on_tail e) (on_stop f) (on_semi g)
  pub loop : (a : A.Start) (b : A.E0) (c : A.Stop) (d : A.Stmts) (e : A.Stop) (f : A.Semi) → on_stmt (A.loop a b c d e f) ≡ B.loop (on_start a) (on_e0 b) (on_stop c) (on_stmts d) (on_stop e) (on_semi f)
  pub no_else : on_tail A.no_else ≡ B.no_else
  pub some_else : (a : A.Stop) (b : A.Stmts) → on_tail (A.some_else a b) ≡ B.some_else (on_stop a) (on_stmts b)
  pub no_procs : on_procs A.no_procs ≡ B.no_procs
  pub more_procs : (a : A.Procs) (b : A.Gone) (c : A.Word) (d : A.Gone) (e : A.OptDecls) (f : A.Gone) (g : A.Gone) (h : A.Gone) (i : A.OptDecls) (j : A.Gone) (k : A.Vars) (l : A.Start) (m : A.Stmts) (n : A.Gone) → on_procs (A.more_procs a b c d e f g h i j k l m n) ≡ B.more_procs (on_procs a) (on_gone b) (on_word c) (on_gone d) (on_optdecls e) (on_gone f) (on_gone g) (on_gone h) (on_optdecls i) (on_gone j) (on_vars k) (on_start l) (on_stmts m) (on_gone n)
  pub program : (a : A.Procs) (b : A.Vars) (c : A.Start) (d : A.Stmts) (e : A.Gone) → on_result (A.program a b c d e) ≡ B.program (on_procs a) (on_vars b) (on_start c) (on_stmts d) (on_gone e)

-- the parts of a state under a map
abbrev pub on_head : {A B : Algebra} → Morphism A B → Head A → Head B
on_head h (main_head ps) = main_head (h.on_procs ps)
on_head h (proc_head ps w n o ins c r o' outs c') = proc_head (h.on_procs ps) (h.on_gone w) (h.on_word n) (h.on_gone o) (h.on_optdecls ins) (h.on_gone c) (h.on_gone r) (h.on_gone o') (h.on_optdecls outs) (h.on_gone c')

abbrev pub on_decl_goal : {A B : Algebra} → Morphism A B → DeclGoal A → DeclGoal B
on_decl_goal h (inputs_of ps w n o) = inputs_of (h.on_procs ps) (h.on_gone w) (h.on_word n) (h.on_gone o)
on_decl_goal h (outputs_of ps w n o ins c r o') = outputs_of (h.on_procs ps) (h.on_gone w) (h.on_word n) (h.on_gone o) (h.on_optdecls ins) (h.on_gone c) (h.on_gone r) (h.on_gone o')
on_decl_goal h (vars_of x v) = vars_of (on_head h x) (h.on_gone v)

abbrev pub on_before : {A B : Algebra} → Morphism A B → Before A → Before B
on_before h at_first = at_first
on_before h (after ds c) = after (h.on_decls ds) (h.on_gone c)

abbrev pub on_frame : {A B : Algebra} → Morphism A B → Frame A → Frame B
on_frame h (in_then ss w e t) = in_then (h.on_stmts ss) (h.on_start w) (h.on_e0 e) (h.on_stop t)
on_frame h (in_else ss w e t ts els) = in_else (h.on_stmts ss) (h.on_start w) (h.on_e0 e) (h.on_stop t) (h.on_stmts ts) (h.on_stop els)
on_frame h (in_while ss w e d) = in_while (h.on_stmts ss) (h.on_start w) (h.on_e0 e) (h.on_stop d)

abbrev pub on_frames : {A B : Algebra} → Morphism A B → List (Frame A) → List (Frame B)
on_frames h [] = []
on_frames h (f ∷ fs) = on_frame h f ∷ on_frames h fs

abbrev pub on_body : {A B : Algebra} → Morphism A B → Body A → Body B
on_body h b = record { head = on_head h b.head; vars = h.on_vars b.vars; begin = h.on_start b.begin; frames = on_frames h b.frames; stmts = h.on_stmts b.stmts }

abbrev pub on_goal : {A B : Algebra} → Morphism A B → Goal A → Goal B
on_goal h (assume_goal w) = assume_goal (h.on_start w)
on_goal h (assign_goal x q) = assign_goal (h.on_word x) (h.on_gone q)
on_goal h (if_goal w) = if_goal (h.on_start w)
on_goal h (while_goal w) = while_goal (h.on_start w)

abbrev pub on_left : {X Y U V : Type 0} → (X → U) → (Y → V) → Option (X × Y) → Option (U × V)
on_left f g None = None
on_left f g (Some x) = Some (f x.0, g x.1)

abbrev pub on_starts : {A B : Algebra} → Morphism A B → List A.Start → List B.Start
on_starts h [] = []
on_starts h (m ∷ ms) = h.on_start m ∷ on_starts h ms

abbrev pub on_pending : {A B : Algebra} → Morphism A B → Pending A → Pending B
on_pending h p = record {
  either_left = on_left h.on_e0 h.on_start p.either_left;
  both_left = on_left h.on_e1 h.on_start p.both_left;
  nots = on_starts h p.nots;
  cmp_left = on_left h.on_e4 h.on_cmpsign p.cmp_left;
  sum_left = on_left h.on_e4 h.on_sumsign p.sum_left;
  product_left = on_left h.on_e5 h.on_productsign p.product_left;
  minuses = on_starts h p.minuses;
}

abbrev pub on_parens : {A B : Algebra} → Morphism A B → List (Paren A) → List (Paren B)
on_parens h [] = []
on_parens h (q ∷ ps) = record { pending = on_pending h q.pending; left = h.on_gone q.left } ∷ on_parens h ps

abbrev pub on_simple : {A B : Algebra} → Morphism A B → Simple A → Simple B
on_simple h (skip_word w) = skip_word (h.on_start w)
on_simple h (halt_word w) = halt_word (h.on_start w)
on_simple h (fail_word w) = fail_word (h.on_start w)

abbrev pub on_targets : {A B : Algebra} → Morphism A B → Targets A → Targets B
on_targets h (one_target x q) = one_target (h.on_word x) (h.on_gone q)
on_targets h (target_list o ns c q) = target_list (h.on_start o) (h.on_optnames ns) (h.on_gone c) (h.on_gone q)

abbrev pub on_name_goal : {A B : Algebra} → Morphism A B → NameGoal A → NameGoal B
on_name_goal h (target_names o) = target_names (h.on_start o)
on_name_goal h (argument_names ts f o) = argument_names (on_targets h ts) (h.on_word f) (h.on_gone o)

abbrev pub on_closed : {A B : Algebra} → Morphism A B → Closed A → Closed B
on_closed h (closed_if w e t ss els f) = closed_if (h.on_start w) (h.on_e0 e) (h.on_stop t) (h.on_stmts ss) (h.on_tail els) (h.on_stop f)
on_closed h (closed_while w e d ss f) = closed_while (h.on_start w) (h.on_e0 e) (h.on_stop d) (h.on_stmts ss) (h.on_stop f)

-- a state under a map
abbrev pub on_state : {A B : Algebra} → Morphism A B → State A → State B
on_state h (at_start x) = at_start (on_head h x)
on_state h (at_begin x vs) = at_begin (on_head h x) (h.on_vars vs)
on_state h (proc_word ps w) = proc_word (h.on_procs ps) (h.on_gone w)
on_state h (proc_name ps w n) = proc_name (h.on_procs ps) (h.on_gone w) (h.on_word n)
on_state h (decl_open g) = decl_open (on_decl_goal h g)
on_state h (decl_next g b) = decl_next (on_decl_goal h g) (on_before h b)
on_state h (decl_name g b n) = decl_name (on_decl_goal h g) (on_before h b) (h.on_word n)
on_state h (decl_colon g b n c) = decl_colon (on_decl_goal h g) (on_before h b) (h.on_word n) (h.on_gone c)
on_state h (decl_after g ds) = decl_after (on_decl_goal h g) (h.on_decls ds)
on_state h (inputs_after ps w n o ins c) = inputs_after (h.on_procs ps) (h.on_gone w) (h.on_word n) (h.on_gone o) (h.on_optdecls ins) (h.on_gone c)
on_state h (returns_word ps w n o ins c r) = returns_word (h.on_procs ps) (h.on_gone w) (h.on_word n) (h.on_gone o) (h.on_optdecls ins) (h.on_gone c) (h.on_gone r)
on_state h (in_block b) = in_block (on_body h b)
on_state h (simple b w) = simple (on_body h b) (on_simple h w)
on_state h (target b x) = target (on_body h b) (h.on_word x)
on_state h (assign_start b x q) = assign_start (on_body h b) (h.on_word x) (h.on_gone q)
on_state h (assign_name b x q n) = assign_name (on_body h b) (h.on_word x) (h.on_gone q) (h.on_word n)
on_state h (want b g ps p) = want (on_body h b) (on_goal h g) (on_parens h ps) (on_pending h p)
on_state h (have b g ps p a) = have (on_body h b) (on_goal h g) (on_parens h ps) (on_pending h p) (h.on_atom a)
on_state h (names_open b g) = names_open (on_body h b) (on_name_goal h g)
on_state h (names_next b g ns c) = names_next (on_body h b) (on_name_goal h g) (h.on_names ns) (h.on_gone c)
on_state h (names_after b g ns) = names_after (on_body h b) (on_name_goal h g) (h.on_names ns)
on_state h (targets_after b o ns c) = targets_after (on_body h b) (h.on_start o) (h.on_optnames ns) (h.on_gone c)
on_state h (called b ts) = called (on_body h b) (on_targets h ts)
on_state h (called_name b ts f) = called_name (on_body h b) (on_targets h ts) (h.on_word f)
on_state h (call_after b ts f o ns c) = call_after (on_body h b) (on_targets h ts) (h.on_word f) (h.on_gone o) (h.on_optnames ns) (h.on_gone c)
on_state h (after_end b c) = after_end (on_body h b) (on_closed h c)
on_state h (done r) = done (h.on_result r)

-- an optional state under a map
abbrev pub on_next : {A B : Algebra} → Morphism A B → Option (State A) → Option (State B)
on_next h None = None
on_next h (Some s) = Some (on_state h s)

-- a step over mapped values is the mapped step, state by state
keeps_proc : {A B : Algebra} (h : Morphism A B) (x : Head A) (l : A.Place) → starts_proc B (on_head h x) (h.on_place l) ≡ on_next h (starts_proc A x l)
unfolding starts_proc
keeps_proc h (main_head ps) l = simp h.gone
keeps_proc h (proc_head ps w n o ins c r o' outs c') l = refl

keeps_start : {A B : Algebra} (h : Morphism A B) (x : Head A) (k : TokenKind) (l : A.Place) → step_start B (on_head h x) k (h.on_place l) ≡ on_next h (step_start A x k l)
unfolding step_start
keeps_start h x Proc l = keeps_proc h x l
keeps_start h x Var l = simp h.gone
keeps_start h x Begin l = simp (h.start, h.no_vars, h.no_stmts)
keeps_start h x _ l = refl

keeps_begin : {A B : Algebra} (h : Morphism A B) (x : Head A) (vs : A.Vars) (k : TokenKind) (l : A.Place) → step_begin B (on_head h x) (h.on_vars vs) k (h.on_place l) ≡ on_next h (step_begin A x vs k l)
unfolding step_begin
keeps_begin h x vs Begin l = simp (h.start, h.no_stmts)
keeps_begin h x vs _ l = refl

keeps_proc_word : {A B : Algebra} (h : Morphism A B) (ps : A.Procs) (w : A.Gone) (k : TokenKind) (l : A.Place) → step_proc_word B (h.on_procs ps) (h.on_gone w) k (h.on_place l) ≡ on_next h (step_proc_word A ps w k l)
unfolding step_proc_word
keeps_proc_word h ps w Name l = simp h.word
keeps_proc_word h ps w _ l = refl

keeps_proc_name : {A B : Algebra} (h : Morphism A B) (ps : A.Procs) (w : A.Gone) (n : A.Word) (k : TokenKind) (l : A.Place) → step_proc_name B (h.on_procs ps) (h.on_gone w) (h.on_word n) k (h.on_place l) ≡ on_next h (step_proc_name A ps w n k l)
unfolding step_proc_name
keeps_proc_name h ps w n LeftParen l = simp h.gone
keeps_proc_name h ps w n _ l = refl

keeps_decls_close : {A B : Algebra} (h : Morphism A B) (g : DeclGoal A) (ds : A.OptDecls) (l : A.Place) → decls_close B (on_decl_goal h g) (h.on_optdecls ds) (h.on_place l) ≡ on_next h (decls_close A g ds l)
unfolding decls_close
keeps_decls_close h (inputs_of ps w n o) ds l = simp h.gone
keeps_decls_close h (outputs_of ps w n o ins c r o') ds l = simp h.gone
keeps_decls_close h (vars_of x v) ds l = refl

keeps_vars_close : {A B : Algebra} (h : Morphism A B) (g : DeclGoal A) (ds : A.Decls) (l : A.Place) → vars_close B (on_decl_goal h g) (h.on_decls ds) (h.on_place l) ≡ on_next h (vars_close A g ds l)
unfolding vars_close
keeps_vars_close h (inputs_of ps w n o) ds l = refl
keeps_vars_close h (outputs_of ps w n o ins c r o') ds l = refl
keeps_vars_close h (vars_of x v) ds l = simp (h.some_vars, h.gone)

keeps_decl_open : {A B : Algebra} (h : Morphism A B) (g : DeclGoal A) (k : TokenKind) (l : A.Place) → step_decl_open B (on_decl_goal h g) k (h.on_place l) ≡ on_next h (step_decl_open A g k l)
unfolding step_decl_open
keeps_decl_open h g Name l = simp h.word
keeps_decl_open {A} {B} h g RightParen l = ap (λ ds. decls_close B (on_decl_goal h g) ds (h.on_place l)) (sym h.no_decls) ∙ keeps_decls_close h g A.no_decls l
keeps_decl_open h g _ l = refl

keeps_decl_next : {A B : Algebra} (h : Morphism A B) (g : DeclGoal A) (b : Before A) (k : TokenKind) (l : A.Place) → step_decl_next B (on_decl_goal h g) (on_before h b) k (h.on_place l) ≡ on_next h (step_decl_next A g b k l)
unfolding step_decl_next
keeps_decl_next h g b Name l = simp h.word
keeps_decl_next h g b _ l = refl

keeps_decl_name : {A B : Algebra} (h : Morphism A B) (g : DeclGoal A) (b : Before A) (n : A.Word) (k : TokenKind) (l : A.Place) → step_decl_name B (on_decl_goal h g) (on_before h b) (h.on_word n) k (h.on_place l) ≡ on_next h (step_decl_name A g b n k l)
unfolding step_decl_name
keeps_decl_name h g b n Colon l = simp h.gone
keeps_decl_name h g b n _ l = refl

keeps_with_decl : {A B : Algebra} (h : Morphism A B) (b : Before A) (n : A.Word) (c : A.Gone) (k : A.Kind) → h.on_decls (with_decl A b n c k) ≡ with_decl B (on_before h b) (h.on_word n) (h.on_gone c) (h.on_kind k)
keeps_with_decl h at_first n c k = h.decls_one n c k
keeps_with_decl h (after ds m) n c k = h.decls_more ds m n c k

keeps_decl_colon : {A B : Algebra} (h : Morphism A B) (g : DeclGoal A) (b : Before A) (n : A.Word) (c : A.Gone) (k : TokenKind) (l : A.Place) → step_decl_colon B (on_decl_goal h g) (on_before h b) (h.on_word n) (h.on_gone c) k (h.on_place l) ≡ on_next h (step_decl_colon A g b n c k l)
unfolding step_decl_colon
keeps_decl_colon {A} {B} h g b n c Int l = ap (λ ds. Some (decl_after (on_decl_goal h g) ds)) (sym (keeps_with_decl h b n c (A.int l) ∙ ap (λ t. with_decl B (on_before h b) (h.on_word n) (h.on_gone c) t) (h.int l)))
keeps_decl_colon {A} {B} h g b n c Real l = ap (λ ds. Some (decl_after (on_decl_goal h g) ds)) (sym (keeps_with_decl h b n c (A.real l) ∙ ap (λ t. with_decl B (on_before h b) (h.on_word n) (h.on_gone c) t) (h.real l)))
keeps_decl_colon {A} {B} h g b n c Name l = ap (λ ds. Some (decl_after (on_decl_goal h g) ds)) (sym (keeps_with_decl h b n c (A.other l) ∙ ap (λ t. with_decl B (on_before h b) (h.on_word n) (h.on_gone c) t) (h.other l)))
keeps_decl_colon {A} {B} h g b n c _ l = refl

keeps_decl_after : {A B : Algebra} (h : Morphism A B) (g : DeclGoal A) (ds : A.Decls) (k : TokenKind) (l : A.Place) → step_decl_after B (on_decl_goal h g) (h.on_decls ds) k (h.on_place l) ≡ on_next h (step_decl_after A g ds k l)
unfolding step_decl_after
keeps_decl_after {A} {B} h g ds Comma l = simp h.gone
keeps_decl_after {A} {B} h g ds RightParen l = ap (λ x. decls_close B (on_decl_goal h g) x (h.on_place l)) (sym (h.some_decls ds)) ∙ keeps_decls_close h g (A.some_decls ds) l
keeps_decl_after {A} {B} h g ds Semicolon l = keeps_vars_close h g ds l
keeps_decl_after {A} {B} h g ds _ l = refl

keeps_inputs_after : {A B : Algebra} (h : Morphism A B) (ps : A.Procs) (w : A.Gone) (n : A.Word) (o : A.Gone) (ins : A.OptDecls) (c : A.Gone) (k : TokenKind) (l : A.Place) → step_inputs_after B (h.on_procs ps) (h.on_gone w) (h.on_word n) (h.on_gone o) (h.on_optdecls ins) (h.on_gone c) k (h.on_place l) ≡ on_next h (step_inputs_after A ps w n o ins c k l)
unfolding step_inputs_after
keeps_inputs_after h ps w n o ins c Returns l = simp h.gone
keeps_inputs_after h ps w n o ins c _ l = refl

keeps_returns_word : {A B : Algebra} (h : Morphism A B) (ps : A.Procs) (w : A.Gone) (n : A.Word) (o : A.Gone) (ins : A.OptDecls) (c r : A.Gone) (k : TokenKind) (l : A.Place) → step_returns_word B (h.on_procs ps) (h.on_gone w) (h.on_word n) (h.on_gone o) (h.on_optdecls ins) (h.on_gone c) (h.on_gone r) k (h.on_place l) ≡ on_next h (step_returns_word A ps w n o ins c r k l)
unfolding step_returns_word
keeps_returns_word h ps w n o ins c r LeftParen l = simp h.gone
keeps_returns_word h ps w n o ins c r _ l = refl

keeps_else : {A B : Algebra} (h : Morphism A B) (b : Body A) (fs : List (Frame A)) (l : A.Place) → on_else B (on_body h b) (on_frames h fs) (h.on_place l) ≡ on_next h (on_else A b fs l)
unfolding on_else
keeps_else h b [] l = refl
keeps_else h b (in_then ss w e t ∷ fs) l = simp (h.stop, h.no_stmts)
keeps_else h b (in_else ss w e t ts els ∷ fs) l = refl
keeps_else h b (in_while ss w e d ∷ fs) l = refl

keeps_endif : {A B : Algebra} (h : Morphism A B) (b : Body A) (fs : List (Frame A)) (l : A.Place) → on_endif B (on_body h b) (on_frames h fs) (h.on_place l) ≡ on_next h (on_endif A b fs l)
unfolding on_endif
keeps_endif h b [] l = refl
keeps_endif h b (in_then ss w e t ∷ fs) l = simp (h.stop, h.no_else)
keeps_endif h b (in_else ss w e t ts els ∷ fs) l = simp (h.stop, h.some_else)
keeps_endif h b (in_while ss w e d ∷ fs) l = refl

keeps_done : {A B : Algebra} (h : Morphism A B) (b : Body A) (fs : List (Frame A)) (l : A.Place) → on_done B (on_body h b) (on_frames h fs) (h.on_place l) ≡ on_next h (on_done A b fs l)
unfolding on_done
keeps_done h b [] l = refl
keeps_done h b (in_then ss w e t ∷ fs) l = refl
keeps_done h b (in_else ss w e t ts els ∷ fs) l = refl
keeps_done h b (in_while ss w e d ∷ fs) l = simp h.stop

keeps_body_close : {A B : Algebra} (h : Morphism A B) (x : Head A) (vs : A.Vars) (b : A.Start) (ss : A.Stmts) (l : A.Place) → body_close B (on_head h x) (h.on_vars vs) (h.on_start b) (h.on_stmts ss) (h.on_place l) ≡ on_state h (body_close A x vs b ss l)
unfolding body_close
keeps_body_close h (main_head ps) vs b ss l = simp (h.program, h.gone)
keeps_body_close h (proc_head ps w n o ins c r o' outs c') vs b ss l = simp (h.more_procs, h.gone)

keeps_end : {A B : Algebra} (h : Morphism A B) (b : Body A) (fs : List (Frame A)) (l : A.Place) → on_end B (on_body h b) (on_frames h fs) (h.on_place l) ≡ on_next h (on_end A b fs l)
unfolding on_end
keeps_end h b [] l = ap (λ s. Some s) (keeps_body_close h b.head b.vars b.begin b.stmts l)
keeps_end h b (f ∷ fs) l = refl

keeps_block : {A B : Algebra} (h : Morphism A B) (b : Body A) (k : TokenKind) (l : A.Place) → step_block B (on_body h b) k (h.on_place l) ≡ on_next h (step_block A b k l)
unfolding step_block
keeps_block h b Skip l = simp h.start
keeps_block h b Halt l = simp h.start
keeps_block h b Fail l = simp h.start
keeps_block h b Assume l = simp h.start
keeps_block h b Name l = simp h.word
keeps_block h b LeftParen l = simp h.start
keeps_block h b If l = simp h.start
keeps_block h b While l = simp h.start
keeps_block h b Else l = keeps_else h b b.frames l
keeps_block h b Endif l = keeps_endif h b b.frames l
keeps_block h b Done l = keeps_done h b b.frames l
keeps_block h b End l = keeps_end h b b.frames l
keeps_block h b _ l = refl

keeps_simple_stmt : {A B : Algebra} (h : Morphism A B) (w : Simple A) (q : A.Stop) → h.on_stmt (simple_stmt A w q) ≡ simple_stmt B (on_simple h w) (h.on_stop q)
keeps_simple_stmt h (skip_word w) q = h.skip w q
keeps_simple_stmt h (halt_word w) q = h.halt w q
keeps_simple_stmt h (fail_word w) q = h.fail w q

keeps_simple : {A B : Algebra} (h : Morphism A B) (b : Body A) (w : Simple A) (k : TokenKind) (l : A.Place) → step_simple B (on_body h b) (on_simple h w) k (h.on_place l) ≡ on_next h (step_simple A b w k l)
unfolding step_simple
keeps_simple h b w Semicolon l = simp (h.more_stmts, keeps_simple_stmt, h.stop)
keeps_simple h b w _ l = refl

keeps_target : {A B : Algebra} (h : Morphism A B) (b : Body A) (x : A.Word) (k : TokenKind) (l : A.Place) → step_target B (on_body h b) (h.on_word x) k (h.on_place l) ≡ on_next h (step_target A b x k l)
unfolding step_target
keeps_target h b x Becomes l = simp h.gone
keeps_target h b x _ l = refl

on_starts-more : {A B : Algebra} (h : Morphism A B) (ms : List A.Start) (m : A.Start) → on_starts h (ms ++ m ∷ []) ≡ on_starts h ms ++ h.on_start m ∷ []
on_starts-more h [] m = refl
on_starts-more h (x ∷ ms) m = ap (λ y. h.on_start x ∷ y) (on_starts-more h ms m)

keeps_not : {A B : Algebra} (h : Morphism A B) (b : Body A) (g : Goal A) (ps : List (Paren A)) (p : Pending A) (c : Option (A.E4 × A.CmpSign)) (s : Option (A.E4 × A.SumSign)) (q : Option (A.E5 × A.ProductSign)) (ms : List A.Start) (l : A.Place) → on_not B (on_body h b) (on_goal h g) (on_parens h ps) (on_pending h p) (on_left h.on_e4 h.on_cmpsign c) (on_left h.on_e4 h.on_sumsign s) (on_left h.on_e5 h.on_productsign q) (on_starts h ms) (h.on_place l) ≡ on_next h (on_not A b g ps p c s q ms l)
unfolding on_not
keeps_not h b g ps p None None None [] l = simp (on_starts-more, h.start)
keeps_not h b g ps p None None None (m ∷ ms) l = refl
keeps_not h b g ps p None None (Some x) ms l = refl
keeps_not h b g ps p None (Some x) q ms l = refl
keeps_not h b g ps p (Some x) s q ms l = refl

keeps_want : {A B : Algebra} (h : Morphism A B) (b : Body A) (g : Goal A) (ps : List (Paren A)) (p : Pending A) (k : TokenKind) (l : A.Place) → step_want B (on_body h b) (on_goal h g) (on_parens h ps) (on_pending h p) k (h.on_place l) ≡ on_next h (step_want A b g ps p k l)
unfolding step_want
keeps_want h b g ps p (Number n) l = simp h.number
keeps_want h b g ps p Name l = simp (h.variable, h.word)
keeps_want h b g ps p True l = simp h.true_value
keeps_want h b g ps p False l = simp h.false_value
keeps_want h b g ps p Random l = simp h.random
keeps_want h b g ps p Brandom l = simp h.brandom
keeps_want h b g ps p LeftParen l = simp h.gone
keeps_want h b g ps p Minus l = simp (on_starts-more, h.start)
keeps_want h b g ps p Not l = keeps_not h b g ps p p.cmp_left p.sum_left p.product_left p.minuses l
keeps_want h b g ps p _ l = refl

-- an operand is closed alike under a map
keeps_minuses : {A B : Algebra} (h : Morphism A B) (ms : List A.Start) (e : A.E6) → h.on_e6 (under_minuses A ms e) ≡ under_minuses B (on_starts h ms) (h.on_e6 e)
keeps_minuses h [] e = refl
keeps_minuses {A} {B} h (m ∷ ms) e = h.negative m (under_minuses A ms e) ∙ ap (λ x. B.negative (h.on_start m) x) (keeps_minuses h ms e)

keeps_nots : {A B : Algebra} (h : Morphism A B) (ms : List A.Start) (e : A.E2) → h.on_e2 (under_nots A ms e) ≡ under_nots B (on_starts h ms) (h.on_e2 e)
keeps_nots h [] e = refl
keeps_nots {A} {B} h (m ∷ ms) e = h.opposite m (under_nots A ms e) ∙ ap (λ x. B.opposite (h.on_start m) x) (keeps_nots h ms e)

keeps_with_product : {A B : Algebra} (h : Morphism A B) (q : Option (A.E5 × A.ProductSign)) (e : A.E6) → h.on_e5 (with_product A q e) ≡ with_product B (on_left h.on_e5 h.on_productsign q) (h.on_e6 e)
keeps_with_product h None e = h.only_6 e
keeps_with_product h (Some x) e = h.product x.0 x.1 e

keeps_with_sum : {A B : Algebra} (h : Morphism A B) (q : Option (A.E4 × A.SumSign)) (e : A.E5) → h.on_e4 (with_sum A q e) ≡ with_sum B (on_left h.on_e4 h.on_sumsign q) (h.on_e5 e)
keeps_with_sum h None e = h.only_5 e
keeps_with_sum h (Some x) e = h.sum x.0 x.1 e

keeps_with_cmp : {A B : Algebra} (h : Morphism A B) (q : Option (A.E4 × A.CmpSign)) (e : A.E4) → h.on_e3 (with_cmp A q e) ≡ with_cmp B (on_left h.on_e4 h.on_cmpsign q) (h.on_e4 e)
keeps_with_cmp h None e = h.only_4 e
keeps_with_cmp h (Some x) e = h.compared x.0 x.1 e

keeps_with_both : {A B : Algebra} (h : Morphism A B) (q : Option (A.E1 × A.Start)) (e : A.E2) → h.on_e1 (with_both A q e) ≡ with_both B (on_left h.on_e1 h.on_start q) (h.on_e2 e)
keeps_with_both h None e = h.only_2 e
keeps_with_both h (Some x) e = h.both x.0 x.1 e

keeps_with_either : {A B : Algebra} (h : Morphism A B) (q : Option (A.E0 × A.Start)) (e : A.E1) → h.on_e0 (with_either A q e) ≡ with_either B (on_left h.on_e0 h.on_start q) (h.on_e1 e)
keeps_with_either h None e = h.only_1 e
keeps_with_either h (Some x) e = h.either x.0 x.1 e

keeps_5 : {A B : Algebra} (h : Morphism A B) (p : Pending A) (a : A.Atom) → h.on_e5 (closed_5 A p a) ≡ closed_5 B (on_pending h p) (h.on_atom a)
keeps_5 h p a = simp (keeps_with_product, keeps_minuses, h.only_atom)

keeps_4 : {A B : Algebra} (h : Morphism A B) (p : Pending A) (a : A.Atom) → h.on_e4 (closed_4 A p a) ≡ closed_4 B (on_pending h p) (h.on_atom a)
keeps_4 h p a = simp (keeps_with_sum, keeps_with_product, keeps_minuses, h.only_atom)

keeps_1 : {A B : Algebra} (h : Morphism A B) (p : Pending A) (a : A.Atom) → h.on_e1 (closed_1 A p a) ≡ closed_1 B (on_pending h p) (h.on_atom a)
keeps_1 h p a = simp (keeps_with_both, keeps_nots, h.only_3, keeps_with_cmp, keeps_with_sum, keeps_with_product, keeps_minuses, h.only_atom)

keeps_0 : {A B : Algebra} (h : Morphism A B) (p : Pending A) (a : A.Atom) → h.on_e0 (closed_0 A p a) ≡ closed_0 B (on_pending h p) (h.on_atom a)
keeps_0 h p a = simp (keeps_with_either, keeps_with_both, keeps_nots, h.only_3, keeps_with_cmp, keeps_with_sum, keeps_with_product, keeps_minuses, h.only_atom)

keeps_cmp : {A B : Algebra} (h : Morphism A B) (b : Body A) (g : Goal A) (ps : List (Paren A)) (p : Pending A) (a : A.Atom) (c : Option (A.E4 × A.CmpSign)) (s : A.CmpSign) → on_cmp B (on_body h b) (on_goal h g) (on_parens h ps) (on_pending h p) (h.on_atom a) (on_left h.on_e4 h.on_cmpsign c) (h.on_cmpsign s) ≡ on_next h (on_cmp A b g ps p a c s)
unfolding on_cmp
keeps_cmp h b g ps p a None s = ap (λ e. Some (want (on_body h b) (on_goal h g) (on_parens h ps) (record { either_left = on_left h.on_e0 h.on_start p.either_left; both_left = on_left h.on_e1 h.on_start p.both_left; nots = on_starts h p.nots; cmp_left = Some (e, h.on_cmpsign s); sum_left = None; product_left = None; minuses = [] }))) (sym (keeps_4 h p a))
keeps_cmp h b g ps p a (Some x) s = refl

keeps_right : {A B : Algebra} (h : Morphism A B) (b : Body A) (g : Goal A) (ps : List (Paren A)) (p : Pending A) (a : A.Atom) (l : A.Place) → on_right B (on_body h b) (on_goal h g) (on_parens h ps) (on_pending h p) (h.on_atom a) (h.on_place l) ≡ on_next h (on_right A b g ps p a l)
unfolding on_right
keeps_right h b g [] p a l = refl
keeps_right {A} {B} h b g (q ∷ ps) p a l = ap (λ x. Some (have (on_body h b) (on_goal h g) (on_parens h ps) (on_pending h q.pending) x)) (sym (h.in_parens q.left (closed_0 A p a) (A.gone l) ∙ (ap (λ e. B.in_parens (h.on_gone q.left) e (h.on_gone (A.gone l))) (keeps_0 h p a) ∙ ap (λ c. B.in_parens (h.on_gone q.left) (closed_0 B (on_pending h p) (h.on_atom a)) c) (h.gone l))))

keeps_semicolon : {A B : Algebra} (h : Morphism A B) (b : Body A) (g : Goal A) (ps : List (Paren A)) (e : A.E0) (l : A.Place) → on_semicolon B (on_body h b) (on_goal h g) (on_parens h ps) (h.on_e0 e) (h.on_place l) ≡ on_next h (on_semicolon A b g ps e l)
unfolding on_semicolon
keeps_semicolon h b (assume_goal w) [] e l = simp (h.more_stmts, h.assume, h.stop)
keeps_semicolon h b (assign_goal x q) [] e l = simp (h.more_stmts, h.assign, h.stop)
keeps_semicolon h b (if_goal w) [] e l = refl
keeps_semicolon h b (while_goal w) [] e l = refl
keeps_semicolon h b (assume_goal w) (y ∷ ps) e l = refl
keeps_semicolon h b (assign_goal x q) (y ∷ ps) e l = refl
keeps_semicolon h b (if_goal w) (y ∷ ps) e l = refl
keeps_semicolon h b (while_goal w) (y ∷ ps) e l = refl

keeps_then : {A B : Algebra} (h : Morphism A B) (b : Body A) (g : Goal A) (ps : List (Paren A)) (e : A.E0) (l : A.Place) → on_then B (on_body h b) (on_goal h g) (on_parens h ps) (h.on_e0 e) (h.on_place l) ≡ on_next h (on_then A b g ps e l)
unfolding on_then
keeps_then h b (assume_goal w) [] e l = refl
keeps_then h b (assign_goal x q) [] e l = refl
keeps_then h b (if_goal w) [] e l = simp (h.no_stmts, h.stop)
keeps_then h b (while_goal w) [] e l = refl
keeps_then h b (assume_goal w) (y ∷ ps) e l = refl
keeps_then h b (assign_goal x q) (y ∷ ps) e l = refl
keeps_then h b (if_goal w) (y ∷ ps) e l = refl
keeps_then h b (while_goal w) (y ∷ ps) e l = refl

keeps_do : {A B : Algebra} (h : Morphism A B) (b : Body A) (g : Goal A) (ps : List (Paren A)) (e : A.E0) (l : A.Place) → on_do B (on_body h b) (on_goal h g) (on_parens h ps) (h.on_e0 e) (h.on_place l) ≡ on_next h (on_do A b g ps e l)
unfolding on_do
keeps_do h b (assume_goal w) [] e l = refl
keeps_do h b (assign_goal x q) [] e l = refl
keeps_do h b (if_goal w) [] e l = refl
keeps_do h b (while_goal w) [] e l = simp (h.no_stmts, h.stop)
keeps_do h b (assume_goal w) (y ∷ ps) e l = refl
keeps_do h b (assign_goal x q) (y ∷ ps) e l = refl
keeps_do h b (if_goal w) (y ∷ ps) e l = refl
keeps_do h b (while_goal w) (y ∷ ps) e l = refl

keeps_have : {A B : Algebra} (h : Morphism A B) (b : Body A) (g : Goal A) (ps : List (Paren A)) (p : Pending A) (a : A.Atom) (k : TokenKind) (l : A.Place) → step_have B (on_body h b) (on_goal h g) (on_parens h ps) (on_pending h p) (h.on_atom a) k (h.on_place l) ≡ on_next h (step_have A b g ps p a k l)
unfolding step_have
keeps_have {A} {B} h b g ps p a Star l = ap (λ e. Some (want (on_body h b) (on_goal h g) (on_parens h ps) (record { either_left = on_left h.on_e0 h.on_start p.either_left; both_left = on_left h.on_e1 h.on_start p.both_left; nots = on_starts h p.nots; cmp_left = on_left h.on_e4 h.on_cmpsign p.cmp_left; sum_left = on_left h.on_e4 h.on_sumsign p.sum_left; product_left = Some (e, B.star (h.on_place l)); minuses = [] }))) (sym (keeps_5 h p a)) ∙ ap (λ s. Some (want (on_body h b) (on_goal h g) (on_parens h ps) (record { either_left = on_left h.on_e0 h.on_start p.either_left; both_left = on_left h.on_e1 h.on_start p.both_left; nots = on_starts h p.nots; cmp_left = on_left h.on_e4 h.on_cmpsign p.cmp_left; sum_left = on_left h.on_e4 h.on_sumsign p.sum_left; product_left = Some (h.on_e5 (closed_5 A p a), s); minuses = [] }))) (sym (h.star l))
keeps_have {A} {B} h b g ps p a Slash l = ap (λ e. Some (want (on_body h b) (on_goal h g) (on_parens h ps) (record { either_left = on_left h.on_e0 h.on_start p.either_left; both_left = on_left h.on_e1 h.on_start p.both_left; nots = on_starts h p.nots; cmp_left = on_left h.on_e4 h.on_cmpsign p.cmp_left; sum_left = on_left h.on_e4 h.on_sumsign p.sum_left; product_left = Some (e, B.slash (h.on_place l)); minuses = [] }))) (sym (keeps_5 h p a)) ∙ ap (λ s. Some (want (on_body h b) (on_goal h g) (on_parens h ps) (record { either_left = on_left h.on_e0 h.on_start p.either_left; both_left = on_left h.on_e1 h.on_start p.both_left; nots = on_starts h p.nots; cmp_left = on_left h.on_e4 h.on_cmpsign p.cmp_left; sum_left = on_left h.on_e4 h.on_sumsign p.sum_left; product_left = Some (h.on_e5 (closed_5 A p a), s); minuses = [] }))) (sym (h.slash l))
keeps_have {A} {B} h b g ps p a Percent l = ap (λ e. Some (want (on_body h b) (on_goal h g) (on_parens h ps) (record { either_left = on_left h.on_e0 h.on_start p.either_left; both_left = on_left h.on_e1 h.on_start p.both_left; nots = on_starts h p.nots; cmp_left = on_left h.on_e4 h.on_cmpsign p.cmp_left; sum_left = on_left h.on_e4 h.on_sumsign p.sum_left; product_left = Some (e, B.percent (h.on_place l)); minuses = [] }))) (sym (keeps_5 h p a)) ∙ ap (λ s. Some (want (on_body h b) (on_goal h g) (on_parens h ps) (record { either_left = on_left h.on_e0 h.on_start p.either_left; both_left = on_left h.on_e1 h.on_start p.both_left; nots = on_starts h p.nots; cmp_left = on_left h.on_e4 h.on_cmpsign p.cmp_left; sum_left = on_left h.on_e4 h.on_sumsign p.sum_left; product_left = Some (h.on_e5 (closed_5 A p a), s); minuses = [] }))) (sym (h.percent l))
keeps_have {A} {B} h b g ps p a Plus l = ap (λ e. Some (want (on_body h b) (on_goal h g) (on_parens h ps) (record { either_left = on_left h.on_e0 h.on_start p.either_left; both_left = on_left h.on_e1 h.on_start p.both_left; nots = on_starts h p.nots; cmp_left = on_left h.on_e4 h.on_cmpsign p.cmp_left; sum_left = Some (e, B.plus (h.on_place l)); product_left = None; minuses = [] }))) (sym (keeps_4 h p a)) ∙ ap (λ s. Some (want (on_body h b) (on_goal h g) (on_parens h ps) (record { either_left = on_left h.on_e0 h.on_start p.either_left; both_left = on_left h.on_e1 h.on_start p.both_left; nots = on_starts h p.nots; cmp_left = on_left h.on_e4 h.on_cmpsign p.cmp_left; sum_left = Some (h.on_e4 (closed_4 A p a), s); product_left = None; minuses = [] }))) (sym (h.plus l))
keeps_have {A} {B} h b g ps p a Minus l = ap (λ e. Some (want (on_body h b) (on_goal h g) (on_parens h ps) (record { either_left = on_left h.on_e0 h.on_start p.either_left; both_left = on_left h.on_e1 h.on_start p.both_left; nots = on_starts h p.nots; cmp_left = on_left h.on_e4 h.on_cmpsign p.cmp_left; sum_left = Some (e, B.minus (h.on_place l)); product_left = None; minuses = [] }))) (sym (keeps_4 h p a)) ∙ ap (λ s. Some (want (on_body h b) (on_goal h g) (on_parens h ps) (record { either_left = on_left h.on_e0 h.on_start p.either_left; both_left = on_left h.on_e1 h.on_start p.both_left; nots = on_starts h p.nots; cmp_left = on_left h.on_e4 h.on_cmpsign p.cmp_left; sum_left = Some (h.on_e4 (closed_4 A p a), s); product_left = None; minuses = [] }))) (sym (h.minus l))
keeps_have {A} {B} h b g ps p a Equal l = ap (λ s. on_cmp B (on_body h b) (on_goal h g) (on_parens h ps) (on_pending h p) (h.on_atom a) (on_left h.on_e4 h.on_cmpsign p.cmp_left) s) (sym (h.equal l)) ∙ keeps_cmp h b g ps p a p.cmp_left (A.equal l)
keeps_have {A} {B} h b g ps p a NotEqual l = ap (λ s. on_cmp B (on_body h b) (on_goal h g) (on_parens h ps) (on_pending h p) (h.on_atom a) (on_left h.on_e4 h.on_cmpsign p.cmp_left) s) (sym (h.not_equal l)) ∙ keeps_cmp h b g ps p a p.cmp_left (A.not_equal l)
keeps_have {A} {B} h b g ps p a Less l = ap (λ s. on_cmp B (on_body h b) (on_goal h g) (on_parens h ps) (on_pending h p) (h.on_atom a) (on_left h.on_e4 h.on_cmpsign p.cmp_left) s) (sym (h.less l)) ∙ keeps_cmp h b g ps p a p.cmp_left (A.less l)
keeps_have {A} {B} h b g ps p a LessEqual l = ap (λ s. on_cmp B (on_body h b) (on_goal h g) (on_parens h ps) (on_pending h p) (h.on_atom a) (on_left h.on_e4 h.on_cmpsign p.cmp_left) s) (sym (h.less_equal l)) ∙ keeps_cmp h b g ps p a p.cmp_left (A.less_equal l)
keeps_have {A} {B} h b g ps p a Greater l = ap (λ s. on_cmp B (on_body h b) (on_goal h g) (on_parens h ps) (on_pending h p) (h.on_atom a) (on_left h.on_e4 h.on_cmpsign p.cmp_left) s) (sym (h.greater l)) ∙ keeps_cmp h b g ps p a p.cmp_left (A.greater l)
keeps_have {A} {B} h b g ps p a GreaterEqual l = ap (λ s. on_cmp B (on_body h b) (on_goal h g) (on_parens h ps) (on_pending h p) (h.on_atom a) (on_left h.on_e4 h.on_cmpsign p.cmp_left) s) (sym (h.greater_equal l)) ∙ keeps_cmp h b g ps p a p.cmp_left (A.greater_equal l)
keeps_have {A} {B} h b g ps p a And l = ap (λ e. Some (want (on_body h b) (on_goal h g) (on_parens h ps) (record { either_left = on_left h.on_e0 h.on_start p.either_left; both_left = Some (e, B.start (h.on_place l)); nots = []; cmp_left = None; sum_left = None; product_left = None; minuses = [] }))) (sym (keeps_1 h p a)) ∙ ap (λ s. Some (want (on_body h b) (on_goal h g) (on_parens h ps) (record { either_left = on_left h.on_e0 h.on_start p.either_left; both_left = Some (h.on_e1 (closed_1 A p a), s); nots = []; cmp_left = None; sum_left = None; product_left = None; minuses = [] }))) (sym (h.start l))
keeps_have {A} {B} h b g ps p a Or l = ap (λ e. Some (want (on_body h b) (on_goal h g) (on_parens h ps) (record { either_left = Some (e, B.start (h.on_place l)); both_left = None; nots = []; cmp_left = None; sum_left = None; product_left = None; minuses = [] }))) (sym (keeps_0 h p a)) ∙ ap (λ s. Some (want (on_body h b) (on_goal h g) (on_parens h ps) (record { either_left = Some (h.on_e0 (closed_0 A p a), s); both_left = None; nots = []; cmp_left = None; sum_left = None; product_left = None; minuses = [] }))) (sym (h.start l))
keeps_have {A} {B} h b g ps p a RightParen l = keeps_right h b g ps p a l
keeps_have {A} {B} h b g ps p a Semicolon l = ap (λ e. on_semicolon B (on_body h b) (on_goal h g) (on_parens h ps) e (h.on_place l)) (sym (keeps_0 h p a)) ∙ keeps_semicolon h b g ps (closed_0 A p a) l
keeps_have {A} {B} h b g ps p a Then l = ap (λ e. on_then B (on_body h b) (on_goal h g) (on_parens h ps) e (h.on_place l)) (sym (keeps_0 h p a)) ∙ keeps_then h b g ps (closed_0 A p a) l
keeps_have {A} {B} h b g ps p a Do l = ap (λ e. on_do B (on_body h b) (on_goal h g) (on_parens h ps) e (h.on_place l)) (sym (keeps_0 h p a)) ∙ keeps_do h b g ps (closed_0 A p a) l
keeps_have {A} {B} h b g ps p a _ l = refl

keeps_assign_start : {A B : Algebra} (h : Morphism A B) (b : Body A) (x : A.Word) (q : A.Gone) (k : TokenKind) (l : A.Place) → step_assign_start B (on_body h b) (h.on_word x) (h.on_gone q) k (h.on_place l) ≡ on_next h (step_assign_start A b x q k l)
unfolding step_assign_start
keeps_assign_start h b x q Name l = simp h.word
keeps_assign_start {A} h b x q k l = keeps_want h b (assign_goal x q) [] (nothing_before A) k l

keeps_assign_name : {A B : Algebra} (h : Morphism A B) (b : Body A) (x : A.Word) (q : A.Gone) (n : A.Word) (k : TokenKind) (l : A.Place) → step_assign_name B (on_body h b) (h.on_word x) (h.on_gone q) (h.on_word n) k (h.on_place l) ≡ on_next h (step_assign_name A b x q n k l)
unfolding step_assign_name
keeps_assign_name h b x q n LeftParen l = simp h.gone
keeps_assign_name {A} {B} h b x q n k l = ap (λ a. step_have B (on_body h b) (assign_goal (h.on_word x) (h.on_gone q)) [] (nothing_before B) a k (h.on_place l)) (sym (h.variable n)) ∙ keeps_have h b (assign_goal x q) [] (nothing_before A) (A.variable n) k l

keeps_names_close : {A B : Algebra} (h : Morphism A B) (b : Body A) (g : NameGoal A) (ns : A.OptNames) (l : A.Place) → names_close B (on_body h b) (on_name_goal h g) (h.on_optnames ns) (h.on_place l) ≡ on_state h (names_close A b g ns l)
unfolding names_close
keeps_names_close h b (target_names o) ns l = simp h.gone
keeps_names_close h b (argument_names ts f o) ns l = simp h.gone

keeps_names_open : {A B : Algebra} (h : Morphism A B) (b : Body A) (g : NameGoal A) (k : TokenKind) (l : A.Place) → step_names_open B (on_body h b) (on_name_goal h g) k (h.on_place l) ≡ on_next h (step_names_open A b g k l)
unfolding step_names_open
keeps_names_open h b g Name l = simp (h.names_one, h.word)
keeps_names_open {A} {B} h b g RightParen l = ap (λ ns. Some (names_close B (on_body h b) (on_name_goal h g) ns (h.on_place l))) (sym h.no_names) ∙ ap (λ s. Some s) (keeps_names_close h b g A.no_names l)
keeps_names_open h b g _ l = refl

keeps_names_next : {A B : Algebra} (h : Morphism A B) (b : Body A) (g : NameGoal A) (ns : A.Names) (c : A.Gone) (k : TokenKind) (l : A.Place) → step_names_next B (on_body h b) (on_name_goal h g) (h.on_names ns) (h.on_gone c) k (h.on_place l) ≡ on_next h (step_names_next A b g ns c k l)
unfolding step_names_next
keeps_names_next h b g ns c Name l = simp (h.names_more, h.word)
keeps_names_next h b g ns c _ l = refl

keeps_names_after : {A B : Algebra} (h : Morphism A B) (b : Body A) (g : NameGoal A) (ns : A.Names) (k : TokenKind) (l : A.Place) → step_names_after B (on_body h b) (on_name_goal h g) (h.on_names ns) k (h.on_place l) ≡ on_next h (step_names_after A b g ns k l)
unfolding step_names_after
keeps_names_after h b g ns Comma l = simp h.gone
keeps_names_after {A} {B} h b g ns RightParen l = ap (λ x. Some (names_close B (on_body h b) (on_name_goal h g) x (h.on_place l))) (sym (h.some_names ns)) ∙ ap (λ s. Some s) (keeps_names_close h b g (A.some_names ns) l)
keeps_names_after h b g ns _ l = refl

keeps_targets_after : {A B : Algebra} (h : Morphism A B) (b : Body A) (o : A.Start) (ns : A.OptNames) (c : A.Gone) (k : TokenKind) (l : A.Place) → step_targets_after B (on_body h b) (h.on_start o) (h.on_optnames ns) (h.on_gone c) k (h.on_place l) ≡ on_next h (step_targets_after A b o ns c k l)
unfolding step_targets_after
keeps_targets_after h b o ns c Becomes l = simp h.gone
keeps_targets_after h b o ns c _ l = refl

keeps_called : {A B : Algebra} (h : Morphism A B) (b : Body A) (ts : Targets A) (k : TokenKind) (l : A.Place) → step_called B (on_body h b) (on_targets h ts) k (h.on_place l) ≡ on_next h (step_called A b ts k l)
unfolding step_called
keeps_called h b ts Name l = simp h.word
keeps_called h b ts _ l = refl

keeps_called_name : {A B : Algebra} (h : Morphism A B) (b : Body A) (ts : Targets A) (f : A.Word) (k : TokenKind) (l : A.Place) → step_called_name B (on_body h b) (on_targets h ts) (h.on_word f) k (h.on_place l) ≡ on_next h (step_called_name A b ts f k l)
unfolding step_called_name
keeps_called_name h b ts f LeftParen l = simp h.gone
keeps_called_name h b ts f _ l = refl

keeps_call : {A B : Algebra} (h : Morphism A B) (ts : Targets A) (f : A.Word) (o : A.Gone) (ns : A.OptNames) (c : A.Gone) (s : A.Stop) → h.on_stmt (call_stmt_of A ts f o ns c s) ≡ call_stmt_of B (on_targets h ts) (h.on_word f) (h.on_gone o) (h.on_optnames ns) (h.on_gone c) (h.on_stop s)
keeps_call h (one_target x q) f o ns c s = h.call x q f o ns c s
keeps_call h (target_list o' xs c' q) f o ns c s = h.calls o' xs c' q f o ns c s

keeps_call_after : {A B : Algebra} (h : Morphism A B) (b : Body A) (ts : Targets A) (f : A.Word) (o : A.Gone) (ns : A.OptNames) (c : A.Gone) (k : TokenKind) (l : A.Place) → step_call_after B (on_body h b) (on_targets h ts) (h.on_word f) (h.on_gone o) (h.on_optnames ns) (h.on_gone c) k (h.on_place l) ≡ on_next h (step_call_after A b ts f o ns c k l)
unfolding step_call_after
keeps_call_after h b ts f o ns c Semicolon l = simp (h.more_stmts, keeps_call, h.stop)
keeps_call_after h b ts f o ns c _ l = refl

keeps_finished : {A B : Algebra} (h : Morphism A B) (c : Closed A) (s : A.Semi) → h.on_stmt (finished A c s) ≡ finished B (on_closed h c) (h.on_semi s)
keeps_finished h (closed_if w e t ss els f) s = h.conditional w e t ss els f s
keeps_finished h (closed_while w e d ss f) s = h.loop w e d ss f s

keeps_without_semi : {A B : Algebra} (h : Morphism A B) (b : Body A) (c : Closed A) → on_body h (with_stmt A b (finished A c A.no_semi)) ≡ with_stmt B (on_body h b) (finished B (on_closed h c) B.no_semi)
keeps_without_semi h b c = simp (h.more_stmts, keeps_finished, h.no_semi)

keeps_after_end : {A B : Algebra} (h : Morphism A B) (b : Body A) (c : Closed A) (k : TokenKind) (l : A.Place) → step_after_end B (on_body h b) (on_closed h c) k (h.on_place l) ≡ on_next h (step_after_end A b c k l)
unfolding step_after_end
keeps_after_end h b c Semicolon l = simp (h.more_stmts, keeps_finished, h.a_semi, h.stop)
keeps_after_end {A} {B} h b c k l = ap (λ x. step_block B x k (h.on_place l)) (sym (keeps_without_semi h b c)) ∙ keeps_block h (with_stmt A b (finished A c A.no_semi)) k l

-- a step over a mapped state is the mapped step
pub keeps_step : {A B : Algebra} (h : Morphism A B) (s : State A) (k : TokenKind) (l : A.Place) → step B (on_state h s) k (h.on_place l) ≡ on_next h (step A s k l)
unfolding step
keeps_step h (at_start x) k l = keeps_start h x k l
keeps_step h (at_begin x vs) k l = keeps_begin h x vs k l
keeps_step h (proc_word ps w) k l = keeps_proc_word h ps w k l
keeps_step h (proc_name ps w n) k l = keeps_proc_name h ps w n k l
keeps_step h (decl_open g) k l = keeps_decl_open h g k l
keeps_step h (decl_next g b) k l = keeps_decl_next h g b k l
keeps_step h (decl_name g b n) k l = keeps_decl_name h g b n k l
keeps_step h (decl_colon g b n c) k l = keeps_decl_colon h g b n c k l
keeps_step h (decl_after g ds) k l = keeps_decl_after h g ds k l
keeps_step h (inputs_after ps w n o ins c) k l = keeps_inputs_after h ps w n o ins c k l
keeps_step h (returns_word ps w n o ins c r) k l = keeps_returns_word h ps w n o ins c r k l
keeps_step h (in_block b) k l = keeps_block h b k l
keeps_step h (simple b w) k l = keeps_simple h b w k l
keeps_step h (target b x) k l = keeps_target h b x k l
keeps_step h (assign_start b x q) k l = keeps_assign_start h b x q k l
keeps_step h (assign_name b x q n) k l = keeps_assign_name h b x q n k l
keeps_step h (want b g ps p) k l = keeps_want h b g ps p k l
keeps_step h (have b g ps p a) k l = keeps_have h b g ps p a k l
keeps_step h (names_open b g) k l = keeps_names_open h b g k l
keeps_step h (names_next b g ns c) k l = keeps_names_next h b g ns c k l
keeps_step h (names_after b g ns) k l = keeps_names_after h b g ns k l
keeps_step h (targets_after b o ns c) k l = keeps_targets_after h b o ns c k l
keeps_step h (called b ts) k l = keeps_called h b ts k l
keeps_step h (called_name b ts f) k l = keeps_called_name h b ts f k l
keeps_step h (call_after b ts f o ns c) k l = keeps_call_after h b ts f o ns c k l
keeps_step h (after_end b c) k l = keeps_after_end h b c k l
keeps_step h (done r) k l = refl
