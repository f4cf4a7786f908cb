-- The step of the machine in each of its states.
use Rattle.std.specs.Prelude.{List, [], ◌∷◌, ◌++◌, Option, Some, None}
use Rattle.spl_text.specs.declared.token.TokenKind.{TokenKind}
use Rattle.spl_text.specs.declared.token.TokenKind.TheVariants.{Name, Number, Proc, Returns, Var, Begin, End, Int, Real, Skip, Halt, Fail, Assume, Random, Brandom, If, Then, Else, Endif, While, Do, Done, Not, And, Or, True, False, LeftParen, RightParen, Comma, Semicolon, Colon, Becomes, Equal, NotEqual, Less, LessEqual, Greater, GreaterEqual, Plus, Minus, Star, Slash, Percent}
use Rattle.spl_parser.specs.Algebra.{Algebra}
use Rattle.spl_parser.specs.MachineStates.{Head, main_head, proc_head, DeclGoal, inputs_of, outputs_of, vars_of, Before, at_first, after, Frame, in_then, in_else, in_while, Body, Goal, assume_goal, assign_goal, if_goal, while_goal, Pending, Paren, Simple, skip_word, halt_word, fail_word, Targets, one_target, target_list, NameGoal, target_names, argument_names, Closed, closed_if, closed_while, State, at_start, at_begin, proc_word, proc_name, decl_open, decl_next, decl_name, decl_colon, decl_after, inputs_after, returns_word, in_block, simple, target, assign_start, assign_name, want, have, names_open, names_next, names_after, targets_after, called, called_name, call_after, after_end, done}
use Rattle.spl_parser.specs.MachineOperands.{nothing_before, closed_0, before_product, before_sum, before_cmp, before_both, before_either}

-- a body with one more statement; with another innermost block
abbrev pub with_stmt : (A : Algebra) → Body A → A.Stmt → Body A
with_stmt A b s = record { head = b.head; vars = b.vars; begin = b.begin; frames = b.frames; stmts = A.more_stmts b.stmts s }

abbrev pub with_block : (A : Algebra) → Body A → List (Frame A) → A.Stmts → Body A
with_block A b frames stmts = record { head = b.head; vars = b.vars; begin = b.begin; frames = frames; stmts = stmts }

abbrev pub new_body : (A : Algebra) → Head A → A.Vars → A.Start → Body A
new_body A h vs s = record { head = h; vars = vs; begin = s; frames = []; stmts = A.no_stmts }

-- a list of declarations with one more
abbrev pub with_decl : (A : Algebra) → Before A → A.Word → A.Gone → A.Kind → A.Decls
with_decl A at_first n c k = A.decls_one n c k
with_decl A (after ds comma) n c k = A.decls_more ds comma n c k

-- a statement with or without its `;`
abbrev pub finished : (A : Algebra) → Closed A → A.Semi → A.Stmt
finished A (closed_if w e t ss els f) s = A.conditional w e t ss els f s
finished A (closed_while w e d ss f) s = A.loop w e d ss f s

-- after the word or sign of this kind, which stands here
unfoldable pub starts_proc : (A : Algebra) → Head A → A.Place → Option (State A)
starts_proc A (main_head ps) l = Some (proc_word ps (A.gone l))
starts_proc A (proc_head ps w n o ins c r o' outs c') l = None

unfoldable pub step_start : (A : Algebra) → Head A → TokenKind → A.Place → Option (State A)
step_start A h Proc l = starts_proc A h l
step_start A h Var l = Some (decl_next (vars_of h (A.gone l)) at_first)
step_start A h Begin l = Some (in_block (new_body A h A.no_vars (A.start l)))
step_start A h _ l = None

unfoldable pub step_begin : (A : Algebra) → Head A → A.Vars → TokenKind → A.Place → Option (State A)
step_begin A h vs Begin l = Some (in_block (new_body A h vs (A.start l)))
step_begin A h vs _ l = None

unfoldable pub step_proc_word : (A : Algebra) → A.Procs → A.Gone → TokenKind → A.Place → Option (State A)
step_proc_word A ps w Name l = Some (proc_name ps w (A.word l))
step_proc_word A ps w _ l = None

unfoldable pub step_proc_name : (A : Algebra) → A.Procs → A.Gone → A.Word → TokenKind → A.Place → Option (State A)
step_proc_name A ps w n LeftParen l = Some (decl_open (inputs_of ps w n (A.gone l)))
step_proc_name A ps w n _ l = None

-- a list of declarations ends at its `)` or `;`
unfoldable pub decls_close : (A : Algebra) → DeclGoal A → A.OptDecls → A.Place → Option (State A)
decls_close A (inputs_of ps w n o) ds l = Some (inputs_after ps w n o ds (A.gone l))
decls_close A (outputs_of ps w n o ins c r o') ds l = Some (at_start (proc_head ps w n o ins c r o' ds (A.gone l)))
decls_close A (vars_of h v) ds l = None

unfoldable pub vars_close : (A : Algebra) → DeclGoal A → A.Decls → A.Place → Option (State A)
vars_close A (inputs_of ps w n o) ds l = None
vars_close A (outputs_of ps w n o ins c r o') ds l = None
vars_close A (vars_of h v) ds l = Some (at_begin h (A.some_vars v ds (A.gone l)))

unfoldable pub step_decl_open : (A : Algebra) → DeclGoal A → TokenKind → A.Place → Option (State A)
step_decl_open A g Name l = Some (decl_name g at_first (A.word l))
step_decl_open A g RightParen l = decls_close A g A.no_decls l
step_decl_open A g _ l = None

unfoldable pub step_decl_next : (A : Algebra) → DeclGoal A → Before A → TokenKind → A.Place → Option (State A)
step_decl_next A g b Name l = Some (decl_name g b (A.word l))
step_decl_next A g b _ l = None

unfoldable pub step_decl_name : (A : Algebra) → DeclGoal A → Before A → A.Word → TokenKind → A.Place → Option (State A)
step_decl_name A g b n Colon l = Some (decl_colon g b n (A.gone l))
step_decl_name A g b n _ l = None

unfoldable pub step_decl_colon : (A : Algebra) → DeclGoal A → Before A → A.Word → A.Gone → TokenKind → A.Place → Option (State A)
step_decl_colon A g b n c Int l = Some (decl_after g (with_decl A b n c (A.int l)))
step_decl_colon A g b n c Real l = Some (decl_after g (with_decl A b n c (A.real l)))
step_decl_colon A g b n c Name l = Some (decl_after g (with_decl A b n c (A.other l)))
step_decl_colon A g b n c _ l = None

unfoldable pub step_decl_after : (A : Algebra) → DeclGoal A → A.Decls → TokenKind → A.Place → Option (State A)
step_decl_after A g ds Comma l = Some (decl_next g (after ds (A.gone l)))
step_decl_after A g ds RightParen l = decls_close A g (A.some_decls ds) l
step_decl_after A g ds Semicolon l = vars_close A g ds l
step_decl_after A g ds _ l = None

unfoldable pub step_inputs_after : (A : Algebra) → A.Procs → A.Gone → A.Word → A.Gone → A.OptDecls → A.Gone → TokenKind → A.Place → Option (State A)
step_inputs_after A ps w n o ins c Returns l = Some (returns_word ps w n o ins c (A.gone l))
step_inputs_after A ps w n o ins c _ l = None

unfoldable pub step_returns_word : (A : Algebra) → A.Procs → A.Gone → A.Word → A.Gone → A.OptDecls → A.Gone → A.Gone → TokenKind → A.Place → Option (State A)
step_returns_word A ps w n o ins c r LeftParen l = Some (decl_open (outputs_of ps w n o ins c r (A.gone l)))
step_returns_word A ps w n o ins c r _ l = None

-- the words that end a block
unfoldable pub on_else : (A : Algebra) → Body A → List (Frame A) → A.Place → Option (State A)
on_else A b [] l = None
on_else A b (in_then ss w e t ∷ frames) l = Some (in_block (with_block A b (in_else ss w e t b.stmts (A.stop l) ∷ frames) A.no_stmts))
on_else A b (in_else ss w e t ts els ∷ frames) l = None
on_else A b (in_while ss w e d ∷ frames) l = None

unfoldable pub on_endif : (A : Algebra) → Body A → List (Frame A) → A.Place → Option (State A)
on_endif A b [] l = None
on_endif A b (in_then ss w e t ∷ frames) l = Some (after_end (with_block A b frames ss) (closed_if w e t b.stmts A.no_else (A.stop l)))
on_endif A b (in_else ss w e t ts els ∷ frames) l = Some (after_end (with_block A b frames ss) (closed_if w e t ts (A.some_else els b.stmts) (A.stop l)))
on_endif A b (in_while ss w e d ∷ frames) l = None

unfoldable pub on_done : (A : Algebra) → Body A → List (Frame A) → A.Place → Option (State A)
on_done A b [] l = None
on_done A b (in_then ss w e t ∷ frames) l = None
on_done A b (in_else ss w e t ts els ∷ frames) l = None
on_done A b (in_while ss w e d ∷ frames) l = Some (after_end (with_block A b frames ss) (closed_while w e d b.stmts (A.stop l)))

-- a body ends: the program's, or a procedure's
unfoldable pub body_close : (A : Algebra) → Head A → A.Vars → A.Start → A.Stmts → A.Place → State A
body_close A (main_head ps) vs b ss l = done (A.program ps vs b ss (A.gone l))
body_close A (proc_head ps w n o ins c r o' outs c') vs b ss l = at_start (main_head (A.more_procs ps w n o ins c r o' outs c' vs b ss (A.gone l)))

unfoldable pub on_end : (A : Algebra) → Body A → List (Frame A) → A.Place → Option (State A)
on_end A b [] l = Some (body_close A b.head b.vars b.begin b.stmts l)
on_end A b (f ∷ frames) l = None

unfoldable pub step_block : (A : Algebra) → Body A → TokenKind → A.Place → Option (State A)
step_block A b Skip l = Some (simple b (skip_word (A.start l)))
step_block A b Halt l = Some (simple b (halt_word (A.start l)))
step_block A b Fail l = Some (simple b (fail_word (A.start l)))
step_block A b Assume l = Some (want b (assume_goal (A.start l)) [] (nothing_before A))
step_block A b Name l = Some (target b (A.word l))
step_block A b LeftParen l = Some (names_open b (target_names (A.start l)))
step_block A b If l = Some (want b (if_goal (A.start l)) [] (nothing_before A))
step_block A b While l = Some (want b (while_goal (A.start l)) [] (nothing_before A))
step_block A b Else l = on_else A b b.frames l
step_block A b Endif l = on_endif A b b.frames l
step_block A b Done l = on_done A b b.frames l
step_block A b End l = on_end A b b.frames l
step_block A b _ l = None

-- a statement of one word, with its `;`
abbrev pub simple_stmt : (A : Algebra) → Simple A → A.Stop → A.Stmt
simple_stmt A (skip_word w) s = A.skip w s
simple_stmt A (halt_word w) s = A.halt w s
simple_stmt A (fail_word w) s = A.fail w s

unfoldable pub step_simple : (A : Algebra) → Body A → Simple A → TokenKind → A.Place → Option (State A)
step_simple A b w Semicolon l = Some (in_block (with_stmt A b (simple_stmt A w (A.stop l))))
step_simple A b w _ l = None

unfoldable pub step_target : (A : Algebra) → Body A → A.Word → TokenKind → A.Place → Option (State A)
step_target A b x Becomes l = Some (assign_start b x (A.gone l))
step_target A b x _ l = None

-- `not` stands before an operand of its own level or a wider one
unfoldable pub on_not : (A : Algebra) → Body A → Goal A → List (Paren A) → Pending A → Option (A.E4 × A.CmpSign) → Option (A.E4 × A.SumSign) → Option (A.E5 × A.ProductSign) → List A.Start → A.Place → Option (State A)
on_not A b g ps p None None None [] l = Some (want b g ps (record p { nots = p.nots ++ A.start l ∷ [] }))
on_not A b g ps p None None None (m ∷ ms) l = None
on_not A b g ps p None None (Some x) ms l = None
on_not A b g ps p None (Some x) q ms l = None
on_not A b g ps p (Some x) s q ms l = None

unfoldable pub step_want : (A : Algebra) → Body A → Goal A → List (Paren A) → Pending A → TokenKind → A.Place → Option (State A)
step_want A b g ps p (Number n) l = Some (have b g ps p (A.number n l))
step_want A b g ps p Name l = Some (have b g ps p (A.variable (A.word l)))
step_want A b g ps p True l = Some (have b g ps p (A.true_value l))
step_want A b g ps p False l = Some (have b g ps p (A.false_value l))
step_want A b g ps p Random l = Some (have b g ps p (A.random l))
step_want A b g ps p Brandom l = Some (have b g ps p (A.brandom l))
step_want A b g ps p LeftParen l = Some (want b g (record { pending = p; left = A.gone l } ∷ ps) (nothing_before A))
step_want A b g ps p Minus l = Some (want b g ps (record p { minuses = p.minuses ++ A.start l ∷ [] }))
step_want A b g ps p Not l = on_not A b g ps p p.cmp_left p.sum_left p.product_left p.minuses l
step_want A b g ps p _ l = None

-- a comparison has no comparison as its left side
unfoldable pub on_cmp : (A : Algebra) → Body A → Goal A → List (Paren A) → Pending A → A.Atom → Option (A.E4 × A.CmpSign) → A.CmpSign → Option (State A)
on_cmp A b g ps p a None s = Some (want b g ps (before_cmp A p a s))
on_cmp A b g ps p a (Some x) s = None

-- a parenthesis closes
unfoldable pub on_right : (A : Algebra) → Body A → Goal A → List (Paren A) → Pending A → A.Atom → A.Place → Option (State A)
on_right A b g [] p a l = None
on_right A b g (q ∷ ps) p a l = Some (have b g ps q.pending (A.in_parens q.left (closed_0 A p a) (A.gone l)))

-- the sign or word that ends an expression
unfoldable pub on_semicolon : (A : Algebra) → Body A → Goal A → List (Paren A) → A.E0 → A.Place → Option (State A)
on_semicolon A b (assume_goal w) [] e l = Some (in_block (with_stmt A b (A.assume w e (A.stop l))))
on_semicolon A b (assign_goal x q) [] e l = Some (in_block (with_stmt A b (A.assign x q e (A.stop l))))
on_semicolon A b (if_goal w) [] e l = None
on_semicolon A b (while_goal w) [] e l = None
on_semicolon A b g (p ∷ ps) e l = None

unfoldable pub on_then : (A : Algebra) → Body A → Goal A → List (Paren A) → A.E0 → A.Place → Option (State A)
on_then A b (assume_goal w) [] e l = None
on_then A b (assign_goal x q) [] e l = None
on_then A b (if_goal w) [] e l = Some (in_block (with_block A b (in_then b.stmts w e (A.stop l) ∷ b.frames) A.no_stmts))
on_then A b (while_goal w) [] e l = None
on_then A b g (p ∷ ps) e l = None

unfoldable pub on_do : (A : Algebra) → Body A → Goal A → List (Paren A) → A.E0 → A.Place → Option (State A)
on_do A b (assume_goal w) [] e l = None
on_do A b (assign_goal x q) [] e l = None
on_do A b (if_goal w) [] e l = None
on_do A b (while_goal w) [] e l = Some (in_block (with_block A b (in_while b.stmts w e (A.stop l) ∷ b.frames) A.no_stmts))
on_do A b g (p ∷ ps) e l = None

unfoldable pub step_have : (A : Algebra) → Body A → Goal A → List (Paren A) → Pending A → A.Atom → TokenKind → A.Place → Option (State A)
step_have A b g ps p a Star l = Some (want b g ps (before_product A p a (A.star l)))
step_have A b g ps p a Slash l = Some (want b g ps (before_product A p a (A.slash l)))
step_have A b g ps p a Percent l = Some (want b g ps (before_product A p a (A.percent l)))
step_have A b g ps p a Plus l = Some (want b g ps (before_sum A p a (A.plus l)))
step_have A b g ps p a Minus l = Some (want b g ps (before_sum A p a (A.minus l)))
step_have A b g ps p a Equal l = on_cmp A b g ps p a p.cmp_left (A.equal l)
step_have A b g ps p a NotEqual l = on_cmp A b g ps p a p.cmp_left (A.not_equal l)
step_have A b g ps p a Less l = on_cmp A b g ps p a p.cmp_left (A.less l)
step_have A b g ps p a LessEqual l = on_cmp A b g ps p a p.cmp_left (A.less_equal l)
step_have A b g ps p a Greater l = on_cmp A b g ps p a p.cmp_left (A.greater l)
step_have A b g ps p a GreaterEqual l = on_cmp A b g ps p a p.cmp_left (A.greater_equal l)
step_have A b g ps p a And l = Some (want b g ps (before_both A p a (A.start l)))
step_have A b g ps p a Or l = Some (want b g ps (before_either A p a (A.start l)))
step_have A b g ps p a RightParen l = on_right A b g ps p a l
step_have A b g ps p a Semicolon l = on_semicolon A b g ps (closed_0 A p a) l
step_have A b g ps p a Then l = on_then A b g ps (closed_0 A p a) l
step_have A b g ps p a Do l = on_do A b g ps (closed_0 A p a) l
step_have A b g ps p a _ l = None

unfoldable pub step_assign_start : (A : Algebra) → Body A → A.Word → A.Gone → TokenKind → A.Place → Option (State A)
step_assign_start A b x q Name l = Some (assign_name b x q (A.word l))
step_assign_start A b x q k l = step_want A b (assign_goal x q) [] (nothing_before A) k l

unfoldable pub step_assign_name : (A : Algebra) → Body A → A.Word → A.Gone → A.Word → TokenKind → A.Place → Option (State A)
step_assign_name A b x q n LeftParen l = Some (names_open b (argument_names (one_target x q) n (A.gone l)))
step_assign_name A b x q n k l = step_have A b (assign_goal x q) [] (nothing_before A) (A.variable n) k l

-- a list of names ends at its `)`
unfoldable pub names_close : (A : Algebra) → Body A → NameGoal A → A.OptNames → A.Place → State A
names_close A b (target_names o) ns l = targets_after b o ns (A.gone l)
names_close A b (argument_names ts f o) ns l = call_after b ts f o ns (A.gone l)

unfoldable pub step_names_open : (A : Algebra) → Body A → NameGoal A → TokenKind → A.Place → Option (State A)
step_names_open A b g Name l = Some (names_after b g (A.names_one (A.word l)))
step_names_open A b g RightParen l = Some (names_close A b g A.no_names l)
step_names_open A b g _ l = None

unfoldable pub step_names_next : (A : Algebra) → Body A → NameGoal A → A.Names → A.Gone → TokenKind → A.Place → Option (State A)
step_names_next A b g ns c Name l = Some (names_after b g (A.names_more ns c (A.word l)))
step_names_next A b g ns c _ l = None

unfoldable pub step_names_after : (A : Algebra) → Body A → NameGoal A → A.Names → TokenKind → A.Place → Option (State A)
step_names_after A b g ns Comma l = Some (names_next b g ns (A.gone l))
step_names_after A b g ns RightParen l = Some (names_close A b g (A.some_names ns) l)
step_names_after A b g ns _ l = None

unfoldable pub step_targets_after : (A : Algebra) → Body A → A.Start → A.OptNames → A.Gone → TokenKind → A.Place → Option (State A)
step_targets_after A b o ns c Becomes l = Some (called b (target_list o ns c (A.gone l)))
step_targets_after A b o ns c _ l = None

unfoldable pub step_called : (A : Algebra) → Body A → Targets A → TokenKind → A.Place → Option (State A)
step_called A b ts Name l = Some (called_name b ts (A.word l))
step_called A b ts _ l = None

unfoldable pub step_called_name : (A : Algebra) → Body A → Targets A → A.Word → TokenKind → A.Place → Option (State A)
step_called_name A b ts f LeftParen l = Some (names_open b (argument_names ts f (A.gone l)))
step_called_name A b ts f _ l = None

-- a call with its `;`
abbrev pub call_stmt_of : (A : Algebra) → Targets A → A.Word → A.Gone → A.OptNames → A.Gone → A.Stop → A.Stmt
call_stmt_of A (one_target x q) f o ns c s = A.call x q f o ns c s
call_stmt_of A (target_list o' xs c' q) f o ns c s = A.calls o' xs c' q f o ns c s

unfoldable pub step_call_after : (A : Algebra) → Body A → Targets A → A.Word → A.Gone → A.OptNames → A.Gone → TokenKind → A.Place → Option (State A)
step_call_after A b ts f o ns c Semicolon l = Some (in_block (with_stmt A b (call_stmt_of A ts f o ns c (A.stop l))))
step_call_after A b ts f o ns c _ l = None

unfoldable pub step_after_end : (A : Algebra) → Body A → Closed A → TokenKind → A.Place → Option (State A)
step_after_end A b c Semicolon l = Some (in_block (with_stmt A b (finished A c (A.a_semi (A.stop l)))))
step_after_end A b c k l = step_block A (with_stmt A b (finished A c A.no_semi)) k l
