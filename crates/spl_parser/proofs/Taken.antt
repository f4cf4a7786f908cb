-- What a state has taken: the tokens, read off the derivations that it holds. Each step takes its token.
use Rattle.std.proofs.Common.{◌≡◌, List, [], ◌∷◌, ◌++◌, Option, Some, None, IfSome}
use Rattle.spl_text.specs.declared.token.Token.{Token}
use Rattle.spl_text.specs.declared.token.TokenKind.{TokenKind}
use Rattle.spl_text.specs.declared.token.TokenKind.TheVariants.{Name, Proc, Returns, Var, Begin, Skip, Halt, Fail, Assume, If, Then, Else, Endif, While, Do, Done, Not, And, Or, LeftParen, RightParen, Comma, Colon, Becomes, Minus}
use Rattle.spl_parser.specs.Grammar.{Leaf, Cmp, SumSign, ProductSign, E0, E1, E4, E5}
use Rattle.spl_parser.specs.Spelling.{token, spelled_decls, spelled_opt_decls, spelled_vars, spelled_names, spelled_opt_names, spelled_cmp, spelled_sum, spelled_product, spelled_0, spelled_1, spelled_4, spelled_5, spelled_atom, spelled_stmts, spelled_else, spelled_procs, spelled}
use Rattle.spl_parser.specs.Machine.{Head, main_head, proc_head, DeclGoal, inputs_of, outputs_of, vars_of, Before, at_first, after, Frame, in_then, in_else, in_while, Body, Goal, assume_goal, assign_goal, if_goal, while_goal, Pending, Paren, Simple, skip_word, halt_word, fail_word, Targets, one_target, target_list, NameGoal, target_names, argument_names, Closed, closed_if, closed_while, State, at_start, at_begin, proc_word, proc_name, decl_open, decl_next, decl_name, decl_colon, decl_after, inputs_after, returns_word, in_block, simple, target, assign_start, assign_name, want, have, names_open, names_next, names_after, targets_after, called, called_name, call_after, after_end, done}
use Rattle.spl_parser.proofs.Algebras.{derivations}

abbrev pub head_taken : Head derivations → List Token
head_taken (main_head ps) = spelled_procs ps
head_taken (proc_head ps w n o ins c r o' outs c') = spelled_procs ps ++ token Proc w ∷ token Name n ∷ token LeftParen o ∷ (spelled_opt_decls ins ++ token RightParen c ∷ token Returns r ∷ token LeftParen o' ∷ (spelled_opt_decls outs ++ token RightParen c' ∷ []))

abbrev pub decl_goal_taken : DeclGoal derivations → List Token
decl_goal_taken (inputs_of ps w n o) = spelled_procs ps ++ token Proc w ∷ token Name n ∷ token LeftParen o ∷ []
decl_goal_taken (outputs_of ps w n o ins c r o') = spelled_procs ps ++ token Proc w ∷ token Name n ∷ token LeftParen o ∷ (spelled_opt_decls ins ++ token RightParen c ∷ token Returns r ∷ token LeftParen o' ∷ [])
decl_goal_taken (vars_of h v) = head_taken h ++ token Var v ∷ []

abbrev pub before_taken : Before derivations → List Token
before_taken at_first = []
before_taken (after ds c) = spelled_decls ds ++ token Comma c ∷ []

abbrev pub frame_taken : Frame derivations → List Token
frame_taken (in_then ss w e t) = spelled_stmts ss ++ token If w ∷ (spelled_0 e ++ token Then t ∷ [])
frame_taken (in_else ss w e t ts els) = spelled_stmts ss ++ token If w ∷ (spelled_0 e ++ token Then t ∷ (spelled_stmts ts ++ token Else els ∷ []))
frame_taken (in_while ss w e d) = spelled_stmts ss ++ token While w ∷ (spelled_0 e ++ token Do d ∷ [])

abbrev pub frames_taken : List (Frame derivations) → List Token
frames_taken [] = []
frames_taken (f ∷ fs) = frames_taken fs ++ frame_taken f

abbrev pub body_taken : Body derivations → List Token
body_taken b = head_taken b.head ++ (spelled_vars b.vars ++ token Begin b.begin ∷ (frames_taken b.frames ++ spelled_stmts b.stmts))

abbrev pub goal_taken : Goal derivations → List Token
goal_taken (assume_goal w) = token Assume w ∷ []
goal_taken (assign_goal x q) = token Name x ∷ token Becomes q ∷ []
goal_taken (if_goal w) = token If w ∷ []
goal_taken (while_goal w) = token While w ∷ []

abbrev pub either_taken : Option (E0 × Leaf) → List Token
either_taken None = []
either_taken (Some l) = spelled_0 l.0 ++ token Or l.1 ∷ []

abbrev pub both_taken : Option (E1 × Leaf) → List Token
both_taken None = []
both_taken (Some l) = spelled_1 l.0 ++ token And l.1 ∷ []

abbrev pub cmp_taken : Option (E4 × Cmp) → List Token
cmp_taken None = []
cmp_taken (Some l) = spelled_4 l.0 ++ spelled_cmp l.1 ∷ []

abbrev pub sum_taken : Option (E4 × SumSign) → List Token
sum_taken None = []
sum_taken (Some l) = spelled_4 l.0 ++ spelled_sum l.1 ∷ []

abbrev pub product_taken : Option (E5 × ProductSign) → List Token
product_taken None = []
product_taken (Some l) = spelled_5 l.0 ++ spelled_product l.1 ∷ []

abbrev pub words_taken : TokenKind → List Leaf → List Token
words_taken k [] = []
words_taken k (l ∷ ls) = token k l ∷ words_taken k ls

abbrev pub pending_taken : Pending derivations → List Token
pending_taken p = either_taken p.either_left ++ (both_taken p.both_left ++ (words_taken Not p.nots ++ (cmp_taken p.cmp_left ++ (sum_taken p.sum_left ++ (product_taken p.product_left ++ words_taken Minus p.minuses)))))

abbrev pub parens_taken : List (Paren derivations) → List Token
parens_taken [] = []
parens_taken (q ∷ ps) = parens_taken ps ++ (pending_taken q.pending ++ token LeftParen q.left ∷ [])

abbrev pub simple_taken : Simple derivations → List Token
simple_taken (skip_word w) = token Skip w ∷ []
simple_taken (halt_word w) = token Halt w ∷ []
simple_taken (fail_word w) = token Fail w ∷ []

abbrev pub targets_taken : Targets derivations → List Token
targets_taken (one_target x q) = token Name x ∷ token Becomes q ∷ []
targets_taken (target_list o ns c q) = token LeftParen o ∷ (spelled_opt_names ns ++ token RightParen c ∷ token Becomes q ∷ [])

abbrev pub name_goal_taken : NameGoal derivations → List Token
name_goal_taken (target_names o) = token LeftParen o ∷ []
name_goal_taken (argument_names ts f o) = targets_taken ts ++ token Name f ∷ token LeftParen o ∷ []

abbrev pub closed_taken : Closed derivations → List Token
closed_taken (closed_if w e t ss els f) = token If w ∷ (spelled_0 e ++ token Then t ∷ (spelled_stmts ss ++ (spelled_else els ++ token Endif f ∷ [])))
closed_taken (closed_while w e d ss f) = token While w ∷ (spelled_0 e ++ token Do d ∷ (spelled_stmts ss ++ token Done f ∷ []))

-- the tokens that a state has taken
unfoldable pub taken : State derivations → List Token
taken (at_start h) = head_taken h
taken (at_begin h vs) = head_taken h ++ spelled_vars vs
taken (proc_word ps w) = spelled_procs ps ++ token Proc w ∷ []
taken (proc_name ps w n) = spelled_procs ps ++ token Proc w ∷ token Name n ∷ []
taken (decl_open g) = decl_goal_taken g
taken (decl_next g b) = decl_goal_taken g ++ before_taken b
taken (decl_name g b n) = decl_goal_taken g ++ (before_taken b ++ token Name n ∷ [])
taken (decl_colon g b n c) = decl_goal_taken g ++ (before_taken b ++ token Name n ∷ token Colon c ∷ [])
taken (decl_after g ds) = decl_goal_taken g ++ spelled_decls ds
taken (inputs_after ps w n o ins c) = spelled_procs ps ++ token Proc w ∷ token Name n ∷ token LeftParen o ∷ (spelled_opt_decls ins ++ token RightParen c ∷ [])
taken (returns_word ps w n o ins c r) = spelled_procs ps ++ token Proc w ∷ token Name n ∷ token LeftParen o ∷ (spelled_opt_decls ins ++ token RightParen c ∷ token Returns r ∷ [])
taken (in_block b) = body_taken b
taken (simple b w) = body_taken b ++ simple_taken w
taken (target b x) = body_taken b ++ token Name x ∷ []
taken (assign_start b x q) = body_taken b ++ token Name x ∷ token Becomes q ∷ []
taken (assign_name b x q n) = body_taken b ++ token Name x ∷ token Becomes q ∷ token Name n ∷ []
taken (want b g ps p) = body_taken b ++ (goal_taken g ++ (parens_taken ps ++ pending_taken p))
taken (have b g ps p a) = body_taken b ++ (goal_taken g ++ (parens_taken ps ++ (pending_taken p ++ spelled_atom a)))
taken (names_open b g) = body_taken b ++ name_goal_taken g
taken (names_next b g ns c) = body_taken b ++ (name_goal_taken g ++ (spelled_names ns ++ token Comma c ∷ []))
taken (names_after b g ns) = body_taken b ++ (name_goal_taken g ++ spelled_names ns)
taken (targets_after b o ns c) = body_taken b ++ token LeftParen o ∷ (spelled_opt_names ns ++ token RightParen c ∷ [])
taken (called b ts) = body_taken b ++ targets_taken ts
taken (called_name b ts f) = body_taken b ++ (targets_taken ts ++ token Name f ∷ [])
taken (call_after b ts f o ns c) = body_taken b ++ (targets_taken ts ++ token Name f ∷ token LeftParen o ∷ (spelled_opt_names ns ++ token RightParen c ∷ []))
taken (after_end b c) = body_taken b ++ closed_taken c
taken (done p) = spelled p

-- a state that comes after has taken the token too
abbrev pub Takes : Option (State derivations) → List Token → TokenKind → Leaf → Type 0
Takes r ts k l = IfSome r (λ s. taken s ≡ ts ++ token k l ∷ [])
