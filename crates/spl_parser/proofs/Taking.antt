-- Each step takes its token: what a state has taken grows by it.
use Rattle.std.proofs.Common.{◌≡◌, List, [], ◌∷◌, ◌++◌, Option, Some, None, refl, ap, ◌∙◌, append_assoc}
use Rattle.std.proofs.lemmas.List.{append-nil}
use Rattle.spl_text.specs.declared.token.Token.{Token}
use Rattle.spl_text.specs.declared.token.TokenKind.{TokenKind}
use Rattle.spl_text.specs.declared.token.TokenKind.TheVariants.{Name, Number, Proc, Returns, Var, Begin, End, Int, Real, Skip, Halt, Fail, Assume, Random, Brandom, If, Then, Else, Endif, While, Do, Done, Not, And, Or, True, False, LeftParen, RightParen, Comma, Semicolon, Colon, Becomes, Equal, NotEqual, Less, LessEqual, Greater, GreaterEqual, Plus, Minus, Star, Slash, Percent}
use Rattle.spl_parser.specs.Grammar.{Leaf, TypeWord, Decls, OptDecls, no_decls, some_decls, Vars, Names, OptNames, no_names, some_names, Cmp, equal, not_equal, less, less_equal, greater, greater_equal, SumSign, ProductSign, E0, E1, E2, E4, E5, E6, Atom, name_atom, OptSemicolon, no_semicolon, a_semicolon, Stmts, Stmt, Procs}
use Rattle.spl_parser.specs.Spelling.{token, spelled_type, spelled_decls, spelled_opt_decls, spelled_vars, spelled_opt_names, spelled_cmp, spelled_0, spelled_1, spelled_2, spelled_3, spelled_4, spelled_5, spelled_6, spelled_semicolon, spelled_stmts, spelled_stmt}
use Rattle.spl_parser.specs.Machine.{Head, main_head, proc_head, DeclGoal, inputs_of, outputs_of, vars_of, Before, at_first, after, Frame, in_then, in_else, in_while, Body, Goal, assume_goal, assign_goal, if_goal, while_goal, Pending, Paren, Simple, skip_word, halt_word, fail_word, Targets, one_target, target_list, NameGoal, target_names, argument_names, Closed, closed_if, closed_while, State, at_start, at_begin, proc_word, proc_name, decl_open, decl_next, decl_name, decl_colon, decl_after, inputs_after, returns_word, in_block, simple, target, assign_start, assign_name, want, have, names_open, names_next, names_after, targets_after, called, called_name, call_after, after_end, done, nothing_before, under_minuses, under_nots, with_product, with_sum, with_cmp, with_both, with_either, closed_0, with_stmt, with_decl, finished, simple_stmt, call_stmt_of, step, starts_proc, step_start, step_begin, step_proc_word, step_proc_name, decls_close, vars_close, step_decl_open, step_decl_next, step_decl_name, step_decl_colon, step_decl_after, step_inputs_after, step_returns_word, on_else, on_endif, on_done, body_close, on_end, step_block, step_simple, step_target, on_not, step_want, on_cmp, on_right, on_semicolon, on_then, on_do, step_have, step_assign_start, step_assign_name, names_close, step_names_open, step_names_next, step_names_after, step_targets_after, step_called, step_called_name, step_call_after, step_after_end}
use Rattle.spl_parser.proofs.Algebras.{derivations}
use Rattle.spl_parser.proofs.Taken.{head_taken, decl_goal_taken, before_taken, frames_taken, body_taken, either_taken, both_taken, cmp_taken, sum_taken, product_taken, words_taken, simple_taken, targets_taken, name_goal_taken, closed_taken, taken, Takes}

ruleset flat = (append_assoc, append-nil)

takes_start : (h : Head derivations) (k : TokenKind) (l : Leaf) → Takes (step_start derivations h k l) (taken (at_start h)) k l
unfolding taken step_start starts_proc
takes_start (main_head ps) Proc l = refl
takes_start (proc_head ps w n o ins c r o' outs c') Proc l = tt
takes_start h Var l = simp flat
takes_start h Begin l = simp flat
takes_start h _ l = tt

takes_begin : (h : Head derivations) (vs : Vars) (k : TokenKind) (l : Leaf) → Takes (step_begin derivations h vs k l) (taken (at_begin h vs)) k l
unfolding taken step_begin
takes_begin h vs Begin l = simp flat
takes_begin h vs _ l = tt

takes_proc_word : (ps : Procs) (w : Leaf) (k : TokenKind) (l : Leaf) → Takes (step_proc_word derivations ps w k l) (taken (proc_word ps w)) k l
unfolding taken step_proc_word
takes_proc_word ps w Name l = simp flat
takes_proc_word ps w _ l = tt

takes_proc_name : (ps : Procs) (w n : Leaf) (k : TokenKind) (l : Leaf) → Takes (step_proc_name derivations ps w n k l) (taken (proc_name ps w n)) k l
unfolding taken step_proc_name
takes_proc_name ps w n LeftParen l = simp flat
takes_proc_name ps w n _ l = tt

takes_decls_close : (g : DeclGoal derivations) (ds : OptDecls) (l : Leaf) → Takes (decls_close derivations g ds l) (decl_goal_taken g ++ spelled_opt_decls ds) RightParen l
unfolding taken decls_close
takes_decls_close (inputs_of ps w n o) ds l = simp flat
takes_decls_close (outputs_of ps w n o ins c r o') ds l = simp flat
takes_decls_close (vars_of h v) ds l = tt

takes_vars_close : (g : DeclGoal derivations) (ds : Decls) (l : Leaf) → Takes (vars_close derivations g ds l) (decl_goal_taken g ++ spelled_decls ds) Semicolon l
unfolding taken vars_close
takes_vars_close (inputs_of ps w n o) ds l = tt
takes_vars_close (outputs_of ps w n o ins c r o') ds l = tt
takes_vars_close (vars_of h v) ds l = simp flat

takes_decl_open : (g : DeclGoal derivations) (k : TokenKind) (l : Leaf) → Takes (step_decl_open derivations g k l) (taken (decl_open g)) k l
unfolding taken step_decl_open
takes_decl_open g Name l = refl
takes_decl_open g RightParen l = let h = takes_decls_close g no_decls l in simp flat at h
takes_decl_open g _ l = tt

takes_decl_next : (g : DeclGoal derivations) (b : Before derivations) (k : TokenKind) (l : Leaf) → Takes (step_decl_next derivations g b k l) (taken (decl_next g b)) k l
unfolding taken step_decl_next
takes_decl_next g b Name l = simp flat
takes_decl_next g b _ l = tt

takes_decl_name : (g : DeclGoal derivations) (b : Before derivations) (n : Leaf) (k : TokenKind) (l : Leaf) → Takes (step_decl_name derivations g b n k l) (taken (decl_name g b n)) k l
unfolding taken step_decl_name
takes_decl_name g b n Colon l = simp flat
takes_decl_name g b n _ l = tt

spelled-with_decl : (b : Before derivations) (n c : Leaf) (t : TypeWord) → spelled_decls (with_decl derivations b n c t) ≡ before_taken b ++ token Name n ∷ token Colon c ∷ spelled_type t ∷ []
spelled-with_decl at_first n c t = refl
spelled-with_decl (after ds m) n c t = simp flat

takes_decl_colon : (g : DeclGoal derivations) (b : Before derivations) (n c : Leaf) (k : TokenKind) (l : Leaf) → Takes (step_decl_colon derivations g b n c k l) (taken (decl_colon g b n c)) k l
unfolding taken step_decl_colon
takes_decl_colon g b n c Int l = simp (spelled-with_decl, flat)
takes_decl_colon g b n c Real l = simp (spelled-with_decl, flat)
takes_decl_colon g b n c Name l = simp (spelled-with_decl, flat)
takes_decl_colon g b n c _ l = tt

takes_decl_after : (g : DeclGoal derivations) (ds : Decls) (k : TokenKind) (l : Leaf) → Takes (step_decl_after derivations g ds k l) (taken (decl_after g ds)) k l
unfolding taken step_decl_after
takes_decl_after g ds Comma l = simp flat
takes_decl_after g ds RightParen l = takes_decls_close g (some_decls ds) l
takes_decl_after g ds Semicolon l = takes_vars_close g ds l
takes_decl_after g ds _ l = tt

takes_inputs_after : (ps : Procs) (w n o : Leaf) (ins : OptDecls) (c : Leaf) (k : TokenKind) (l : Leaf) → Takes (step_inputs_after derivations ps w n o ins c k l) (taken (inputs_after ps w n o ins c)) k l
unfolding taken step_inputs_after
takes_inputs_after ps w n o ins c Returns l = simp flat
takes_inputs_after ps w n o ins c _ l = tt

takes_returns_word : (ps : Procs) (w n o : Leaf) (ins : OptDecls) (c r : Leaf) (k : TokenKind) (l : Leaf) → Takes (step_returns_word derivations ps w n o ins c r k l) (taken (returns_word ps w n o ins c r)) k l
unfolding taken step_returns_word
takes_returns_word ps w n o ins c r LeftParen l = simp flat
takes_returns_word ps w n o ins c r _ l = tt

-- a body with these frames, whatever its own are
abbrev around : Body derivations → List (Frame derivations) → List Token
around b fs = head_taken b.head ++ (spelled_vars b.vars ++ token Begin b.begin ∷ (frames_taken fs ++ spelled_stmts b.stmts))

takes_else : (b : Body derivations) (fs : List (Frame derivations)) (l : Leaf) → Takes (on_else derivations b fs l) (around b fs) Else l
unfolding taken on_else
takes_else b [] l = tt
takes_else b (in_then ss w e t ∷ fs) l = simp flat
takes_else b (in_else ss w e t ts els ∷ fs) l = tt
takes_else b (in_while ss w e d ∷ fs) l = tt

takes_endif : (b : Body derivations) (fs : List (Frame derivations)) (l : Leaf) → Takes (on_endif derivations b fs l) (around b fs) Endif l
unfolding taken on_endif
takes_endif b [] l = tt
takes_endif b (in_then ss w e t ∷ fs) l = simp flat
takes_endif b (in_else ss w e t ts els ∷ fs) l = simp flat
takes_endif b (in_while ss w e d ∷ fs) l = tt

takes_done : (b : Body derivations) (fs : List (Frame derivations)) (l : Leaf) → Takes (on_done derivations b fs l) (around b fs) Done l
unfolding taken on_done
takes_done b [] l = tt
takes_done b (in_then ss w e t ∷ fs) l = tt
takes_done b (in_else ss w e t ts els ∷ fs) l = tt
takes_done b (in_while ss w e d ∷ fs) l = simp flat

taken-body_close : (h : Head derivations) (vs : Vars) (g : Leaf) (ss : Stmts) (l : Leaf) → taken (body_close derivations h vs g ss l) ≡ head_taken h ++ (spelled_vars vs ++ token Begin g ∷ (spelled_stmts ss ++ token End l ∷ []))
unfolding taken body_close
taken-body_close (main_head ps) vs g ss l = refl
taken-body_close (proc_head ps w n o ins c r o' outs c') vs g ss l = simp flat

takes_end : (b : Body derivations) (fs : List (Frame derivations)) (l : Leaf) → Takes (on_end derivations b fs l) (around b fs) End l
unfolding on_end
takes_end b [] l = taken-body_close b.head b.vars b.begin b.stmts l ∙ simp flat
takes_end b (f ∷ fs) l = tt

pub takes_block : (b : Body derivations) (k : TokenKind) (l : Leaf) → Takes (step_block derivations b k l) (body_taken b) k l
unfolding taken step_block
takes_block b Skip l = refl
takes_block b Halt l = refl
takes_block b Fail l = refl
takes_block b Assume l = simp flat
takes_block b Name l = refl
takes_block b LeftParen l = refl
takes_block b If l = simp flat
takes_block b While l = simp flat
takes_block b Else l = takes_else b b.frames l
takes_block b Endif l = takes_endif b b.frames l
takes_block b Done l = takes_done b b.frames l
takes_block b End l = takes_end b b.frames l
takes_block b _ l = tt

taken-with_stmt : (b : Body derivations) (s : Stmt) → body_taken (with_stmt derivations b s) ≡ body_taken b ++ spelled_stmt s
taken-with_stmt b s = simp flat

spelled-simple : (w : Simple derivations) (l : Leaf) → spelled_stmt (simple_stmt derivations w l) ≡ simple_taken w ++ token Semicolon l ∷ []
spelled-simple (skip_word w) l = refl
spelled-simple (halt_word w) l = refl
spelled-simple (fail_word w) l = refl

takes_simple : (b : Body derivations) (w : Simple derivations) (k : TokenKind) (l : Leaf) → Takes (step_simple derivations b w k l) (taken (simple b w)) k l
unfolding taken step_simple
takes_simple b w Semicolon l = taken-with_stmt b (simple_stmt derivations w l) ∙ simp (spelled-simple, flat)
takes_simple b w _ l = tt

takes_target : (b : Body derivations) (x : Leaf) (k : TokenKind) (l : Leaf) → Takes (step_target derivations b x k l) (taken (target b x)) k l
unfolding taken step_target
takes_target b x Becomes l = simp flat
takes_target b x _ l = tt

words_taken-more : (k : TokenKind) (ls : List Leaf) (l : Leaf) → words_taken k (ls ++ l ∷ []) ≡ words_taken k ls ++ token k l ∷ []
words_taken-more k [] l = refl
words_taken-more k (m ∷ ls) l = ap (λ r. token k m ∷ r) (words_taken-more k ls l)

takes_not : (b : Body derivations) (g : Goal derivations) (ps : List (Paren derivations)) (p : Pending derivations) (c : Option (E4 × Cmp)) (s : Option (E4 × SumSign)) (q : Option (E5 × ProductSign)) (ms : List Leaf) (l : Leaf) → p.cmp_left ≡ c → p.sum_left ≡ s → p.product_left ≡ q → p.minuses ≡ ms → Takes (on_not derivations b g ps p c s q ms l) (taken (want b g ps p)) Not l
unfolding taken on_not
takes_not b g ps p None None None [] l hc hs hq hm = simp (hc, hs, hq, hm, words_taken-more, flat)
takes_not b g ps p None None None (m ∷ ms) l hc hs hq hm = tt
takes_not b g ps p None None (Some x) ms l hc hs hq hm = tt
takes_not b g ps p None (Some x) q ms l hc hs hq hm = tt
takes_not b g ps p (Some x) s q ms l hc hs hq hm = tt

pub takes_want : (b : Body derivations) (g : Goal derivations) (ps : List (Paren derivations)) (p : Pending derivations) (k : TokenKind) (l : Leaf) → Takes (step_want derivations b g ps p k l) (taken (want b g ps p)) k l
unfolding taken step_want
takes_want b g ps p (Number n) l = simp flat
takes_want b g ps p Name l = simp flat
takes_want b g ps p True l = simp flat
takes_want b g ps p False l = simp flat
takes_want b g ps p Random l = simp flat
takes_want b g ps p Brandom l = simp flat
takes_want b g ps p LeftParen l = simp flat
takes_want b g ps p Minus l = simp (words_taken-more, flat)
takes_want b g ps p Not l = takes_not b g ps p p.cmp_left p.sum_left p.product_left p.minuses l refl refl refl refl
takes_want b g ps p _ l = tt

-- an operand that is closed spells what stood before it, and itself
spelled-under_minuses : (ms : List Leaf) (e : E6) → spelled_6 (under_minuses derivations ms e) ≡ words_taken Minus ms ++ spelled_6 e
spelled-under_minuses [] e = refl
spelled-under_minuses (m ∷ ms) e = ap (λ r. token Minus m ∷ r) (spelled-under_minuses ms e)

spelled-under_nots : (ms : List Leaf) (e : E2) → spelled_2 (under_nots derivations ms e) ≡ words_taken Not ms ++ spelled_2 e
spelled-under_nots [] e = refl
spelled-under_nots (m ∷ ms) e = ap (λ r. token Not m ∷ r) (spelled-under_nots ms e)

spelled-with_product : (q : Option (E5 × ProductSign)) (e : E6) → spelled_5 (with_product derivations q e) ≡ product_taken q ++ spelled_6 e
spelled-with_product None e = refl
spelled-with_product (Some x) e = simp flat

spelled-with_sum : (q : Option (E4 × SumSign)) (e : E5) → spelled_4 (with_sum derivations q e) ≡ sum_taken q ++ spelled_5 e
spelled-with_sum None e = refl
spelled-with_sum (Some x) e = simp flat

spelled-with_cmp : (q : Option (E4 × Cmp)) (e : E4) → spelled_3 (with_cmp derivations q e) ≡ cmp_taken q ++ spelled_4 e
spelled-with_cmp None e = refl
spelled-with_cmp (Some x) e = simp flat

spelled-with_both : (q : Option (E1 × Leaf)) (e : E2) → spelled_1 (with_both derivations q e) ≡ both_taken q ++ spelled_2 e
spelled-with_both None e = refl
spelled-with_both (Some x) e = simp flat

spelled-with_either : (q : Option (E0 × Leaf)) (e : E1) → spelled_0 (with_either derivations q e) ≡ either_taken q ++ spelled_1 e
spelled-with_either None e = refl
spelled-with_either (Some x) e = simp flat

ruleset closing = (spelled-under_minuses, spelled-under_nots, spelled-with_product, spelled-with_sum, spelled-with_cmp, spelled-with_both, spelled-with_either, append_assoc, append-nil)

takes_cmp : (b : Body derivations) (g : Goal derivations) (ps : List (Paren derivations)) (p : Pending derivations) (a : Atom) (c : Option (E4 × Cmp)) (s : Cmp) (k : TokenKind) (l : Leaf) → p.cmp_left ≡ c → spelled_cmp s ≡ token k l → Takes (on_cmp derivations b g ps p a c s) (taken (have b g ps p a)) k l
unfolding taken on_cmp
takes_cmp b g ps p a None s k l hc hs = simp (hc, hs, closing)
takes_cmp b g ps p a (Some x) s k l hc hs = tt

takes_right : (b : Body derivations) (g : Goal derivations) (ps : List (Paren derivations)) (p : Pending derivations) (a : Atom) (l : Leaf) → Takes (on_right derivations b g ps p a l) (taken (have b g ps p a)) RightParen l
unfolding taken on_right
takes_right b g [] p a l = tt
takes_right b g (q ∷ ps) p a l = simp closing

takes_semicolon : (b : Body derivations) (g : Goal derivations) (ps : List (Paren derivations)) (p : Pending derivations) (a : Atom) (l : Leaf) → Takes (on_semicolon derivations b g ps (closed_0 derivations p a) l) (taken (have b g ps p a)) Semicolon l
unfolding taken on_semicolon
takes_semicolon b (assume_goal w) [] p a l = simp closing
takes_semicolon b (assign_goal x q) [] p a l = simp closing
takes_semicolon b (if_goal w) [] p a l = tt
takes_semicolon b (while_goal w) [] p a l = tt
takes_semicolon b (assume_goal w) (q ∷ ps) p a l = tt
takes_semicolon b (assign_goal x q') (q ∷ ps) p a l = tt
takes_semicolon b (if_goal w) (q ∷ ps) p a l = tt
takes_semicolon b (while_goal w) (q ∷ ps) p a l = tt

takes_then : (b : Body derivations) (g : Goal derivations) (ps : List (Paren derivations)) (p : Pending derivations) (a : Atom) (l : Leaf) → Takes (on_then derivations b g ps (closed_0 derivations p a) l) (taken (have b g ps p a)) Then l
unfolding taken on_then
takes_then b (assume_goal w) [] p a l = tt
takes_then b (assign_goal x q) [] p a l = tt
takes_then b (if_goal w) [] p a l = simp closing
takes_then b (while_goal w) [] p a l = tt
takes_then b (assume_goal w) (q ∷ ps) p a l = tt
takes_then b (assign_goal x q') (q ∷ ps) p a l = tt
takes_then b (if_goal w) (q ∷ ps) p a l = tt
takes_then b (while_goal w) (q ∷ ps) p a l = tt

takes_do : (b : Body derivations) (g : Goal derivations) (ps : List (Paren derivations)) (p : Pending derivations) (a : Atom) (l : Leaf) → Takes (on_do derivations b g ps (closed_0 derivations p a) l) (taken (have b g ps p a)) Do l
unfolding taken on_do
takes_do b (assume_goal w) [] p a l = tt
takes_do b (assign_goal x q) [] p a l = tt
takes_do b (if_goal w) [] p a l = tt
takes_do b (while_goal w) [] p a l = simp closing
takes_do b (assume_goal w) (q ∷ ps) p a l = tt
takes_do b (assign_goal x q') (q ∷ ps) p a l = tt
takes_do b (if_goal w) (q ∷ ps) p a l = tt
takes_do b (while_goal w) (q ∷ ps) p a l = tt

pub takes_have : (b : Body derivations) (g : Goal derivations) (ps : List (Paren derivations)) (p : Pending derivations) (a : Atom) (k : TokenKind) (l : Leaf) → Takes (step_have derivations b g ps p a k l) (taken (have b g ps p a)) k l
unfolding taken step_have
takes_have b g ps p a Star l = simp closing
takes_have b g ps p a Slash l = simp closing
takes_have b g ps p a Percent l = simp closing
takes_have b g ps p a Plus l = simp closing
takes_have b g ps p a Minus l = simp closing
takes_have b g ps p a Equal l = takes_cmp b g ps p a p.cmp_left (equal l) Equal l refl refl
takes_have b g ps p a NotEqual l = takes_cmp b g ps p a p.cmp_left (not_equal l) NotEqual l refl refl
takes_have b g ps p a Less l = takes_cmp b g ps p a p.cmp_left (less l) Less l refl refl
takes_have b g ps p a LessEqual l = takes_cmp b g ps p a p.cmp_left (less_equal l) LessEqual l refl refl
takes_have b g ps p a Greater l = takes_cmp b g ps p a p.cmp_left (greater l) Greater l refl refl
takes_have b g ps p a GreaterEqual l = takes_cmp b g ps p a p.cmp_left (greater_equal l) GreaterEqual l refl refl
takes_have b g ps p a And l = simp closing
takes_have b g ps p a Or l = simp closing
takes_have b g ps p a RightParen l = takes_right b g ps p a l
takes_have b g ps p a Semicolon l = takes_semicolon b g ps p a l
takes_have b g ps p a Then l = takes_then b g ps p a l
takes_have b g ps p a Do l = takes_do b g ps p a l
takes_have b g ps p a _ l = tt

-- one list of tokens for another that is the same
Takes-same : (r : Option (State derivations)) (xs ys : List Token) (k : TokenKind) (l : Leaf) → xs ≡ ys → Takes r xs k l → Takes r ys k l
Takes-same None xs ys k l e h = tt
Takes-same (Some s) xs ys k l e h = h ∙ ap (λ zs. zs ++ token k l ∷ []) e

start_as_want : (b : Body derivations) (x q : Leaf) → taken (want b (assign_goal x q) [] (nothing_before derivations)) ≡ taken (assign_start b x q)
unfolding taken
start_as_want b x q = simp flat

takes_assign_start : (b : Body derivations) (x q : Leaf) (k : TokenKind) (l : Leaf) → Takes (step_assign_start derivations b x q k l) (taken (assign_start b x q)) k l
unfolding step_assign_start
takes_assign_start b x q Name l = unfold taken in simp flat
takes_assign_start b x q k l = Takes-same (step_want derivations b (assign_goal x q) [] (nothing_before derivations) k l) _ _ k l (start_as_want b x q) (takes_want b (assign_goal x q) [] (nothing_before derivations) k l)

name_as_have : (b : Body derivations) (x q n : Leaf) → taken (have b (assign_goal x q) [] (nothing_before derivations) (name_atom n)) ≡ taken (assign_name b x q n)
unfolding taken
name_as_have b x q n = simp flat

takes_assign_name : (b : Body derivations) (x q n : Leaf) (k : TokenKind) (l : Leaf) → Takes (step_assign_name derivations b x q n k l) (taken (assign_name b x q n)) k l
unfolding step_assign_name
takes_assign_name b x q n LeftParen l = unfold taken in simp flat
takes_assign_name b x q n k l = Takes-same (step_have derivations b (assign_goal x q) [] (nothing_before derivations) (name_atom n) k l) _ _ k l (name_as_have b x q n) (takes_have b (assign_goal x q) [] (nothing_before derivations) (name_atom n) k l)

taken-names_close : (b : Body derivations) (g : NameGoal derivations) (ns : OptNames) (l : Leaf) → taken (names_close derivations b g ns l) ≡ body_taken b ++ (name_goal_taken g ++ (spelled_opt_names ns ++ token RightParen l ∷ []))
unfolding taken names_close
taken-names_close b (target_names o) ns l = simp flat
taken-names_close b (argument_names ts f o) ns l = simp flat

takes_names_open : (b : Body derivations) (g : NameGoal derivations) (k : TokenKind) (l : Leaf) → Takes (step_names_open derivations b g k l) (taken (names_open b g)) k l
unfolding taken step_names_open
takes_names_open b g Name l = simp flat
takes_names_open b g RightParen l = taken-names_close b g no_names l ∙ simp flat
takes_names_open b g _ l = tt

takes_names_next : (b : Body derivations) (g : NameGoal derivations) (ns : Names) (c : Leaf) (k : TokenKind) (l : Leaf) → Takes (step_names_next derivations b g ns c k l) (taken (names_next b g ns c)) k l
unfolding taken step_names_next
takes_names_next b g ns c Name l = simp flat
takes_names_next b g ns c _ l = tt

takes_names_after : (b : Body derivations) (g : NameGoal derivations) (ns : Names) (k : TokenKind) (l : Leaf) → Takes (step_names_after derivations b g ns k l) (taken (names_after b g ns)) k l
unfolding taken step_names_after
takes_names_after b g ns Comma l = simp flat
takes_names_after b g ns RightParen l = taken-names_close b g (some_names ns) l ∙ simp flat
takes_names_after b g ns _ l = tt

takes_targets_after : (b : Body derivations) (o : Leaf) (ns : OptNames) (c : Leaf) (k : TokenKind) (l : Leaf) → Takes (step_targets_after derivations b o ns c k l) (taken (targets_after b o ns c)) k l
unfolding taken step_targets_after
takes_targets_after b o ns c Becomes l = simp flat
takes_targets_after b o ns c _ l = tt

takes_called : (b : Body derivations) (ts : Targets derivations) (k : TokenKind) (l : Leaf) → Takes (step_called derivations b ts k l) (taken (called b ts)) k l
unfolding taken step_called
takes_called b ts Name l = simp flat
takes_called b ts _ l = tt

takes_called_name : (b : Body derivations) (ts : Targets derivations) (f : Leaf) (k : TokenKind) (l : Leaf) → Takes (step_called_name derivations b ts f k l) (taken (called_name b ts f)) k l
unfolding taken step_called_name
takes_called_name b ts f LeftParen l = simp flat
takes_called_name b ts f _ l = tt

spelled-call : (ts : Targets derivations) (f o : Leaf) (ns : OptNames) (c l : Leaf) → spelled_stmt (call_stmt_of derivations ts f o ns c l) ≡ targets_taken ts ++ token Name f ∷ token LeftParen o ∷ (spelled_opt_names ns ++ token RightParen c ∷ token Semicolon l ∷ [])
spelled-call (one_target x q) f o ns c l = refl
spelled-call (target_list o' xs c' q) f o ns c l = simp flat

takes_call_after : (b : Body derivations) (ts : Targets derivations) (f o : Leaf) (ns : OptNames) (c : Leaf) (k : TokenKind) (l : Leaf) → Takes (step_call_after derivations b ts f o ns c k l) (taken (call_after b ts f o ns c)) k l
unfolding taken step_call_after
takes_call_after b ts f o ns c Semicolon l = taken-with_stmt b (call_stmt_of derivations ts f o ns c l) ∙ simp (spelled-call, flat)
takes_call_after b ts f o ns c _ l = tt

spelled-finished : (c : Closed derivations) (s : OptSemicolon) → spelled_stmt (finished derivations c s) ≡ closed_taken c ++ spelled_semicolon s
spelled-finished (closed_if w e t ss els f) s = simp flat
spelled-finished (closed_while w e d ss f) s = simp flat

end_as_block : (b : Body derivations) (c : Closed derivations) → body_taken (with_stmt derivations b (finished derivations c no_semicolon)) ≡ taken (after_end b c)
unfolding taken
end_as_block b c = taken-with_stmt b (finished derivations c no_semicolon) ∙ simp (spelled-finished, flat)

takes_after_end : (b : Body derivations) (c : Closed derivations) (k : TokenKind) (l : Leaf) → Takes (step_after_end derivations b c k l) (taken (after_end b c)) k l
unfolding step_after_end
takes_after_end b c Semicolon l = unfold taken in (taken-with_stmt b (finished derivations c (a_semicolon l)) ∙ simp (spelled-finished, flat))
takes_after_end b c k l = Takes-same (step_block derivations (with_stmt derivations b (finished derivations c no_semicolon)) k l) _ _ k l (end_as_block b c) (takes_block (with_stmt derivations b (finished derivations c no_semicolon)) k l)

-- a step takes its token
pub takes_step : (s : State derivations) (k : TokenKind) (l : Leaf) → Takes (step derivations s k l) (taken s) k l
unfolding step
takes_step (at_start h) k l = takes_start h k l
takes_step (at_begin h vs) k l = takes_begin h vs k l
takes_step (proc_word ps w) k l = takes_proc_word ps w k l
takes_step (proc_name ps w n) k l = takes_proc_name ps w n k l
takes_step (decl_open g) k l = takes_decl_open g k l
takes_step (decl_next g b) k l = takes_decl_next g b k l
takes_step (decl_name g b n) k l = takes_decl_name g b n k l
takes_step (decl_colon g b n c) k l = takes_decl_colon g b n c k l
takes_step (decl_after g ds) k l = takes_decl_after g ds k l
takes_step (inputs_after ps w n o ins c) k l = takes_inputs_after ps w n o ins c k l
takes_step (returns_word ps w n o ins c r) k l = takes_returns_word ps w n o ins c r k l
takes_step (in_block b) k l = unfold taken in takes_block b k l
takes_step (simple b w) k l = takes_simple b w k l
takes_step (target b x) k l = takes_target b x k l
takes_step (assign_start b x q) k l = takes_assign_start b x q k l
takes_step (assign_name b x q n) k l = takes_assign_name b x q n k l
takes_step (want b g ps p) k l = takes_want b g ps p k l
takes_step (have b g ps p a) k l = takes_have b g ps p a k l
takes_step (names_open b g) k l = takes_names_open b g k l
takes_step (names_next b g ns c) k l = takes_names_next b g ns c k l
takes_step (names_after b g ns) k l = takes_names_after b g ns k l
takes_step (targets_after b o ns c) k l = takes_targets_after b o ns c k l
takes_step (called b ts) k l = takes_called b ts k l
takes_step (called_name b ts f) k l = takes_called_name b ts f k l
takes_step (call_after b ts f o ns c) k l = takes_call_after b ts f o ns c k l
takes_step (after_end b c) k l = takes_after_end b c k l
takes_step (done p) k l = tt
