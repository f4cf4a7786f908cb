-- A token of a kind that no clause of a state names is refused there.
use Rattle.std.proofs.Common.{◌≡◌, ℕ, List, None, refl}
use Rattle.spl_text.specs.declared.token.TokenKind.{TokenKind}
use Rattle.spl_text.specs.declared.token.TokenKind.TheVariants.{Name, Number, Proc, Returns, Var, Begin, End, Int, Real, Skip, Halt, Fail, Assume, Random, Brandom, If, Else, Endif, While, Done, Not, True, False, LeftParen, RightParen, Comma, Semicolon, Colon, Becomes, Minus}
use Rattle.spl_parser.specs.Machine.{Algebra, Head, DeclGoal, Before, Body, Goal, Pending, Paren, Simple, Targets, NameGoal, at_start, at_begin, proc_word, proc_name, decl_open, decl_next, decl_name, decl_colon, decl_after, inputs_after, returns_word, in_block, simple, target, want, names_open, names_next, names_after, targets_after, called, called_name, call_after, step, step_start, step_begin, step_proc_word, step_proc_name, step_decl_open, step_decl_next, step_decl_name, step_decl_colon, step_decl_after, step_inputs_after, step_returns_word, step_block, step_simple, step_target, step_want, step_names_open, step_names_next, step_names_after, step_targets_after, step_called, step_called_name, step_call_after}

pub refuses_start : (A : Algebra) (h : Head A) (k : TokenKind) (l : A.Place) → (k ≡ Proc → ⊥) → (k ≡ Var → ⊥) → (k ≡ Begin → ⊥) → step A (at_start h) k l ≡ None
unfolding step step_start
refuses_start A h Proc l h0 h1 h2 = absurd (h0 refl)
refuses_start A h Var l h0 h1 h2 = absurd (h1 refl)
refuses_start A h Begin l h0 h1 h2 = absurd (h2 refl)
refuses_start A h _ l h0 h1 h2 = refl

pub refuses_begin : (A : Algebra) (h : Head A) (vs : A.Vars) (k : TokenKind) (l : A.Place) → (k ≡ Begin → ⊥) → step A (at_begin h vs) k l ≡ None
unfolding step step_begin
refuses_begin A h vs Begin l h0 = absurd (h0 refl)
refuses_begin A h vs _ l h0 = refl

pub refuses_proc_word : (A : Algebra) (ps : A.Procs) (w : A.Gone) (k : TokenKind) (l : A.Place) → (k ≡ Name → ⊥) → step A (proc_word ps w) k l ≡ None
unfolding step step_proc_word
refuses_proc_word A ps w Name l h0 = absurd (h0 refl)
refuses_proc_word A ps w _ l h0 = refl

pub refuses_proc_name : (A : Algebra) (ps : A.Procs) (w : A.Gone) (n : A.Word) (k : TokenKind) (l : A.Place) → (k ≡ LeftParen → ⊥) → step A (proc_name ps w n) k l ≡ None
unfolding step step_proc_name
refuses_proc_name A ps w n LeftParen l h0 = absurd (h0 refl)
refuses_proc_name A ps w n _ l h0 = refl

pub refuses_decl_open : (A : Algebra) (g : DeclGoal A) (k : TokenKind) (l : A.Place) → (k ≡ Name → ⊥) → (k ≡ RightParen → ⊥) → step A (decl_open g) k l ≡ None
unfolding step step_decl_open
refuses_decl_open A g Name l h0 h1 = absurd (h0 refl)
refuses_decl_open A g RightParen l h0 h1 = absurd (h1 refl)
refuses_decl_open A g _ l h0 h1 = refl

pub refuses_decl_next : (A : Algebra) (g : DeclGoal A) (b : Before A) (k : TokenKind) (l : A.Place) → (k ≡ Name → ⊥) → step A (decl_next g b) k l ≡ None
unfolding step step_decl_next
refuses_decl_next A g b Name l h0 = absurd (h0 refl)
refuses_decl_next A g b _ l h0 = refl

pub refuses_decl_name : (A : Algebra) (g : DeclGoal A) (b : Before A) (n : A.Word) (k : TokenKind) (l : A.Place) → (k ≡ Colon → ⊥) → step A (decl_name g b n) k l ≡ None
unfolding step step_decl_name
refuses_decl_name A g b n Colon l h0 = absurd (h0 refl)
refuses_decl_name A g b n _ l h0 = refl

pub refuses_decl_colon : (A : Algebra) (g : DeclGoal A) (b : Before A) (n : A.Word) (c : A.Gone) (k : TokenKind) (l : A.Place) → (k ≡ Int → ⊥) → (k ≡ Real → ⊥) → (k ≡ Name → ⊥) → step A (decl_colon g b n c) k l ≡ None
unfolding step step_decl_colon
refuses_decl_colon A g b n c Int l h0 h1 h2 = absurd (h0 refl)
refuses_decl_colon A g b n c Real l h0 h1 h2 = absurd (h1 refl)
refuses_decl_colon A g b n c Name l h0 h1 h2 = absurd (h2 refl)
refuses_decl_colon A g b n c _ l h0 h1 h2 = refl

pub refuses_decl_after : (A : Algebra) (g : DeclGoal A) (ds : A.Decls) (k : TokenKind) (l : A.Place) → (k ≡ Comma → ⊥) → (k ≡ RightParen → ⊥) → (k ≡ Semicolon → ⊥) → step A (decl_after g ds) k l ≡ None
unfolding step step_decl_after
refuses_decl_after A g ds Comma l h0 h1 h2 = absurd (h0 refl)
refuses_decl_after A g ds RightParen l h0 h1 h2 = absurd (h1 refl)
refuses_decl_after A g ds Semicolon l h0 h1 h2 = absurd (h2 refl)
refuses_decl_after A g ds _ l h0 h1 h2 = refl

pub refuses_inputs_after : (A : Algebra) (ps : A.Procs) (w : A.Gone) (n : A.Word) (o : A.Gone) (ins : A.OptDecls) (c : A.Gone) (k : TokenKind) (l : A.Place) → (k ≡ Returns → ⊥) → step A (inputs_after ps w n o ins c) k l ≡ None
unfolding step step_inputs_after
refuses_inputs_after A ps w n o ins c Returns l h0 = absurd (h0 refl)
refuses_inputs_after A ps w n o ins c _ l h0 = refl

pub refuses_returns_word : (A : Algebra) (ps : A.Procs) (w : A.Gone) (n : A.Word) (o : A.Gone) (ins : A.OptDecls) (c r : A.Gone) (k : TokenKind) (l : A.Place) → (k ≡ LeftParen → ⊥) → step A (returns_word ps w n o ins c r) k l ≡ None
unfolding step step_returns_word
refuses_returns_word A ps w n o ins c r LeftParen l h0 = absurd (h0 refl)
refuses_returns_word A ps w n o ins c r _ l h0 = refl

pub refuses_block : (A : Algebra) (b : Body A) (k : TokenKind) (l : A.Place) → (k ≡ Skip → ⊥) → (k ≡ Halt → ⊥) → (k ≡ Fail → ⊥) → (k ≡ Assume → ⊥) → (k ≡ Name → ⊥) → (k ≡ LeftParen → ⊥) → (k ≡ If → ⊥) → (k ≡ While → ⊥) → (k ≡ Else → ⊥) → (k ≡ Endif → ⊥) → (k ≡ Done → ⊥) → (k ≡ End → ⊥) → step A (in_block b) k l ≡ None
unfolding step step_block
refuses_block A b Skip l h0 h1 h2 h3 h4 h5 h6 h7 h8 h9 h10 h11 = absurd (h0 refl)
refuses_block A b Halt l h0 h1 h2 h3 h4 h5 h6 h7 h8 h9 h10 h11 = absurd (h1 refl)
refuses_block A b Fail l h0 h1 h2 h3 h4 h5 h6 h7 h8 h9 h10 h11 = absurd (h2 refl)
refuses_block A b Assume l h0 h1 h2 h3 h4 h5 h6 h7 h8 h9 h10 h11 = absurd (h3 refl)
refuses_block A b Name l h0 h1 h2 h3 h4 h5 h6 h7 h8 h9 h10 h11 = absurd (h4 refl)
refuses_block A b LeftParen l h0 h1 h2 h3 h4 h5 h6 h7 h8 h9 h10 h11 = absurd (h5 refl)
refuses_block A b If l h0 h1 h2 h3 h4 h5 h6 h7 h8 h9 h10 h11 = absurd (h6 refl)
refuses_block A b While l h0 h1 h2 h3 h4 h5 h6 h7 h8 h9 h10 h11 = absurd (h7 refl)
refuses_block A b Else l h0 h1 h2 h3 h4 h5 h6 h7 h8 h9 h10 h11 = absurd (h8 refl)
refuses_block A b Endif l h0 h1 h2 h3 h4 h5 h6 h7 h8 h9 h10 h11 = absurd (h9 refl)
refuses_block A b Done l h0 h1 h2 h3 h4 h5 h6 h7 h8 h9 h10 h11 = absurd (h10 refl)
refuses_block A b End l h0 h1 h2 h3 h4 h5 h6 h7 h8 h9 h10 h11 = absurd (h11 refl)
refuses_block A b _ l h0 h1 h2 h3 h4 h5 h6 h7 h8 h9 h10 h11 = refl

pub refuses_simple : (A : Algebra) (b : Body A) (w : Simple A) (k : TokenKind) (l : A.Place) → (k ≡ Semicolon → ⊥) → step A (simple b w) k l ≡ None
unfolding step step_simple
refuses_simple A b w Semicolon l h0 = absurd (h0 refl)
refuses_simple A b w _ l h0 = refl

pub refuses_target : (A : Algebra) (b : Body A) (x : A.Word) (k : TokenKind) (l : A.Place) → (k ≡ Becomes → ⊥) → step A (target b x) k l ≡ None
unfolding step step_target
refuses_target A b x Becomes l h0 = absurd (h0 refl)
refuses_target A b x _ l h0 = refl

pub refuses_want : (A : Algebra) (b : Body A) (g : Goal A) (ps : List (Paren A)) (p : Pending A) (k : TokenKind) (l : A.Place) → ((n : ℕ) → k ≡ Number n → ⊥) → (k ≡ Name → ⊥) → (k ≡ True → ⊥) → (k ≡ False → ⊥) → (k ≡ Random → ⊥) → (k ≡ Brandom → ⊥) → (k ≡ LeftParen → ⊥) → (k ≡ Minus → ⊥) → (k ≡ Not → ⊥) → step A (want b g ps p) k l ≡ None
unfolding step step_want
refuses_want A b g ps p (Number n) l h0 h1 h2 h3 h4 h5 h6 h7 h8 = absurd (h0 n refl)
refuses_want A b g ps p Name l h0 h1 h2 h3 h4 h5 h6 h7 h8 = absurd (h1 refl)
refuses_want A b g ps p True l h0 h1 h2 h3 h4 h5 h6 h7 h8 = absurd (h2 refl)
refuses_want A b g ps p False l h0 h1 h2 h3 h4 h5 h6 h7 h8 = absurd (h3 refl)
refuses_want A b g ps p Random l h0 h1 h2 h3 h4 h5 h6 h7 h8 = absurd (h4 refl)
refuses_want A b g ps p Brandom l h0 h1 h2 h3 h4 h5 h6 h7 h8 = absurd (h5 refl)
refuses_want A b g ps p LeftParen l h0 h1 h2 h3 h4 h5 h6 h7 h8 = absurd (h6 refl)
refuses_want A b g ps p Minus l h0 h1 h2 h3 h4 h5 h6 h7 h8 = absurd (h7 refl)
refuses_want A b g ps p Not l h0 h1 h2 h3 h4 h5 h6 h7 h8 = absurd (h8 refl)
refuses_want A b g ps p _ l h0 h1 h2 h3 h4 h5 h6 h7 h8 = refl

pub refuses_names_open : (A : Algebra) (b : Body A) (g : NameGoal A) (k : TokenKind) (l : A.Place) → (k ≡ Name → ⊥) → (k ≡ RightParen → ⊥) → step A (names_open b g) k l ≡ None
unfolding step step_names_open
refuses_names_open A b g Name l h0 h1 = absurd (h0 refl)
refuses_names_open A b g RightParen l h0 h1 = absurd (h1 refl)
refuses_names_open A b g _ l h0 h1 = refl

pub refuses_names_next : (A : Algebra) (b : Body A) (g : NameGoal A) (ns : A.Names) (c : A.Gone) (k : TokenKind) (l : A.Place) → (k ≡ Name → ⊥) → step A (names_next b g ns c) k l ≡ None
unfolding step step_names_next
refuses_names_next A b g ns c Name l h0 = absurd (h0 refl)
refuses_names_next A b g ns c _ l h0 = refl

pub refuses_names_after : (A : Algebra) (b : Body A) (g : NameGoal A) (ns : A.Names) (k : TokenKind) (l : A.Place) → (k ≡ Comma → ⊥) → (k ≡ RightParen → ⊥) → step A (names_after b g ns) k l ≡ None
unfolding step step_names_after
refuses_names_after A b g ns Comma l h0 h1 = absurd (h0 refl)
refuses_names_after A b g ns RightParen l h0 h1 = absurd (h1 refl)
refuses_names_after A b g ns _ l h0 h1 = refl

pub refuses_targets_after : (A : Algebra) (b : Body A) (o : A.Start) (ns : A.OptNames) (c : A.Gone) (k : TokenKind) (l : A.Place) → (k ≡ Becomes → ⊥) → step A (targets_after b o ns c) k l ≡ None
unfolding step step_targets_after
refuses_targets_after A b o ns c Becomes l h0 = absurd (h0 refl)
refuses_targets_after A b o ns c _ l h0 = refl

pub refuses_called : (A : Algebra) (b : Body A) (ts : Targets A) (k : TokenKind) (l : A.Place) → (k ≡ Name → ⊥) → step A (called b ts) k l ≡ None
unfolding step step_called
refuses_called A b ts Name l h0 = absurd (h0 refl)
refuses_called A b ts _ l h0 = refl

pub refuses_called_name : (A : Algebra) (b : Body A) (ts : Targets A) (f : A.Word) (k : TokenKind) (l : A.Place) → (k ≡ LeftParen → ⊥) → step A (called_name b ts f) k l ≡ None
unfolding step step_called_name
refuses_called_name A b ts f LeftParen l h0 = absurd (h0 refl)
refuses_called_name A b ts f _ l h0 = refl

pub refuses_call_after : (A : Algebra) (b : Body A) (ts : Targets A) (f : A.Word) (o : A.Gone) (ns : A.OptNames) (c : A.Gone) (k : TokenKind) (l : A.Place) → (k ≡ Semicolon → ⊥) → step A (call_after b ts f o ns c) k l ≡ None
unfolding step step_call_after
refuses_call_after A b ts f o ns c Semicolon l h0 = absurd (h0 refl)
refuses_call_after A b ts f o ns c _ l h0 = refl
