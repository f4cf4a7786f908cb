-- The canonical text of a program reads as what the program says.
use Rattle.std.proofs.Common.{◌≡◌, ℕ, ◌+◌, ◌^◌, ◌<◌, ◌==◌, not, nat_lt, Bool, true, false, cond, List, [], ◌∷◌, ◌++◌, map, flat_map, codes, decimal, replicate, arith, ap, sym, ◌∙◌, refl, subst, append_assoc, append-nil}
use Rattle.std.specs.List.{All, list_all}
use Rattle.std.proofs.lemmas.List.Elements.{All-head, All-tail}
use Rattle.std.proofs.lemmas.Bool.{and_from}
use Rattle.std.proofs.lemmas.List.Folds.{list_all-append}
use Rattle.spl_text.specs.Place.{line_of, column_of}
use Rattle.spl_text.specs.declared.token.TokenKind.{TokenKind}
use Rattle.spl_tree.specs.Program.{Named, Kind, int_kind, real_kind, other_kind, Declared, ExprTree, number, variable, true_value, false_value, random_value, negative, opposite, binary, StmtTree, skip, halt, fail, assume, assign, call, if_then, if_else, while_do, BlockTree, empty, more, ProcMeaning, Program, places_of}
use Rattle.spl_print.specs.Canonical.{listed, left_level, right_level, level_of, operand_text, expr_text, Line, words, point, targets_text, names_text, stmt_lines, block_lines, kind_text, decl_text, decls_text, locals_lines, body_lines, proc_lines, program_lines, Noted, place_text, indented, written, closing_line, canonical}
use Rattle.read_back.specs.ReadsBack.{HasNoClose}
use Rattle.read_back.proofs.Lexemes.{Lexeme, key, name, op_kind, in_parens, operand, expr_says, others_say, listed_say, one_name_says, names_say, kind_says, decl_says, decls_say, targets_say, call_says, stmt_says, block_says, locals_say, body_says, proc_says, program_says}
use Rattle.read_back.proofs.Fit.{IsFit, AreFit, fit_left, fit_right}
use Rattle.read_back.proofs.Words.{Reads, ends, Stops, read_blanks, read_newline}
use Rattle.read_back.proofs.Comments.{NoClose-nil, NoClose-cons, calm_then, then_other, read_comment}
use Rattle.read_back.proofs.Numerals.{decimal_digits, digits_calm, read_number}
use Rattle.read_back.proofs.Texts.{Lit, Text, StopsFirst, text_of, lit_lit, lit_text, text_text, text_lit, lit_nil, text_name, lit_left, lit_right, lit_comma_blank, lit_semicolon, lit_colon, lit_minus, lit_becomes, text_true, text_false, text_random, text_int, text_real, text_else, text_begin, text_end, text_skip, text_halt, text_fail, text_endif, text_done, text_blank_then, text_blank_do, lit_not, lit_assume, lit_if, lit_while, lit_var, lit_proc, lit_returns, lit_op, op_stops}

-- ---- expressions

read_parens : (text : List ℕ) (ls : List Lexeme) → Text text ls → Lit (codes "(" ++ (text ++ codes ")")) (in_parens ls)
read_parens text ls t = lit_lit lit_left (text_lit t (λ rest. refl) lit_right)

read_operand : (wanted level : ℕ) (text : List ℕ) (ls : List Lexeme) → (AreFit ls → Text text ls) → AreFit (operand wanted level ls)
    → Text (operand_text wanted level text) (operand wanted level ls)
read_operand wanted level text ls own = by (nat_lt level wanted)
  where
    by : (b : Bool) → AreFit (cond b (in_parens ls) ls) → Text (cond b (codes "(" ++ (text ++ codes ")")) text) (cond b (in_parens ls) ls)
    by true fit = text_of (read_parens text ls (own (fit_left ls (key TokenKind.RightParen ∷ []) fit.1)))
    by false fit = own fit

read_expr : (e : ExprTree) → AreFit (expr_says e) → Text (expr_text e) (expr_says e)
read_expr (number n at) fit =
    let small : n < 2 ^ 64 = omega (arith, fit.0.number n refl) in
    record { reads = λ rest tail s r. read_number n rest tail small s r }
read_expr (variable x at) fit = text_name x (fit.0.name refl)
read_expr (true_value at) fit = text_true
read_expr (false_value at) fit = text_false
read_expr (random_value at) fit = text_random
read_expr (negative a at) fit = lit_text lit_minus (read_operand 6 (level_of a) (expr_text a) (expr_says a) (read_expr a) fit.1)
read_expr (opposite a at) fit = lit_text lit_not (read_operand 2 (level_of a) (expr_text a) (expr_says a) (read_expr a) fit.1)
read_expr (binary op a b at) fit =
    let left : List Lexeme = operand (left_level op) (level_of a) (expr_says a) in
    let right : List Lexeme = operand (right_level op) (level_of b) (expr_says b) in
    text_text (read_operand (left_level op) (level_of a) (expr_text a) (expr_says a) (read_expr a) (fit_left left (key (op_kind op) ∷ right) fit))
    (op_stops op (operand_text (right_level op) (level_of b) (expr_text b)))
    (lit_text (lit_op op) (read_operand (right_level op) (level_of b) (expr_text b) (expr_says b) (read_expr b) (fit_right left (key (op_kind op) ∷ right) fit).1))

-- ---- lists

others_stop : (ts : List (List ℕ)) → StopsFirst (flat_map (λ u. codes ", " ++ u) ts)
others_stop [] rest s = s
others_stop (t ∷ ts) rest s = refl

read_others : {X : Type 0} (text : X → List ℕ) (says : X → List Lexeme) → ((x : X) → AreFit (says x) → Text (text x) (says x)) → (xs : List X)
    → AreFit (others_say (map says xs)) → Text (flat_map (λ u. codes ", " ++ u) (map text xs)) (others_say (map says xs))
read_others text says each [] fit = text_of lit_nil
read_others text says each (x ∷ xs) fit =
    text_text (lit_text lit_comma_blank (each x (fit_left (says x) (others_say (map says xs)) fit.1)))
    (others_stop (map text xs)) (read_others text says each xs (fit_right (says x) (others_say (map says xs)) fit.1))

read_listed : {X : Type 0} (text : X → List ℕ) (says : X → List Lexeme) → ((x : X) → AreFit (says x) → Text (text x) (says x)) → (xs : List X)
    → AreFit (listed_say (map says xs)) → Text (listed (map text xs)) (listed_say (map says xs))
read_listed text says each [] fit = text_of lit_nil
read_listed text says each (x ∷ xs) fit =
    text_text (each x (fit_left (says x) (others_say (map says xs)) fit)) (others_stop (map text xs))
    (read_others text says each xs (fit_right (says x) (others_say (map says xs)) fit))

read_name_of : (x : Named) → AreFit (one_name_says x) → Text x.name (one_name_says x)
read_name_of x fit = text_name x.name (fit.0.name refl)

read_names : (xs : List Named) → AreFit (names_say xs) → Text (listed (names_text xs)) (names_say xs)
read_names xs fit = read_listed (λ (x : Named). x.name) one_name_says read_name_of xs fit

read_kind : (k : Kind) → IsFit (kind_says k) → Text (kind_text k) (kind_says k ∷ [])
read_kind int_kind fit = text_int
read_kind real_kind fit = text_real
read_kind (other_kind x) fit = text_name x (fit.name refl)

read_decl : (d : Declared) → AreFit (decl_says d) → Text (decl_text d) (decl_says d)
read_decl d fit = text_text (text_name d.name.name (fit.0.name refl)) (λ rest s. refl) (lit_text lit_colon (read_kind d.kind fit.1.1.0))

read_decls : (ds : List Declared) → AreFit (decls_say ds) → Text (decls_text ds) (decls_say ds)
read_decls ds fit = read_listed decl_text decl_says read_decl ds fit

-- ---- lines

-- lines whose texts read as these lexemes
data LinesRead : List Line → List Lexeme → Type 0 where
  no_lines : LinesRead [] []
  line : (n : ℕ) (text : List ℕ) (ls : List Lexeme) (lines : List Line) (more : List Lexeme) → Text text ls → LinesRead lines more → LinesRead (words n text ∷ lines) (ls ++ more)
  mark : (n offset : ℕ) (lines : List Line) (more : List Lexeme) → LinesRead lines more → LinesRead (point n offset ∷ lines) more

lines_join : (a : List Line) (x : List Lexeme) (b : List Line) (y : List Lexeme) → LinesRead a x → LinesRead b y → LinesRead (a ++ b) (x ++ y)
lines_join _ _ b y no_lines r = r
lines_join _ _ b y (line n text ls lines tail t rest) r =
    subst (LinesRead (words n text ∷ (lines ++ b))) (sym (append_assoc ls tail y)) (line n text ls (lines ++ b) (tail ++ y) t (lines_join lines tail b y rest r))
lines_join _ _ b y (mark n offset lines tail rest) r = mark n offset (lines ++ b) (tail ++ y) (lines_join lines tail b y rest r)

one_line : (n : ℕ) (text : List ℕ) (ls : List Lexeme) → Text text ls → LinesRead (words n text ∷ []) ls
one_line n text ls t = subst (LinesRead (words n text ∷ [])) (append-nil ls) (line n text ls [] [] t no_lines)

read_targets : (xs : List Named) → AreFit (targets_say xs) → Text (targets_text (names_text xs)) (targets_say xs)
read_targets [] fit = text_of (lit_lit lit_left lit_right)
read_targets (x ∷ []) fit = text_name x.name (fit.0.name refl)
read_targets (x ∷ y ∷ ys) fit =
    text_of (read_parens (listed (names_text (x ∷ y ∷ ys))) (names_say (x ∷ y ∷ ys)) (read_names (x ∷ y ∷ ys) (fit_left (names_say (x ∷ y ∷ ys)) (key TokenKind.RightParen ∷ []) fit.1)))

read_call : (targets : List Named) (called : List ℕ) (args : List Named) → AreFit (call_says targets called args)
    → Text (targets_text (names_text targets) ++ (codes " = " ++ (called ++ (codes "(" ++ (listed (names_text args) ++ codes ");"))))) (call_says targets called args)
read_call targets called args fit =
    let after : List Lexeme = key TokenKind.RightParen ∷ key TokenKind.Semicolon ∷ [] in
    let others : List Lexeme = key TokenKind.Becomes ∷ name called ∷ key TokenKind.LeftParen ∷ (names_say args ++ after) in
    let right = fit_right (targets_say targets) others fit in
    text_text (read_targets targets (fit_left (targets_say targets) others fit)) (λ rest s. refl)
    (lit_text lit_becomes (text_text (text_name called (right.1.0.name refl)) (λ rest s. refl)
    (lit_text lit_left (text_of (text_lit (read_names args (fit_left (names_say args) after right.1.1.1)) (λ rest. refl) (lit_lit lit_right lit_semicolon))))))

-- an expression with its words before and after
headed : (before after : List ℕ) (first last : TokenKind) (e : ExprTree) → Lit before (key first ∷ []) → ((rest : List ℕ) → Stops rest → Stops (after ++ rest)) → Text after (key last ∷ [])
    → AreFit (expr_says e) → Text (before ++ (expr_text e ++ after)) (key first ∷ (expr_says e ++ key last ∷ []))
headed before after first last e b stops a fit = lit_text b (text_text (read_expr e fit) stops a)

-- a block under a line
under : (n : ℕ) (text : List ℕ) (first : Lexeme) (ls : List Lexeme) (last : Lexeme) (lines : List Line) (more : List Lexeme) → Text text (first ∷ (ls ++ last ∷ [])) → LinesRead lines more
    → LinesRead (words n text ∷ lines) (first ∷ (ls ++ last ∷ more))
under n text first ls last lines tail t r =
    subst (λ x. LinesRead (words n text ∷ lines) (first ∷ x)) (append_assoc ls (last ∷ []) tail) (line n text (first ∷ (ls ++ last ∷ [])) lines tail t r)

endif_text : Text (codes "endif;") (key TokenKind.Endif ∷ key TokenKind.Semicolon ∷ [])
endif_text = text_of (text_lit text_endif (λ rest. refl) lit_semicolon)

done_text : Text (codes "done;") (key TokenKind.Done ∷ key TokenKind.Semicolon ∷ [])
done_text = text_of (text_lit text_done (λ rest. refl) lit_semicolon)

mutual
  read_stmt : (s : StmtTree) (n : ℕ) → AreFit (stmt_says s) → LinesRead (stmt_lines n s) (stmt_says s)
  read_stmt (skip at) n fit = one_line n (codes "skip;") (stmt_says (skip at)) (text_of (text_lit text_skip (λ rest. refl) lit_semicolon))
  read_stmt (halt at) n fit = one_line n (codes "halt;") (stmt_says (halt at)) (text_of (text_lit text_halt (λ rest. refl) lit_semicolon))
  read_stmt (fail at) n fit = one_line n (codes "fail;") (stmt_says (fail at)) (text_of (text_lit text_fail (λ rest. refl) lit_semicolon))
  read_stmt (assume e at) n fit =
      one_line n (codes "assume " ++ (expr_text e ++ codes ";")) (stmt_says (assume e at))
      (headed (codes "assume ") (codes ";") TokenKind.Assume TokenKind.Semicolon e lit_assume (λ rest s. refl) (text_of lit_semicolon) (fit_left (expr_says e) (key TokenKind.Semicolon ∷ []) fit.1))
  read_stmt (assign x e at) n fit =
      one_line n (x ++ (codes " = " ++ (expr_text e ++ codes ";"))) (stmt_says (assign x e at))
      (text_text (text_name x (fit.0.name refl)) (λ rest s. refl)
      (headed (codes " = ") (codes ";") TokenKind.Becomes TokenKind.Semicolon e lit_becomes (λ rest s. refl) (text_of lit_semicolon) (fit_left (expr_says e) (key TokenKind.Semicolon ∷ []) fit.1.1)))
  read_stmt (call targets called args at) n fit =
      one_line n (targets_text (names_text targets) ++ (codes " = " ++ (called ++ (codes "(" ++ (listed (names_text args) ++ codes ");"))))) (call_says targets called args)
      (read_call targets called args fit)
  read_stmt (if_then e a at) n fit =
      let after : List Lexeme = key TokenKind.Endif ∷ key TokenKind.Semicolon ∷ [] in
      let right = fit_right (expr_says e) (key TokenKind.Then ∷ (block_says a ++ after)) fit.1 in
      under n (codes "if " ++ (expr_text e ++ codes " then")) (key TokenKind.If) (expr_says e) (key TokenKind.Then) (block_lines (n + 2) at.first_block a ++ words n (codes "endif;") ∷ []) (block_says a ++ after)
      (headed (codes "if ") (codes " then") TokenKind.If TokenKind.Then e lit_if (λ rest s. refl) text_blank_then (fit_left (expr_says e) (key TokenKind.Then ∷ (block_says a ++ after)) fit.1))
      (lines_join (block_lines (n + 2) at.first_block a) (block_says a) (words n (codes "endif;") ∷ []) after
      (read_block a (n + 2) at.first_block (fit_left (block_says a) after right.1)) (one_line n (codes "endif;") after endif_text))
  read_stmt (if_else e a b at) n fit =
      let after : List Lexeme = key TokenKind.Endif ∷ key TokenKind.Semicolon ∷ [] in
      let second : List Lexeme = key TokenKind.Else ∷ (block_says b ++ after) in
      let right = fit_right (expr_says e) (key TokenKind.Then ∷ (block_says a ++ second)) fit.1 in
      let other = fit_right (block_says a) second right.1 in
      let last_lines : List Line = block_lines (n + 2) at.second_block b ++ words n (codes "endif;") ∷ [] in
      under n (codes "if " ++ (expr_text e ++ codes " then")) (key TokenKind.If) (expr_says e) (key TokenKind.Then)
      (block_lines (n + 2) at.first_block a ++ words n (codes "else") ∷ last_lines) (block_says a ++ second)
      (headed (codes "if ") (codes " then") TokenKind.If TokenKind.Then e lit_if (λ rest s. refl) text_blank_then (fit_left (expr_says e) (key TokenKind.Then ∷ (block_says a ++ second)) fit.1))
      (lines_join (block_lines (n + 2) at.first_block a) (block_says a) (words n (codes "else") ∷ last_lines) second
      (read_block a (n + 2) at.first_block (fit_left (block_says a) second right.1))
      (line n (codes "else") (key TokenKind.Else ∷ []) last_lines (block_says b ++ after) text_else
      (lines_join (block_lines (n + 2) at.second_block b) (block_says b) (words n (codes "endif;") ∷ []) after
      (read_block b (n + 2) at.second_block (fit_left (block_says b) after other.1)) (one_line n (codes "endif;") after endif_text))))
  read_stmt (while_do e a at) n fit =
      let after : List Lexeme = key TokenKind.Done ∷ key TokenKind.Semicolon ∷ [] in
      let right = fit_right (expr_says e) (key TokenKind.Do ∷ (block_says a ++ after)) fit.1 in
      under n (codes "while " ++ (expr_text e ++ codes " do")) (key TokenKind.While) (expr_says e) (key TokenKind.Do) (block_lines (n + 2) at.first_block a ++ words n (codes "done;") ∷ []) (block_says a ++ after)
      (headed (codes "while ") (codes " do") TokenKind.While TokenKind.Do e lit_while (λ rest s. refl) text_blank_do (fit_left (expr_says e) (key TokenKind.Do ∷ (block_says a ++ after)) fit.1))
      (lines_join (block_lines (n + 2) at.first_block a) (block_says a) (words n (codes "done;") ∷ []) after
      (read_block a (n + 2) at.first_block (fit_left (block_says a) after right.1)) (one_line n (codes "done;") after done_text))

  read_block : (b : BlockTree) (n start : ℕ) → AreFit (block_says b) → LinesRead (block_lines n start b) (block_says b)
  read_block empty n start fit = mark n start [] [] no_lines
  read_block (more b s) n start fit =
      lines_join (block_lines n start b) (block_says b) (stmt_lines n s ++ point n (places_of s).end ∷ []) (stmt_says s)
      (read_block b n start (fit_left (block_says b) (stmt_says s) fit))
      (subst (LinesRead (stmt_lines n s ++ point n (places_of s).end ∷ [])) (append-nil (stmt_says s))
      (lines_join (stmt_lines n s) (stmt_says s) (point n (places_of s).end ∷ []) []
      (read_stmt s n (fit_right (block_says b) (stmt_says s) fit)) (mark n (places_of s).end [] [] no_lines)))

-- ---- programs

read_locals : (ds : List Declared) → AreFit (locals_say ds) → LinesRead (locals_lines ds) (locals_say ds)
read_locals [] fit = no_lines
read_locals (d ∷ ds) fit =
    one_line 0 (codes "var " ++ (decls_text (d ∷ ds) ++ codes ";")) (locals_say (d ∷ ds))
    (lit_text lit_var (text_of (text_lit (read_decls (d ∷ ds) (fit_left (decls_say (d ∷ ds)) (key TokenKind.Semicolon ∷ []) fit.1)) (λ rest. refl) lit_semicolon)))

read_body : (locals : List Declared) (begin : ℕ) (body : BlockTree) → AreFit (body_says locals body) → LinesRead (body_lines locals begin body) (body_says locals body)
read_body locals begin body fit =
    let after : List Lexeme = key TokenKind.End ∷ [] in
    let others : List Lexeme = key TokenKind.Begin ∷ (block_says body ++ after) in
    let last_lines : List Line = block_lines 2 (begin + 5) body ++ words 0 (codes "end") ∷ [] in
    let right = fit_right (locals_say locals) others fit in
    lines_join (locals_lines locals) (locals_say locals) (words 0 (codes "begin") ∷ last_lines) others
    (read_locals locals (fit_left (locals_say locals) others fit))
    (line 0 (codes "begin") (key TokenKind.Begin ∷ []) last_lines (block_says body ++ after) text_begin
    (lines_join (block_lines 2 (begin + 5) body) (block_says body) (words 0 (codes "end") ∷ []) after
    (read_block body 2 (begin + 5) (fit_left (block_says body) after right.1)) (one_line 0 (codes "end") after text_end)))

read_proc : (p : ProcMeaning) → AreFit (proc_says p) → LinesRead (proc_lines p) (proc_says p)
read_proc p fit =
    let body : List Lexeme = body_says p.locals p.body in
    let rest_2 : List Lexeme = key TokenKind.RightParen ∷ body in
    let rest_1 : List Lexeme = key TokenKind.RightParen ∷ key TokenKind.Returns ∷ key TokenKind.LeftParen ∷ (decls_say p.outputs ++ rest_2) in
    let right = fit_right (decls_say p.inputs) rest_1 fit.1.1.1 in
    let last = fit_right (decls_say p.outputs) rest_2 right.1.1.1 in
    let outs : Text (decls_text p.outputs ++ codes ")") (decls_say p.outputs ++ key TokenKind.RightParen ∷ []) =
    text_of (text_lit (read_decls p.outputs (fit_left (decls_say p.outputs) rest_2 right.1.1.1)) (λ rest. refl) lit_right) in
    let head = lit_text lit_proc (text_text (text_name p.name.name (fit.1.0.name refl)) (λ rest s. refl)
    (lit_text lit_left (text_text (read_decls p.inputs (fit_left (decls_say p.inputs) rest_1 fit.1.1.1)) (λ rest s. refl) (lit_text lit_returns outs)))) in
    let lines : List Line = body_lines p.locals p.begin p.body in
    subst (LinesRead (proc_lines p))
    (ap (λ x. key TokenKind.Proc ∷ name p.name.name ∷ key TokenKind.LeftParen ∷ x)
    (append_assoc (decls_say p.inputs) (key TokenKind.RightParen ∷ key TokenKind.Returns ∷ key TokenKind.LeftParen ∷ (decls_say p.outputs ++ key TokenKind.RightParen ∷ [])) body
    ∙ ap (λ x. decls_say p.inputs ++ key TokenKind.RightParen ∷ key TokenKind.Returns ∷ key TokenKind.LeftParen ∷ x) (append_assoc (decls_say p.outputs) (key TokenKind.RightParen ∷ []) body)))
    (line 0 (codes "proc " ++ (p.name.name ++ (codes "(" ++ (decls_text p.inputs ++ (codes ") returns (" ++ (decls_text p.outputs ++ codes ")"))))))
    (key TokenKind.Proc ∷ name p.name.name ∷ key TokenKind.LeftParen ∷ (decls_say p.inputs ++ key TokenKind.RightParen ∷ key TokenKind.Returns ∷ key TokenKind.LeftParen ∷ (decls_say p.outputs ++ key TokenKind.RightParen ∷ [])))
    lines body head (read_body p.locals p.begin p.body last.1))

read_procs : (ps : List ProcMeaning) → AreFit (flat_map proc_says ps) → LinesRead (flat_map proc_lines ps) (flat_map proc_says ps)
read_procs [] fit = no_lines
read_procs (p ∷ ps) fit =
    lines_join (proc_lines p) (proc_says p) (flat_map proc_lines ps) (flat_map proc_says ps)
    (read_proc p (fit_left (proc_says p) (flat_map proc_says ps) fit)) (read_procs ps (fit_right (proc_says p) (flat_map proc_says ps) fit))

read_program : (p : Program) → AreFit (program_says p) → LinesRead (program_lines p) (program_says p)
unfolding program_lines
read_program p fit =
    let procs : List Lexeme = flat_map proc_says p.procs in
    let body : List Lexeme = body_says p.locals p.body in
    lines_join (flat_map proc_lines p.procs) procs (body_lines p.locals p.begin p.body) body
    (read_procs p.procs (fit_left procs body fit)) (read_body p.locals p.begin p.body (fit_right procs body fit))

-- ---- the report

newline : Lit (codes "\n") []
newline = record { reads = read_newline }

read_indented : (n : ℕ) (text : List ℕ) (ls : List Lexeme) → Text text ls → Lit (indented n text) ls
read_indented n text ls t =
    let l : Lit (text ++ codes "\n") (ls ++ []) = text_lit t (λ rest. refl) newline in
    let m : Lit (text ++ codes "\n") ls = subst (Lit (text ++ codes "\n")) (append-nil ls) l in
    let b : Lit (replicate n 32) [] = record { reads = read_blanks n } in
    lit_lit {x = []} b m

comment : (w body : List ℕ) → w ≡ 47 ∷ 42 ∷ (body ++ 42 ∷ 47 ∷ []) → HasNoClose (body ++ 42 ∷ []) → Lit w []
comment w body e h = record { reads = λ rest tail r. read_comment w body rest tail e h r }

-- what stands between a text and the end of its comment
closed : (text : List ℕ) → HasNoClose text → HasNoClose (text ++ (32 ∷ 42 ∷ []))
closed text h = then_other text (32 ∷ 42 ∷ []) h refl (calm_then (32 ∷ []) (42 ∷ []) refl (NoClose-cons 42 [] refl NoClose-nil))

abbrev pub IsCalm : List ℕ → Type 0
IsCalm text = list_all (λ x. not (x == 42)) text ≡ true

pub calm_append : (a b : List ℕ) → IsCalm a → IsCalm b → IsCalm (a ++ b)
calm_append a b x y = list_all-append (λ x. not (x == 42)) a b ∙ and_from (list_all (λ x. not (x == 42)) a) (list_all (λ x. not (x == 42)) b) x y

pub place_calm : (bytes : List ℕ) (offset : ℕ) → IsCalm (place_text bytes offset)
place_calm bytes offset =
    let line_digits = decimal (line_of bytes offset) in
    let column_digits = decimal (column_of bytes offset) in
    calm_append (codes "(L") (line_digits ++ (codes " C" ++ (column_digits ++ codes ")"))) refl
    (calm_append line_digits (codes " C" ++ (column_digits ++ codes ")")) (digits_calm line_digits (decimal_digits (line_of bytes offset)))
    (calm_append (codes " C") (column_digits ++ codes ")") refl
    (calm_append column_digits (codes ")") (digits_calm column_digits (decimal_digits (column_of bytes offset))) refl)))

-- the end of the inner one of two lists, drawn in
drawn : (a b c t : List ℕ) (x : ℕ) → (a ++ x ∷ (b ++ c)) ++ t ≡ a ++ x ∷ (b ++ (c ++ t))
drawn a b c t x = append_assoc a (x ∷ (b ++ c)) t ∙ ap (λ z. a ++ x ∷ z) (append_assoc b c t)

read_note : (bytes : List ℕ) (offset : ℕ) (note : List ℕ) → HasNoClose note → Lit (codes "/* " ++ (place_text bytes offset ++ (codes " " ++ (note ++ codes " */")))) []
read_note bytes offset note h =
    let place = place_text bytes offset in
    let body : List ℕ = 32 ∷ (place ++ 32 ∷ (note ++ 32 ∷ [])) in
    let inner : HasNoClose (32 ∷ (place ++ 32 ∷ (note ++ 32 ∷ 42 ∷ []))) =
    calm_then (32 ∷ []) (place ++ 32 ∷ (note ++ 32 ∷ 42 ∷ [])) refl
    (calm_then place (32 ∷ (note ++ 32 ∷ 42 ∷ [])) (place_calm bytes offset) (calm_then (32 ∷ []) (note ++ 32 ∷ 42 ∷ []) refl (closed note h))) in
    comment (codes "/* " ++ (place ++ (codes " " ++ (note ++ codes " */")))) body
    (ap (λ z. 47 ∷ 42 ∷ 32 ∷ z) (sym (drawn place note (32 ∷ []) (42 ∷ 47 ∷ []) 32)))
    (subst HasNoClose (ap (λ z. 32 ∷ z) (sym (drawn place note (32 ∷ []) (42 ∷ []) 32))) inner)

read_closing_line : (text : List ℕ) → HasNoClose text → Lit (closing_line text) []
read_closing_line text h =
    let body : List ℕ = 32 ∷ (text ++ 32 ∷ []) in
    let inner : HasNoClose (32 ∷ (text ++ 32 ∷ 42 ∷ [])) = calm_then (32 ∷ []) (text ++ 32 ∷ 42 ∷ []) refl (closed text h) in
    let w : List ℕ = codes "/* " ++ (text ++ codes " */") in
    let c : Lit w [] = comment w body (ap (λ z. 47 ∷ 42 ∷ 32 ∷ z) (sym (append_assoc text (32 ∷ []) (42 ∷ 47 ∷ []))))
    (subst HasNoClose (ap (λ z. 32 ∷ z) (sym (append_assoc text (32 ∷ []) (42 ∷ [])))) inner) in
    subst (λ x. Lit x []) (ap (λ z. 47 ∷ 42 ∷ 32 ∷ z) (append_assoc text (codes " */") (codes "\n"))) (lit_lit c newline)

read_closing : (texts : List (List ℕ)) → All HasNoClose texts → Lit (flat_map closing_line texts) []
read_closing [] h = lit_nil
read_closing (t ∷ ts) h = lit_lit (read_closing_line t (All-head HasNoClose t ts h)) (read_closing ts (All-tail HasNoClose t ts h))

-- lines with notes read as the lines
read_written : (lines : List Line) (ls : List Lexeme) → LinesRead lines ls → (bytes : List ℕ) (notes : List (List ℕ)) → All HasNoClose notes → Lit (written bytes notes lines) ls
read_written _ _ no_lines bytes notes h = lit_nil
read_written _ _ (line n text ls lines tail t rest) bytes notes h = lit_lit (read_indented n text ls t) (read_written lines tail rest bytes notes h)
read_written _ _ (mark n offset lines tail rest) bytes [] h = read_written lines tail rest bytes [] h
read_written _ _ (mark n offset lines tail rest) bytes (note ∷ notes) h =
    lit_lit
    (read_indented n (codes "/* " ++ (place_text bytes offset ++ (codes " " ++ (note ++ codes " */")))) [] (text_of (read_note bytes offset note (All-head HasNoClose note notes h))))
    (read_written lines tail rest bytes notes (All-tail HasNoClose note notes h))

-- the canonical text reads as what the program says
pub read_canonical : (bytes : List ℕ) (p : Program) (noted : Noted) → AreFit (program_says p) → All HasNoClose noted.points → All HasNoClose noted.closing
    → Reads (canonical bytes p noted) (program_says p)
unfolding canonical
read_canonical bytes p noted fit points closing =
    let text : List ℕ = written bytes noted.points (program_lines p) in
    let others : List ℕ = flat_map closing_line noted.closing in
    let program = read_written (program_lines p) (program_says p) (read_program p fit) bytes noted.points points in
    let last : Reads others [] = subst (λ x. Reads x []) (append-nil others) ((read_closing noted.closing closing).reads [] [] ends) in
    subst (Reads (text ++ others)) (append-nil (program_says p)) (program.reads others [] last)
