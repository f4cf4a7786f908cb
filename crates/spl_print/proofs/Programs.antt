-- Bodies, procedures, the program and the report, from the lines that were written.
use Rattle.std.proofs.Common.{◌≡◌, ℕ, ◌+◌, ◌<◌, List, [], ◌∷◌, ◌++◌, length, take, drop, get_or, codes, refl, sym, ap, ◌∙◌, subst, arith, append-nil}
use Rattle.std.specs.List.{flat_map}
use Rattle.std.proofs.lemmas.Grind.{flat_map-append}
use Rattle.std.proofs.lemmas.List.{take_more}
use Rattle.spl_tree.specs.declared.parts.Block.{Block}
use Rattle.spl_tree.specs.declared.parts.MainTree.{MainTree}
use Rattle.spl_tree.specs.declared.parts.ProcTree.{ProcTree}
use Rattle.spl_tree.specs.declared.parts.ProcAt.{ProcAt}
use Rattle.spl_tree.specs.Lists.{Lists}
use Rattle.spl_tree.specs.Facts.{IsTree, HasBlock}
use Rattle.spl_tree.specs.Program.{Declared, BlockTree, ProcMeaning, Program}
use Rattle.spl_tree.specs.Meaning.{names_in, name_of, decls_in, decls_over, stmts_in, block_over, proc_over, program_of}
use Rattle.spl_tree.specs.Laws.{NumbersStandForNodes, procs_in}
use Rattle.spl_print.specs.Canonical.{Line, words, indented, written, point_lines, decls_text, locals_lines, block_lines, body_lines, proc_lines, program_lines, Noted, closing_line, canonical}
use Rattle.spl_print.specs.Nesting.{Nests}
use Rattle.spl_print.specs.Writing.{Wrote}
use Rattle.spl_print.proofs.Nested.{block_nests, enclosed}
use Rattle.spl_print.proofs.Written.{wrote-append, wrote-words}

-- the body of a tree has room
pub body_nests : (t : Lists) → IsTree t → (b : Block) → HasBlock t (length t.stmts) b → Nests t 2 b
body_nests t tree b h = block_nests t 2 (length t.stmts) b (omega (arith, tree.few.stmts)) h

no_points : (locals : List Declared) → point_lines (locals_lines locals) ≡ 0
no_points [] = refl
no_points (d ∷ ds) = refl

pub body_wrote : (bytes : List ℕ) (points : List (List ℕ)) (locals : List Declared) (begin : ℕ) (body : BlockTree) (out0 out1 out2 out3 out4 : List ℕ) (n0 n1 : ℕ)
    → out1 ≡ out0 ++ written bytes (drop n0 points) (locals_lines locals)
    → out2 ≡ out1 ++ indented 0 (codes "begin")
    → Wrote bytes points (block_lines 2 (begin + 5) body) out2 n0 out3 n1
    → out4 ≡ out3 ++ indented 0 (codes "end")
    → Wrote bytes points (body_lines locals begin body) out0 n0 out4 n1
body_wrote bytes points locals begin body out0 out1 out2 out3 out4 n0 n1 var head block end =
    wrote-append bytes points (locals_lines locals) (words 0 (codes "begin") ∷ (block_lines 2 (begin + 5) body ++ words 0 (codes "end") ∷ [])) out0 out1 out4 n0 n0 n1
    (record { text = var; left = ap (λ k. drop k (drop n0 points)) (sym (no_points locals)) })
    (enclosed bytes points 0 (codes "begin") (codes "end") (block_lines 2 (begin + 5) body) out1 out2 out3 out4 n0 n1 head block end)

-- a procedure: its heading and its body
pub proc_wrote : (t : Lists) → NumbersStandForNodes → IsTree t → (bytes : List ℕ) (points : List (List ℕ)) (p : ℕ) (x : ProcMeaning) (proc : ProcTree) (place : ProcAt) (out0 out1 out2 : List ℕ) (n0 n1 : ℕ)
    → p < length t.procs → proc ≡ get_or t.procs p proc → place ≡ get_or t.proc_places p place
    → out1 ≡ out0 ++ indented 0 (codes "proc " ++ (name_of (names_in t) proc.name ++ (codes "(" ++ (decls_text (decls_over (decls_in t) proc.inputs) ++ (codes ") returns (" ++ (decls_text (decls_over (decls_in t) proc.outputs) ++ codes ")"))))))
    → Wrote bytes points (body_lines (decls_over (decls_in t) proc.locals) place.begin (block_over t.stmt_items (stmts_in t) proc.body)) out1 n0 out2 n1
    → Wrote bytes points (proc_lines (get_or (procs_in t) p x)) out0 n0 out2 n1
proc_wrote t law tree bytes points p x proc place out0 out1 out2 n0 n1 there found placed head body =
    let over = proc_over (names_in t) (decls_in t) t.stmt_items (stmts_in t) in
    let stands : get_or (procs_in t) p x ≡ over proc place =
    (law t tree).1.proc p x proc place there ∙ ap (λ y. over y (get_or t.proc_places p place)) (sym found) ∙ ap (λ y. over proc y) (sym placed) in
    subst (λ (y : ProcMeaning). Wrote bytes points (proc_lines y) out0 n0 out2 n1) (sym stands)
    (wrote-append bytes points (words 0 _ ∷ []) _ out0 out1 out2 n0 n0 n1 (wrote-words bytes points 0 _ out0 out1 n0 head) body)

-- one more procedure
pub one_more_proc : (bytes : List ℕ) (points : List (List ℕ)) (procs : List ProcMeaning) (p : ℕ) (x : ProcMeaning) (out0 out1 out2 : List ℕ) (n0 n1 n2 : ℕ) → p < length procs
    → Wrote bytes points (flat_map proc_lines (take p procs)) out0 n0 out1 n1 → Wrote bytes points (proc_lines (get_or procs p x)) out1 n1 out2 n2
    → Wrote bytes points (flat_map proc_lines (take (p + 1) procs)) out0 n0 out2 n2
one_more_proc bytes points procs p x out0 out1 out2 n0 n1 n2 lt before next =
    let lines : flat_map proc_lines (take (p + 1) procs) ≡ flat_map proc_lines (take p procs) ++ proc_lines (get_or procs p x) =
    ap (flat_map proc_lines) (take_more procs p x lt) ∙ flat_map-append proc_lines (take p procs) (get_or procs p x ∷ [])
    ∙ ap (λ xs. flat_map proc_lines (take p procs) ++ xs) (append-nil (proc_lines (get_or procs p x))) in
    subst (λ (xs : List Line). Wrote bytes points xs out0 n0 out2 n2) (sym lines)
    (wrote-append bytes points (flat_map proc_lines (take p procs)) (proc_lines (get_or procs p x)) out0 out1 out2 n0 n1 n2 before next)

-- the program: its procedures, then main
pub program_wrote : (t : Lists) (bytes : List ℕ) (points : List (List ℕ)) (main : MainTree) (begin : ℕ) (out0 out1 out2 : List ℕ) (n0 n1 n2 : ℕ) → main ≡ t.main → begin ≡ t.main_begin
    → Wrote bytes points (flat_map proc_lines (procs_in t)) out0 n0 out1 n1
    → Wrote bytes points (body_lines (decls_over (decls_in t) main.locals) begin (block_over t.stmt_items (stmts_in t) main.body)) out1 n1 out2 n2
    → Wrote bytes points (program_lines (program_of t)) out0 n0 out2 n2
unfolding program_lines program_of
program_wrote t bytes points main begin out0 out1 out2 n0 n1 n2 is_main is_begin procs body =
    let lines = λ (m : MainTree) (b : ℕ). body_lines (decls_over (decls_in t) m.locals) b (block_over t.stmt_items (stmts_in t) m.body) in
    let same : lines main begin ≡ lines t.main t.main_begin = ap (λ m. lines m begin) is_main ∙ ap (λ b. lines t.main b) is_begin in
    wrote-append bytes points (flat_map proc_lines (procs_in t)) (lines t.main t.main_begin) out0 out1 out2 n0 n1 n2 procs
    (subst (λ (xs : List Line). Wrote bytes points xs out1 n1 out2 n2) same body)

-- the report: the program, then the closing lines
pub report_is : (bytes : List ℕ) (p : Program) (noted : Noted) (out0 out1 out2 : List ℕ) (n : ℕ)
    → out0 ≡ [] → Wrote bytes noted.points (program_lines p) out0 0 out1 n → out2 ≡ out1 ++ flat_map closing_line noted.closing → out2 ≡ canonical bytes p noted
unfolding canonical
report_is bytes p noted out0 out1 out2 n none program closing =
    closing ∙ ap (λ t. t ++ flat_map closing_line noted.closing) (program.text ∙ ap (λ t. t ++ written bytes noted.points (program_lines p)) none)
