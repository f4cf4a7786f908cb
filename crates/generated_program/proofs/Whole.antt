-- A whole generated text reads as what its program says.
use Rattle.std.proofs.Common.{◌≡◌, refl, ℕ, suc, ◌<◌, List, [], ◌∷◌, ◌++◌, codes, arith, ap, ◌∙◌, sym, subst₂, append_assoc, append-nil}
use Rattle.spl_text.specs.declared.token.TokenKind.{TokenKind}
use Rattle.read_back.proofs.Lexemes.{Lexeme, key, decls_say, block_says, program_says}
use Rattle.read_back.proofs.Words.{Reads, ends}
use Rattle.read_back.proofs.Texts.{Lit, lit_lit, text_lit, lit_semicolon, lit_var, lit_while, text_begin, text_end, text_done, text_random, text_blank_do}
use Rattle.spl_gen.specs.Generated.{generated}
use Rattle.generated_program.specs.ProgramOf.{program, groups, chains, steps}
use Rattle.generated_program.proofs.Lines.{newline, groups_read, chains_read, steps_read}

-- what such a program says, in order
abbrev pub all_said : List Lexeme → List Lexeme → List Lexeme → List Lexeme
all_said decls first second =
    key TokenKind.Var ∷ (decls ++ key TokenKind.Semicolon ∷ key TokenKind.Begin ∷ (first ++ key TokenKind.While ∷ key TokenKind.Random ∷ key TokenKind.Do
    ∷ (second ++ key TokenKind.Done ∷ key TokenKind.Semicolon ∷ key TokenKind.End ∷ [])))

abbrev pub said_by : ℕ → List Lexeme
said_by n = all_said (decls_say (groups n)) (block_says (chains n)) (block_says (steps n))

pub program_said : (m : ℕ) → said_by (suc m) ≡ program_says (program (suc m))
program_said m =
    let decls = decls_say (groups (suc m)) in
    let first = block_says (chains (suc m)) in
    let second = block_says (steps (suc m)) in
    let after : List Lexeme = key TokenKind.Done ∷ key TokenKind.Semicolon ∷ [] in
    let loop : List Lexeme = key TokenKind.While ∷ key TokenKind.Random ∷ key TokenKind.Do ∷ (second ++ after) in
    let end : List Lexeme = key TokenKind.End ∷ [] in
    let body = append_assoc first loop end ∙ ap (λ t. first ++ key TokenKind.While ∷ key TokenKind.Random ∷ key TokenKind.Do ∷ t) (append_assoc second after end) in
    sym (ap (λ t. key TokenKind.Var ∷ t) (append_assoc decls (key TokenKind.Semicolon ∷ []) (key TokenKind.Begin ∷ ((first ++ loop) ++ end))
    ∙ ap (λ t. decls ++ key TokenKind.Semicolon ∷ key TokenKind.Begin ∷ t) body))

between : Lit (codes ";\nbegin\n") (key TokenKind.Semicolon ∷ key TokenKind.Begin ∷ [])
between = lit_lit lit_semicolon (lit_lit newline (text_lit text_begin (λ rest. refl) newline))

head : Lit (codes "while random do\n") (key TokenKind.While ∷ key TokenKind.Random ∷ key TokenKind.Do ∷ [])
head = lit_lit lit_while (text_lit text_random (λ rest. refl) (text_lit text_blank_do (λ rest. refl) newline))

foot : Lit (codes "done;\nend\n") (key TokenKind.Done ∷ key TokenKind.Semicolon ∷ key TokenKind.End ∷ [])
foot = text_lit text_done (λ rest. refl) (lit_lit lit_semicolon (lit_lit newline (text_lit text_end (λ rest. refl) newline)))

whole : (m : ℕ) → m < 42 → Lit (generated (suc m)) (said_by (suc m))
unfolding generated
whole m small =
    lit_lit lit_var (text_lit (groups_read m small) (λ rest. refl)
    (lit_lit between (lit_lit (chains_read (suc m) (omega arith)) (lit_lit head (lit_lit (steps_read (suc m) (omega arith)) foot)))))

pub generated_reads : (m : ℕ) → m < 42 → Reads (generated (suc m)) (program_says (program (suc m)))
generated_reads m small =
    subst₂ Reads (append-nil (generated (suc m))) (append-nil (said_by (suc m)) ∙ program_said m) ((whole m small).reads [] [] ends)
