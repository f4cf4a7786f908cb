-- The parts of a generated text read as what its program says.
use Rattle.std.proofs.Common.{◌≡◌, refl, ℕ, zero, suc, ◌+◌, ◌<◌, ◌≤◌, ◌==◌, false, List, [], ◌∷◌, ◌++◌, map, flat_map, codes, arith, ap, sym, ◌∙◌, subst, append_assoc, ne_eqb}
use Rattle.std.specs.Fmt.{digits}
use Rattle.std.specs.List.{range_with_len}
use Rattle.spl_text.specs.Spans.{IsName}
use Rattle.spl_text.specs.declared.token.TokenKind.{TokenKind}
use Rattle.spl_tree.specs.declared.parts.BinOp.{BinOp}
use Rattle.spl_tree.specs.Program.{Declared, StmtTree, BlockTree}
use Rattle.read_back.proofs.Lexemes.{key, decl_says, decls_say, others_say, stmt_says, block_says}
use Rattle.read_back.proofs.Words.{read_newline}
use Rattle.read_back.proofs.Numerals.{read_number}
use Rattle.read_back.proofs.Texts.{Lit, Text, StopsFirst, text_of, lit_lit, lit_text, text_text, text_lit, lit_nil, text_name, lit_comma_blank, lit_semicolon, lit_colon, lit_becomes, text_int, lit_op}
use Rattle.spl_gen.specs.Generated.{variable, declaration, declarations, successor, chain, steps, each}
use Rattle.spl_gen.proofs.Groups.{each-more}
use Rattle.generated_program.specs.ProgramOf.{declared, group}
use Rattle.generated_program.specs.ProgramOf as tree
use Rattle.generated_program.proofs.Names.{a-name, b-name, c-name}

pub newline : Lit (codes "\n") []
newline = record { reads = read_newline }

-- ---- statements

one : Text (codes "1") (key (TokenKind.Number 1) ∷ [])
unfolding digits
one = record { reads = λ rest tail s r. read_number 1 rest tail (omega arith) s r }

plus_one : Lit (codes " + 1;\n") (key TokenKind.Plus ∷ key (TokenKind.Number 1) ∷ key TokenKind.Semicolon ∷ [])
plus_one = lit_lit (lit_op BinOp.Add) (text_lit one (λ rest. refl) (lit_lit lit_semicolon newline))

line : (target origin : List ℕ) (k : ℕ) → IsName (variable target k) → IsName (variable origin k) → Lit (successor target origin k) (stmt_says (tree.successor target origin k))
line target origin k x y = text_lit (text_name (variable target k) x) (λ rest. refl) (lit_lit lit_becomes (text_lit (text_name (variable origin k) y) (λ rest. refl) plus_one))

-- two and three lines behind a block
two : (text first second : List ℕ) (b : BlockTree) (s t : StmtTree) → Lit text (block_says b) → Lit first (stmt_says s) → Lit second (stmt_says t)
    → Lit (text ++ (first ++ second)) (block_says (BlockTree.more (BlockTree.more b s) t))
two text first second b s t l m n = subst (λ w. Lit w ((block_says b ++ stmt_says s) ++ stmt_says t)) (append_assoc text first second) (lit_lit (lit_lit l m) n)

pub chains_read : (n : ℕ) → n ≤ 42 → Lit (each chain n) (block_says (tree.chains n))
chains_read zero small = lit_nil
chains_read (suc n) small =
    let e : suc n ≡ n + 1 = omega arith in
    let a = a-name n (omega arith) in
    let b = b-name n (omega arith) in
    let c = c-name n (omega arith) in
    subst (λ w. Lit w (block_says (tree.chains (suc n)))) (sym (ap (each chain) e ∙ each-more chain n))
    (two (each chain n) (successor (codes "b") (codes "a") n) (successor (codes "c") (codes "b") n) (tree.chains n) (tree.successor (codes "b") (codes "a") n) (tree.successor (codes "c") (codes "b") n)
    (chains_read n (omega arith)) (line (codes "b") (codes "a") n b a) (line (codes "c") (codes "b") n c b))

pub steps_read : (n : ℕ) → n ≤ 42 → Lit (each steps n) (block_says (tree.steps n))
steps_read zero small = lit_nil
steps_read (suc n) small =
    let e : suc n ≡ n + 1 = omega arith in
    let a = a-name n (omega arith) in
    let b = b-name n (omega arith) in
    let c = c-name n (omega arith) in
    let first = successor (codes "a") (codes "a") n in
    let s = tree.successor (codes "a") (codes "a") n in
    let l : Lit (each steps n ++ first) (block_says (tree.steps n) ++ stmt_says s) = lit_lit (steps_read n (omega arith)) (line (codes "a") (codes "a") n a a) in
    let others = successor (codes "b") (codes "b") n ++ successor (codes "c") (codes "c") n in
    subst (λ w. Lit w (block_says (tree.steps (suc n)))) (append_assoc (each steps n) first others ∙ sym (ap (each steps) e ∙ each-more steps n))
    (two (each steps n ++ first) (successor (codes "b") (codes "b") n) (successor (codes "c") (codes "c") n) (BlockTree.more (tree.steps n) s) (tree.successor (codes "b") (codes "b") n) (tree.successor (codes "c") (codes "c") n)
    l (line (codes "b") (codes "b") n b b) (line (codes "c") (codes "c") n c c))

-- ---- declarations

one_declared : (letter : List ℕ) (k : ℕ) → IsName (variable letter k) → Text (declaration letter k) (decl_says (declared letter k))
one_declared letter k x = text_text (text_name (variable letter k) x) (λ rest s. refl) (lit_text lit_colon text_int)

-- a group, after a comma
comma_group : (k : ℕ) → k < 42
    → Text (codes ", " ++ (declaration (codes "a") k ++ (codes ", " ++ (declaration (codes "b") k ++ (codes ", " ++ declaration (codes "c") k))))) (others_say (map decl_says (group k)))
comma_group k small =
    lit_text lit_comma_blank (text_text (one_declared (codes "a") k (a-name k small)) (λ rest s. refl)
    (lit_text lit_comma_blank (text_text (one_declared (codes "b") k (b-name k small)) (λ rest s. refl)
    (lit_text lit_comma_blank (one_declared (codes "c") k (c-name k small))))))

pub others_append : (xs ys : List Declared) → others_say (map decl_says (xs ++ ys)) ≡ others_say (map decl_says xs) ++ others_say (map decl_says ys)
others_append [] ys = refl
others_append (x ∷ xs) ys = ap (λ t. key TokenKind.Comma ∷ (decl_says x ++ t)) (others_append xs ys)

groups_stop : (a n : ℕ) → 1 ≤ a → StopsFirst (flat_map declarations (range_with_len a n))
groups_stop a zero some rest s = s
groups_stop a (suc n) some rest s = let later : (a == 0) ≡ false = ne_eqb a 0 (λ e. omega (arith, e)) in rw later refl

later_groups : (a n : ℕ) → 1 ≤ a → a + n ≤ 42 → Text (flat_map declarations (range_with_len a n)) (others_say (map decl_says (flat_map group (range_with_len a n))))
later_groups a zero some small = text_of lit_nil
later_groups a (suc n) some small =
    let rest = range_with_len (a + 1) n in
    let text : List ℕ = codes ", " ++ (declaration (codes "a") a ++ (codes ", " ++ (declaration (codes "b") a ++ (codes ", " ++ declaration (codes "c") a)))) in
    let later : (a == 0) ≡ false = ne_eqb a 0 (λ e. omega (arith, e)) in
    let own : text ≡ declarations a = rw later refl in
    let more = later_groups (a + 1) n (omega arith) (omega arith) in
    subst (λ w. Text (w ++ flat_map declarations rest) (others_say (map decl_says (group a ++ flat_map group rest)))) own
    (subst (Text (text ++ flat_map declarations rest)) (sym (others_append (group a) (flat_map group rest)))
    (text_text (comma_group a (omega arith)) (groups_stop (a + 1) n (omega arith)) more))

pub groups_read : (n : ℕ) → n < 42 → Text (each declarations (suc n)) (decls_say (tree.groups (suc n)))
groups_read n small =
    text_text (text_text (one_declared (codes "a") 0 (a-name 0 (omega arith))) (λ rest s. refl)
    (lit_text lit_comma_blank (text_text (one_declared (codes "b") 0 (b-name 0 (omega arith))) (λ rest s. refl)
    (lit_text lit_comma_blank (one_declared (codes "c") 0 (c-name 0 (omega arith)))))))
    (groups_stop 1 n (omega arith)) (later_groups 1 n (omega arith) (omega arith))
