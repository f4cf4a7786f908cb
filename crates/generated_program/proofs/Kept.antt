-- What a generated program says is fit and keeps the limits.
use Rattle.std.proofs.Common.{◌≡◌, refl, ℕ, zero, suc, ◌+◌, ◌*◌, ◌<◌, ◌≤◌, List, [], ◌∷◌, ◌++◌, map, flat_map, codes, arith, sym, ◌∙◌, subst}
use Rattle.std.specs.List.{range_with_len}
use Rattle.spl_text.specs.Spans.{IsName}
use Rattle.spl_text.specs.declared.token.TokenKind.{TokenKind}
use Rattle.read_back.proofs.Lexemes.{Lexeme, key, name, decl_says, decls_say, others_say, stmt_says, block_says}
use Rattle.read_back.proofs.Fit.{IsFit, AreFit}
use Rattle.read_back.proofs.Limits.{Keeps, depth_to, run_to, keeps_join, fit_join, depth_to-append, run_to-append}
use Rattle.spl_gen.specs.Generated.{variable}
use Rattle.generated_program.specs.ProgramOf.{declared, group, groups, successor, chains, steps}
use Rattle.generated_program.proofs.Names.{a-name, b-name, c-name}
use Rattle.generated_program.proofs.Lines.{others_append}
use Rattle.generated_program.proofs.Whole.{all_said, said_by}

-- from not too deep on, and after a run that isn't too long, the limits are kept; the depth stays, and the run grows by so much at most
pub record Goes (grows : ℕ) (ls : List Lexeme) : Type 0 where
  pub fit : AreFit ls
  pub keeps : (d r : ℕ) → d ≤ 60 → r + grows ≤ 1000 → Keeps d r ls
  pub depth : (d : ℕ) → depth_to d ls ≡ d
  pub run : (r : ℕ) → run_to r ls ≤ r + grows

goes_nil : Goes 0 []
goes_nil = record { fit = tt; keeps = λ d r h k. tt; depth = λ d. refl; run = λ r. omega arith }

goes_join : (m n : ℕ) (xs ys : List Lexeme) → Goes m xs → Goes n ys → Goes (m + n) (xs ++ ys)
goes_join m n xs ys g h = record {
  fit = fit_join xs ys g.fit h.fit;
  keeps = λ d r low few. keeps_join d r xs ys (g.keeps d r low (omega arith)) (h.keeps (depth_to d xs) (run_to r xs) (omega (arith, g.depth d)) (omega (arith, g.run r)));
  depth = λ d. depth_to-append d xs ys ∙ h.depth (depth_to d xs) ∙ g.depth d;
  run = λ r. (let e = run_to-append r xs ys in omega (arith, e, g.run r, h.run (run_to r xs)));
}

fit_name : (w : List ℕ) → IsName w → IsFit (name w)
fit_name w n = record { name = λ e. n; number = λ value e. absurd cc }

fit_key : (kind : TokenKind) → (kind ≡ TokenKind.Name → ⊥) → ((value : ℕ) → kind ≡ TokenKind.Number value → ⊥) → IsFit (key kind)
fit_key kind no_name no_number = record { name = λ e. absurd (no_name e); number = λ value e. absurd (no_number value e) }

fit_one : IsFit (key (TokenKind.Number 1))
fit_one = record { name = λ e. absurd cc; number = λ value e. (let is : 1 ≡ value = cc in omega arith) }

goes_line : (target origin : List ℕ) (k : ℕ) → IsName (variable target k) → IsName (variable origin k) → Goes 0 (stmt_says (successor target origin k))
goes_line target origin k x y = record {
  fit = (fit_name (variable target k) x, (fit_key TokenKind.Becomes (λ e. absurd cc) (λ v e. absurd cc), (fit_name (variable origin k) y, (fit_key TokenKind.Plus (λ e. absurd cc) (λ v e. absurd cc), (fit_one, (fit_key TokenKind.Semicolon (λ e. absurd cc) (λ v e. absurd cc), tt))))));
  keeps = λ d r low few. (omega arith, omega arith, (omega arith, omega arith, (omega arith, omega arith, (omega arith, omega arith, (omega arith, omega arith, (omega arith, omega arith, tt))))));
  depth = λ d. refl;
  run = λ r. omega arith;
}

goes_chains : (n : ℕ) → n ≤ 42 → Goes 0 (block_says (chains n))
goes_chains zero small = goes_nil
goes_chains (suc n) small =
    let a = a-name n (omega arith) in
    let b = b-name n (omega arith) in
    let c = c-name n (omega arith) in
    let first = stmt_says (successor (codes "b") (codes "a") n) in
    let second = stmt_says (successor (codes "c") (codes "b") n) in
    goes_join 0 0 (block_says (chains n) ++ first) second
    (goes_join 0 0 (block_says (chains n)) first (goes_chains n (omega arith)) (goes_line (codes "b") (codes "a") n b a)) (goes_line (codes "c") (codes "b") n c b)

goes_steps : (n : ℕ) → n ≤ 42 → Goes 0 (block_says (steps n))
goes_steps zero small = goes_nil
goes_steps (suc n) small =
    let a = a-name n (omega arith) in
    let b = b-name n (omega arith) in
    let c = c-name n (omega arith) in
    let first = stmt_says (successor (codes "a") (codes "a") n) in
    let second = stmt_says (successor (codes "b") (codes "b") n) in
    let third = stmt_says (successor (codes "c") (codes "c") n) in
    goes_join 0 0 ((block_says (steps n) ++ first) ++ second) third
    (goes_join 0 0 (block_says (steps n) ++ first) second
    (goes_join 0 0 (block_says (steps n)) first (goes_steps n (omega arith)) (goes_line (codes "a") (codes "a") n a a)) (goes_line (codes "b") (codes "b") n b b))
    (goes_line (codes "c") (codes "c") n c c)

-- ---- declarations

goes_declared : (letter : List ℕ) (k : ℕ) → IsName (variable letter k) → Goes 3 (decl_says (declared letter k))
goes_declared letter k x = record {
  fit = (fit_name (variable letter k) x, (fit_key TokenKind.Colon (λ e. absurd cc) (λ v e. absurd cc), (fit_key TokenKind.Int (λ e. absurd cc) (λ v e. absurd cc), tt)));
  keeps = λ d r low few. (omega arith, omega arith, (omega arith, omega arith, (omega arith, omega arith, tt)));
  depth = λ d. refl;
  run = λ r. omega arith;
}

goes_comma : Goes 1 (key TokenKind.Comma ∷ [])
goes_comma = record {
  fit = (fit_key TokenKind.Comma (λ e. absurd cc) (λ v e. absurd cc), tt);
  keeps = λ d r low few. (omega arith, omega arith, tt);
  depth = λ d. refl;
  run = λ r. omega arith;
}

goes_group : (k : ℕ) → k < 42 → Goes 12 (others_say (map decl_says (group k)))
goes_group k small =
    let a = goes_declared (codes "a") k (a-name k small) in
    let b = goes_declared (codes "b") k (b-name k small) in
    let c = goes_declared (codes "c") k (c-name k small) in
    let says : List ℕ → List Lexeme = λ letter. decl_says (declared letter k) in
    let comma : List Lexeme = key TokenKind.Comma ∷ [] in
    let last = goes_join 1 3 comma (says (codes "c")) goes_comma c in
    let later = goes_join 4 4 (comma ++ says (codes "b")) (comma ++ says (codes "c")) (goes_join 1 3 comma (says (codes "b")) goes_comma b) last in
    goes_join 4 8 (comma ++ says (codes "a")) _ (goes_join 1 3 comma (says (codes "a")) goes_comma a) later

goes_groups : (a n : ℕ) → a + n ≤ 42 → Goes (12 * n) (others_say (map decl_says (flat_map group (range_with_len a n))))
goes_groups a zero small = goes_nil
goes_groups a (suc n) small =
    let rest = flat_map group (range_with_len (a + 1) n) in
    let size : 12 + 12 * n ≡ 12 * suc n = omega arith in
    subst (λ m. Goes m (others_say (map decl_says (group a ++ rest)))) size
    (subst (Goes (12 + 12 * n)) (sym (others_append (group a) rest)) (goes_join 12 (12 * n) (others_say (map decl_says (group a))) (others_say (map decl_says rest)) (goes_group a (omega arith)) (goes_groups (a + 1) n (omega arith))))

goes_decls : (m : ℕ) → m < 42 → Goes (11 + 12 * m) (decls_say (groups (suc m)))
goes_decls m small =
    let a = goes_declared (codes "a") 0 (a-name 0 (omega arith)) in
    let b = goes_declared (codes "b") 0 (b-name 0 (omega arith)) in
    let c = goes_declared (codes "c") 0 (c-name 0 (omega arith)) in
    let says : List ℕ → List Lexeme = λ letter. decl_says (declared letter 0) in
    let comma : List Lexeme = key TokenKind.Comma ∷ [] in
    let others : List Lexeme = others_say (map decl_says (flat_map group (range_with_len 1 m))) in
    let size : 3 + (4 + (4 + 12 * m)) ≡ 11 + 12 * m = omega arith in
    subst (λ n. Goes n (decls_say (groups (suc m)))) size
    (goes_join 3 (4 + (4 + 12 * m)) (says (codes "a")) ((comma ++ says (codes "b")) ++ ((comma ++ says (codes "c")) ++ others)) a
    (goes_join 4 (4 + 12 * m) (comma ++ says (codes "b")) ((comma ++ says (codes "c")) ++ others) (goes_join 1 3 comma (says (codes "b")) goes_comma b)
    (goes_join 4 (12 * m) (comma ++ says (codes "c")) others (goes_join 1 3 comma (says (codes "c")) goes_comma c) (goes_groups 1 m (omega arith)))))

-- ---- the whole

module _ (m : ℕ) (few : m ≤ 900) (decls first second : List Lexeme) (g : Goes m decls) (h : Goes 0 first) (i : Goes 0 second) where
  whole_fit : AreFit (all_said decls first second)
  whole_fit =
      let foot_fit : AreFit (key TokenKind.Done ∷ key TokenKind.Semicolon ∷ key TokenKind.End ∷ []) = (fit_key TokenKind.Done (λ e. absurd cc) (λ v e. absurd cc), (fit_key TokenKind.Semicolon (λ e. absurd cc) (λ v e. absurd cc), (fit_key TokenKind.End (λ e. absurd cc) (λ v e. absurd cc), tt))) in
      let loop_fit = fit_join second (key TokenKind.Done ∷ key TokenKind.Semicolon ∷ key TokenKind.End ∷ []) i.fit foot_fit in
      let loop : List Lexeme = key TokenKind.While ∷ key TokenKind.Random ∷ key TokenKind.Do ∷ (second ++ key TokenKind.Done ∷ key TokenKind.Semicolon ∷ key TokenKind.End ∷ []) in
      let head_fit : AreFit loop = (fit_key TokenKind.While (λ e. absurd cc) (λ v e. absurd cc), (fit_key TokenKind.Random (λ e. absurd cc) (λ v e. absurd cc), (fit_key TokenKind.Do (λ e. absurd cc) (λ v e. absurd cc), loop_fit))) in
      let body : List Lexeme = key TokenKind.Semicolon ∷ key TokenKind.Begin ∷ (first ++ loop) in
      let body_fit : AreFit body = (fit_key TokenKind.Semicolon (λ e. absurd cc) (λ v e. absurd cc), (fit_key TokenKind.Begin (λ e. absurd cc) (λ v e. absurd cc), fit_join first loop h.fit head_fit)) in
      (fit_key TokenKind.Var (λ e. absurd cc) (λ v e. absurd cc), fit_join decls body g.fit body_fit)

  foot_kept : (d r : ℕ) → d ≤ 60 → r ≤ 900 → Keeps d r (key TokenKind.Done ∷ key TokenKind.Semicolon ∷ key TokenKind.End ∷ [])
  foot_kept d r low short = (omega arith, omega arith, (omega arith, omega arith, (omega arith, omega arith, tt)))

  loop_kept : (d r : ℕ) → d ≤ 50 → r ≤ 900
      → Keeps d r (key TokenKind.While ∷ key TokenKind.Random ∷ key TokenKind.Do ∷ (second ++ key TokenKind.Done ∷ key TokenKind.Semicolon ∷ key TokenKind.End ∷ []))
  loop_kept d r low short = (
    omega arith,
    omega arith,
    (
      omega arith,
      omega arith,
      (
        omega arith,
        omega arith,
        keeps_join (d + 1) 0 second _ (i.keeps (d + 1) 0 (omega arith) (omega arith)) (foot_kept (depth_to (d + 1) second) (run_to 0 second) (omega (arith, i.depth (d + 1))) (omega (arith, i.run 0))),
      ),
    ),
  )

  body_kept : (d r : ℕ) → d ≤ 40 → r ≤ 1000
      → Keeps d r (key TokenKind.Semicolon ∷ key TokenKind.Begin ∷ (first ++ key TokenKind.While ∷ key TokenKind.Random ∷ key TokenKind.Do ∷ (second ++ key TokenKind.Done ∷ key TokenKind.Semicolon ∷ key TokenKind.End ∷ [])))
  body_kept d r low short = (
    omega arith,
    omega arith,
    (
      omega arith,
      omega arith,
      keeps_join (d + 1) 0 first _ (h.keeps (d + 1) 0 (omega arith) (omega arith)) (loop_kept (depth_to (d + 1) first) (run_to 0 first) (omega (arith, h.depth (d + 1))) (omega (arith, h.run 0))),
    ),
  )

  whole_kept : Keeps 0 0 (all_said decls first second)
  whole_kept = (
    omega arith,
    omega arith,
    keeps_join 0 1 decls _ (g.keeps 0 1 (omega arith) (omega arith)) (body_kept (depth_to 0 decls) (run_to 1 decls) (omega (arith, g.depth 0)) (omega (arith, g.run 1))),
  )

pub generated_fit : (m : ℕ) → m < 42 → AreFit (said_by (suc m))
generated_fit m small = whole_fit (11 + 12 * m) (omega arith) (decls_say (groups (suc m))) (block_says (chains (suc m))) (block_says (steps (suc m))) (goes_decls m small) (goes_chains (suc m) (omega arith)) (goes_steps (suc m) (omega arith))

pub generated_kept : (m : ℕ) → m < 42 → Keeps 0 0 (said_by (suc m))
generated_kept m small = whole_kept (11 + 12 * m) (omega arith) (decls_say (groups (suc m))) (block_says (chains (suc m))) (block_says (steps (suc m))) (goes_decls m small) (goes_chains (suc m) (omega arith)) (goes_steps (suc m) (omega arith))
