-- Generated texts are short.
use Rattle.std.proofs.Common.{◌≡◌, refl, ℕ, zero, suc, ◌+◌, ◌*◌, ◌^◌, ◌<◌, ◌≤◌, nat_le, true, List, ◌++◌, length, codes, arith, ap, ◌∙◌}
use Rattle.std.specs.Fmt.{digits}
use Rattle.std.proofs.lemmas.Bool.{agree_below_at, leb-true}
use Rattle.std.proofs.lemmas.List.{length-append}
use Rattle.spl_gen.specs.Generated.{chain, declarations, each, generated, steps}
use Rattle.spl_gen.proofs.Groups.{each-more}

declarations_short : (k : ℕ) → k < 42 → length (declarations k) ≤ 64
unfolding digits
declarations_short k small = leb-true (length (declarations k)) 64 (agree_below_at (λ j. nat_le (length (declarations j)) 64) (λ j. true) 42 k refl small)

chain_short : (k : ℕ) → k < 42 → length (chain k) ≤ 64
unfolding digits
chain_short k small = leb-true (length (chain k)) 64 (agree_below_at (λ j. nat_le (length (chain j)) 64) (λ j. true) 42 k refl small)

steps_short : (k : ℕ) → k < 42 → length (steps k) ≤ 64
unfolding digits
steps_short k small = leb-true (length (steps k)) 64 (agree_below_at (λ j. nat_le (length (steps j)) 64) (λ j. true) 42 k refl small)

each_short : (piece : ℕ → List ℕ) → ((k : ℕ) → k < 42 → length (piece k) ≤ 64) → (n : ℕ) → n ≤ 42 → length (each piece n) ≤ 64 * n
each_short piece short zero small = omega arith
each_short piece short (suc n) small =
    let e : suc n ≡ n + 1 = omega arith in
    let size : length (each piece (suc n)) ≡ length (each piece n) + length (piece n) = ap (λ k. length (each piece k)) e ∙ ap length (each-more piece n) ∙ length-append (each piece n) (piece n) in
    omega (arith, size, each_short piece short n (omega arith), short n (omega arith))

pub generated_short : (n : ℕ) → n ≤ 42 → length (generated n) ≤ 2 ^ 20
unfolding generated
generated_short n small =
    let foot = codes "done;\nend\n" in
    let after_steps = each steps n ++ foot in
    let loop = codes "while random do\n" ++ after_steps in
    let after_chains = each chain n ++ loop in
    let body = codes ";\nbegin\n" ++ after_chains in
    omega (
      arith,
      length-append (codes "var ") (each declarations n ++ body),
      length-append (each declarations n) body,
      length-append (codes ";\nbegin\n") after_chains,
      length-append (each chain n) loop,
      length-append (codes "while random do\n") after_steps,
      length-append (each steps n) foot,
      each_short declarations declarations_short n small,
      each_short chain chain_short n small,
      each_short steps steps_short n small,
    )
