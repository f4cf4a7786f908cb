-- One group more.
use Rattle.std.proofs.Common.{◌≡◌, refl, ℕ, zero, suc, ◌+◌, List, [], ◌++◌, ◌∙◌, ap, sym, arith, append_assoc, append-nil, flat_map}
use Rattle.std.specs.List.{range_with_len}
use Rattle.spl_gen.specs.Generated.{each}

more_from : (piece : ℕ → List ℕ) (a n : ℕ) → flat_map piece (range_with_len a (suc n)) ≡ flat_map piece (range_with_len a n) ++ piece (a + n)
more_from piece a zero = let e : a + 0 ≡ a = omega arith in rw e (append-nil (piece a))
more_from piece a (suc n) =
    let e : a + suc n ≡ a + 1 + n = omega arith in
    rw e (ap (λ t. piece a ++ t) (more_from piece (a + 1) n) ∙ sym (append_assoc (piece a) (flat_map piece (range_with_len (a + 1) n)) (piece (a + 1 + n))))

pub each-more : (piece : ℕ → List ℕ) (n : ℕ) → each piece (n + 1) ≡ each piece n ++ piece n
each-more piece n = let e : n + 1 ≡ suc n = omega arith in let z : 0 + n ≡ n = omega arith in rw e (more_from piece 0 n ∙ ap (λ k. each piece n ++ piece k) z)

-- what stood there, the groups so far, and the next one
pub group-put : (piece : ℕ → List ℕ) (n : ℕ) (before now next : List ℕ) → now ≡ before ++ each piece n → next ≡ now ++ piece n → next ≡ before ++ each piece (n + 1)
group-put piece n before now next is put = put ∙ ap (λ t. t ++ piece n) is ∙ append_assoc before (each piece n) (piece n) ∙ ap (λ t. before ++ t) (sym (each-more piece n))

-- seven texts, one after the other
pub seven : (a b c d e f g o0 o1 o2 o3 o4 o5 o6 o7 : List ℕ) → o0 ≡ [] → o1 ≡ o0 ++ a → o2 ≡ o1 ++ b → o3 ≡ o2 ++ c → o4 ≡ o3 ++ d → o5 ≡ o4 ++ e → o6 ≡ o5 ++ f → o7 ≡ o6 ++ g
    → o7 ≡ a ++ (b ++ (c ++ (d ++ (e ++ (f ++ g)))))
seven a b c d e f g o0 o1 o2 o3 o4 o5 o6 o7 p0 p1 p2 p3 p4 p5 p6 p7 =
    p7 ∙ ap (λ t. t ++ g) (p6 ∙ ap (λ t. t ++ f) (p5 ∙ ap (λ t. t ++ e) (p4 ∙ ap (λ t. t ++ d) (p3 ∙ ap (λ t. t ++ c) (p2 ∙ ap (λ t. t ++ b) (p1 ∙ ap (λ t. t ++ a) p0))))))
    ∙ simp append_assoc refl
