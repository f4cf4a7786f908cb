-- The weight of the members of a list that pass a test: b for each. Where two tests exclude each other and both imply a
-- third, their weights together are at most its weight; this is how sizes of entries are added up without paths.
use Rattle.std.proofs.Common.{◌≡◌, ℕ, ◌+◌, ◌*◌, ◌≤◌, ◌⊎◌, inl, inr, Bool, true, false, cond, List, [], ◌∷◌, length, refl, ap, arith, suc}

abbrev pub In : ℕ → List ℕ → Type 0
In v [] = ⊥
In v (w ∷ ws) = (v ≡ w) ⊎ In v ws

-- b for each member that passes
unfoldable pub weigh : ℕ → (ℕ → Bool) → List ℕ → ℕ
weigh b test [] = 0
weigh b test (v ∷ vs) = cond (test v) b 0 + weigh b test vs

one : (b : ℕ) (t u : Bool) → (t ≡ true → u ≡ true) → cond t b 0 ≤ cond u b 0
one b false u h = grind arith
one b true u h = grind (arith, h refl)

pub weigh-more : (b : ℕ) (f h : ℕ → Bool) (vs : List ℕ) → ((v : ℕ) → In v vs → f v ≡ true → h v ≡ true) → weigh b f vs ≤ weigh b h vs
unfolding weigh
weigh-more b f h [] more = omega arith
weigh-more b f h (v ∷ vs) more =
    let rest = weigh-more b f h vs (λ w m e. more w (inr m) e) in
    let this = one b (f v) (h v) (more v (inl refl)) in
    omega arith

two : (b : ℕ) (t u w : Bool) → (t ≡ true → w ≡ true) → (u ≡ true → w ≡ true) → (t ≡ true → u ≡ true → ⊥) → cond t b 0 + cond u b 0 ≤ cond w b 0
two b false u w p q r = let k = one b u w q in omega arith
two b true false w p q r = let e = p refl in grind arith
two b true true w p q r = absurd (r refl refl)

pub weigh-both : (b : ℕ) (f g h : ℕ → Bool) (vs : List ℕ) → ((v : ℕ) → In v vs → f v ≡ true → h v ≡ true) → ((v : ℕ) → In v vs → g v ≡ true → h v ≡ true) → ((v : ℕ) → In v vs → f v ≡ true → g v ≡ true → ⊥) → weigh b f vs + weigh b g vs ≤ weigh b h vs
unfolding weigh
weigh-both b f g h [] p q r = omega arith
weigh-both b f g h (v ∷ vs) p q r =
    let rest = weigh-both b f g h vs (λ w m e. p w (inr m) e) (λ w m e. q w (inr m) e) (λ w m d e. r w (inr m) d e) in
    let this = two b (f v) (g v) (h v) (p v (inl refl)) (q v (inl refl)) (r v (inl refl)) in
    omega arith

pub weigh-last : (b : ℕ) (f : ℕ → Bool) (v : ℕ) (vs : List ℕ) → f v ≡ true → weigh b f (v ∷ vs) ≡ b + weigh b f vs
unfolding weigh
weigh-last b f v vs e = ap (λ t. cond t b 0 + weigh b f vs) e

pub weigh-longer : (b : ℕ) (f : ℕ → Bool) (v : ℕ) (vs : List ℕ) → weigh b f vs ≤ weigh b f (v ∷ vs)
unfolding weigh
weigh-longer b f v vs = omega arith

pub weigh-most : (b : ℕ) (f : ℕ → Bool) (vs : List ℕ) → weigh b f vs ≤ length vs * b
unfolding weigh
weigh-most b f [] = omega arith
weigh-most b f (v ∷ vs) =
    let rest = weigh-most b f vs in
    let this = one b (f v) true (λ e. refl) in
    let more : length (v ∷ vs) ≡ suc (length vs) = refl in
    omega arith
