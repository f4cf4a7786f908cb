-- Pieces of a text: where one ends, it is known from its front.
use Rattle.std.proofs.Common.{◌≡◌, ℕ, suc, ◌+◌, ◌<◌, ◌%◌, ◌^◌, Bool, true, false, cond, IsTrue, nat_le, List, [], ◌∷◌, ◌++◌, take, decimal, refl, sym, subst, arith}
use Rattle.std.specs.List.{All, prefix_len}
use Rattle.std.proofs.lemmas.List.Elements.{All-nil, All-cons, All-head, All-tail}
use Rattle.std.proofs.lemmas.Bool.{both_ways, le-leb, and_from}
use Rattle.std.proofs.lemmas.Fmt.{decimal_by_steps}
use Rattle.spl_text.specs.Bytes.{is_digit}

-- each byte passes a test
abbrev pub Passes : (ℕ → Bool) → List ℕ → Type 0
Passes p [] = Unit {0}
Passes p (x ∷ xs) = (p x ≡ true) × Passes p xs

-- the first byte, if there is one, doesn't pass
abbrev pub Stops : (ℕ → Bool) → List ℕ → Type 0
Stops p [] = Unit {0}
Stops p (x ∷ xs) = p x ≡ false

-- the first byte passes a test, and each later one another
abbrev pub Begins : (ℕ → Bool) → (ℕ → Bool) → List ℕ → Type 0
Begins p q [] = ⊥
Begins p q (x ∷ xs) = (p x ≡ true) × Passes q xs

pub head_is : {x y : ℕ} {xs ys : List ℕ} → x ∷ xs ≡ y ∷ ys → x ≡ y
head_is e = cc

pub tail_is : {x y : ℕ} {xs ys : List ℕ} → x ∷ xs ≡ y ∷ ys → xs ≡ ys
tail_is e = cc

pub cons_is : {X : Type 0} {x y : X} {xs ys : List X} → x ≡ y → xs ≡ ys → x ∷ xs ≡ y ∷ ys
cons_is e f = cc

-- the longest front whose bytes pass is known
pub cancel : (p : ℕ → Bool) (x y r s : List ℕ) → Passes p x → Passes p y → Stops p r → Stops p s → x ++ r ≡ y ++ s → (x ≡ y) × (r ≡ s)
cancel p [] [] r s px py pr ps e = (refl, e)
cancel p [] (b ∷ y) r s px py pr ps e = absurd (both_ways (p b) (subst (Stops p) e pr) py.0)
cancel p (a ∷ x) [] r s px py pr ps e = absurd (both_ways (p a) (subst (Stops p) (sym e) ps) px.0)
cancel p (a ∷ x) (b ∷ y) r s px py pr ps e =
    let next = cancel p x y r s px.1 py.1 pr ps (tail_is e) in
    (cons_is (head_is e) next.0, next.1)

pub Passes-from_All : (p : ℕ → Bool) (xs : List ℕ) → All (λ c. IsTrue (p c)) xs → Passes p xs
Passes-from_All p [] h = tt
Passes-from_All p (x ∷ xs) h = (All-head (λ c. IsTrue (p c)) x xs h, Passes-from_All p xs (All-tail (λ c. IsTrue (p c)) x xs h))

pub All-from_Passes : (p : ℕ → Bool) (xs : List ℕ) → Passes p xs → All (λ c. IsTrue (p c)) xs
All-from_Passes p [] h = All-nil (λ c. IsTrue (p c))
All-from_Passes p (x ∷ xs) h = All-cons (λ c. IsTrue (p c)) x xs h.0 (All-from_Passes p xs h.1)

pub Passes-append : (p : ℕ → Bool) (x y : List ℕ) → Passes p x → Passes p y → Passes p (x ++ y)
Passes-append p [] y px py = py
Passes-append p (a ∷ x) y px py = (px.0, Passes-append p x y px.1 py)

-- what passes up to a length passes
pub Passes-prefix : (p : ℕ → Bool) (xs : List ℕ) → Passes p (take (prefix_len p xs) xs)
Passes-prefix p [] = tt
Passes-prefix p (x ∷ xs) = by (p x) refl (Passes-prefix p xs)
  where
    by : (b : Bool) → p x ≡ b → Passes p (take (prefix_len p xs) xs) → Passes p (take (cond b (1 + prefix_len p xs) 0) (x ∷ xs))
    by true e later =
        let more : suc (prefix_len p xs) ≡ 1 + prefix_len p xs = omega arith in
        subst (λ k. Passes p (take k (x ∷ xs))) more (e, later)
    by false e later = tt

-- ---- decimal numbers

digit_passes : (d : ℕ) → d < 10 → is_digit (48 + d) ≡ true
digit_passes d h = and_from (nat_le 48 (48 + d)) (nat_le (48 + d) 57) (le-leb 48 (48 + d) (omega arith)) (le-leb (48 + d) 57 (omega arith))

Begins-append : (p q : ℕ → Bool) (x y : List ℕ) → Begins p q x → Passes q y → Begins p q (x ++ y)
Begins-append p q [] y h k = absurd h
Begins-append p q (a ∷ x) y h k = (h.0, Passes-append q x y h.1 k)

pub decimal_digits : (n : ℕ) → n < 2 ^ 64 → Begins is_digit is_digit (decimal n)
decimal_digits n h = decimal_by_steps (λ n ds. Begins is_digit is_digit ds)
    (λ m small. (digit_passes m small, tt))
    (λ m ds large begins. Begins-append is_digit is_digit ds ((48 + m % 10) ∷ []) begins (digit_passes (m % 10) (omega arith), tt)) n h

pub Begins-passes : (p : ℕ → Bool) (xs : List ℕ) → Begins p p xs → Passes p xs
Begins-passes p [] h = absurd h
Begins-passes p (x ∷ xs) h = h
