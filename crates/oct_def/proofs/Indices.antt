-- Signed dimensions: a dimension and its opposite, and their values in a state.
use Rattle.std.proofs.Common.{◌≡◌, ℕ, ◌+◌, ◌-◌, ◌*◌, ◌/◌, ◌%◌, ◌<◌, ◌⊎◌, inl, inr, Bool, true, false, ◌||◌, cond, eqb, List, refl, ap, ◌∙◌, arith, add-one, zero, suc}
use Rattle.std.specs.Prelude.{ℤ, ◌+ℤ◌, ◌-ℤ◌, neg_ℤ}
use Rattle.std.proofs.lemmas.Int.{ints}
use Rattle.std.specs.Prelude.{bit_xor}
use Rattle.std.proofs.lemmas.Nat.{xor_shr, xor_mod}
use Rattle.std.specs.Int.Bits.{xor_zero_r}
use Rattle.oct_def.specs.Table.{some_index}
use Rattle.oct_def.specs.Matrix.{opposite, value_at, signed_value}

pub opposite_twice : (i : ℕ) → opposite (opposite i) ≡ i
opposite_twice i = omega arith

pub opposite-even : (k : ℕ) → opposite (2 * k) ≡ 2 * k + 1
opposite-even k = omega arith

pub opposite-odd : (k : ℕ) → opposite (2 * k + 1) ≡ 2 * k
opposite-odd k = omega arith

-- the opposite of a dimension of n variables is one
pub opposite_below : (n i : ℕ) → i < 2 * n → opposite i < 2 * n
opposite_below n i h = omega arith

-- a dimension is its own opposite's opposite, and never its own
pub opposite_same : (i j : ℕ) → opposite i ≡ opposite j → i ≡ j
opposite_same i j h = omega arith

pub opposite_turned : (i j : ℕ) → j ≡ opposite i → opposite j ≡ i
opposite_turned i j h = omega arith

-- the value of a dimension, by its sign and its variable
abbrev by_sign : List ℤ → ℕ → ℕ → ℤ
by_sign s r v = cond (eqb r 0) (value_at s v) (neg_ℤ (value_at s v))

opposite_signs : (s : List ℤ) (v r t : ℕ) → ((r ≡ 0) × (t ≡ 1)) ⊎ ((r ≡ 1) × (t ≡ 0)) → by_sign s t v ≡ neg_ℤ (by_sign s r v)
opposite_signs s v r t (inl (p, q)) = rw (p, q) refl
opposite_signs s v r t (inr (p, q)) = rw (p, q) (omega (arith, ints))

-- the value of the opposite dimension is the negated value
pub signed-opposite : (s : List ℤ) (i : ℕ) → signed_value s (opposite i) ≡ neg_ℤ (signed_value s i)
signed-opposite s i =
    let v : opposite i / 2 ≡ i / 2 = omega arith in
    let cases : ((i % 2 ≡ 0) × (opposite i % 2 ≡ 1)) ⊎ ((i % 2 ≡ 1) × (opposite i % 2 ≡ 0)) = grind arith in
    ap (by_sign s (opposite i % 2)) v ∙ opposite_signs s (i / 2) (i % 2) (opposite i % 2) cases

-- the entry between a dimension and its opposite bounds twice a value
pub unary_difference : (s : List ℤ) (i : ℕ) → signed_value s (opposite i) -ℤ signed_value s i ≡ signed_value s (opposite i) +ℤ signed_value s (opposite i)
unary_difference s i = let e = signed-opposite s i in omega (arith, ints)

-- ---- some index below n

pub some_index-none : (n : ℕ) (test : ℕ → Bool) → ((k : ℕ) → k < n → test k ≡ false) → some_index n test ≡ false
unfolding some_index
some_index-none zero test h = refl
some_index-none (suc n) test h =
    ap (λ b. b || some_index n test) (h n (omega arith)) ∙ some_index-none n test (λ k lt. h k (omega arith))

pub some_index-each : (n : ℕ) (test : ℕ → Bool) → some_index n test ≡ false → (k : ℕ) → k < n → test k ≡ false
unfolding some_index
some_index-each zero test e k h = absurd (omega arith)
some_index-each (suc n) test e k h = by (test n) refl e (λ f lt. some_index-each n test f k lt)
  where
    last : test n ≡ false → (k < n → test k ≡ false) → (k ≡ n) ⊎ (k < n) → test k ≡ false
    last f g (inl e) = ap test e ∙ f
    last f g (inr lt) = g lt

    by : (b : Bool) → test n ≡ b → (b || some_index n test) ≡ false → (some_index n test ≡ false → k < n → test k ≡ false) → test k ≡ false
    by true f g below = cc
    by false f g below = last f (below g) (grind arith)

pub some_index-more : (n : ℕ) (test : ℕ → Bool) → some_index n test ≡ false → test n ≡ false → some_index (n + 1) test ≡ false
unfolding some_index
some_index-more n test h e = rw add-one (ap (λ b. b || some_index n test) e ∙ h)

pub some_index-found : (n : ℕ) (test : ℕ → Bool) (k : ℕ) → k < n → test k ≡ true → some_index n test ≡ true
some_index-found n test k lt e = by (some_index n test) refl
  where
    by : (b : Bool) → some_index n test ≡ b → b ≡ true
    by true f = refl
    by false f = let no = some_index-each n test f k lt in cc

-- ---- the opposite by its lowest bit

xor_of_bit : (r : ℕ) → r < 2 → bit_xor r 1 ≡ 1 - r
xor_of_bit r h = elim (bit_cases r h) [ inl e ↦ rw e refl | inr e ↦ rw e refl ]
  where
    bit_cases : (r : ℕ) → r < 2 → (r ≡ 0) ⊎ (r ≡ 1)
    bit_cases r h = grind arith

pub xor_one : (i : ℕ) → bit_xor i 1 ≡ opposite i
xor_one i =
    let half : bit_xor i 1 / 2 ≡ i / 2 = xor_shr i 1 1 ∙ xor_zero_r (i / 2) in
    let low : bit_xor i 1 % 2 ≡ 1 - i % 2 = xor_mod i 1 1 ∙ xor_of_bit (i % 2) (omega arith) in
    omega arith
