-- The order of bounds as a relation: None is above every integer. As a record its two bounds are inferred, so that sums
-- and leasts of bounds can be compared in one line. Beside it the size of a finite bound, which adds up with sums.
use Rattle.std.proofs.Common.{◌≡◌, ℕ, ◌+◌, ◌≤◌, true, false, Some, None, refl, ap, subst, arith}
use Rattle.std.specs.Prelude.{ℤ, pos, neg_ℤ, ◌≤ℤ◌}
use Rattle.std.proofs.lemmas.Int.{ints, clamps}
use Rattle.oct_def.specs.Bound.{Bound, plus, least, at_most, Within}
use Rattle.oct_def.proofs.Bounds.{least_is, of_choice}
use Rattle.oct_def.proofs.Orders.{plus_comm}

abbrev pub below : Bound → Bound → Type 0
below a None = Unit {0}
below None (Some y) = ⊥
below (Some x) (Some y) = x ≤ℤ y

pub record Below (a b : Bound) : Type 0 where
  pub is : below a b

below_refl : (a : Bound) → below a a
below_refl None = tt
below_refl (Some x) = omega (arith, ints)

pub Below-refl : (a : Bound) → Below a a
Below-refl a = record { is = below_refl a }

pub Below-same : {a b : Bound} → a ≡ b → Below a b
Below-same {a} {b} e = subst (Below a) e (Below-refl a)

below_trans : (a b c : Bound) → below a b → below b c → below a c
below_trans a b None p q = tt
below_trans a None (Some z) p q = absurd q
below_trans None (Some y) (Some z) p q = absurd p
below_trans (Some x) (Some y) (Some z) p q = omega (arith, ints)

pub Below-trans : {a b c : Bound} → Below a b → Below b c → Below a c
Below-trans {a} {b} {c} p q = record { is = below_trans a b c p.is q.is }

below_plus : (a b c d : Bound) → below a c → below b d → below (plus a b) (plus c d)
below_plus a b None d p q = tt
below_plus a b (Some z) None p q = tt
below_plus None b (Some z) (Some w) p q = absurd p
below_plus (Some x) None (Some z) (Some w) p q = absurd q
below_plus (Some x) (Some y) (Some z) (Some w) p q = omega (arith, ints)

pub Below-plus : {a b c d : Bound} → Below a c → Below b d → Below (plus a b) (plus c d)
Below-plus {a} {b} {c} {d} p q = record { is = below_plus a b c d p.is q.is }

below_left : (a b : Bound) → below (least a b) a
below_left None b = tt
below_left (Some x) None = omega (arith, ints)
below_left (Some x) (Some y) = omega (arith, ints, clamps)

pub Below-left : (a b : Bound) → Below (least a b) a
Below-left a b = record { is = below_left a b }

below_right : (a b : Bound) → below (least a b) b
below_right a None = tt
below_right None (Some y) = omega (arith, ints)
below_right (Some x) (Some y) = omega (arith, ints, clamps)

pub Below-right : (a b : Bound) → Below (least a b) b
Below-right a b = record { is = below_right a b }

pub Below-least : {a b c : Bound} → Below c a → Below c b → Below c (least a b)
Below-least {a} {b} {c} p q = of_choice (Below c) a b (least a b) (least_is a b) p q

below_antisym : (a b : Bound) → below a b → below b a → a ≡ b
below_antisym None None p q = refl
below_antisym (Some x) None p q = absurd q
below_antisym None (Some y) p q = absurd p
below_antisym (Some x) (Some y) p q = ap Some (omega (arith, ints))

pub Below-antisym : {a b : Bound} → Below a b → Below b a → a ≡ b
Below-antisym {a} {b} p q = below_antisym a b p.is q.is

-- what holds of the sum of each two holds of the sum of the lesser ones
pub four_choices : (P : Bound → Type 0) (a b c d : Bound) → P (plus a c) → P (plus a d) → P (plus b c) → P (plus b d) → P (plus (least a b) (least c d))
four_choices P a b c d ac ad bc bd =
    of_choice (λ t. P (plus t (least c d))) a b (least a b) (least_is a b)
    (of_choice (λ t. P (plus a t)) c d (least c d) (least_is c d) ac ad)
    (of_choice (λ t. P (plus b t)) c d (least c d) (least_is c d) bc bd)

pub Below-four : {x : Bound} → (a b c d : Bound) → Below x (plus a c) → Below x (plus a d) → Below x (plus b c) → Below x (plus b d) → Below x (plus (least a b) (least c d))
Below-four {x} a b c d ac ad bc bd = four_choices (Below x) a b c d ac ad bc bd

-- a sum that isn't negative adds nothing below
below_longer : (a b c d : Bound) → Within (pos 0) (plus b c) → below (plus a d) (plus (plus a b) (plus c d))
below_longer None b c d h = tt
below_longer (Some x) None c d h = tt
below_longer (Some x) (Some y) None d h = tt
below_longer (Some x) (Some y) (Some z) None h = tt
below_longer (Some x) (Some y) (Some z) (Some w) h = omega (arith, ints)

pub Below-longer : (a b c d : Bound) → Within (pos 0) (plus b c) → Below (plus a d) (plus (plus a b) (plus c d))
Below-longer a b c d h = record { is = below_longer a b c d h }

below_within : (x : ℤ) (a : Bound) → Within x a → below (Some x) a
below_within x None h = tt
below_within x (Some y) h = h

pub Below-within : {x : ℤ} {a : Bound} → Within x a → Below (Some x) a
Below-within {x} {a} h = record { is = below_within x a h }

within_below : (x : ℤ) (a : Bound) → below (Some x) a → Within x a
within_below x None h = tt
within_below x (Some y) h = h

pub within-Below : {x : ℤ} {a : Bound} → Below (Some x) a → Within x a
within-Below {x} {a} h = within_below x a h.is

below_test : (a b : Bound) → at_most a b ≡ true → below a b
below_test a None e = tt
below_test None (Some y) e = cc
below_test (Some x) (Some y) e = omega (arith, ints)

pub Below-test : {a b : Bound} → at_most a b ≡ true → Below a b
Below-test {a} {b} e = record { is = below_test a b e }

test_below : (a b : Bound) → below a b → at_most a b ≡ true
test_below a None h = refl
test_below None (Some y) h = absurd h
test_below (Some x) (Some y) h = grind (arith, ints)

pub test-Below : {a b : Bound} → Below a b → at_most a b ≡ true
test-Below {a} {b} h = test_below a b h.is

pub within-comm : (a b : Bound) → Within (pos 0) (plus a b) → Within (pos 0) (plus b a)
within-comm a b h = subst (Within (pos 0)) (plus_comm a b) h

-- the size of a finite bound
abbrev pub sized : ℕ → Bound → Type 0
sized w None = Unit {0}
sized w (Some x) = (neg_ℤ (pos w) ≤ℤ x) × (x ≤ℤ pos w)

pub record Sized (w : ℕ) (a : Bound) : Type 0 where
  pub is : sized w a

sized_more : (v w : ℕ) (a : Bound) → v ≤ w → sized v a → sized w a
sized_more v w None l h = tt
sized_more v w (Some x) l h = (omega (arith, ints, h.0), omega (arith, ints, h.1))

pub Sized-more : {v w : ℕ} {a : Bound} → v ≤ w → Sized v a → Sized w a
Sized-more {v} {w} {a} l h = record { is = sized_more v w a l h.is }

sized_plus : (v w : ℕ) (a b : Bound) → sized v a → sized w b → sized (v + w) (plus a b)
sized_plus v w None b p q = tt
sized_plus v w (Some x) None p q = tt
sized_plus v w (Some x) (Some y) p q = (omega (arith, ints, p.0, q.0), omega (arith, ints, p.1, q.1))

pub Sized-plus : {v w : ℕ} {a b : Bound} → Sized v a → Sized w b → Sized (v + w) (plus a b)
Sized-plus {v} {w} {a} {b} p q = record { is = sized_plus v w a b p.is q.is }

other_below : (a b : Bound) → at_most a b ≡ false → below b a
other_below a None e = cc
other_below None (Some y) e = tt
other_below (Some x) (Some y) e = omega (arith, ints)

pub Below-other : {a b : Bound} → at_most a b ≡ false → Below b a
Below-other {a} {b} e = record { is = other_below a b e }
