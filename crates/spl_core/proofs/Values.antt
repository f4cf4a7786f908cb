-- Values of operations and of comparisons by those of their operands; quotients are truncated toward zero.
use Rattle.std.proofs.Common.{◌≡◌, ◌≢◌, ℕ, zero, suc, ◌*◌, ◌/◌, ◌<◌, Bool, true, false, cond, Option, None, Some, ℤ, pos, negsuc, ◌*ℤ◌, neg_ℤ, nat_abs, int_rem, option_map, refl, sym, ap, ◌∙◌, arith}
use Rattle.std.specs.Ordering.{int_eq}
use Rattle.std.proofs.lemmas.Int.{ints, quot-rem, rem_below, unsigned_abs-mul}
use Rattle.std.proofs.Math.Nat.{mul-div-le}
use Rattle.std.proofs.lemmas.Option.{same_Some}
use Rattle.std.proofs.lemmas.Bool.Decides.{Decides-int_eq}
use Rattle.spl_core.specs.declared.parts.Cmp.{Cmp}
use Rattle.spl_core.specs.Expression.{of_both, divided, left_over}
use Rattle.spl_core.specs.Condition.{compares, comparison}
use Rattle.spl_core.specs.Laws.{QuotientsTruncateTowardZero}

-- ---- operands of values that aren't missing

pub record OfValue (g : ℤ → ℤ) (p : Option ℤ) (z : ℤ) : Type 0 where
  pub operand : ℤ
  pub is : p ≡ Some operand
  pub gives : z ≡ g operand

pub of_value : (g : ℤ → ℤ) (p : Option ℤ) (z : ℤ) → option_map g p ≡ Some z → OfValue g p z
of_value g None z e = absurd (cc)
of_value g (Some x) z e = record { operand = x; is = refl; gives = sym (same_Some (g x) z e) }

pub record OfValues (f : ℤ → ℤ → Option ℤ) (p q : Option ℤ) (z : ℤ) : Type 0 where
  pub left : ℤ
  pub right : ℤ
  pub left_is : p ≡ Some left
  pub right_is : q ≡ Some right
  pub gives : f left right ≡ Some z

pub of_values : (f : ℤ → ℤ → Option ℤ) (p q : Option ℤ) (z : ℤ) → of_both f p q ≡ Some z → OfValues f p q z
of_values f None q z e = absurd (cc)
of_values f (Some x) None z e = absurd (cc)
of_values f (Some x) (Some y) z e = record { left = x; right = y; left_is = refl; right_is = refl; gives = e }

-- a comparison that comes out so is one of two values
pub record OfCompared (r : Cmp) (p q : Option ℤ) (wanted : Bool) : Type 0 where
  pub left : ℤ
  pub right : ℤ
  pub left_is : p ≡ Some left
  pub right_is : q ≡ Some right
  pub comes_out : compares r left right ≡ wanted

pub of_compared : (r : Cmp) (p q : Option ℤ) (wanted : Bool) → comparison r p q ≡ Some wanted → OfCompared r p q wanted
of_compared r None q wanted e = absurd (cc)
of_compared r (Some x) None wanted e = absurd (cc)
of_compared r (Some x) (Some y) wanted e = record { left = x; right = y; left_is = refl; right_is = refl; comes_out = same_Some (compares r x y) wanted e }

-- a quotient or a remainder that isn't missing is by an integer other than 0
pub record ByNonzero (y x z : ℤ) : Type 0 where
  pub nonzero : y ≢ pos 0
  pub gives : z ≡ x

pub by_nonzero : (x y z : ℤ) → cond (int_eq y (pos 0)) None (Some x) ≡ Some z → ByNonzero y x z
by_nonzero x y z e = by (int_eq y (pos 0)) refl e
  where
    by : (b : Bool) → int_eq y (pos 0) ≡ b → cond b None (Some x) ≡ Some z → ByNonzero y x z
    by true q e = absurd (cc)
    by false q e = record { nonzero = λ d. let t : int_eq y (pos 0) ≡ true = (Decides-int_eq y (pos 0)).1 d in absurd (cc); gives = sym (same_Some x z e) }

-- ---- quotients are truncated toward zero

-- what is left over is the remainder of the code
pub left_over-is : (x y : ℤ) → left_over x y ≡ int_rem x y
left_over-is x y = let e = quot-rem x y in omega (arith, ints)

size-neg : (n : ℕ) → nat_abs (neg_ℤ (pos n)) ≡ n
size-neg zero = refl
size-neg (suc n) = refl

-- the size of a quotient
pub size-divided : (x y : ℤ) → nat_abs (divided x y) ≡ nat_abs x / nat_abs y
size-divided (pos a) (pos b) = refl
size-divided (pos a) (negsuc b) = size-neg (a / suc b)
size-divided (negsuc a) (pos b) = size-neg (suc a / b)
size-divided (negsuc a) (negsuc b) = refl

size-above : (y : ℤ) → y ≢ pos 0 → 0 < nat_abs y
size-above (pos zero) h = absurd (h refl)
size-above (pos (suc n)) h = omega arith
size-above (negsuc n) h = omega arith

pub truncates_toward_zero : QuotientsTruncateTowardZero
truncates_toward_zero x y h =
    let above = size-above y h in
    let size : nat_abs (y *ℤ (divided x y)) ≡ nat_abs y * (nat_abs x / nat_abs y) = unsigned_abs-mul y (divided x y) ∙ ap (λ n. nat_abs y * n) (size-divided x y) in
    record {
      quotient = omega (arith, size, mul-div-le (nat_abs x) (nat_abs y));
      remainder = rw (left_over-is x y) (rem_below x y above);
    }
