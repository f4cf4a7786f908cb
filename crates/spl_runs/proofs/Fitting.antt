-- Integers within 128 bits, by their test and by the code's word.
use Rattle.std.proofs.Common.{◌≡◌, ℕ, ◌^◌, Bool, true, false, Option, None, Some, ℤ, pos, negsuc, ◌+ℤ◌, ◌-ℤ◌, ◌*ℤ◌, FitsSigned, to_z, of_z, arith, refl, ap, subst, ◌∙◌}
use Rattle.std.specs.Int.{w128}
use Rattle.std.specs.Option.{SomeIff}
use Rattle.std.proofs.lemmas.Int.{ints, to_z-of_z}
use Rattle.std.proofs.lemmas.Bool.{ltb-true, lt-ltb}
use Rattle.spl_runs.specs.Word.{fits}
use Rattle.spl_runs.specs.Reading.{Agrees, NextNumber, more_digits}

pub fits_of : (z : ℤ) → FitsSigned w128 z → fits z ≡ true
fits_of (pos n) h = lt-ltb n (2 ^ 127) h.sfits
fits_of (negsuc n) h = lt-ltb n (2 ^ 127) h.sfits

pub of_fits : (z : ℤ) → fits z ≡ true → FitsSigned w128 z
of_fits (pos n) h = record { sfits = ltb-true n (2 ^ 127) h }
of_fits (negsuc n) h = record { sfits = ltb-true n (2 ^ 127) h }

unless : (z : ℤ) (b : Bool) → fits z ≡ b → (FitsSigned w128 z → ⊥) → fits z ≡ false
unless z true e h = absurd (h (of_fits z e))
unless z false e h = e

pub unfit : (z : ℤ) → (FitsSigned w128 z → ⊥) → fits z ≡ false
unfit z h = unless z (fits z) refl h

-- where ten times a number doesn't fit, nor does this with a digit more
pub shifted_unfit : (minus : Bool) (number : ℤ) (digit : ℕ) → Agrees minus number → (FitsSigned w128 (number *ℤ pos 10) → ⊥) → fits (more_digits minus number digit) ≡ false
shifted_unfit true number digit a h = unfit ((number *ℤ pos 10) -ℤ pos digit) (λ f. h (omega (arith, ints)))
shifted_unfit false number digit a h = unfit ((number *ℤ pos 10) +ℤ pos digit) (λ f. h (omega (arith, ints)))

-- what the code's checked sums say
pub none_of : (minus : Bool) (number : ℤ) (digit : ℕ) (r : Option ℤ) → Agrees minus number → FitsSigned w128 number → r ≡ None
    → (FitsSigned w128 (to_z w128 (of_z w128 number) *ℤ pos 10) → ⊥) → NextNumber minus number digit r
none_of minus number digit None a f e h =
    let back : to_z w128 (of_z w128 number) ≡ number = to_z-of_z w128 number f in
    shifted_unfit minus number digit a (subst (λ (x : ℤ). FitsSigned w128 (x *ℤ pos 10) → ⊥) back h)
none_of minus number digit (Some x) a f e h = absurd (cc)

plain_less : (number : ℤ) (digit : ℕ) (r : Option ℤ) → SomeIff r (FitsSigned w128 ((number *ℤ pos 10) -ℤ pos digit)) ((number *ℤ pos 10) -ℤ pos digit) → NextNumber true number digit r
plain_less number digit None h = unfit ((number *ℤ pos 10) -ℤ pos digit) h
plain_less number digit (Some x) h = h.1

plain_more : (number : ℤ) (digit : ℕ) (r : Option ℤ) → SomeIff r (FitsSigned w128 ((number *ℤ pos 10) +ℤ pos digit)) ((number *ℤ pos 10) +ℤ pos digit) → NextNumber false number digit r
plain_more number digit None h = unfit ((number *ℤ pos 10) +ℤ pos digit) h
plain_more number digit (Some x) h = h.1

word_of : (x y : ℤ) → FitsSigned w128 y → x ≡ y → to_z w128 (of_z w128 x) ≡ y
word_of x y f e = ap (λ v. to_z w128 (of_z w128 v)) e ∙ to_z-of_z w128 y f

shifted_is : (number shifted : ℤ) → FitsSigned w128 number → FitsSigned w128 (to_z w128 (of_z w128 number) *ℤ pos 10) × (shifted ≡ to_z w128 (of_z w128 number) *ℤ pos 10) → to_z w128 (of_z w128 shifted) ≡ number *ℤ pos 10
shifted_is number shifted f h = word_of shifted (to_z w128 (of_z w128 number) *ℤ pos 10) h.0 h.1 ∙ ap (λ x. x *ℤ pos 10) (to_z-of_z w128 number f)

pub less_of : (number shifted d : ℤ) (digit : ℕ) (r : Option ℤ) → FitsSigned w128 number → FitsSigned w128 d → d ≡ pos digit
    → FitsSigned w128 (to_z w128 (of_z w128 number) *ℤ pos 10) × (shifted ≡ to_z w128 (of_z w128 number) *ℤ pos 10)
    → SomeIff r (FitsSigned w128 (to_z w128 (of_z w128 shifted) -ℤ to_z w128 (of_z w128 d))) (to_z w128 (of_z w128 shifted) -ℤ to_z w128 (of_z w128 d)) → NextNumber true number digit r
less_of number shifted d digit r f g e h s =
    let a : to_z w128 (of_z w128 shifted) ≡ number *ℤ pos 10 = shifted_is number shifted f h in
    let b : to_z w128 (of_z w128 d) ≡ pos digit = to_z-of_z w128 d g ∙ e in
    let P : ℤ → ℤ → Type 0 = λ x y. SomeIff r (FitsSigned w128 (x -ℤ y)) (x -ℤ y) in
    plain_less number digit r (subst (λ (y : ℤ). P (number *ℤ pos 10) y) b (subst (λ (x : ℤ). P x (to_z w128 (of_z w128 d))) a s))

pub more_of : (number shifted d : ℤ) (digit : ℕ) (r : Option ℤ) → FitsSigned w128 number → FitsSigned w128 d → d ≡ pos digit
    → FitsSigned w128 (to_z w128 (of_z w128 number) *ℤ pos 10) × (shifted ≡ to_z w128 (of_z w128 number) *ℤ pos 10)
    → SomeIff r (FitsSigned w128 (to_z w128 (of_z w128 shifted) +ℤ to_z w128 (of_z w128 d))) (to_z w128 (of_z w128 shifted) +ℤ to_z w128 (of_z w128 d)) → NextNumber false number digit r
more_of number shifted d digit r f g e h s =
    let a : to_z w128 (of_z w128 shifted) ≡ number *ℤ pos 10 = shifted_is number shifted f h in
    let b : to_z w128 (of_z w128 d) ≡ pos digit = to_z-of_z w128 d g ∙ e in
    let P : ℤ → ℤ → Type 0 = λ x y. SomeIff r (FitsSigned w128 (x +ℤ y)) (x +ℤ y) in
    plain_more number digit r (subst (λ (y : ℤ). P (number *ℤ pos 10) y) b (subst (λ (x : ℤ). P x (to_z w128 (of_z w128 d))) a s))

-- a number that is passed is itself
pub next_plain : (minus : Bool) (number : ℤ) (digit : ℕ) (r : Option ℤ) → FitsSigned w128 number → NextNumber minus (to_z w128 (of_z w128 number)) digit r → NextNumber minus number digit r
next_plain minus number digit r f h = subst (λ (x : ℤ). NextNumber minus x digit r) (to_z-of_z w128 number f) h
