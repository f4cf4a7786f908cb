-- Words and the bounds that they stand for.
use Rattle.std.proofs.Common.{◌≡◌, ◌≢◌, inl, inr, Bool, true, false, cond, Some, None, refl, sym, ap, ◌∙◌, subst, arith}
use Rattle.std.specs.Prelude.{ℤ, ◌+ℤ◌}
use Rattle.std.specs.Ordering.{int_eq}
use Rattle.std.proofs.lemmas.Int.{ints}
use Rattle.std.proofs.lemmas.Bool.Decides.{Decides-int_eq}
use Rattle.oct_def.specs.Bound.{Bound, clamp, plus, clamped, InRange, none_word, bound_of, word_of, IsWord}

-- every integer is the word of the bound that it stands for
pub word_of-bound_of : (w : ℤ) → word_of (bound_of w) ≡ w
word_of-bound_of w = by (int_eq w none_word) refl
  where
    by : (b : Bool) → int_eq w none_word ≡ b → word_of (cond b None (Some w)) ≡ w
    by true e = sym ((Decides-int_eq w none_word).0 e)
    by false e = refl

pub bound_of-other : (w : ℤ) → w ≢ none_word → bound_of w ≡ Some w
bound_of-other w h = by (int_eq w none_word) refl
  where
    by : (b : Bool) → int_eq w none_word ≡ b → cond b None (Some w) ≡ Some w
    by true e = absurd (h ((Decides-int_eq w none_word).0 e))
    by false e = refl

-- a bound between the limits is the one that its word stands for
pub bound_of-word_of : (b : Bound) → InRange b → bound_of (word_of b) ≡ b
bound_of-word_of None h = refl
bound_of-word_of (Some x) h = bound_of-other x (λ e. let k = h.1 in omega (arith, ints))

pub same_word : (v w : ℤ) → bound_of v ≡ bound_of w → v ≡ w
same_word v w e = sym (word_of-bound_of v) ∙ ap word_of e ∙ word_of-bound_of w

-- a bound between the limits has a word, and a word's bound is between the limits
pub is_word : (b : Bound) → InRange b → IsWord (word_of b)
is_word None h = inl refl
is_word (Some x) h = inr h

pub word-in_range : (w : ℤ) → InRange (bound_of w) → IsWord w
word-in_range w h = subst IsWord (word_of-bound_of w) (is_word (bound_of w) h)

pub in_range-word : (w : ℤ) → IsWord w → InRange (bound_of w)
in_range-word w (inl e) = subst (λ v. InRange (bound_of v)) (sym e) tt
in_range-word w (inr h) = subst InRange (sym (bound_of-other w (λ e. let k = h.1 in omega (arith, ints)))) h

-- the clamped sum of three words that aren't none
pub sum_of_three : (a b c total r : ℤ) → a ≢ none_word → b ≢ none_word → c ≢ none_word → bound_of r ≡ clamp total → total ≡ (a +ℤ b) +ℤ c → bound_of r ≡ clamped (plus (plus (bound_of a) (bound_of b)) (bound_of c))
sum_of_three a b c total r na nb nc h e =
    h ∙ ap clamp e ∙ sym (rw (bound_of-other a na, bound_of-other b nb, bound_of-other c nc) refl)
