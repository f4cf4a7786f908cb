-- A fixed number of rounds is enough for the ascent of every system, since the rounds of each can be counted.
use Rattle.std.proofs.Common.{◌≡◌, ◌⊎◌, inl, inr, ℕ, zero, suc, ◌+◌, ◌-◌, ◌≤◌, Bool, true, false, cond, List, refl, sym, ap, ◌∙◌, arith}
use Rattle.std.proofs.lemmas.Bool.{false≢true}
use Rattle.rounds.specs.System.{System, IsSystem, most_delay, most_rounds}
use Rattle.rounds.specs.Rounds.{Cell, visits, changing, ascended_in, ascent}
use Rattle.rounds.specs.Solved.{rising, start, ascent_of}
use Rattle.rounds.specs.Ends.{EndsIn}
use Rattle.rounds.proofs.Solved.{ascent_ends}

-- more fuel than the ascent needs gives the same
ascent_more : (next : ℕ → List Cell → Cell) (order : List ℕ) (fuel more done : ℕ) (cells : List Cell) → EndsIn next order fuel cells → ascent next order (fuel + more) done cells ≡ ascent next order fuel done cells
unfolding ascent
ascent_more next order zero more done cells ends = absurd ends
ascent_more next order (suc fuel) more done cells ends =
    ap (λ (n : ℕ). ascent next order n done cells) (shift fuel more)
    ∙ by (changing next order cells) refl ends (λ e. ascent_more next order fuel more (done + 1) (visits next order cells) e)
  where
    shift : (a b : ℕ) → suc a + b ≡ suc (a + b)
    shift a b = omega arith

    by : (t : Bool) → changing next order cells ≡ t → (changing next order cells ≡ false) ⊎ EndsIn next order fuel (visits next order cells)
        → (EndsIn next order fuel (visits next order cells) → ascent next order (fuel + more) (done + 1) (visits next order cells) ≡ ascent next order fuel (done + 1) (visits next order cells))
        → cond t (ascent next order (fuel + more) (done + 1) (visits next order cells)) (ascended_in (visits next order cells) (done + 1)) ≡ cond t (ascent next order fuel (done + 1) (visits next order cells)) (ascended_in (visits next order cells) (done + 1))
    by true t (inl e) rest = absurd (false≢true (sym e ∙ t))
    by true t (inr e) rest = rest e
    by false t end rest = refl

pub fuel_is_enough : (s : System) (delay : ℕ) → IsSystem s → delay ≤ most_delay → ascent (rising s) s.order 18446744073709551615 0 (start s delay) ≡ ascent_of s delay
fuel_is_enough s delay is small =
    ap (λ (n : ℕ). ascent (rising s) s.order n 0 (start s delay)) (sum_back (most_rounds s delay) 18446744073709551615 (omega (arith, is.counted delay small)))
    ∙ ascent_more (rising s) s.order (most_rounds s delay) (18446744073709551615 - most_rounds s delay) 0 (start s delay) (ascent_ends s delay is).ends
  where
    sum_back : (a b : ℕ) → a ≤ b → b ≡ a + (b - a)
    sum_back a b h = omega arith
