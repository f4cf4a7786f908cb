-- The heights at the start are within the bound, so the ascent from Bottom ends.
use Rattle.std.proofs.Common.{◌≡◌, ℕ, ◌+◌, ◌≤◌, Bool, true, false, cond, get_or, refl, sym, subst, arith}
use Rattle.std.specs.List.{All}
use Rattle.oct_def.specs.Octagon.{IsOctagon, bottom_value}
use Rattle.rounds.specs.System.{System, IsSystem, share, capacity, most_rounds}
use Rattle.rounds.specs.Rounds.{Cell, cell_at, changing}
use Rattle.rounds.specs.Solved.{start, rising, ascent_of, rounds_of}
use Rattle.rounds.specs.Ends.{EndsIn, AreGood}
use Rattle.rounds.proofs.Sums.{sum-most}
use Rattle.rounds.proofs.Heights.{height, height_at, total}
use Rattle.rounds.proofs.Ends.{ends-in, ascent-quiet}
use Rattle.rounds.proofs.Sized.{start-at, sized-start}

pub start-good : (s : System) (delay : ℕ) → AreGood s (start s delay)
unfolding bottom_value
start-good s delay = record {
  sized = sized-start s delay;
  octagons = λ p lt. subst (λ (c : Cell). IsOctagon c.value) (sym (start-at s delay p lt)) tt;
}

start-total : (s : System) (delay : ℕ) (is : IsSystem s) → total is.widening.rank s.cut s.order (start s delay) ≤ capacity s delay
unfolding total capacity height
start-total s delay is = sum-most (height_at is.widening.rank s.cut (start s delay)) (share s delay) s.order here
  where
    here : All (λ p. height_at is.widening.rank s.cut (start s delay) p ≤ share s delay p) s.order
    here k d lt = by (s.cut (get_or s.order k d)) refl
      where
        by : (b : Bool) → s.cut (get_or s.order k d) ≡ b → cond b (height is.widening.rank (cell_at (start s delay) (get_or s.order k d))) 0 ≤ cond b (delay + s.height (get_or s.order k d)) 0
        by true cut =
            let inside = is.ordered.only k d lt in
            let most = is.heights (get_or s.order k d) inside cut in
            subst (λ (c : Cell). height is.widening.rank c ≤ delay + s.height (get_or s.order k d)) (sym (start-at s delay (get_or s.order k d) inside)) (omega (arith, most))
        by false cut = omega arith

-- the ascent ends within the bound
pub record Ended (s : System) (delay : ℕ) : Type 0 where
  pub ends : EndsIn (rising s) s.order (most_rounds s delay) (start s delay)
  pub quiet : changing (rising s) s.order (ascent_of s delay).cells ≡ false
  pub rounds : rounds_of s delay ≤ most_rounds s delay

pub ended : (s : System) (delay : ℕ) → IsSystem s → Ended s delay
ended s delay is =
    let e = ends-in s is (capacity s delay) (most_rounds s delay) (start s delay) (start-good s delay) (start-total s delay is) (omega arith) in
    let q = ascent-quiet s (most_rounds s delay) 0 (start s delay) e in
    record { ends = e; quiet = q.0; rounds = omega (arith, q.1) }
