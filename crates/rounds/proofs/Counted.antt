-- Where there are few points, and none is high, the rounds can be counted.
use Rattle.std.proofs.Common.{ℕ, ◌+◌, ◌-◌, ◌^◌, ◌<◌, ◌≤◌, Bool, true, false, cond, eqb-true, length, get_or, subst, arith}
use Rattle.std.specs.List.{Contains}
use Rattle.std.proofs.lemmas.List.Sums.{sum_by-le}
use Rattle.std.proofs.lemmas.Bool.Decides.{Decides-eqb}
use Rattle.std.proofs.lemmas.Map.Steps.{length-le_from_distinct_below}
use Rattle.std.proofs.lemmas.Map.Made.{IsDistinct-from_AllPairs}
use Rattle.std.proofs.lemmas.Map.Views.{Contains-from_any}
use Rattle.rounds.specs.System.{System, IsOrdered, share, capacity, most_delay, most_rounds}

-- the order has no more points than the system
order_few : (s : System) → IsOrdered s → length s.order ≤ s.points
order_few s ordered =
    length-le_from_distinct_below s.order s.points (IsDistinct-from_AllPairs Decides-eqb s.order ordered.distinct)
    (λ q h. within q (Contains-from_any eqb-true q s.order h))
  where
    within : (q : ℕ) → Contains s.order q → q < s.points
    within q (k, lt, e) = subst (λ (z : ℕ). z < s.points) e (ordered.only k q lt)

share_within : (s : System) (delay p : ℕ) → delay ≤ most_delay → s.height p ≤ 2 ^ 51 - 1024 → share s delay p ≤ 2 ^ 51 - 24
share_within s delay p small low = by (s.cut p)
  where
    by : (b : Bool) → cond b (delay + s.height p) 0 ≤ 2 ^ 51 - 24
    by true = omega (arith, small, low)
    by false = omega arith

-- 4096 points are few, and a height below 2^51 - 1024 isn't high
pub counts_fit : (s : System) (delay : ℕ) → IsOrdered s → s.points ≤ 4096 → ((p : ℕ) → p < s.points → s.height p ≤ 2 ^ 51 - 1024) → delay ≤ most_delay → most_rounds s delay < 2 ^ 64
unfolding capacity
counts_fit s delay ordered few low small =
    let sum = sum_by-le (share s delay) (2 ^ 51 - 24) s.order (λ k d lt. share_within s delay (get_or s.order k d) small (low (get_or s.order k d) (ordered.only k d lt))) in
    omega (arith, sum, order_few s ordered, few)
