-- A system of equations: each point has a value, and its equation says which, by the values that are read at other points.
use Rattle.std.specs.Prelude.{◌≡◌, ◌≢◌, ℕ, ◌+◌, ◌*◌, ◌^◌, ◌<◌, ◌≤◌, ◌⊎◌, Bool, true, false, List, [], ◌∷◌, length, slice_index_or, if◌then◌else◌}
use Rattle.std.specs.List.{All, AllPairs, Contains, sum_by}
use Rattle.oct_def.specs.Limits.{most_dims}
use Rattle.oct_def.specs.Octagon.{Octagon, IsOctagon, bottom_value}
use Rattle.rounds.specs.Widening.{IsWidening}

-- how many points there are and over how many variables their values are; the cut points, which are widened; the points in the
-- order of a round; which points each point reads; F, the value of a point by the values as they are read; the widening; and
-- how often at most it changes a cut point
pub record System : Type 0 where
  pub points : ℕ
  pub dims : ℕ → ℕ
  pub cut : ℕ → Bool
  pub order : List ℕ
  pub reads : ℕ → List ℕ
  pub equation : (ℕ → Octagon) → ℕ → Octagon
  pub widening : Octagon → Octagon → Octagon
  pub height : ℕ → ℕ

-- ---- the equations

-- each value that is read has its point's number of variables
abbrev pub AreSized : System → (ℕ → Octagon) → Type 0
AreSized s r = (q : ℕ) → q < s.points → (r q).dims ≡ s.dims q

-- F and the widening keep this
pub record KeepsSizes (s : System) : Type 0 where
  pub dims : (r : ℕ → Octagon) (p : ℕ) → p < s.points → AreSized s r → (s.equation r p).dims ≡ s.dims p
  pub widened : (x v : Octagon) → (s.widening x v).dims ≡ x.dims

-- F keeps values values, and knows nothing but what it reads
pub record IsEquation (s : System) : Type 0 where
  pub sizes : KeepsSizes s
  pub octagons : (r : ℕ → Octagon) (p : ℕ) → p < s.points → AreSized s r → ((q : ℕ) → q < s.points → IsOctagon (r q)) → IsOctagon (s.equation r p)
  pub alike : (r t : ℕ → Octagon) (p : ℕ) → p < s.points → All (λ (i : ℕ). r i ≡ t i) (s.reads p) → s.equation r p ≡ s.equation t p

-- ---- the order

-- before each visit, what a point that is no cut point reads is a cut point or was visited
abbrev pub Layered : System → List ℕ → List ℕ → Type 0
Layered s done [] = Unit {0}
Layered s done (p ∷ rest) = (s.cut p ≡ false → All (λ (i : ℕ). (s.cut i ≡ true) ⊎ Contains done i) (s.reads p)) × Layered s (p ∷ done) rest

-- each point once, and what a point that is no cut point reads is a cut point or stands before it
pub record IsOrdered (s : System) : Type 0 where
  pub distinct : AllPairs (λ p q. p ≢ q) s.order
  pub all : (p : ℕ) → p < s.points → Contains s.order p
  pub only : All (λ p. p < s.points) s.order
  pub layered : Layered s [] s.order

-- ---- the bound on the number of rounds

-- what a point adds to it
abbrev pub share : System → ℕ → ℕ → ℕ
share s delay p = if s.cut p then delay + s.height p else 0

-- C: the sum of delay and height over the cut points
unfoldable pub capacity : System → ℕ → ℕ
capacity s delay = sum_by (share s delay) s.order

abbrev pub most_rounds : System → ℕ → ℕ
most_rounds s delay = 2 * capacity s delay + 2

-- ---- a system that the rounds solve

-- the greatest delay
abbrev pub most_delay : ℕ
most_delay = 1000

-- the widening is one, whose rank at Bottom is at most the height of a cut point; and the rounds can be counted in 64 bits
pub record IsSystem (s : System) : Type 0 where
  pub small : (p : ℕ) → p < s.points → s.dims p ≤ most_dims
  pub equation : IsEquation s
  pub ordered : IsOrdered s
  pub widening : IsWidening s.widening
  pub heights : (p : ℕ) → p < s.points → s.cut p ≡ true → widening.rank (bottom_value (s.dims p)) ≤ s.height p
  pub counted : (delay : ℕ) → delay ≤ most_delay → most_rounds s delay < 2 ^ 64

-- ---- what a caller tells of a point

-- every point that reads p is among the points
pub record AreReaders (s : System) (p : ℕ) (found : List ℕ) : Type 0 where
  pub only : All (λ q. q < s.points) found
  pub all : (q : ℕ) → q < s.points → Contains (s.reads q) p → Contains found q

-- where Bottom is read everywhere, p is Bottom
abbrev pub StaysBottom : System → ℕ → Type 0
StaysBottom s p = (r : ℕ → Octagon) → ((q : ℕ) → q < s.points → r q ≡ bottom_value (s.dims q)) → s.equation r p ≡ bottom_value (s.dims p)

-- ---- values in a list

-- the value of a point, where the values stand in a list
abbrev pub value_at : List Octagon → ℕ → Octagon
value_at values p = slice_index_or values p (bottom_value 0)

-- one value for each point, with its number of variables
pub record AreRead (s : System) (values : List Octagon) : Type 0 where
  pub points : length values ≡ s.points
  pub sized : AreSized s (value_at values)
