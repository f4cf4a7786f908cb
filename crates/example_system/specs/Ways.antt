-- Which of five points are reached: equations along the ways between them.
use Rattle.std.specs.Prelude.{ℕ, zero, suc, Bool, nat_eq, List, [], ◌∷◌}
use Rattle.oct_def.specs.Octagon.{Octagon, top_value, join_value, widen_value}
use Rattle.rounds.specs.System.{System}

-- F: everything at the start, 0; the points from 1 to 4 form a cycle, which the start enters at 2, 3 and 4
unfoldable pub reached : (ℕ → Octagon) → ℕ → Octagon
reached r zero = top_value 1
reached r (suc zero) = r 4
reached r (suc (suc p)) = join_value (r 0) (r (suc p))

-- the points that F reads
abbrev pub read_by : ℕ → List ℕ
read_by zero = []
read_by (suc zero) = 4 ∷ []
read_by (suc (suc p)) = 0 ∷ suc p ∷ []

-- the cycle is cut at 4
abbrev pub is_last : ℕ → Bool
is_last p = nat_eq p 4

-- over one variable, so that a widening changes a value at most six times
abbrev pub ways : System
ways = record {
  points = 5;
  dims = λ (p : ℕ). 1;
  cut = is_last;
  order = 0 ∷ 1 ∷ 2 ∷ 3 ∷ 4 ∷ [];
  reads = read_by;
  equation = reached;
  widening = widen_value;
  height = λ (p : ℕ). 6;
}
