-- The system of equations of a graph, and its solution: the ascent from Bottom, then the descent; and what is read at the points
-- in the end.
use Rattle.std.specs.Prelude.{ℕ, ◌+◌, ◌*◌, length}
use Rattle.oct_def.specs.Octagon.{Octagon, widen_value}
use Rattle.spl_core.specs.Graph.{Graph, dims_at}
use Rattle.call_graph.specs.Order.{order, is_cut}
use Rattle.equations.specs.Sources.{reads_at}
use Rattle.equations.specs.Equations.{equation}
use Rattle.rounds.specs.System.{System}
use Rattle.rounds.specs.Rounds.{Ascended}
use Rattle.rounds.specs.Solved.{ascent_of as ascent_in, rounds_of as rounds_in, stored_of as stored_at, read_of as read_at}

-- how often a widening changes a value over n variables at most: it leaves Bottom once, and then loses entries of the matrix
abbrev pub height_over : ℕ → ℕ
height_over n = (2 * n) * (2 * n) + 2

-- the forward equations over the points in order, with the widening of octagons at the cut points
abbrev pub system_of : Graph → System
system_of g = record {
  points = length g.owners;
  dims = dims_at g;
  cut = is_cut g;
  order = order g;
  reads = reads_at g;
  equation = equation g;
  widening = widen_value;
  height = λ (p : ℕ). height_over (dims_at g p);
}

-- the ascent: rounds from Bottom up to and including the first that changes nothing; and the number of its rounds
abbrev pub ascent_of : Graph → ℕ → Ascended
ascent_of g delay = ascent_in (system_of g) delay

abbrev pub rounds_of : Graph → ℕ → ℕ
rounds_of g delay = rounds_in (system_of g) delay

-- after the rounds of the descent the stored value of a point, and the value that is read there
abbrev pub stored_of : Graph → ℕ → ℕ → ℕ → Octagon
stored_of g delay descend = stored_at (system_of g) delay descend

abbrev pub read_of : Graph → ℕ → ℕ → ℕ → Octagon
read_of g delay descend = read_at (system_of g) delay descend
