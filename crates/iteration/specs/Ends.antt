-- The ascent of a graph ends within a number of rounds, and what it leaves is inductive.
use Rattle.std.specs.Prelude.{ℕ}
use Rattle.spl_core.specs.Graph.{Graph}
use Rattle.spl_core.specs.GraphFacts.{IsGraph}
use Rattle.equations.specs.Inductive.{Inductive}
use Rattle.rounds.specs.System.{IsSystem}
use Rattle.rounds.specs.Solved.{values_in}
use Rattle.rounds.specs.Ends.{AscentEnds, AreSolved}
use Rattle.iteration.specs.Solved.{system_of, ascent_of}

-- the equations of a graph are a system for the rounds, its order among it: what a point that is no cut point reads is a cut
-- point or stands before it
abbrev pub GraphsAreSystems : Type 0
GraphsAreSystems = (g : Graph) → IsGraph g → IsSystem (system_of g)

abbrev pub AscentsEnd : Type 0
AscentsEnd = (g : Graph) (delay : ℕ) → IsGraph g → AscentEnds (system_of g) delay

-- at each point F of what the ascent leaves is below it, entry by entry
abbrev pub AscentsAreInductive : Type 0
AscentsAreInductive = (g : Graph) (delay : ℕ) → IsGraph g → Inductive g (values_in (ascent_of g delay).cells)

-- the solution of any graph has a value for each point, over its point's dimensions
abbrev pub SolutionsAreSized : Type 0
SolutionsAreSized = (g : Graph) (delay descend : ℕ) → AreSolved (system_of g) delay descend
