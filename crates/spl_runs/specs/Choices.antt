-- The choices of a run as contracts see them.
use Rattle.std.specs.Prelude.{List, map, ℤ}
use Rattle.spl_runs.specs.declared.choices.Step.{Step}
use Rattle.spl_runs.specs.declared.choices.Choices.{Choices}

-- one step: the number of the edge among the edges out of the top frame's point, and the values that the step takes in
pub record Choice : Type 0 where
  pub edge : ℤ
  pub values : List ℤ

-- main's values at its entry, and the steps in order
pub record Given : Type 0 where
  pub start : List ℤ
  pub steps : List Choice

abbrev pub choice_of : Step → Choice
choice_of s = record { edge = s.edge; values = s.values.items }

abbrev pub given_of : Choices → Given
given_of c = record { start = c.start.items; steps = map choice_of c.steps.items }
