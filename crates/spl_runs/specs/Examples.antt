-- Worked choices and replays.
use Rattle.std.specs.Prelude.{◌≡◌, ℕ, ◌^◌, false, true, List, [], ◌∷◌, ◌++◌, codes, ℤ, pos, negsuc}
use Rattle.spl_core.specs.declared.parts.Cmp.TheVariants as cmp
use Rattle.spl_core.specs.Expression.{Number, Variable, Add}
use Rattle.spl_core.specs.Condition.{Condition, Compare}
use Rattle.spl_core.specs.Graph.{skips, assigns, havocs, tests, starts, Graph, graph_of}
use Rattle.spl_core.specs.Examples.{incremented, squared}
use Rattle.spl_runs.specs.Runs.{frame}
use Rattle.spl_runs.specs.Choices.{Choice, Given}
use Rattle.spl_runs.specs.ChoicesText.{IsChoices, wide_at}
use Rattle.spl_runs.specs.Replay.{Top, ran, not_a_run, too_wide, replayed}

abbrev pub choice : ℕ → List ℤ → Choice
choice edge values = record { edge = pos edge; values = values }

abbrev pub top : ℕ → ℕ → List ℤ → Top
top point depth values = record { point = point; depth = depth; values = values }

-- main begins with a = 5 and b = 0, and inc with 9 in its result and in its working copy
abbrev pub steps : List Choice
steps = choice 0 [] ∷ choice 0 (pos 9 ∷ pos 9 ∷ []) ∷ choice 0 [] ∷ choice 0 [] ∷ choice 0 [] ∷ choice 0 [] ∷ []

abbrev pub tops : List Top
tops = top 4 1 (pos 5 ∷ pos 0 ∷ []) ∷ top 5 1 (pos 5 ∷ pos 0 ∷ []) ∷ top 0 2 (pos 5 ∷ pos 9 ∷ pos 9 ∷ [])
    ∷ top 1 2 (pos 5 ∷ pos 9 ∷ pos 5 ∷ []) ∷ top 2 2 (pos 5 ∷ pos 9 ∷ pos 6 ∷ []) ∷ top 3 2 (pos 5 ∷ pos 6 ∷ pos 6 ∷ [])
    ∷ top 6 1 (pos 5 ∷ pos 6 ∷ []) ∷ []

abbrev pub called : Given
called = record { start = pos 5 ∷ pos 0 ∷ []; steps = steps }

-- one step more, at main's exit
abbrev pub past_exit : Given
past_exit = record { start = pos 5 ∷ pos 0 ∷ []; steps = steps ++ choice 0 [] ∷ [] }

-- for `var x:int; begin x = x * x; end`
abbrev pub great : Given
great = record { start = pos (2 ^ 64) ∷ []; steps = choice 0 [] ∷ choice 0 [] ∷ [] }

-- the graph of `var x:int; begin x = random; if x < 3 then x = x + 1; endif; end`
abbrev pub is_small : Condition
is_small = Compare cmp.Lt (Variable 0) (Number 3)

abbrev pub guessing : Graph
guessing = record {
  procs = record { inputs = 0; outputs = 0; dims = 1; entry = 0; exit = 5 } ∷ [];
  owners = 0 ∷ 0 ∷ 0 ∷ 0 ∷ 0 ∷ 0 ∷ [];
  arcs = record { source = 0; target = 1; move = starts [] }
      ∷ record { source = 1; target = 2; move = havocs 0 }
      ∷ record { source = 2; target = 3; move = tests is_small true }
      ∷ record { source = 2; target = 5; move = tests is_small false }
      ∷ record { source = 4; target = 5; move = skips }
      ∷ record { source = 3; target = 4; move = assigns 0 (Add (Variable 0) (Number 1)) } ∷ [];
}

-- x begins with 7 and takes y, and then come these steps
abbrev pub guess : ℤ → List Choice → Given
guess y steps = record { start = pos 7 ∷ []; steps = choice 0 [] ∷ choice 0 (y ∷ []) ∷ steps }

abbrev pub guessed : ℤ → List Top
guessed y = top 0 1 (pos 7 ∷ []) ∷ top 1 1 (pos 7 ∷ []) ∷ top 2 1 (y ∷ []) ∷ []

-- the text of `5 -07`, an LF and `0  9`
abbrev pub text : List ℕ
text = codes "5 -07" ++ 10 ∷ codes "0  9"

abbrev pub of_text : Given
of_text = record { start = pos 5 ∷ negsuc 6 ∷ []; steps = choice 0 (pos 9 ∷ []) ∷ [] }

pub record RunExamples : Type 0 where
  pub calls : replayed (graph_of incremented) called ≡ ran tops (frame 6 (pos 5 ∷ pos 6 ∷ []) ∷ [])
  pub ends : replayed (graph_of incremented) past_exit ≡ not_a_run 7
  pub passes : replayed (graph_of squared) great ≡ too_wide 2
  -- edge 0 of a test is that of true, and an edge that the condition doesn't allow, or that isn't there, is no step
  pub over_true : replayed guessing (guess (pos 2) (choice 0 [] ∷ choice 0 [] ∷ choice 0 [] ∷ []))
      ≡ ran (guessed (pos 2) ++ top 3 1 (pos 2 ∷ []) ∷ top 4 1 (pos 3 ∷ []) ∷ top 5 1 (pos 3 ∷ []) ∷ []) (frame 5 (pos 3 ∷ []) ∷ [])
  pub over_false : replayed guessing (guess (pos 3) (choice 1 [] ∷ [])) ≡ ran (guessed (pos 3) ++ top 5 1 (pos 3 ∷ []) ∷ []) (frame 5 (pos 3 ∷ []) ∷ [])
  pub not_true : replayed guessing (guess (pos 3) (choice 0 [] ∷ [])) ≡ not_a_run 3
  pub not_false : replayed guessing (guess (pos 2) (choice 1 [] ∷ [])) ≡ not_a_run 3
  pub no_edge : replayed guessing (guess (pos 2) (choice 2 [] ∷ [])) ≡ not_a_run 3
  -- a random assignment takes one value, and main's entry one for each dimension
  pub no_value : replayed guessing (record { start = pos 7 ∷ []; steps = choice 0 [] ∷ choice 0 [] ∷ [] }) ≡ not_a_run 2
  pub no_start : replayed guessing (record { start = []; steps = [] }) ≡ not_a_run 0
  pub reads : IsChoices text of_text
  -- 2^127 is past 128 bits and its negative isn't
  pub high : wide_at (codes "0 170141183460469231731687303715884105728") 2 ≡ true
  pub low : wide_at (codes "0 -170141183460469231731687303715884105728") 2 ≡ false
