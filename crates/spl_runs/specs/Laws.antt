-- Laws of choices and replays.
use Rattle.std.specs.Prelude.{◌≡◌, ◌⊎◌, ℕ, List, [], ◌∷◌, map}
use Rattle.spl_core.specs.Parts.{Parts}
use Rattle.spl_core.specs.Facts.{IsCore}
use Rattle.spl_core.specs.Graph.{Graph, graph_of}
use Rattle.spl_runs.specs.Runs.{Stack, Run, first_of, stacks_of, last_of}
use Rattle.spl_runs.specs.Choices.{Choice, Given}
use Rattle.spl_runs.specs.ChoicesText.{IsChoices, FaultAt}
use Rattle.spl_runs.specs.Replay.{moved, step_of, Top, top_of, ran, replayed}

-- each next stack is the one that a step chooses, step by step
abbrev pub Chosen : Graph → Stack → List Stack → List Choice → Type 0
Chosen g first [] [] = Unit {0}
Chosen g first [] (s ∷ steps) = ⊥
Chosen g first (next ∷ stacks) [] = ⊥
Chosen g first (next ∷ stacks) (s ∷ steps) = (step_of g first s ≡ moved next) × Chosen g next stacks steps

-- a run with the given start and steps, and these top frames
pub record IsReplay (g : Graph) (given : Given) (tops : List Top) (stack : Stack) : Type 0 where
  pub run : Run g
  pub start : run.start ≡ given.start
  pub steps : Chosen g (first_of g run) run.stacks given.steps
  pub seen : map top_of (stacks_of g run) ≡ tops
  pub last : last_of (first_of g run) run.stacks ≡ stack

-- these are the top frames of a run with the given start and steps
abbrev pub IsRunOf : Graph → Given → List Top → Type 0
IsRunOf g given tops = (stack : Stack) × IsReplay g given tops stack

-- what is replayed in the graph of a core is a run
abbrev pub ReplaysAreRuns : Type 0
ReplaysAreRuns = (c : Parts) (given : Given) (tops : List Top) (stack : Stack) → IsCore c → replayed (graph_of c) given ≡ ran tops stack → IsReplay (graph_of c) given tops stack

-- a text spells the choices of one run at most
abbrev pub ChoicesAreOne : Type 0
ChoicesAreOne = (bytes : List ℕ) (g h : Given) → IsChoices bytes g → IsChoices bytes h → g ≡ h

-- a text has choices or a first fault
abbrev pub HasOneOrOther : Type 0
HasOneOrOther = (bytes : List ℕ) → ((g : Given) × IsChoices bytes g) ⊎ ((at : ℕ) × FaultAt bytes at)

-- and not both, and one first fault at most
abbrev pub HasNotBoth : Type 0
HasNotBoth = (bytes : List ℕ) (g : Given) (at : ℕ) → IsChoices bytes g → FaultAt bytes at → ⊥

abbrev pub FaultIsOne : Type 0
FaultIsOne = (bytes : List ℕ) (m n : ℕ) → FaultAt bytes m → FaultAt bytes n → m ≡ n
