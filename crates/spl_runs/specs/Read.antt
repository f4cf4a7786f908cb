-- What reading a text of choices answers.
use Rattle.std.specs.Prelude.{ℕ, List, Result, Ok, Err}
use Rattle.spl_runs.specs.declared.choices.Choices.{Choices}
use Rattle.spl_runs.specs.declared.read.ChoiceFault.{ChoiceFault}
use Rattle.spl_runs.specs.declared.read.ChoiceFault.TheVariants as fault
use Rattle.spl_runs.specs.Choices.{given_of}
use Rattle.spl_runs.specs.ChoicesText.{IsChoices, FaultAt}

-- the choices that the text spells; or the place of its first fault; or nothing, for want of memory
abbrev pub Answers : List ℕ → Result Choices ChoiceFault → Type 0
Answers bytes (Ok choices) = IsChoices bytes (given_of choices)
Answers bytes (Err (fault.BadChoices at)) = FaultAt bytes at
Answers bytes (Err fault.NoMemory) = Unit {0}
