-- What a walk over checks answers.
use Rattle.std.specs.Prelude.{◌≡◌, List, Result, Some, None, MatchResult}
use Rattle.spl_types.specs.declared.fault.CheckFault.{CheckFault}
use Rattle.spl_types.specs.declared.fault.CheckFault.TheVariants.{Broken, NoMemory}
use Rattle.spl_types.specs.Checks.{Check, first_broken}

-- the program keeps all of these
abbrev pub Kept : List Check → Type 0
Kept cs = first_broken cs ≡ None

-- a fault is the first of these that's broken, or memory was wanting
abbrev pub Faulted : List Check → CheckFault → Type 0
Faulted cs (Broken rule at) = first_broken cs ≡ Some (rule, at)
Faulted cs NoMemory = Unit {0}

-- all are kept, or the fault says which isn't
abbrev pub Answers : {X : Type 0} → Result X CheckFault → List Check → Type 0
Answers result cs = MatchResult result (λ _. Kept cs) (Faulted cs)

-- all are kept, and this holds of the value; or the fault says which isn't
abbrev pub AnswersWith : {X : Type 0} → Result X CheckFault → List Check → (X → Type 0) → Type 0
AnswersWith result cs P = MatchResult result (λ x. Kept cs × P x) (Faulted cs)
