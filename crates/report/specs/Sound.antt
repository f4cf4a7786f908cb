-- What is listed of a value holds of each state that meets it.
use Rattle.std.specs.Prelude.{Bool, List, [], ◌∷◌, None, Some}
use Rattle.oct_def.specs.Octagon.{Octagon, MeetsOctagon}
use Rattle.spl_core.specs.Expression.{State}
use Rattle.report.specs.Constraint.{Satisfies}
use Rattle.report.specs.Listed.{Note, note_of}
use Rattle.report.specs.declared.constraint.Constraint.{Constraint}

-- a state satisfies each of some constraints
abbrev pub SatisfiesAll : State → List Constraint → Type 0
SatisfiesAll s [] = Unit {0}
SatisfiesAll s (c ∷ cs) = Satisfies s c × SatisfiesAll s cs

-- what is said at a point holds of a state there; no state is where Bottom is said
abbrev pub IsTrueOf : Note → State → Type 0
IsTrueOf None s = ⊥
IsTrueOf (Some constraints) s = SatisfiesAll s constraints

-- a state that meets a value satisfies each constraint that is listed of it
abbrev pub ListingIsSound : Type 0
ListingIsSound = (full : Bool) (v : Octagon) (s : State) → MeetsOctagon s v → IsTrueOf (note_of full v) s
