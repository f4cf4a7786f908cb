-- What is answered of an accepted program by a text of choices: the run that they give, or what stands against one.
use Rattle.std.specs.Prelude.{◌≡◌, ◌==◌, ℕ, Bool, List, [], ◌∷◌, if◌then◌else◌}
use Rattle.std.specs.List.{list_any}
use Rattle.spl_text.specs.declared.place.Place.{Place}
use Rattle.spl_text.specs.Place.{line_of, column_of}
use Rattle.spl_tree.specs.Program.{Program}
use Rattle.control_points.specs.declared.built.Fail.{Fail}
use Rattle.control_points.specs.CoreOf.{core_of, fails_of}
use Rattle.spl_runs.specs.Choices.{Given}
use Rattle.spl_runs.specs.ChoicesText.{IsChoices, FaultAt}
use Rattle.spl_runs.specs.Laws.{IsRunOf}
use Rattle.spl_runs.specs.Replay.{Top, not_a_run, ran, replayed, too_wide}
use Rattle.spl_runs.specs.Runs.{Stack}
use Rattle.run_text.specs.Text.{run_text}
use Rattle.interproc_top.specs.declared.cause.Cause.{Cause}
use Rattle.interproc_top.specs.declared.cause.Cause.TheVariants as cause
use Rattle.interproc_top.specs.declared.cause.Status.{Status}
use Rattle.interproc_top.specs.declared.cause.Status.TheVariants as status

-- the point is that of a fail
abbrev pub is_fail : Program → ℕ → Bool
is_fail p point = list_any (λ (fail : Fail). fail.point == point) (fails_of p)

-- the point of the last top frame; 0 where there is none
abbrev pub last_point : List Top → ℕ
last_point [] = 0
last_point (top ∷ []) = top.point
last_point (top ∷ next ∷ tops) = last_point (next ∷ tops)

-- Open for a run that ends at a fail
abbrev pub status_of_run : Program → List Top → Status
status_of_run p tops = if is_fail p (last_point tops) then status.Open else status.Proved

-- the lines of the run of the program with these choices, and the status with them
pub record IsRunText (p : Program) (choices text : List ℕ) (answer : Status) : Type 0 where
  pub given : Given
  pub spelled : IsChoices choices given
  pub tops : List Top
  pub run : IsRunOf (core_of p) given tops
  pub stack : Stack
  pub replays : replayed (core_of p) given ≡ ran tops stack
  pub written : text ≡ run_text tops
  pub decided : answer ≡ status_of_run p tops

-- the text is no choices: this is the place of the first byte that can't stand where it stands, of a number past 128 bits,
-- or of a later line without a number
pub record AreBadAt (choices : List ℕ) (place : Place) : Type 0 where
  pub offset : ℕ
  pub fault : FaultAt choices offset
  pub line : place.line ≡ line_of choices offset
  pub column : place.column ≡ column_of choices offset

-- the text is choices, and the step with this number is the first that is none of a run
pub record LeavesRuns (p : Program) (choices : List ℕ) (step : ℕ) : Type 0 where
  pub given : Given
  pub spelled : IsChoices choices given
  pub first : replayed (core_of p) given ≡ not_a_run step

-- the text is choices, and at the step with this number a value first passes 128 bits
pub record PassesAt (p : Program) (choices : List ℕ) (step : ℕ) : Type 0 where
  pub given : Given
  pub spelled : IsChoices choices given
  pub first : replayed (core_of p) given ≡ too_wide step

-- what stands against a run, by its cause; want of memory says nothing
abbrev pub Spoils : Program → List ℕ → Cause → Type 0
Spoils p choices cause.Usage = ⊥
Spoils p choices cause.CannotOpen = ⊥
Spoils p choices cause.ReadFault = ⊥
Spoils p choices cause.TooLong = ⊥
Spoils p choices (cause.Broken rule place) = ⊥
Spoils p choices (cause.BadChoices place) = AreBadAt choices place
Spoils p choices (cause.NotARun step) = LeavesRuns p choices step
Spoils p choices (cause.Wide step) = PassesAt p choices step
Spoils p choices cause.WriteFault = ⊥
Spoils p choices cause.NoMemory = Unit {0}
