-- What a call of the program did, by its end.
use Rattle.std.specs.Prelude.{◌≡◌, ◌⊎◌, ℕ, Bool, ◌<◌, ◌≤◌, List, Option, Some, None, length, Result, Ok, Err}
use Rattle.std.specs.FinMap as map
use Rattle.std.specs.Io.KnownBytes.{Keeps, Appends}
use Rattle.spl_io.specs.Counts.{Rose}
use Rattle.spl_io.specs.Sink.{GrewByFront}
use Rattle.spl_io.specs.Store.{Store, most_bytes}
use Rattle.spl_tree.specs.Program.{Program}
use Rattle.spl_runs.specs.Choices.{Given}
use Rattle.spl_runs.specs.ChoicesText.{IsChoices, FaultAt}
use Rattle.spl_runs.specs.Replay.{Top, ran, not_a_run, too_wide, replayed}
use Rattle.spl_runs.specs.Runs.{Stack}
use Rattle.run_text.specs.Text.{run_text}
use Rattle.control_points.specs.CoreOf.{core_of}
use Rattle.command_words.specs.Command.{Asked, Analyse, Bench, Replay, asked_of}
use Rattle.command_words.specs.declared.domain_name.DomainName.{DomainName}
use Rattle.interproc_top.specs.Accepted.{IsAccepted, BreaksAt}
use Rattle.interproc_top.specs.Analysis.{report_on, verdict_on}
use Rattle.interproc_top.specs.Bench.{IsBenchOf}
use Rattle.interproc_top.specs.Cause.{status_by, status_of, line_of}
use Rattle.interproc_top.specs.Command.{options, IsOutput, Stops}
use Rattle.interproc_top.specs.Reading.{Reading}
use Rattle.interproc_top.specs.Replay.{status_of_run}
use Rattle.interproc_top.specs.declared.cause.Cause.{Cause}
use Rattle.interproc_top.specs.declared.cause.Cause.TheVariants as cause
use Rattle.interproc_top.specs.declared.cause.Rule.{Rule}
use Rattle.interproc_top.specs.declared.cause.Status.{Status}
use Rattle.interproc_top.specs.declared.cause.Status.TheVariants as status

-- the words, the files with their counts of faults, the output's count before the call and after it, and what it held
pub record Call : Type 0 where
  pub words : List (List ℕ)
  pub reading : Reading
  pub write_before : ℕ
  pub write_now : ℕ
  pub out_before : Option (List ℕ)
  pub out_now : Option (List ℕ)

-- the words ask for this
abbrev pub Asks : Call → Asked → Type 0
Asks call asked = asked_of call.words ≡ Some asked

-- they are of no form
abbrev pub AsksNothing : Call → Type 0
AsksNothing call = asked_of call.words ≡ None

-- nothing was written
abbrev pub WritesNothing : Call → Type 0
WritesNothing call = Keeps call.out_before call.out_now

-- ---- why a call ended early, by its cause

pub record IsUsage (call : Call) : Type 0 where
  pub no_form : AsksNothing call
  pub writes_nothing : WritesNothing call

-- the command that the words ask for was ended by this before its output was made
pub record IsStopped (call : Call) (cause : Cause) : Type 0 where
  pub asked : Asked
  pub asks : Asks call asked
  pub stops : Stops call.reading asked cause
  pub writes_nothing : WritesNothing call

-- a write of the output failed, and a part of it stands there
pub record IsUnwritten (call : Call) : Type 0 where
  pub asked : Asked
  pub asks : Asks call asked
  pub text : List ℕ
  pub answer : Status
  pub output : IsOutput call.reading.files asked text answer
  pub cause : Rose call.write_before call.write_now
  pub gone : ℕ
  pub some_left : gone < length text
  pub front : GrewByFront call.out_before call.out_now text gone

abbrev pub Explains : Cause → Call → Type 0
Explains cause.Usage call = IsUsage call
Explains cause.CannotOpen call = IsStopped call cause.CannotOpen
Explains cause.ReadFault call = IsStopped call cause.ReadFault
Explains cause.TooLong call = IsStopped call cause.TooLong
Explains (cause.Broken rule place) call = IsStopped call (cause.Broken rule place)
Explains (cause.BadChoices place) call = IsStopped call (cause.BadChoices place)
Explains (cause.NotARun step) call = IsStopped call (cause.NotARun step)
Explains (cause.Wide step) call = IsStopped call (cause.Wide step)
Explains cause.WriteFault call = IsUnwritten call
Explains cause.NoMemory call = WritesNothing call

-- the whole output of the command that the words ask for was written, and this is the status with it
pub record IsWritten (call : Call) (answer : Status) : Type 0 where
  pub asked : Asked
  pub asks : Asks call asked
  pub text : List ℕ
  pub output : IsOutput call.reading.files asked text answer
  pub whole : Appends call.out_before call.out_now text

-- the end of a call: the whole output, with the status by it, or what ended it before
abbrev pub End : Type 0
End = Result Status Cause

abbrev pub Ends : End → Call → Type 0
Ends (Ok answer) call = IsWritten call answer
Ends (Err cause) call = Explains cause call

abbrev pub status_at : End → Status
status_at (Ok answer) = answer
status_at (Err cause) = status_of cause

-- ---- what must come where the outside is fair; want of memory alone is free

-- the files are told, and neither opening nor reading failed
pub record IsFair (call : Call) : Type 0 where
  pub files : Store
  pub told : call.reading.files ≡ Some files
  pub opens : Rose call.reading.open_before call.reading.open_now → ⊥
  pub reads : Rose call.reading.read_before call.reading.read_now → ⊥

-- the file of this name has these bytes
abbrev pub Holds : (call : Call) → IsFair call → (name bytes : List ℕ) → Type 0
Holds call fair name bytes = map.get fair.files name ≡ Some bytes

abbrev pub Writes : Call → Type 0
Writes call = Rose call.write_before call.write_now → ⊥

-- the answer is this, or memory was wanting
abbrev pub Answers : Status → Status → Type 0
Answers answer wanted = (answer ≡ wanted) ⊎ (answer ≡ status.NoMemory)

-- the answer is this and the whole text was written, or memory was wanting
abbrev pub AnswersWith : Status → Call → Status → List ℕ → Type 0
AnswersWith answer call wanted text = ((answer ≡ wanted) × Appends call.out_before call.out_now text) ⊎ (answer ≡ status.NoMemory)

-- the words ask for a program's file: as the first that is opened
abbrev pub program_asked : Asked → Option (List ℕ)
program_asked (Analyse delay descend full domain file) = Some file
program_asked (Bench n) = None
program_asked (Replay file choices) = Some file

-- the words ask for this program's file, which is fair
pub record AsksOf (call : Call) (fair : IsFair call) (bytes : List ℕ) : Type 0 where
  pub asked : Asked
  pub asks : Asks call asked
  pub file : List ℕ
  pub is_file : program_asked asked ≡ Some file
  pub holds : Holds call fair file bytes

-- the words ask for a replay of this program with these choices
pub record AsksRun (call : Call) (fair : IsFair call) (p : Program) (choices : List ℕ) : Type 0 where
  pub file : List ℕ
  pub name : List ℕ
  pub asks : Asks call (Replay file name)
  pub bytes : List ℕ
  pub holds : Holds call fair file bytes
  pub short : length bytes ≤ most_bytes
  pub accepted : IsAccepted bytes p
  pub holds_choices : Holds call fair name choices

pub record Completes (answer : Status) (call : Call) : Type 0 where
  -- an accepted program gets its whole report
  pub reported : (fair : IsFair call) (delay descend : ℕ) (full : Bool) (domain : DomainName) (file bytes : List ℕ) (p : Program) → Asks call (Analyse delay descend full domain file) → Holds call fair file bytes → Writes call
      → length bytes ≤ most_bytes → IsAccepted bytes p
      → AnswersWith answer call (status_by (verdict_on (options delay descend full) p)) (report_on (options delay descend full) bytes p)
  -- a bench gets its figures
  pub measured : (n : ℕ) → Asks call (Bench n) → Writes call
      → ((text : List ℕ) × IsBenchOf n text × AnswersWith answer call status.Proved text)
      ⊎ (answer ≡ status.NoMemory)
  -- a run gets its lines
  pub followed : (fair : IsFair call) (p : Program) (choices : List ℕ) (given : Given) (tops : List Top) (stack : Stack) → AsksRun call fair p choices → Writes call
      → length choices ≤ most_bytes → IsChoices choices given → replayed (core_of p) given ≡ ran tops stack
      → AnswersWith answer call (status_of_run p tops) (run_text tops)
  -- any other file is refused
  pub long : (fair : IsFair call) (bytes : List ℕ) → AsksOf call fair bytes → most_bytes < length bytes → Answers answer status.Refused
  pub broken : (fair : IsFair call) (bytes : List ℕ) (rule : Rule) (at : ℕ) → AsksOf call fair bytes → length bytes ≤ most_bytes → BreaksAt bytes rule at
      → Answers answer status.Refused
  -- so are choices that give no run
  pub long_choices : (fair : IsFair call) (p : Program) (choices : List ℕ) → AsksRun call fair p choices → most_bytes < length choices → Answers answer status.Refused
  pub bad_choices : (fair : IsFair call) (p : Program) (choices : List ℕ) (at : ℕ) → AsksRun call fair p choices → length choices ≤ most_bytes → FaultAt choices at
      → Answers answer status.Refused
  pub not_a_run : (fair : IsFair call) (p : Program) (choices : List ℕ) (given : Given) (step : ℕ) → AsksRun call fair p choices → length choices ≤ most_bytes → IsChoices choices given
      → replayed (core_of p) given ≡ not_a_run step → Answers answer status.Refused
  pub wide : (fair : IsFair call) (p : Program) (choices : List ℕ) (given : Given) (step : ℕ) → AsksRun call fair p choices → length choices ≤ most_bytes → IsChoices choices given
      → replayed (core_of p) given ≡ too_wide step → Answers answer status.Refused
  -- words of no form are refused as such, and no others
  pub no_form : AsksNothing call → Answers answer status.Usage
  pub form : answer ≡ status.Usage → AsksNothing call

-- ---- the line for people

-- the second stream grew by the line, or a write to it failed and a part of the line stands there
abbrev pub Tells : (faults_before faults_now : ℕ) → (before now : Option (List ℕ)) → List ℕ → Type 0
Tells faults_before faults_now before now line =
    Appends before now line ⊎ (Rose faults_before faults_now × ((gone : ℕ) × (gone < length line) × GrewByFront before now line gone))

abbrev pub Says : End → (faults_before faults_now : ℕ) → (before now : Option (List ℕ)) → Type 0
Says (Ok answer) faults_before faults_now before now = Keeps before now
Says (Err cause) faults_before faults_now before now = Tells faults_before faults_now before now (line_of cause)
