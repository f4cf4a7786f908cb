-- What a command gives: its output with a status, or what ends it before.
use Rattle.std.specs.Prelude.{◌≡◌, ◌⊎◌, ℕ, Bool, List}
use Rattle.spl_io.specs.Store.{Told}
use Rattle.spl_tree.specs.Program.{Program}
use Rattle.command_words.specs.Command.{Asked, Analyse, Bench, Replay}
use Rattle.interproc_top.specs.Accepted.{IsAccepted}
use Rattle.interproc_top.specs.Bench.{IsBenchOf}
use Rattle.interproc_top.specs.Cause.{status_by}
use Rattle.interproc_top.specs.Reading.{Reading, IsRead, Withholds}
use Rattle.interproc_top.specs.Replay.{IsRunText, Spoils}
use Rattle.interproc_top.specs.Reported.{IsReportOf, Refuses}
use Rattle.interproc_top.specs.declared.analysis.Options.{Options}
use Rattle.interproc_top.specs.declared.cause.Cause.{Cause}
use Rattle.interproc_top.specs.declared.cause.Cause.TheVariants as cause
use Rattle.interproc_top.specs.declared.cause.Status.{Status}
use Rattle.interproc_top.specs.declared.cause.Status.TheVariants as status
use Rattle.interproc_top.specs.declared.cause.Verdict.{Verdict}

abbrev pub options : (delay descend : ℕ) → Bool → Options
options delay descend full = record { delay = delay; descend = descend; full = full }

-- ---- the output

-- the report on the file of this name, and the status by what it says of the fails
pub record IsReported (files : Told) (o : Options) (file text : List ℕ) (answer : Status) : Type 0 where
  pub bytes : List ℕ
  pub read : IsRead files file bytes
  pub verdict : Verdict
  pub report : IsReportOf o bytes text verdict
  pub decided : answer ≡ status_by verdict

-- the file of this name is this program, and it breaks no rule
pub record IsProgram (files : Told) (file : List ℕ) (p : Program) : Type 0 where
  pub bytes : List ℕ
  pub read : IsRead files file bytes
  pub accepted : IsAccepted bytes p

-- the run of the one file's program with the other file's choices
pub record IsReplayed (files : Told) (file choices text : List ℕ) (answer : Status) : Type 0 where
  pub program : Program
  pub is : IsProgram files file program
  pub bytes : List ℕ
  pub read : IsRead files choices bytes
  pub run : IsRunText program bytes text answer

abbrev pub IsOutput : Told → Asked → List ℕ → Status → Type 0
IsOutput files (Analyse delay descend full domain file) text answer = IsReported files (options delay descend full) file text answer
IsOutput files (Bench n) text answer = IsBenchOf n text × (answer ≡ status.Proved)
IsOutput files (Replay file choices) text answer = IsReplayed files file choices text answer

-- ---- what ends a command before its output is made, in the order in which it may come

-- the file of a program isn't read, or breaks a rule
abbrev pub StopsProgram : Reading → List ℕ → Cause → Type 0
StopsProgram r file cause = Withholds r file cause ⊎ ((bytes : List ℕ) × IsRead r.files file bytes × Refuses bytes cause)

-- the program is accepted, and the file of choices isn't read, or gives no run
pub record StopsRun (r : Reading) (file choices : List ℕ) (cause : Cause) : Type 0 where
  pub program : Program
  pub is : IsProgram r.files file program
  pub stops : Withholds r choices cause ⊎ ((bytes : List ℕ) × IsRead r.files choices bytes × Spoils program bytes cause)

abbrev pub Stops : Reading → Asked → Cause → Type 0
Stops r (Analyse delay descend full domain file) c = StopsProgram r file c
Stops r (Bench n) c = c ≡ cause.NoMemory
Stops r (Replay file choices) c = StopsProgram r file c ⊎ StopsRun r file choices c
