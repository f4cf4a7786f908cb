-- What ended a command before its output was made explains the end of the call.
use Rattle.std.proofs.Common.{◌≡◌, ◌⊎◌, ℕ, List, inl, inr}
use Rattle.spl_tree.specs.Program.{Program}
use Rattle.command_words.specs.Command.{Asked, Analyse, Bench, Replay}
use Rattle.interproc_top.specs.Call.{Call, Asks, Explains, WritesNothing}
use Rattle.interproc_top.specs.Command.{Stops, StopsProgram, StopsRun}
use Rattle.interproc_top.specs.Reading.{Reading, IsRead, Withholds}
use Rattle.interproc_top.specs.Replay.{Spoils}
use Rattle.interproc_top.specs.Reported.{Refuses}
use Rattle.interproc_top.specs.declared.cause.Cause.{Cause}
use Rattle.interproc_top.specs.declared.cause.Cause.TheVariants as cause

-- a cause for which no file is withheld, no program refused and no run spoiled ends no command
module _ (c : Cause) (withheld : (r : Reading) (name : List ℕ) → Withholds r name c → ⊥) (refused : (bytes : List ℕ) → Refuses bytes c → ⊥)
    (spoiled : (p : Program) (choices : List ℕ) → Spoils p choices c → ⊥) (memory : c ≡ cause.NoMemory → ⊥) where
  no_program : (r : Reading) (file : List ℕ) → StopsProgram r file c → ⊥
  no_program r file (inl w) = withheld r file w
  no_program r file (inr (bytes, read, h)) = refused bytes h

  no_run : (r : Reading) (file choices : List ℕ) → StopsRun r file choices c → ⊥
  no_run r file choices h = by h.stops
    where
      by : Withholds r choices c ⊎ ((bytes : List ℕ) × IsRead r.files choices bytes × Spoils h.program bytes c) → ⊥
      by (inl w) = withheld r choices w
      by (inr (bytes, read, s)) = spoiled h.program bytes s

  never : (r : Reading) (asked : Asked) → Stops r asked c → ⊥
  never r (Analyse delay descend full domain file) h = no_program r file h
  never r (Bench n) h = memory h
  never r (Replay file choices) (inl h) = no_program r file h
  never r (Replay file choices) (inr h) = no_run r file choices h

-- words of no form and a failed write are such causes
no_usage : (r : Reading) (asked : Asked) → Stops r asked cause.Usage → ⊥
no_usage = never cause.Usage (λ r name w. w) (λ bytes h. h) (λ p choices h. h) (λ e. cc e)

no_write : (r : Reading) (asked : Asked) → Stops r asked cause.WriteFault → ⊥
no_write = never cause.WriteFault (λ r name w. w) (λ bytes h. h) (λ p choices h. h) (λ e. cc e)

pub explains : (call : Call) (asked : Asked) (c : Cause) → Asks call asked → Stops call.reading asked c → WritesNothing call → Explains c call
explains call asked cause.Usage asks stops nothing = absurd (no_usage call.reading asked stops)
explains call asked cause.WriteFault asks stops nothing = absurd (no_write call.reading asked stops)
explains call asked cause.NoMemory asks stops nothing = nothing
explains call asked _ asks stops nothing = record { asked = asked; asks = asks; stops = stops; writes_nothing = nothing }
