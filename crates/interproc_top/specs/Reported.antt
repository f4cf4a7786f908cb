-- What is answered of a file by its bytes: a report, or what stands against one.
use Rattle.std.specs.Prelude.{◌≡◌, ℕ, List}
use Rattle.spl_tree.specs.Program.{Program}
use Rattle.read_back.specs.ReadsBack.{ReadsAs}
use Rattle.interproc_top.specs.Accepted.{IsAccepted, BreaksFirst}
use Rattle.interproc_top.specs.Analysis.{report_on, verdict_on}
use Rattle.interproc_top.specs.Headline.{Holds, UnreachableHolds, NoFailIsReached}
use Rattle.interproc_top.specs.declared.analysis.Options.{Options}
use Rattle.interproc_top.specs.declared.cause.Cause.{Cause}
use Rattle.interproc_top.specs.declared.cause.Cause.TheVariants as cause
use Rattle.interproc_top.specs.declared.cause.Verdict.{Verdict}
use Rattle.interproc_top.specs.declared.cause.Verdict.TheVariants.{AllUnreachable}

-- with these options the text is the report on the program that the bytes are, and this is what it says of the fails
pub record IsReportOf (o : Options) (bytes text : List ℕ) (verdict : Verdict) : Type 0 where
  pub program : Program
  pub accepted : IsAccepted bytes program
  pub written : text ≡ report_on o bytes program
  pub decided : verdict ≡ verdict_on o program
  -- it holds of all runs
  pub holds : Holds o program
  pub unreachable : UnreachableHolds o program
  pub proved : verdict ≡ AllUnreachable → NoFailIsReached program
  -- it can be read again as the same program
  pub reads_back : ReadsAs text program

-- what stands against a report, by its cause; want of memory says nothing
abbrev pub Refuses : List ℕ → Cause → Type 0
Refuses bytes cause.Usage = ⊥
Refuses bytes cause.CannotOpen = ⊥
Refuses bytes cause.ReadFault = ⊥
Refuses bytes cause.TooLong = ⊥
Refuses bytes (cause.Broken rule place) = BreaksFirst bytes rule place
Refuses bytes (cause.BadChoices place) = ⊥
Refuses bytes (cause.NotARun step) = ⊥
Refuses bytes (cause.Wide step) = ⊥
Refuses bytes cause.WriteFault = ⊥
Refuses bytes cause.NoMemory = Unit {0}
