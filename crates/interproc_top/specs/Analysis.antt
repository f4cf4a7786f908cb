-- The analysis of an accepted program, and the report on it, with the options of the call. The domain makes no difference.
use Rattle.std.specs.Prelude.{ℕ, false, List, if◌then◌else◌}
use Rattle.oct_def.specs.Octagon.{Octagon}
use Rattle.spl_tree.specs.Program.{Program}
use Rattle.control_points.specs.CoreOf.{core_of}
use Rattle.iteration.specs.Solved.{read_of, rounds_of}
use Rattle.report.specs.Listed.{Note, note_of}
use Rattle.report.specs.Report.{report, all_unreachable}
use Rattle.interproc_top.specs.declared.analysis.Options.{Options}
use Rattle.interproc_top.specs.declared.cause.Verdict.{Verdict}
use Rattle.interproc_top.specs.declared.cause.Verdict.TheVariants.{AllUnreachable, SomeNotExcluded}

-- where none is asked for: widening after one change, two rounds of the descent, and no implied constraints
abbrev pub usual : Options
usual = record { delay = 1; descend = 2; full = false }

-- the value that is read at a point of the program's core in the end
abbrev pub found : Options → Program → ℕ → Octagon
found o p = read_of (core_of p) o.delay o.descend

-- what the report says at a point: its constraints; none where Bottom is found
abbrev pub said : Options → Program → ℕ → Note
said o p k = note_of o.full (found o p k)

-- the report on the program that was read from these bytes
abbrev pub report_on : Options → List ℕ → Program → List ℕ
report_on o bytes p = report bytes o.full (found o p) (rounds_of (core_of p) o.delay) p

-- what it says of the fails
abbrev pub verdict_on : Options → Program → Verdict
verdict_on o p = if all_unreachable (found o p) p then AllUnreachable else SomeNotExcluded
