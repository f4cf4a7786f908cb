-- What a report promises of all runs of its program.
use Rattle.std.specs.Prelude.{◌≡◌, ℕ, true}
use Rattle.std.specs.List.{All}
use Rattle.spl_core.specs.Expression.{State}
use Rattle.spl_runs.specs.Runs.{Brings}
use Rattle.spl_tree.specs.Program.{Program}
use Rattle.control_points.specs.declared.built.Fail.{Fail}
use Rattle.control_points.specs.CoreOf.{core_of, fails_of}
use Rattle.report.specs.Report.{is_bottom}
use Rattle.report.specs.Sound.{IsTrueOf}
use Rattle.interproc_top.specs.Analysis.{found, said}
use Rattle.interproc_top.specs.declared.analysis.Options.{Options}

-- every state over the integers without limit that any run, at any depth of recursion, brings to a point satisfies each
-- constraint that is printed there; to a point where `bottom` is printed no run brings one
abbrev pub Holds : Options → Program → Type 0
Holds o p = (k : ℕ) (s : State) → Brings (core_of p) k s → IsTrueOf (said o p k) s

-- no run comes to a fail
abbrev pub NoRunComesTo : Program → Fail → Type 0
NoRunComesTo p fail = (s : State) → Brings (core_of p) fail.point s → ⊥

-- no run comes to a fail that is printed unreachable
abbrev pub UnreachableHolds : Options → Program → Type 0
UnreachableHolds o p = All (λ (fail : Fail). is_bottom (found o p fail.point) ≡ true → NoRunComesTo p fail) (fails_of p)

-- no run comes to any fail
abbrev pub NoFailIsReached : Program → Type 0
NoFailIsReached p = All (NoRunComesTo p) (fails_of p)
