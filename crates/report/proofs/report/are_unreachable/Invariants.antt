use Rattle.std.proofs.Common.{◌≡◌, true, map, take}
use Rattle.std.specs.List.{list_all}
use Rattle.control_points.specs.declared.built.Fail.{Fail}
use Rattle.report.specs.Report.{is_bottom}
use Rattle.report.specs.Values.{value_in}
use Rattle.report.proofs.report.are_unreachable.Given as goal

-- The fails so far are unreachable.
abbrev pub invariant-loop-fail : goal.invariant-loop-fail
invariant-loop-fail g l = list_all (λ (f : Fail). is_bottom (value_in (map g.D.Domain.meaning l.values) f.point)) (take l.fail-index l.fails) ≡ true
