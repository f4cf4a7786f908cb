use Rattle.std.proofs.Common.{◌≡◌, ◌==◌, false, take}
use Rattle.std.specs.List.{list_any}
use Rattle.control_points.specs.declared.built.Fail.{Fail}
use Rattle.interproc_top.proofs.replay.is_fail.Given as goal

-- The fails so far are at other points.
abbrev pub invariant-loop-fail : goal.invariant-loop-fail
invariant-loop-fail l = list_any (λ (f : Fail). f.point == l.point) (take l.fail-index l.fails) ≡ false
