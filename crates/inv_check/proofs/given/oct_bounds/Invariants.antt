use Rattle.std.proofs.Common.{◌≡◌, map, take}
use Rattle.inv_check.specs.Bounds.{oct_bound}
use Rattle.inv_check.proofs.given.oct_bounds.Given as goal

-- The bounds so far are there.
abbrev pub invariant-loop-bound : goal.invariant-loop-bound
invariant-loop-bound l = l.octs.items ≡ map oct_bound (take l.bound-index l.bounds)
