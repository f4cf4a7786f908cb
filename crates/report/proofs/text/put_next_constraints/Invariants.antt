use Rattle.std.proofs.Common.{◌≡◌, ◌++◌, take}
use Rattle.std.specs.List.{flat_map}
use Rattle.report.specs.ConstraintText.{next_constraint_text}
use Rattle.report.proofs.text.put_next_constraints.Given as goal

-- The texts of the constraints so far stand behind what was there.
abbrev pub invariant-loop-constraint : goal.invariant-loop-constraint
invariant-loop-constraint l =
    l.out.items ≡ l.fn.out.items ++ flat_map (next_constraint_text l.names) (take l.constraint-index l.constraints)
