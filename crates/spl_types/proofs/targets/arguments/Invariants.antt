use Rattle.std.proofs.Common.{take}
use Rattle.spl_tree.specs.Meaning.{named_in, names_over}
use Rattle.spl_types.specs.Checks.{argument_checks}
use Rattle.spl_types.specs.Faults.{Kept}
use Rattle.spl_types.proofs.targets.arguments.Given as goal

-- the arguments so far
abbrev pub invariant-loop-i : goal.invariant-loop-i
invariant-loop-i l = Kept (argument_checks l.scope.declared (take l.i (names_over (named_in l.scope.tree.now) l.fn.list)))
