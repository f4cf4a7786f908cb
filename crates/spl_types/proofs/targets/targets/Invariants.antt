use Rattle.spl_tree.specs.Meaning.{named_in, names_over}
use Rattle.spl_types.specs.Checks.{Met}
use Rattle.spl_types.specs.Walking.{scope_in, HasMet}
use Rattle.spl_types.proofs.Calling.{MetSoFar}
use Rattle.spl_types.proofs.targets.targets.Given as goal

-- the targets so far
abbrev pub invariant-loop-i : goal.invariant-loop-i
invariant-loop-i l = (m : Met) → HasMet (scope_in l.scope) m l.initial.walk → MetSoFar (scope_in l.scope) m (names_over (named_in l.scope.tree.now) l.fn.list) l.i l.listed l.walk
