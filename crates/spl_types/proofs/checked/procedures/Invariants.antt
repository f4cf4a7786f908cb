use Rattle.spl_tree.specs.Laws.{procs_in}
use Rattle.spl_types.proofs.Accepting.{ProcsSoFar}
use Rattle.spl_types.proofs.checked.procedures.Given as goal

-- the procedures so far
abbrev pub invariant-loop-p : goal.invariant-loop-p
invariant-loop-p l = ProcsSoFar (procs_in l.tree) l.p l.points l.procs.items
