use Rattle.std.proofs.Common.{take}
use Rattle.spl_tree.specs.Laws.{procs_in}
use Rattle.spl_types.specs.Tables.{Numbers, proc_names}
use Rattle.spl_types.proofs.tables.ProcTable.of.Given as goal

-- the names of the procedures so far
abbrev pub invariant-loop-p : goal.invariant-loop-p
invariant-loop-p l = Numbers l.table (proc_names (take l.p (procs_in l.tree)))
