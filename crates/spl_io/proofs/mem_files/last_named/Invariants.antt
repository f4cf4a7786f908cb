use Rattle.std.proofs.Common.{take}
use Rattle.spl_io.specs.MemEntries.{Finds}
use Rattle.spl_io.proofs.mem_files.last_named.Given as goal

abbrev pub invariant-loop-place : goal.invariant-loop-place
invariant-loop-place l = Finds (take l.place l.entries) l.name l.found
