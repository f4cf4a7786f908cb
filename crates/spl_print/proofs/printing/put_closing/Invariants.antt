use Rattle.std.proofs.Common.{◌≡◌, ◌++◌, take}
use Rattle.std.specs.List.{flat_map}
use Rattle.spl_print.specs.Canonical.{closing_line}
use Rattle.spl_print.proofs.printing.put_closing.Given as goal

-- The closing lines so far stand behind what was there.
abbrev pub invariant-loop-k : goal.invariant-loop-k
invariant-loop-k l = l.out.items ≡ l.fn.out.items ++ flat_map closing_line (take l.k l.notes.closing)
