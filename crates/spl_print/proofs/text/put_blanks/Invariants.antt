use Rattle.std.proofs.Common.{◌≡◌, ◌++◌, replicate}
use Rattle.spl_print.proofs.text.put_blanks.Given as goal

-- As many blanks as turns so far stand behind what was there.
abbrev pub invariant-loop : goal.invariant-loop
invariant-loop l = l.out.items ≡ l.fn.out.items ++ replicate l.counter 32
