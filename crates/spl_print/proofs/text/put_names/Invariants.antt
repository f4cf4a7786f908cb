use Rattle.std.proofs.Common.{◌≡◌, ◌++◌, take}
use Rattle.spl_tree.specs.Meaning.{named_in, names_over}
use Rattle.spl_print.specs.Canonical.{listed, names_text}
use Rattle.spl_print.proofs.text.put_names.Given as goal

-- The names so far stand behind what was there.
abbrev pub invariant-loop-k : goal.invariant-loop-k
invariant-loop-k l = l.out.items ≡ l.fn.out.items ++ listed (take l.k (names_text (names_over (named_in l.tree) l.list)))
