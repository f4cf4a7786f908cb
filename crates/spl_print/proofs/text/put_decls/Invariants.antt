use Rattle.std.proofs.Common.{◌≡◌, ◌++◌, map, take}
use Rattle.spl_tree.specs.Meaning.{decls_in, decls_over}
use Rattle.spl_print.specs.Canonical.{listed, decl_text}
use Rattle.spl_print.proofs.text.put_decls.Given as goal

-- The declarations so far stand behind what was there.
abbrev pub invariant-loop-k : goal.invariant-loop-k
invariant-loop-k l = l.out.items ≡ l.fn.out.items ++ listed (take l.k (map decl_text (decls_over (decls_in l.tree) l.list)))
