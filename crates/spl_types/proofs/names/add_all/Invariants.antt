use Rattle.std.proofs.Common.{◌≡◌, ◌++◌, take}
use Rattle.spl_tree.specs.Meaning.{decls_in, decls_over}
use Rattle.spl_types.specs.Checks.{declared_names}
use Rattle.spl_types.specs.Naming.{texts}
use Rattle.spl_types.proofs.names.add_all.Given as goal

-- the names so far
abbrev pub invariant-loop-i : goal.invariant-loop-i
invariant-loop-i l = texts l.names.items ≡ texts l.fn.names.items ++ declared_names (take l.i (decls_over (decls_in l.tree) l.list))
