use Rattle.spl_tree.specs.Meaning.{decls_in, decls_over}
use Rattle.spl_types.proofs.Declaring.{DeclsSoFar}
use Rattle.spl_types.proofs.decls.declare.Given as goal

-- the declarations so far
abbrev pub invariant-loop-i : goal.invariant-loop-i
invariant-loop-i l = DeclsSoFar l.fn.names (decls_over (decls_in l.tree) l.list) l.i l.names
