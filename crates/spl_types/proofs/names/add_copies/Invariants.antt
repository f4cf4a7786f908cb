use Rattle.std.proofs.Common.{◌≡◌, ℕ, List, ◌++◌, take, map, filter}
use Rattle.spl_tree.specs.Meaning.{decls_in, decls_over}
use Rattle.spl_types.specs.Checks.{is_among, declared_names}
use Rattle.spl_types.specs.Naming.{texts}
use Rattle.spl_types.proofs.names.add_copies.Given as goal

-- the names so far
abbrev pub invariant-loop-i : goal.invariant-loop-i
invariant-loop-i l = (targets : List (List ℕ)) → l.assigned ≡ map (λ x. is_among x targets) (declared_names (decls_over (decls_in l.tree) l.list))
    → texts l.names.items ≡ texts l.fn.names.items ++ filter (λ x. is_among x targets) (declared_names (take l.i (decls_over (decls_in l.tree) l.list)))
