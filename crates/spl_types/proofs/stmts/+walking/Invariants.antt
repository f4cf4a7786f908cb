use Rattle.std.proofs.Common.{◌+◌, ◌*◌}
use Rattle.spl_tree.specs.Meaning.{span_of, stmts_in}
use Rattle.spl_types.specs.Checks.{Met}
use Rattle.spl_types.specs.Walking.{scope_in, HasMet}
use Rattle.spl_types.proofs.Blocks.{block_bound, stmt_bound, first_stmts, StmtsSoFar}
use Rattle.spl_types.proofs.stmts.+walking.Given as goal

-- statements have lower numbers than those whose blocks they stand in
abbrev pub decreases-block : goal.decreases-block
decreases-block l = 3 * block_bound l.scope.now.tree.now l.stmts

abbrev pub decreases-statement : goal.decreases-statement
decreases-statement l = 3 * l.s.0 + 2

abbrev pub decreases-within : goal.decreases-within
decreases-within l = 3 * stmt_bound l.scope.now.tree.now l.stmt + 1

-- the statements so far
abbrev pub invariant-block-loop-i : goal.invariant-block-loop-i
invariant-block-loop-i l = (m : Met) → HasMet (scope_in l.scope) m l.fn.walk
    → StmtsSoFar (scope_in l.scope) m l.fn.start (first_stmts (stmts_in l.scope.tree.now) (span_of l.scope.tree.now.stmt_items l.fn.stmts.first l.fn.stmts.count) l.i) l.walk
