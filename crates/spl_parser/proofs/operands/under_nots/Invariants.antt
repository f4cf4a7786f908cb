-- Under the places that are left, the expression so far is the operand under all of them.
use Rattle.std.proofs.Common.{[], length}
use Rattle.spl_tree.specs.Lists.{lists_of}
use Rattle.spl_parser.specs.Machine.{under_nots}
use Rattle.spl_parser.specs.Trees.{trees}
use Rattle.spl_parser.proofs.Folds.{Folding}
use Rattle.spl_parser.proofs.operands.under_nots.Given as goal

abbrev pub invariant-loop-place : goal.invariant-loop-place
invariant-loop-place l = Folding (under_nots (trees [])) (lists_of l.fn.parts) (lists_of l.parts) l.fn.nots.items l.nots.items l.fn.operand l.inner

abbrev pub decreases-loop-place : goal.decreases-loop-place
decreases-loop-place l = length l.nots.items
