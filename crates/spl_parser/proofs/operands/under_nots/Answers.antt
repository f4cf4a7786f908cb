-- Each turn takes the last place that is left, and puts its expression over the one so far.
use Rattle.std.proofs.Common.{[]}
use Rattle.spl_tree.specs.Lists.{lists_of}
use Rattle.spl_tree.specs.Program.{opposite}
use Rattle.spl_parser.specs.Machine.{under_nots}
use Rattle.spl_parser.specs.Trees.{trees}
use Rattle.spl_parser.proofs.Folds.{folding_start, folding_place, folding_step, nots_more}
use Rattle.spl_parser.proofs.operands.under_nots.Goals as goal

pub loop-place-init : goal.loop-place-init
loop-place-init c = folding_start (under_nots (trees [])) (lists_of c.args.parts.now) c.args.nots.items c.args.operand c.requires.tree c.requires.there c.requires.placed

pub add_expr-requires-clause-placed : goal.add_expr-requires-clause-placed
add_expr-requires-clause-placed c = folding_place (under_nots (trees [])) (lists_of c.args.parts.now) (lists_of c.loop-place.parts) c.args.nots.items c.loop-place.nots.items c.pop.new.self.items c.in-Some.place c.args.operand c.loop-place.inner c.in-Some.ensures.items c.loop-place.invariant

pub loop-place-preserved : goal.loop-place-preserved
loop-place-preserved c = folding_step (under_nots (trees [])) opposite (lists_of c.args.parts.now) (lists_of c.loop-place.parts) (lists_of c.add_expr.new.parts) c.args.nots.items c.loop-place.nots.items c.pop.new.self.items c.in-Some.place c.args.operand c.loop-place.inner c.in_ok-inner.inner nots_more c.in-Some.ensures.items c.in_ok-inner.ensures.number c.in_ok-inner.ensures.grew c.loop-place.invariant
