-- Each arm is the machine's step.
use Rattle.std.proofs.Common.{refl, rules, inl, inr}
use Rattle.spl_parser.specs.declared.state.Goal.TheVariants as goal_
use Rattle.spl_parser.specs.declared.state.State.TheVariants as state
use Rattle.spl_parser.specs.Growth.{grown}
use Rattle.spl_parser.specs.declared.state.Sign.TheVariants as sign
use Rattle.spl_parser.specs.Machine.{on_then}
use Rattle.spl_parser.proofs.Parens.{no_parens_le}
use Rattle.spl_tree.specs.Lists.{lists_of}
use Rattle.spl_parser.proofs.HaveArms.{open_none, then_none, then_arm}
use Rattle.spl_parser.proofs.operators.at_then.Goals as goal

pub returns-then-len-gt0 : goal.returns-then-len-gt0
returns-then-len-gt0 c = λ source. open_none source (grown (lists_of c.args.parts.now)) c.args.token c.args.expr.body c.args.expr.goal (state.Have c.args.expr c.args.operand) c.args.expr.parens.items c.args.expr.pending c.args.operand sign.Then c.requires.sign (inr (inl refl)) (search rules) refl

pub returns-in_ok-next-in-If : goal.returns-in_ok-next-in-If
returns-in_ok-next-in-If c = λ source. then_arm source (lists_of c.args.parts.now) (lists_of c.closed_whole.new.parts) c.args.token c.args.expr.body c.in_ok-next-in-If.next c.args.expr.goal (state.Have c.args.expr c.args.operand) c.args.expr.parens.items c.args.expr.pending c.args.operand c.in_ok-whole-in-If.whole c.in-If.start c.requires.sign (no_parens_le c.args.expr.parens.items (search rules)) c.in-If.is refl c.requires.token c.requires.ready.small c.requires.ready.there.0 c.requires.ready.there.1 c.in_ok-whole-in-If.ensures c.in_ok-next-in-If.ensures

pub returns-in-Assume : goal.returns-in-Assume
unfolding on_then
returns-in-Assume c = λ source. then_none source (grown (lists_of c.args.parts.now)) c.args.token c.args.expr.body c.args.expr.goal (goal_.Assume c.in-Assume.field-0) (state.Have c.args.expr c.args.operand) c.args.expr.parens.items c.args.expr.pending c.args.operand c.requires.sign (no_parens_le c.args.expr.parens.items (search rules)) c.in-Assume.is refl refl

pub returns-in-Assign : goal.returns-in-Assign
unfolding on_then
returns-in-Assign c = λ source. then_none source (grown (lists_of c.args.parts.now)) c.args.token c.args.expr.body c.args.expr.goal (goal_.Assign c.in-Assign.field-0) (state.Have c.args.expr c.args.operand) c.args.expr.parens.items c.args.expr.pending c.args.operand c.requires.sign (no_parens_le c.args.expr.parens.items (search rules)) c.in-Assign.is refl refl

pub returns-in-While : goal.returns-in-While
unfolding on_then
returns-in-While c = λ source. then_none source (grown (lists_of c.args.parts.now)) c.args.token c.args.expr.body c.args.expr.goal (goal_.While c.in-While.field-0) (state.Have c.args.expr c.args.operand) c.args.expr.parens.items c.args.expr.pending c.args.operand c.requires.sign (no_parens_le c.args.expr.parens.items (search rules)) c.in-While.is refl refl
