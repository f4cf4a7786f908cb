-- Each arm is the machine's step.
use Rattle.std.proofs.Common.{refl, rules, inl}
use Rattle.spl_parser.specs.declared.state.Goal.TheVariants as goal_
use Rattle.spl_parser.specs.declared.state.State.TheVariants as state
use Rattle.spl_parser.specs.Growth.{grown}
use Rattle.spl_parser.specs.declared.state.Sign.TheVariants as sign
use Rattle.spl_parser.specs.Machine.{on_semicolon}
use Rattle.spl_parser.proofs.Parens.{no_parens_le}
use Rattle.spl_tree.specs.Lists.{lists_of}
use Rattle.spl_parser.proofs.HaveArms.{open_none, semicolon_none, assume_arm, assign_end_arm}
use Rattle.spl_parser.proofs.operators.at_semicolon.Goals as goal

pub returns-then-len-gt0 : goal.returns-then-len-gt0
returns-then-len-gt0 c = λ source. open_none source (grown (lists_of c.args.parts.now)) c.args.token c.args.expr.body c.args.expr.goal (state.Have c.args.expr c.args.operand) c.args.expr.parens.items c.args.expr.pending c.args.operand sign.Semicolon c.requires.sign (inl refl) (search rules) refl

pub returns-in_ok-next-in-Assume : goal.returns-in_ok-next-in-Assume
returns-in_ok-next-in-Assume c = λ source. assume_arm source (lists_of c.args.parts.now) (lists_of c.closed_whole.new.parts) (lists_of c.finish_stmt.new.parts) c.args.token c.args.expr.body c.in_ok-next-in-Assume.next c.args.expr.goal (state.Have c.args.expr c.args.operand) c.args.expr.parens.items c.args.expr.pending c.args.operand c.in_ok-whole-in-Assume.whole c.in-Assume.start c.plain_places-places.result c.requires.sign (no_parens_le c.args.expr.parens.items (search rules)) c.in-Assume.is c.plain_places-places.ensures refl c.requires.token c.requires.ready.small c.requires.ready.there.0 c.in_ok-whole-in-Assume.ensures c.in_ok-next-in-Assume.ensures

pub returns-in_ok-next-in-Assign : goal.returns-in_ok-next-in-Assign
returns-in_ok-next-in-Assign c = λ source. assign_end_arm source (lists_of c.args.parts.now) (lists_of c.closed_whole-in-Assign.new.parts) (lists_of c.finish_stmt-in-Assign.new.parts) c.args.token c.args.expr.body c.in_ok-next-in-Assign.next c.args.expr.goal (state.Have c.args.expr c.args.operand) c.args.expr.parens.items c.args.expr.pending c.args.operand c.in_ok-whole-in-Assign.whole c.in-Assign.target c.plain_places-places-in-Assign.result c.requires.sign (no_parens_le c.args.expr.parens.items (search rules)) c.in-Assign.is c.plain_places-places-in-Assign.ensures refl c.requires.token c.requires.ready.small c.requires.ready.there.0 c.requires.ready.there.1 c.in_ok-whole-in-Assign.ensures c.in_ok-next-in-Assign.ensures

pub returns-in-If : goal.returns-in-If
unfolding on_semicolon
returns-in-If c = λ source. semicolon_none source (grown (lists_of c.args.parts.now)) c.args.token c.args.expr.body c.args.expr.goal (goal_.If c.in-If.field-0) (state.Have c.args.expr c.args.operand) c.args.expr.parens.items c.args.expr.pending c.args.operand c.requires.sign (no_parens_le c.args.expr.parens.items (search rules)) c.in-If.is refl refl

pub returns-in-While : goal.returns-in-While
unfolding on_semicolon
returns-in-While c = λ source. semicolon_none source (grown (lists_of c.args.parts.now)) c.args.token c.args.expr.body c.args.expr.goal (goal_.While c.in-While.field-0) (state.Have c.args.expr c.args.operand) c.args.expr.parens.items c.args.expr.pending c.args.operand c.requires.sign (no_parens_le c.args.expr.parens.items (search rules)) c.in-While.is refl refl
