-- Each arm is the machine's step.
use Rattle.std.proofs.Common.{refl}
use Rattle.spl_tree.specs.Lists.{lists_of}
use Rattle.spl_text.specs.declared.token.TokenKind.TheVariants as kind
use Rattle.spl_parser.specs.declared.state.State.TheVariants as state
use Rattle.spl_parser.specs.declared.state.Simple.TheVariants as simple
use Rattle.spl_parser.specs.declared.state.NameGoal.TheVariants as name_goal
use Rattle.std.proofs.Common.{arith}
use Rattle.spl_parser.specs.Machine as m
use Rattle.spl_parser.specs.Trees.{trees}
use Rattle.spl_parser.specs.Machine.{step, step_block}
use Rattle.spl_parser.proofs.NameArms.{target_arm}
use Rattle.spl_parser.proofs.Refusals.{refuses_block}
use Rattle.spl_parser.proofs.Stay.{still0}
use Rattle.spl_parser.proofs.FreshArms.{begins_new}
use Rattle.spl_parser.specs.declared.state.Goal.TheVariants as goal_of
use Rattle.spl_parser.proofs.steps.at_block.Goals as goal

pub returns-in-Skip : goal.returns-in-Skip
unfolding step step_block
returns-in-Skip c = still0 c.args.bytes.now (lists_of c.args.parts.now) (state.InBlock c.args.body) (state.Single c.args.body (simple.Skip c.args.token.start)) c.args.token kind.Skip c.in-Skip.is refl refl ((c.requires.ready.there, (omega (arith, c.requires.token.filled, c.requires.token.within)))) c.requires.ready c.requires.token

pub returns-in-Halt : goal.returns-in-Halt
unfolding step step_block
returns-in-Halt c = still0 c.args.bytes.now (lists_of c.args.parts.now) (state.InBlock c.args.body) (state.Single c.args.body (simple.Halt c.args.token.start)) c.args.token kind.Halt c.in-Halt.is refl refl ((c.requires.ready.there, (omega (arith, c.requires.token.filled, c.requires.token.within)))) c.requires.ready c.requires.token

pub returns-in-Fail : goal.returns-in-Fail
unfolding step step_block
returns-in-Fail c = still0 c.args.bytes.now (lists_of c.args.parts.now) (state.InBlock c.args.body) (state.Single c.args.body (simple.Fail c.args.token.start)) c.args.token kind.Fail c.in-Fail.is refl refl ((c.requires.ready.there, (omega (arith, c.requires.token.filled, c.requires.token.within)))) c.requires.ready c.requires.token

pub returns-in-LeftParen : goal.returns-in-LeftParen
unfolding step step_block
returns-in-LeftParen c = still0 c.args.bytes.now (lists_of c.args.parts.now) (state.InBlock c.args.body) (state.NamesOpen c.args.body (name_goal.Targets c.args.token.start)) c.args.token kind.LeftParen c.in-LeftParen.is refl refl ((c.requires.ready.there, (omega (arith, c.requires.token.filled, c.requires.token.within)))) c.requires.ready c.requires.token

pub returns-in_ok-name-in-Name : goal.returns-in_ok-name-in-Name
returns-in_ok-name-in-Name c = target_arm c.args.bytes.now (lists_of c.args.parts.now) (lists_of c.read_word.new.parts) c.args.token c.args.body c.in_ok-name-in-Name.name c.in-Name.is c.requires.token c.requires.ready c.in_ok-name-in-Name.ensures

pub returns-in-Else : goal.returns-in-Else
returns-in-Else c = c.at_else.ensures c.args.bytes.now

pub returns-in-Endif : goal.returns-in-Endif
returns-in-Endif c = c.at_endif.ensures c.args.bytes.now

pub returns-in-Done : goal.returns-in-Done
returns-in-Done c = c.at_done.ensures c.args.bytes.now

pub returns-in-End : goal.returns-in-End
returns-in-End c = c.at_end.ensures c.args.bytes.now

pub returns-in_default : goal.returns-in_default
returns-in_default c = refuses_block (trees c.args.bytes.now) _ c.args.token.kind (m.leaf_of c.args.token) c.in_default.not-Skip c.in_default.not-Halt c.in_default.not-Fail c.in_default.not-Assume c.in_default.not-Name c.in_default.not-LeftParen c.in_default.not-If c.in_default.not-While c.in_default.not-Else c.in_default.not-Endif c.in_default.not-Done c.in_default.not-End

pub returns-in-Assume : goal.returns-in-Assume
unfolding step step_block
returns-in-Assume c = begins_new c.args.bytes.now (lists_of c.args.parts.now) c.args.token kind.Assume c.args.body (goal_of.Assume c.args.token.start) c.new_expr.result c.in-Assume.is refl c.new_expr.ensures.same c.new_expr.ensures.none c.new_expr.ensures.fresh (omega (arith, c.requires.token.filled, c.requires.token.within)) c.requires.ready c.requires.token

pub returns-in-If : goal.returns-in-If
unfolding step step_block
returns-in-If c = begins_new c.args.bytes.now (lists_of c.args.parts.now) c.args.token kind.If c.args.body (goal_of.If c.args.token.start) c.new_expr-in-If.result c.in-If.is refl c.new_expr-in-If.ensures.same c.new_expr-in-If.ensures.none c.new_expr-in-If.ensures.fresh (omega (arith, c.requires.token.filled, c.requires.token.within)) c.requires.ready c.requires.token

pub returns-in-While : goal.returns-in-While
unfolding step step_block
returns-in-While c = begins_new c.args.bytes.now (lists_of c.args.parts.now) c.args.token kind.While c.args.body (goal_of.While c.args.token.start) c.new_expr-in-While.result c.in-While.is refl c.new_expr-in-While.ensures.same c.new_expr-in-While.ensures.none c.new_expr-in-While.ensures.fresh (omega (arith, c.requires.token.filled, c.requires.token.within)) c.requires.ready c.requires.token
