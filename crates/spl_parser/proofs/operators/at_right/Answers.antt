-- Each arm is the machine's step.
use Rattle.std.proofs.Common.{refl, rules}
use Rattle.spl_parser.specs.declared.state.State.TheVariants as state
use Rattle.spl_parser.specs.Growth.{grown}
use Rattle.spl_parser.proofs.Parens.{no_parens}
use Rattle.spl_tree.specs.Lists.{lists_of}
use Rattle.spl_parser.proofs.HaveArms.{right_arm, right_none}
use Rattle.spl_parser.proofs.operators.at_right.Goals as goal

pub returns-in_ok-whole-in-Some : goal.returns-in_ok-whole-in-Some
returns-in_ok-whole-in-Some c = λ source. right_arm source (lists_of c.args.parts.now) (lists_of c.closed_whole.new.parts) c.args.token c.args.expr.body c.args.expr.goal (state.Have c.args.expr c.args.operand) (state.Have (record { body = c.args.expr.body; goal = c.args.expr.goal; parens = c.pop.new.self; pending = c.in-Some.outer }) c.in_ok-whole-in-Some.whole) c.args.expr.parens.items c.pop.new.self.items c.in-Some.outer c.args.expr.pending c.args.operand c.in_ok-whole-in-Some.whole c.requires.sign c.in-Some.ensures.items refl refl refl (λ a b d e f. (a, b, d, e, f)) c.requires.token c.requires.ready.small c.requires.ready.there c.in_ok-whole-in-Some.ensures

pub returns-in-None : goal.returns-in-None
returns-in-None c = λ source. right_none source (grown (lists_of c.args.parts.now)) c.args.token c.args.expr.body c.args.expr.goal (state.Have c.args.expr c.args.operand) c.args.expr.parens.items c.args.expr.pending c.args.operand c.requires.sign (no_parens c.args.expr.parens.items (search rules)) refl
