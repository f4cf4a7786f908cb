-- A comparison after none, and after one.
use Rattle.std.proofs.Common.{refl, ◌∙◌}
use Rattle.spl_parser.specs.declared.state.State.TheVariants as state
use Rattle.spl_parser.specs.Growth.{grown}
use Rattle.spl_parser.specs.Machine as m
use Rattle.spl_parser.specs.declared.state.Sign.TheVariants as sign
use Rattle.spl_tree.specs.Lists.{lists_of}
use Rattle.spl_parser.proofs.HaveArms.{at_sign, operator_arm, cmp_free, cmp_taken}
use Rattle.spl_parser.proofs.operators.at_comparison.Goals as goal

pub returns-in-Some : goal.returns-in-Some
returns-in-Some c = λ source. at_sign source (grown (lists_of c.args.parts.now)) c.args.token c.args.expr.body c.args.expr.goal (state.Have c.args.expr c.args.operand) c.args.expr.parens.items c.args.expr.pending c.args.operand (sign.Comparison c.args.operator) c.requires.sign refl ∙ cmp_taken source (grown (lists_of c.args.parts.now)) _ _ _ c.args.expr.pending _ c.args.operator (m.leaf_of c.args.token) c.in-Some.field-0 c.in-Some.is

pub returns-in_ok-next-in-None : goal.returns-in_ok-next-in-None
returns-in_ok-next-in-None c = λ source. operator_arm source (lists_of c.args.parts.now) (lists_of c.after_comparison.new.parts) c.args.token c.args.expr.body c.args.expr.goal (state.Have c.args.expr c.args.operand) (state.Want (record { body = c.args.expr.body; goal = c.args.expr.goal; parens = c.args.expr.parens; pending = c.in_ok-next-in-None.next })) c.args.expr.parens.items c.args.expr.pending c.in_ok-next-in-None.next c.args.operand (sign.Comparison c.args.operator) c.requires.sign refl refl (cmp_free source (grown (lists_of c.args.parts.now)) _ _ _ c.args.expr.pending _ c.args.operator (m.leaf_of c.args.token) c.in-None.is) refl (λ a b d e. (a, b, d, e)) c.requires.token c.requires.ready.small c.requires.ready.there c.in_ok-next-in-None.ensures
