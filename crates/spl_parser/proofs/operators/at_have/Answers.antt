-- Each arm is the machine's step.
use Rattle.std.proofs.Common.{refl, sym, ◌∙◌}
use Rattle.spl_parser.specs.declared.state.State.TheVariants as state
use Rattle.spl_parser.specs.Growth.{grown}
use Rattle.spl_parser.specs.declared.state.Sign.TheVariants as sign
use Rattle.spl_tree.specs.Lists.{lists_of}
use Rattle.spl_parser.proofs.HaveArms.{at_sign, operator_arm}
use Rattle.spl_parser.proofs.operators.at_have.Goals as goal

pub returns-in_ok-next-in-Product : goal.returns-in_ok-next-in-Product
returns-in_ok-next-in-Product c = λ source. operator_arm source (lists_of c.args.parts.now) (lists_of c.after_product.new.parts) c.args.token c.args.expr.body c.args.expr.goal (state.Have c.args.expr c.args.operand) (state.Want (record { body = c.args.expr.body; goal = c.args.expr.goal; parens = c.args.expr.parens; pending = c.in_ok-next-in-Product.next })) c.args.expr.parens.items c.args.expr.pending c.in_ok-next-in-Product.next c.args.operand (sign.Product c.in-Product.operator) (sym c.sign_of.ensures ∙ c.in-Product.is) refl refl refl refl (λ a b d e. (a, b, d, e)) c.requires.token c.requires.ready.small c.requires.ready.there c.in_ok-next-in-Product.ensures

pub returns-in_ok-next-in-Sum : goal.returns-in_ok-next-in-Sum
returns-in_ok-next-in-Sum c = λ source. operator_arm source (lists_of c.args.parts.now) (lists_of c.after_sum.new.parts) c.args.token c.args.expr.body c.args.expr.goal (state.Have c.args.expr c.args.operand) (state.Want (record { body = c.args.expr.body; goal = c.args.expr.goal; parens = c.args.expr.parens; pending = c.in_ok-next-in-Sum.next })) c.args.expr.parens.items c.args.expr.pending c.in_ok-next-in-Sum.next c.args.operand (sign.Sum c.in-Sum.operator) (sym c.sign_of.ensures ∙ c.in-Sum.is) refl refl refl refl (λ a b d e. (a, b, d, e)) c.requires.token c.requires.ready.small c.requires.ready.there c.in_ok-next-in-Sum.ensures

pub returns-in_ok-next-in-And : goal.returns-in_ok-next-in-And
returns-in_ok-next-in-And c = λ source. operator_arm source (lists_of c.args.parts.now) (lists_of c.after_and.new.parts) c.args.token c.args.expr.body c.args.expr.goal (state.Have c.args.expr c.args.operand) (state.Want (record { body = c.args.expr.body; goal = c.args.expr.goal; parens = c.args.expr.parens; pending = c.in_ok-next-in-And.next })) c.args.expr.parens.items c.args.expr.pending c.in_ok-next-in-And.next c.args.operand (sign.And) (sym c.sign_of.ensures ∙ c.in-And.is) refl refl refl refl (λ a b d e. (a, b, d, e)) c.requires.token c.requires.ready.small c.requires.ready.there c.in_ok-next-in-And.ensures

pub returns-in_ok-next-in-Or : goal.returns-in_ok-next-in-Or
returns-in_ok-next-in-Or c = λ source. operator_arm source (lists_of c.args.parts.now) (lists_of c.after_or.new.parts) c.args.token c.args.expr.body c.args.expr.goal (state.Have c.args.expr c.args.operand) (state.Want (record { body = c.args.expr.body; goal = c.args.expr.goal; parens = c.args.expr.parens; pending = c.in_ok-next-in-Or.next })) c.args.expr.parens.items c.args.expr.pending c.in_ok-next-in-Or.next c.args.operand (sign.Or) (sym c.sign_of.ensures ∙ c.in-Or.is) refl refl refl refl (λ a b d e. (a, b, d, e)) c.requires.token c.requires.ready.small c.requires.ready.there c.in_ok-next-in-Or.ensures

pub returns-in-Other : goal.returns-in-Other
returns-in-Other c = λ source. at_sign source (grown (lists_of c.args.parts.now)) c.args.token c.args.expr.body c.args.expr.goal (state.Have c.args.expr c.args.operand) c.args.expr.parens.items c.args.expr.pending c.args.operand sign.Other (sym c.sign_of.ensures ∙ c.in-Other.is) refl
