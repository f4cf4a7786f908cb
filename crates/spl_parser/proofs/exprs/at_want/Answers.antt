-- Each arm is the machine's step.
use Rattle.std.proofs.Common.{refl}
use Rattle.spl_text.specs.declared.token.TokenKind.TheVariants as kind
use Rattle.spl_tree.specs.Program.{number}
use Rattle.spl_parser.specs.declared.state.State.TheVariants as state
use Rattle.spl_parser.specs.Machine as m
use Rattle.spl_parser.specs.Trees.{trees}
use Rattle.spl_parser.specs.Machine.{step, step_want}
use Rattle.spl_tree.specs.Program.{true_value, false_value, random_value}
use Rattle.spl_parser.proofs.WantArms.{want_arm, want_name_arm}
use Rattle.spl_parser.proofs.Refusals.{refuses_want}
use Rattle.spl_tree.specs.Lists.{lists_of}
use Rattle.spl_parser.proofs.exprs.at_want.Goals as goal

pub returns-in_ok-atom-in-Number : goal.returns-in_ok-atom-in-Number
unfolding step step_want
returns-in_ok-atom-in-Number c = want_arm c.args.bytes.now (lists_of c.args.parts.now) (lists_of c.add_expr.new.parts) c.args.token (kind.Number c.in-Number.n) c.args.expr.body c.args.expr.goal (state.Want c.args.expr) (state.Have c.args.expr c.in_ok-atom-in-Number.atom) c.args.expr.parens.items c.args.expr.pending c.in_ok-atom-in-Number.atom (number c.in-Number.n c.args.token.start) c.in-Number.is refl refl refl (λ a b d f g. (a, b, d, f, g)) c.requires.token c.requires.ready.small c.requires.ready.there c.in_ok-atom-in-Number.ensures.number c.in_ok-atom-in-Number.ensures.grew

pub returns-in_ok-atom-in-True : goal.returns-in_ok-atom-in-True
unfolding step step_want
returns-in_ok-atom-in-True c = want_arm c.args.bytes.now (lists_of c.args.parts.now) (lists_of c.add_expr-in-True.new.parts) c.args.token kind.True c.args.expr.body c.args.expr.goal (state.Want c.args.expr) (state.Have c.args.expr c.in_ok-atom-in-True.atom) c.args.expr.parens.items c.args.expr.pending c.in_ok-atom-in-True.atom (true_value c.args.token.start) c.in-True.is refl refl refl (λ a b d f g. (a, b, d, f, g)) c.requires.token c.requires.ready.small c.requires.ready.there c.in_ok-atom-in-True.ensures.number c.in_ok-atom-in-True.ensures.grew

pub returns-in_ok-atom-in-False : goal.returns-in_ok-atom-in-False
unfolding step step_want
returns-in_ok-atom-in-False c = want_arm c.args.bytes.now (lists_of c.args.parts.now) (lists_of c.add_expr-in-False.new.parts) c.args.token kind.False c.args.expr.body c.args.expr.goal (state.Want c.args.expr) (state.Have c.args.expr c.in_ok-atom-in-False.atom) c.args.expr.parens.items c.args.expr.pending c.in_ok-atom-in-False.atom (false_value c.args.token.start) c.in-False.is refl refl refl (λ a b d f g. (a, b, d, f, g)) c.requires.token c.requires.ready.small c.requires.ready.there c.in_ok-atom-in-False.ensures.number c.in_ok-atom-in-False.ensures.grew

pub returns-in_ok-atom-in-Random : goal.returns-in_ok-atom-in-Random
unfolding step step_want
returns-in_ok-atom-in-Random c = want_arm c.args.bytes.now (lists_of c.args.parts.now) (lists_of c.add_expr-in-Random.new.parts) c.args.token kind.Random c.args.expr.body c.args.expr.goal (state.Want c.args.expr) (state.Have c.args.expr c.in_ok-atom-in-Random.atom) c.args.expr.parens.items c.args.expr.pending c.in_ok-atom-in-Random.atom (random_value c.args.token.start) c.in-Random.is refl refl refl (λ a b d f g. (a, b, d, f, g)) c.requires.token c.requires.ready.small c.requires.ready.there c.in_ok-atom-in-Random.ensures.number c.in_ok-atom-in-Random.ensures.grew

pub returns-in_ok-atom-in-Brandom : goal.returns-in_ok-atom-in-Brandom
unfolding step step_want
returns-in_ok-atom-in-Brandom c = want_arm c.args.bytes.now (lists_of c.args.parts.now) (lists_of c.add_expr-in-Brandom.new.parts) c.args.token kind.Brandom c.args.expr.body c.args.expr.goal (state.Want c.args.expr) (state.Have c.args.expr c.in_ok-atom-in-Brandom.atom) c.args.expr.parens.items c.args.expr.pending c.in_ok-atom-in-Brandom.atom (random_value c.args.token.start) c.in-Brandom.is refl refl refl (λ a b d f g. (a, b, d, f, g)) c.requires.token c.requires.ready.small c.requires.ready.there c.in_ok-atom-in-Brandom.ensures.number c.in_ok-atom-in-Brandom.ensures.grew

pub returns-in_ok-atom-in-Name : goal.returns-in_ok-atom-in-Name
unfolding step step_want
returns-in_ok-atom-in-Name c = want_name_arm c.args.bytes.now (lists_of c.args.parts.now) (lists_of c.read_word.new.parts) (lists_of c.add_expr-in-Name.new.parts) c.args.token c.args.expr.body c.args.expr.goal c.args.expr.parens.items (state.Want c.args.expr) (state.Have c.args.expr c.in_ok-atom-in-Name.atom) c.args.expr.pending c.in_ok-word-in-Name.word c.in_ok-atom-in-Name.atom c.in-Name.is refl refl refl (λ a b d f g. (a, b, d, f, g)) c.requires.token c.requires.ready.small c.requires.ready.there c.in_ok-word-in-Name.ensures c.in_ok-atom-in-Name.ensures.number c.in_ok-atom-in-Name.ensures.grew

pub returns-in-LeftParen : goal.returns-in-LeftParen
returns-in-LeftParen c = c.at_left.ensures c.args.bytes.now (lists_of c.args.parts.now) c.requires.ready c.requires.token

pub returns-in-Minus : goal.returns-in-Minus
returns-in-Minus c = c.at_minus.ensures c.args.bytes.now (lists_of c.args.parts.now) c.requires.ready c.requires.token

pub returns-in-Not : goal.returns-in-Not
returns-in-Not c = c.at_not.ensures c.args.bytes.now (lists_of c.args.parts.now) c.requires.ready c.requires.token

pub returns-in_default : goal.returns-in_default
returns-in_default c = refuses_want (trees c.args.bytes.now) _ _ _ _ c.args.token.kind (m.leaf_of c.args.token) c.in_default.not-Number c.in_default.not-Name c.in_default.not-True c.in_default.not-False c.in_default.not-Random c.in_default.not-Brandom c.in_default.not-LeftParen c.in_default.not-Minus c.in_default.not-Not
