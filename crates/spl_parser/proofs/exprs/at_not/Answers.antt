-- Each arm is the machine's step.
use Rattle.std.proofs.Common.{refl}
use Rattle.spl_parser.specs.declared.state.State.TheVariants as state
use Rattle.spl_parser.specs.Growth.{grown}
use Rattle.spl_parser.proofs.WantArms.{not_arm, not_none}
use Rattle.spl_parser.proofs.exprs.at_not.Goals as goal

pub returns : goal.returns
returns c = λ source t h w. not_arm source t c.args.token c.args.expr.body c.args.expr.goal (state.Want c.args.expr) (state.Want (record { body = c.args.expr.body; goal = c.args.expr.goal; parens = c.args.expr.parens; pending = c.in_ok-next.next })) c.args.expr.parens.items c.args.expr.pending c.in_ok-next.next c.requires.kind (cc (c.takes_not.ensures, c.if-not-takes_not.false)) c.in_ok-next.ensures refl refl refl refl (λ x. (h.there.0, h.there.1, h.there.2, x)) h w h.there.3

pub returns-then-not-takes_not : goal.returns-then-not-takes_not
returns-then-not-takes_not c = λ source t h w. not_none source (grown t) c.args.token c.args.expr.body c.args.expr.goal (state.Want c.args.expr) c.args.expr.parens.items c.args.expr.pending c.requires.kind (cc (c.takes_not.ensures, c.if-not-takes_not.true)) refl
