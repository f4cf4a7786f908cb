-- Each arm is the machine's step.
use Rattle.std.proofs.Common.{refl}
use Rattle.spl_parser.specs.declared.state.State.TheVariants as state
use Rattle.spl_parser.proofs.WantArms.{minus_arm}
use Rattle.spl_parser.proofs.exprs.at_minus.Goals as goal

pub returns : goal.returns
returns c = λ source t h w. minus_arm source t c.args.token c.args.expr.body c.args.expr.goal (state.Want c.args.expr) (state.Want (record { body = c.args.expr.body; goal = c.args.expr.goal; parens = c.args.expr.parens; pending = c.in_ok-next.next })) c.args.expr.parens.items c.args.expr.pending c.in_ok-next.next c.requires.kind c.in_ok-next.ensures refl refl refl refl (λ x. (h.there.0, h.there.1, h.there.2, x)) h w h.there.3
