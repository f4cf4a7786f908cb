-- Each arm is the machine's step.
use Rattle.std.proofs.Common.{refl}
use Rattle.spl_parser.specs.declared.state.State.TheVariants as state
use Rattle.spl_parser.proofs.WantArms.{paren_arm}
use Rattle.spl_parser.proofs.exprs.at_left.Goals as goal

pub returns : goal.returns
returns c = λ source t h w. paren_arm source t c.args.token c.args.expr.body c.args.expr.goal (state.Want c.args.expr) (state.Want (record { body = c.args.expr.body; goal = c.args.expr.goal; parens = c.in_ok-outer.outer; pending = c.nothing_before.result })) c.args.expr.parens.items c.in_ok-outer.outer.items c.args.expr.pending c.nothing_before.result c.requires.kind c.in_ok-outer.ensures c.nothing_before.ensures refl refl refl refl (λ a b d f. (a, b, d, f)) h w h.there
