-- Each arm is the machine's step.
use Rattle.std.proofs.Common.{refl}
use Rattle.spl_text.specs.declared.token.TokenKind.TheVariants as kind
use Rattle.spl_parser.specs.declared.state.State.TheVariants as state
use Rattle.spl_parser.specs.Machine as m
use Rattle.spl_parser.specs.Trees.{trees}
use Rattle.spl_parser.specs.Machine.{step, step_inputs_after}
use Rattle.spl_parser.proofs.Stay.{still0}
use Rattle.spl_parser.proofs.Refusals.{refuses_inputs_after}
use Rattle.spl_parser.proofs.heads.at_inputs_after.Goals as goal

pub returns-in-Returns : goal.returns-in-Returns
unfolding step step_inputs_after
returns-in-Returns c = λ source t h w. still0 source t (state.InputsAfter c.args.name c.args.inputs) (state.ReturnsWord c.args.name c.args.inputs) c.args.token kind.Returns c.in-Returns.is refl refl (h.there) h w

pub returns-in_default : goal.returns-in_default
returns-in_default c = λ source t h w. refuses_inputs_after (trees source) _ _ _ _ _ _ c.args.token.kind (m.leaf_of c.args.token) c.in_default.not-Returns
