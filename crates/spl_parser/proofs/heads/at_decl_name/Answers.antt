-- Each arm is the machine's step.
use Rattle.std.proofs.Common.{refl}
use Rattle.spl_text.specs.declared.token.TokenKind.TheVariants as kind
use Rattle.spl_parser.specs.declared.state.State.TheVariants as state
use Rattle.spl_parser.specs.Machine as m
use Rattle.spl_parser.specs.Trees.{trees}
use Rattle.spl_parser.specs.Machine.{step, step_decl_name}
use Rattle.spl_parser.proofs.Stay.{still0}
use Rattle.spl_parser.proofs.Refusals.{refuses_decl_name}
use Rattle.spl_parser.proofs.heads.at_decl_name.Goals as goal

pub returns-in-Colon : goal.returns-in-Colon
unfolding step step_decl_name
returns-in-Colon c = λ source t h w. still0 source t (state.DeclName c.args.goal c.args.before c.args.name) (state.DeclColon c.args.goal c.args.before c.args.name) c.args.token kind.Colon c.in-Colon.is refl refl (h.there) h w

pub returns-in_default : goal.returns-in_default
returns-in_default c = λ source t h w. refuses_decl_name (trees source) _ _ _ c.args.token.kind (m.leaf_of c.args.token) c.in_default.not-Colon
