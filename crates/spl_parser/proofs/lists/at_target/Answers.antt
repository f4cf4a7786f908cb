-- Each arm is the machine's step.
use Rattle.std.proofs.Common.{refl}
use Rattle.spl_text.specs.declared.token.TokenKind.TheVariants as kind
use Rattle.spl_parser.specs.declared.state.State.TheVariants as state
use Rattle.spl_parser.specs.Machine as m
use Rattle.spl_parser.specs.Trees.{trees}
use Rattle.spl_parser.specs.Machine.{step, step_target}
use Rattle.spl_parser.proofs.Stay.{still0}
use Rattle.spl_parser.proofs.Refusals.{refuses_target}
use Rattle.spl_parser.proofs.lists.at_target.Goals as goal

pub returns-in-Becomes : goal.returns-in-Becomes
unfolding step step_target
returns-in-Becomes c = λ source t h w. still0 source t (state.Target c.args.body c.args.name) (state.AssignStart c.args.body c.args.name) c.args.token kind.Becomes c.in-Becomes.is refl refl (h.there) h w

pub returns-in_default : goal.returns-in_default
returns-in_default c = λ source t h w. refuses_target (trees source) _ _ c.args.token.kind (m.leaf_of c.args.token) c.in_default.not-Becomes
