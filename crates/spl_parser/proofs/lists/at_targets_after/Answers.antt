-- Each arm is the machine's step.
use Rattle.std.proofs.Common.{refl}
use Rattle.spl_text.specs.declared.token.TokenKind.TheVariants as kind
use Rattle.spl_parser.specs.declared.state.Targets.TheVariants as targets
use Rattle.spl_parser.specs.declared.state.State.TheVariants as state
use Rattle.spl_parser.specs.Machine as m
use Rattle.spl_parser.specs.Trees.{trees}
use Rattle.spl_parser.specs.Machine.{step, step_targets_after}
use Rattle.spl_parser.proofs.Stay.{still0}
use Rattle.spl_parser.proofs.Refusals.{refuses_targets_after}
use Rattle.spl_parser.proofs.lists.at_targets_after.Goals as goal

pub returns-in-Becomes : goal.returns-in-Becomes
unfolding step step_targets_after
returns-in-Becomes c = λ source t h w. still0 source t (state.TargetsAfter c.args.body c.args.start c.args.list) (state.Called c.args.body (targets.List c.args.start c.args.list)) c.args.token kind.Becomes c.in-Becomes.is refl refl ((h.there.0, (h.there.1, h.there.2))) h w

pub returns-in_default : goal.returns-in_default
returns-in_default c = λ source t h w. refuses_targets_after (trees source) _ _ _ _ c.args.token.kind (m.leaf_of c.args.token) c.in_default.not-Becomes
