-- Each arm is the machine's step.
use Rattle.std.proofs.Common.{refl}
use Rattle.spl_text.specs.declared.token.TokenKind.TheVariants as kind
use Rattle.spl_parser.specs.declared.state.NameGoal.TheVariants as name_goal
use Rattle.spl_parser.specs.declared.state.State.TheVariants as state
use Rattle.spl_parser.specs.Machine as m
use Rattle.spl_parser.specs.Trees.{trees}
use Rattle.spl_parser.specs.Machine.{step, step_called_name}
use Rattle.spl_parser.proofs.Stay.{still0}
use Rattle.spl_parser.proofs.Refusals.{refuses_called_name}
use Rattle.spl_parser.proofs.lists.at_called_name.Goals as goal

pub returns-in-LeftParen : goal.returns-in-LeftParen
unfolding step step_called_name
returns-in-LeftParen c = λ source t h w. still0 source t (state.CalledName c.args.body c.args.call) (state.NamesOpen c.args.body (name_goal.Arguments c.args.call)) c.args.token kind.LeftParen c.in-LeftParen.is refl refl h.there h w

pub returns-in_default : goal.returns-in_default
returns-in_default c = λ source t h w. refuses_called_name (trees source) _ _ _ c.args.token.kind (m.leaf_of c.args.token) c.in_default.not-LeftParen
