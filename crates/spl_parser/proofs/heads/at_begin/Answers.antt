-- Each arm is the machine's step.
use Rattle.spl_parser.specs.Machine as m
use Rattle.spl_parser.specs.Trees.{trees}
use Rattle.spl_parser.specs.Machine.{step, step_begin}
use Rattle.spl_parser.proofs.HeadArms.{begins_body}
use Rattle.spl_parser.proofs.Refusals.{refuses_begin}
use Rattle.spl_parser.proofs.heads.at_begin.Goals as goal

pub returns-in-Begin : goal.returns-in-Begin
returns-in-Begin c = λ source t h w. begins_body source t c.args.token c.args.head c.args.locals c.new_body.result c.in-Begin.is c.new_body.ensures h w

pub returns-in_default : goal.returns-in_default
returns-in_default c = λ source t h w. refuses_begin (trees source) _ _ c.args.token.kind (m.leaf_of c.args.token) c.in_default.not-Begin
