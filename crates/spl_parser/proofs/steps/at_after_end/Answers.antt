-- Each arm is the machine's step.
use Rattle.spl_tree.specs.Lists.{lists_of}
use Rattle.spl_parser.proofs.BodyArms.{closed_semicolon_arm}
use Rattle.spl_parser.proofs.FreshArms.{after_end_arm}
use Rattle.spl_parser.proofs.steps.at_after_end.Goals as goal

pub returns-in_ok-next-in-Semicolon : goal.returns-in_ok-next-in-Semicolon
returns-in_ok-next-in-Semicolon c = closed_semicolon_arm c.args.bytes.now (lists_of c.args.parts.now) (lists_of c.finish_closed.new.parts) c.args.token c.args.body c.in_ok-next-in-Semicolon.next c.args.closed c.in-Semicolon.is c.requires.token c.requires.ready c.in_ok-next-in-Semicolon.ensures

pub returns-in_ok-next-in_default : goal.returns-in_ok-next-in_default
returns-in_ok-next-in_default c = after_end_arm c.args.bytes.now (lists_of c.args.parts.now) (lists_of c.finish_closed-in_default.new.parts) _ c.args.token c.args.body c.in_ok-next-in_default.next c.args.closed c.word_end.result _ c.in_default.not-Semicolon c.word_end.ensures c.in_ok-next-in_default.ensures c.at_block.ensures
