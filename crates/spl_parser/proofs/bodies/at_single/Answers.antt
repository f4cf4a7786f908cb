-- Each arm is the machine's step.
use Rattle.spl_parser.specs.Machine as m
use Rattle.spl_parser.specs.Trees.{trees}
use Rattle.spl_tree.specs.Lists.{lists_of}
use Rattle.spl_parser.proofs.Refusals.{refuses_simple}
use Rattle.spl_parser.proofs.BodyArms.{skip_arm, halt_arm, fail_arm}
use Rattle.spl_parser.proofs.bodies.at_single.Goals as goal

pub returns-in_ok-next-in-Skip : goal.returns-in_ok-next-in-Skip
returns-in_ok-next-in-Skip c = λ source. skip_arm source (lists_of c.args.parts.now) (lists_of c.finish_stmt.new.parts) c.args.token c.args.body c.in_ok-next-in-Skip.next c.args.simple c.in-Skip.start c.plain_places-places.result c.in-Semicolon.is c.in-Skip.is c.plain_places-places.ensures c.requires.token c.requires.ready c.in_ok-next-in-Skip.ensures

pub returns-in_ok-next-in-Halt : goal.returns-in_ok-next-in-Halt
returns-in_ok-next-in-Halt c = λ source. halt_arm source (lists_of c.args.parts.now) (lists_of c.finish_stmt-in-Halt.new.parts) c.args.token c.args.body c.in_ok-next-in-Halt.next c.args.simple c.in-Halt.start c.plain_places-places-in-Halt.result c.in-Semicolon.is c.in-Halt.is c.plain_places-places-in-Halt.ensures c.requires.token c.requires.ready c.in_ok-next-in-Halt.ensures

pub returns-in_ok-next-in-Fail : goal.returns-in_ok-next-in-Fail
returns-in_ok-next-in-Fail c = λ source. fail_arm source (lists_of c.args.parts.now) (lists_of c.finish_stmt-in-Fail.new.parts) c.args.token c.args.body c.in_ok-next-in-Fail.next c.args.simple c.in-Fail.start c.plain_places-places-in-Fail.result c.in-Semicolon.is c.in-Fail.is c.plain_places-places-in-Fail.ensures c.requires.token c.requires.ready c.in_ok-next-in-Fail.ensures

pub returns-in_default : goal.returns-in_default
returns-in_default c = λ source. refuses_simple (trees source) _ _ c.args.token.kind (m.leaf_of c.args.token) c.in_default.not-Semicolon
