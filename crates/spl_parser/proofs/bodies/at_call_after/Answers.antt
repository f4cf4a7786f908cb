-- Each arm is the machine's step.
use Rattle.spl_parser.specs.Machine as m
use Rattle.spl_parser.specs.Trees.{trees}
use Rattle.spl_tree.specs.Lists.{lists_of}
use Rattle.spl_parser.proofs.Refusals.{refuses_call_after}
use Rattle.spl_parser.proofs.BodyArms.{calls_arm, call_arm}
use Rattle.spl_parser.proofs.bodies.at_call_after.Goals as goal

pub returns-in_ok-next-in-One : goal.returns-in_ok-next-in-One
returns-in_ok-next-in-One c = λ source. call_arm source (lists_of c.args.parts.now) (lists_of c.add_named.new.parts) (lists_of c.finish_stmt.new.parts) c.args.token c.args.body c.in_ok-next-in-One.next c.args.call c.in-One.target c.args.arguments c.in_ok-first-in-One.first c.call_places-places.result c.in-Semicolon.is c.in-One.is c.call_places-places.ensures c.requires.token c.requires.ready c.in_ok-first-in-One.ensures.number c.in_ok-first-in-One.ensures.grew c.in_ok-next-in-One.ensures

pub returns-in_ok-next-in-List : goal.returns-in_ok-next-in-List
returns-in_ok-next-in-List c = λ source. calls_arm source (lists_of c.args.parts.now) (lists_of c.finish_stmt-in-List.new.parts) c.args.token c.args.body c.in_ok-next-in-List.next c.args.call c.in-List.start c.in-List.list c.args.arguments c.call_places-places-in-List.result c.in-Semicolon.is c.in-List.is c.call_places-places-in-List.ensures c.requires.token c.requires.ready c.in_ok-next-in-List.ensures

pub returns-in_default : goal.returns-in_default
returns-in_default c = λ source. refuses_call_after (trees source) _ _ _ _ _ _ c.args.token.kind (m.leaf_of c.args.token) c.in_default.not-Semicolon
