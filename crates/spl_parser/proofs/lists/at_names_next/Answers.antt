-- Each arm is the machine's step.
use Rattle.spl_parser.specs.Machine as m
use Rattle.spl_parser.specs.Trees.{trees}
use Rattle.spl_tree.specs.Lists.{lists_of}
use Rattle.spl_parser.proofs.Refusals.{refuses_names_next}
use Rattle.spl_parser.proofs.NameArms.{names_next_arm}
use Rattle.spl_parser.proofs.lists.at_names_next.Goals as goal

pub returns-in_ok-add_named-in-Name : goal.returns-in_ok-add_named-in-Name
returns-in_ok-add_named-in-Name c = names_next_arm c.args.bytes.now (lists_of c.args.parts.now) (lists_of c.read_word.new.parts) (lists_of c.add_named.new.parts) c.args.token c.args.body c.args.goal c.in_ok-name-in-Name.name c.args.first c.in-Name.is c.requires.token c.requires.ready c.in_ok-name-in-Name.ensures c.in_ok-add_named-in-Name.ensures.grew

pub returns-in_default : goal.returns-in_default
returns-in_default c = refuses_names_next (trees c.args.bytes.now) _ _ _ _ c.args.token.kind (m.leaf_of c.args.token) c.in_default.not-Name
