-- Each arm is the machine's step.
use Rattle.spl_parser.specs.Machine as m
use Rattle.spl_parser.specs.Trees.{trees}
use Rattle.spl_tree.specs.Lists.{lists_of}
use Rattle.spl_parser.proofs.Refusals.{refuses_called}
use Rattle.spl_parser.proofs.NameArms.{called_arm}
use Rattle.spl_parser.proofs.lists.at_called.Goals as goal

pub returns-in_ok-called-in-Name : goal.returns-in_ok-called-in-Name
returns-in_ok-called-in-Name c = called_arm c.args.bytes.now (lists_of c.args.parts.now) (lists_of c.read_word.new.parts) c.args.token c.args.body c.args.targets c.in_ok-called-in-Name.called c.in-Name.is c.requires.token c.requires.ready c.in_ok-called-in-Name.ensures

pub returns-in_default : goal.returns-in_default
returns-in_default c = refuses_called (trees c.args.bytes.now) _ _ c.args.token.kind (m.leaf_of c.args.token) c.in_default.not-Name
