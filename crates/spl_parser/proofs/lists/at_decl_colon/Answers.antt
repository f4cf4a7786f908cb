-- Each arm is the machine's step.
use Rattle.spl_parser.specs.Machine as m
use Rattle.spl_parser.specs.Trees.{trees}
use Rattle.spl_tree.specs.Lists.{lists_of}
use Rattle.spl_parser.proofs.ListArms.{decl_int_arm, decl_real_arm, decl_name_arm}
use Rattle.spl_parser.proofs.Refusals.{refuses_decl_colon}
use Rattle.spl_parser.proofs.lists.at_decl_colon.Goals as goal

pub returns-in_ok-next-in-Int : goal.returns-in_ok-next-in-Int
returns-in_ok-next-in-Int c = decl_int_arm c.args.bytes.now (lists_of c.args.parts.now) (lists_of c.finish_decl.new.parts) c.args.token c.args.goal c.args.before c.args.name c.in_ok-next-in-Int.next c.in-Int.is c.requires.token c.requires.ready c.in_ok-next-in-Int.ensures

pub returns-in_ok-next-in-Real : goal.returns-in_ok-next-in-Real
returns-in_ok-next-in-Real c = decl_real_arm c.args.bytes.now (lists_of c.args.parts.now) (lists_of c.finish_decl-in-Real.new.parts) c.args.token c.args.goal c.args.before c.args.name c.in_ok-next-in-Real.next c.in-Real.is c.requires.token c.requires.ready c.in_ok-next-in-Real.ensures

pub returns-in_ok-next-in-Name : goal.returns-in_ok-next-in-Name
returns-in_ok-next-in-Name c = decl_name_arm c.args.bytes.now (lists_of c.args.parts.now) (lists_of c.read_word.new.parts) (lists_of c.finish_decl-in-Name.new.parts) c.args.token c.args.goal c.args.before c.args.name c.in_ok-word-in-Name.word c.in_ok-next-in-Name.next c.in-Name.is c.requires.token c.requires.ready c.in_ok-word-in-Name.ensures c.in_ok-next-in-Name.ensures

pub returns-in_default : goal.returns-in_default
returns-in_default c = refuses_decl_colon (trees c.args.bytes.now) _ _ _ _ c.args.token.kind (m.leaf_of c.args.token) c.in_default.not-Int c.in_default.not-Real c.in_default.not-Name
