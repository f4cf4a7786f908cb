-- Each arm is the machine's step.
use Rattle.std.proofs.Common.{[], refl, arith}
use Rattle.spl_parser.specs.declared.state.State.TheVariants as state
use Rattle.spl_parser.specs.Machine as m
use Rattle.spl_parser.specs.Trees.{trees}
use Rattle.spl_tree.specs.Lists.{lists_of}
use Rattle.spl_parser.specs.Machine.{step, step_decl_open}
use Rattle.spl_parser.proofs.HeadArms.{decls_end_arm}
use Rattle.spl_parser.proofs.Refusals.{refuses_decl_open}
use Rattle.spl_parser.proofs.NameArms.{decl_open_arm}
use Rattle.spl_parser.proofs.heads.at_decl_open.Goals as goal

pub returns-in_ok-name-in-Name : goal.returns-in_ok-name-in-Name
returns-in_ok-name-in-Name c = decl_open_arm c.args.bytes.now (lists_of c.args.parts.now) (lists_of c.read_word.new.parts) c.args.token c.args.goal c.in_ok-name-in-Name.name c.in-Name.is c.requires.token c.requires.ready c.in_ok-name-in-Name.ensures

pub returns-in-RightParen : goal.returns-in-RightParen
returns-in-RightParen c = decls_end_arm c.args.bytes.now (lists_of c.args.parts.now) c.args.token (state.DeclOpen c.args.goal) c.args.goal (record { first = 0; count = 0 }) c.decls_close.result [] c.in-RightParen.is (unfold step step_decl_open in refl) refl (omega arith) c.requires.ready.there c.requires.ready refl c.requires.token c.decls_close.ensures

pub returns-in_default : goal.returns-in_default
returns-in_default c = refuses_decl_open (trees c.args.bytes.now) _ c.args.token.kind (m.leaf_of c.args.token) c.in_default.not-Name c.in_default.not-RightParen
