-- Each arm is the machine's step.
use Rattle.std.proofs.Common.{sym, subst}
use Rattle.spl_parser.specs.declared.state.State.{State}
use Rattle.spl_parser.specs.declared.state.State.TheVariants as state
use Rattle.spl_parser.specs.Growth.{grown}
use Rattle.spl_parser.specs.Machine as m
use Rattle.spl_parser.specs.Trees.{trees}
use Rattle.spl_parser.specs.View.{next_of, Reaches}
use Rattle.spl_tree.specs.Lists.{lists_of}
use Rattle.spl_parser.proofs.ListArms.{no_names_arm}
use Rattle.spl_parser.proofs.Refusals.{refuses_names_open}
use Rattle.spl_parser.proofs.NameArms.{names_open_arm}
use Rattle.spl_parser.proofs.lists.at_names_open.Goals as goal

pub returns-in_ok-first-in-Name : goal.returns-in_ok-first-in-Name
returns-in_ok-first-in-Name c = names_open_arm c.args.bytes.now (lists_of c.args.parts.now) (lists_of c.read_word.new.parts) (lists_of c.add_named.new.parts) c.args.token c.args.body c.args.goal c.in_ok-name-in-Name.name c.in_ok-first-in-Name.first c.in-Name.is c.requires.token c.requires.ready c.in_ok-name-in-Name.ensures c.in_ok-first-in-Name.ensures.number c.in_ok-first-in-Name.ensures.grew

pub returns-in-RightParen : goal.returns-in-RightParen
returns-in-RightParen c = let P : State → Type 0 = λ s. Reaches c.args.bytes.now c.args.token.end (lists_of c.args.parts.now) s (next_of c.args.bytes.now (grown (lists_of c.args.parts.now)) (state.NamesOpen c.args.body c.args.goal) c.args.token) in subst P (sym c.names_close.ensures) (no_names_arm c.args.bytes.now (lists_of c.args.parts.now) c.args.token c.args.body c.args.goal c.in-RightParen.is c.requires.token c.requires.ready)

pub returns-in_default : goal.returns-in_default
returns-in_default c = refuses_names_open (trees c.args.bytes.now) _ _ c.args.token.kind (m.leaf_of c.args.token) c.in_default.not-Name c.in_default.not-RightParen
