-- Each arm is the machine's step.
use Rattle.std.proofs.Common.{length, refl, sym, ◌∙◌, subst, arith}
use Rattle.spl_text.specs.declared.token.TokenKind.TheVariants as kind
use Rattle.spl_parser.specs.declared.state.State.{State}
use Rattle.spl_parser.specs.declared.state.State.TheVariants as state
use Rattle.spl_parser.specs.Growth.{grown}
use Rattle.spl_parser.specs.Machine as m
use Rattle.spl_parser.specs.Trees.{trees}
use Rattle.spl_parser.specs.View.{next_of, Reaches, RestOf}
use Rattle.spl_parser.specs.Machine.{step, step_names_after}
use Rattle.spl_tree.specs.Lists.{lists_of}
use Rattle.spl_parser.proofs.Stay.{still0}
use Rattle.spl_parser.proofs.Growths.{lengths}
use Rattle.spl_parser.proofs.ListArms.{names_end_arm}
use Rattle.spl_parser.proofs.Refusals.{refuses_names_after}
use Rattle.spl_parser.proofs.lists.at_names_after.Goals as goal

pub rest_of_names-list-requires-clause-there : goal.rest_of_names-list-requires-clause-there
rest_of_names-list-requires-clause-there c = omega (arith, c.requires.ready.there.2, (lengths (lists_of c.args.parts.now) c.requires.ready.tree).named)

pub returns-in-Comma : goal.returns-in-Comma
unfolding step step_names_after
returns-in-Comma c = λ source. still0 source (lists_of c.args.parts.now) (state.NamesAfter c.args.body c.args.goal c.args.first) (state.NamesNext c.args.body c.args.goal c.args.first) c.args.token kind.Comma c.in-Comma.is refl refl (c.requires.ready.there) c.requires.ready c.requires.token

pub returns-in-RightParen : goal.returns-in-RightParen
returns-in-RightParen c = λ source.
    let P : State → Type 0 = λ s. Reaches source c.args.token.end (lists_of c.args.parts.now) s (next_of source (grown (lists_of c.args.parts.now)) (state.NamesAfter c.args.body c.args.goal c.args.first) c.args.token) in
    let rest : RestOf c.args.first (length (grown (lists_of c.args.parts.now)).named) c.rest_of_names-list.result.first c.rest_of_names-list.result.count = (c.rest_of_names-list.ensures.0, c.rest_of_names-list.ensures.1 ∙ sym (lengths (lists_of c.args.parts.now) c.requires.ready.tree).named) in
    subst P (sym c.names_close.ensures) (names_end_arm source (lists_of c.args.parts.now) c.args.token c.args.body c.args.goal c.args.first c.rest_of_names-list.result c.in-RightParen.is c.requires.token c.requires.ready rest)

pub returns-in_default : goal.returns-in_default
returns-in_default c = λ source. refuses_names_after (trees source) _ _ _ c.args.token.kind (m.leaf_of c.args.token) c.in_default.not-Comma c.in_default.not-RightParen
