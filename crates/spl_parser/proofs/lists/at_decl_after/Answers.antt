-- Each arm is the machine's step.
use Rattle.std.proofs.Common.{length, drop, refl, sym, ap, ◌∙◌, subst, arith}
use Rattle.spl_text.specs.declared.token.TokenKind.TheVariants as kind
use Rattle.spl_parser.specs.declared.state.DeclGoal.{DeclGoal}
use Rattle.spl_parser.specs.declared.state.Before.TheVariants as before
use Rattle.spl_parser.specs.declared.state.State.TheVariants as state
use Rattle.spl_parser.specs.Growth.{grown}
use Rattle.spl_parser.specs.Machine as m
use Rattle.spl_parser.specs.Trees.{trees}
use Rattle.spl_parser.specs.View.{decl_goal_of, Ready, next_of, Reaches, RestOf}
use Rattle.spl_parser.specs.Machine.{step, step_decl_after, vars_close}
use Rattle.spl_tree.specs.Lists.{lists_of}
use Rattle.spl_parser.proofs.Stay.{still0}
use Rattle.spl_parser.proofs.Growths.{lengths}
use Rattle.spl_parser.proofs.ListArms.{decls_rest, vars_end_arm, decl_semicolon_none}
use Rattle.spl_parser.proofs.HeadArms.{decls_end_arm}
use Rattle.spl_parser.proofs.Refusals.{refuses_decl_after}
use Rattle.spl_parser.proofs.lists.at_decl_after.Goals as goal

pub rest_of_decls-list-requires-clause-there : goal.rest_of_decls-list-requires-clause-there
rest_of_decls-list-requires-clause-there c = omega (arith, c.requires.ready.there.1, (lengths (lists_of c.args.parts.now) c.requires.ready.tree).decls)

pub rest_of_decls-list-requires-in-Locals-clause-there : goal.rest_of_decls-list-requires-in-Locals-clause-there
rest_of_decls-list-requires-in-Locals-clause-there c = omega (arith, c.requires.ready.there.1, (lengths (lists_of c.args.parts.now) c.requires.ready.tree).decls)

pub returns-in-Comma : goal.returns-in-Comma
unfolding step step_decl_after
returns-in-Comma c = λ source. still0 source (lists_of c.args.parts.now) (state.DeclAfter c.args.goal c.args.first) (state.DeclNext c.args.goal (before.After c.args.first)) c.args.token kind.Comma c.in-Comma.is refl refl (c.requires.ready.there) c.requires.ready c.requires.token

pub returns-in-RightParen : goal.returns-in-RightParen
unfolding step step_decl_after
returns-in-RightParen c = λ source.
    let rest : RestOf c.args.first (length (grown (lists_of c.args.parts.now)).decls) c.rest_of_decls-list.result.first c.rest_of_decls-list.result.count = (c.rest_of_decls-list.ensures.0, c.rest_of_decls-list.ensures.1 ∙ sym (lengths (lists_of c.args.parts.now) c.requires.ready.tree).decls) in
    decls_end_arm source (lists_of c.args.parts.now) c.args.token (state.DeclAfter c.args.goal c.args.first) c.args.goal c.rest_of_decls-list.result c.decls_close.result (drop c.args.first (grown (lists_of c.args.parts.now)).decls) c.in-RightParen.is refl (decls_rest (grown (lists_of c.args.parts.now)) c.args.first c.rest_of_decls-list.result rest c.requires.ready.there.1) (omega (arith, rest.0, rest.1)) c.requires.ready.there.0 c.requires.ready refl c.requires.token c.decls_close.ensures

pub returns-in-Locals : goal.returns-in-Locals
returns-in-Locals c = λ source.
    let P : DeclGoal → Type 0 = λ g. Ready c.args.token.start (lists_of c.args.parts.now) (state.DeclAfter g c.args.first) in
    let R : DeclGoal → Type 0 = λ g. Reaches source c.args.token.end (lists_of c.args.parts.now) (state.Begin c.in-Locals.head c.rest_of_decls-list-in-Locals.result) (next_of source (grown (lists_of c.args.parts.now)) (state.DeclAfter g c.args.first) c.args.token) in
    let rest : RestOf c.args.first (length (grown (lists_of c.args.parts.now)).decls) c.rest_of_decls-list-in-Locals.result.first c.rest_of_decls-list-in-Locals.result.count = (c.rest_of_decls-list-in-Locals.ensures.0, c.rest_of_decls-list-in-Locals.ensures.1 ∙ sym (lengths (lists_of c.args.parts.now) c.requires.ready.tree).decls) in
    subst R (sym c.in-Locals.is) (vars_end_arm source (lists_of c.args.parts.now) c.args.token c.in-Locals.head c.args.first c.rest_of_decls-list-in-Locals.result c.in-Semicolon.is c.requires.token (subst P c.in-Locals.is c.requires.ready) rest)

pub returns-in-Inputs : goal.returns-in-Inputs
unfolding vars_close
returns-in-Inputs c = λ source. decl_semicolon_none source (grown (lists_of c.args.parts.now)) c.args.token c.args.goal c.args.first c.in-Semicolon.is (λ ds l. ap (λ g. m.vars_close (trees source) (decl_goal_of source (grown (lists_of c.args.parts.now)) g) ds l) c.in-Inputs.is)

pub returns-in-Outputs : goal.returns-in-Outputs
unfolding vars_close
returns-in-Outputs c = λ source. decl_semicolon_none source (grown (lists_of c.args.parts.now)) c.args.token c.args.goal c.args.first c.in-Semicolon.is (λ ds l. ap (λ g. m.vars_close (trees source) (decl_goal_of source (grown (lists_of c.args.parts.now)) g) ds l) c.in-Outputs.is)

pub returns-in_default : goal.returns-in_default
returns-in_default c = λ source. refuses_decl_after (trees source) _ _ c.args.token.kind (m.leaf_of c.args.token) c.in_default.not-Comma c.in_default.not-RightParen c.in_default.not-Semicolon
