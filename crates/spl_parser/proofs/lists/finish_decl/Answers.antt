-- Each arm is the machine's step.
use Rattle.std.proofs.Common.{sym, subst}
use Rattle.spl_parser.specs.declared.state.Before.{Before}
use Rattle.spl_parser.specs.declared.state.State.TheVariants as state
use Rattle.spl_parser.specs.Growth.{grown}
use Rattle.spl_parser.specs.View.{BeforeIn, DeclDone}
use Rattle.spl_tree.specs.Lists.{lists_of}
use Rattle.spl_parser.proofs.ListArms.{decl_done_first, decl_done_after}
use Rattle.spl_parser.proofs.lists.finish_decl.Goals as goal

pub returns-in-First : goal.returns-in-First
returns-in-First c =
    let P : Before → Type 0 = λ b. DeclDone (lists_of c.args.parts.now) (lists_of c.add_decl.new.parts) c.args.goal b c.args.name c.args.kind c.args.place (state.DeclAfter c.args.goal c.in_ok-number.number) in
    subst P (sym c.in-First.is) (decl_done_first (lists_of c.args.parts.now) (lists_of c.add_decl.new.parts) c.args.goal c.args.name c.args.kind c.args.place c.in_ok-number.number c.requires.goal c.in_ok-number.ensures.number c.in_ok-number.ensures.grew)

pub returns-in-After : goal.returns-in-After
returns-in-After c =
    let P : Before → Type 0 = λ b. DeclDone (lists_of c.args.parts.now) (lists_of c.add_decl.new.parts) c.args.goal b c.args.name c.args.kind c.args.place (state.DeclAfter c.args.goal c.in-After.first) in
    let Q : Before → Type 0 = λ b. BeforeIn (grown (lists_of c.args.parts.now)) b in
    subst P (sym c.in-After.is) (decl_done_after (lists_of c.args.parts.now) (lists_of c.add_decl.new.parts) c.args.goal c.in-After.first c.args.name c.args.kind c.args.place c.requires.goal (subst Q c.in-After.is c.requires.before) c.in_ok-number.ensures.grew)
