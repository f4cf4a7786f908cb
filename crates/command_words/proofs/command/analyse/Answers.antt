use Rattle.std.proofs.Common.{◌∙◌, refl, ap, sym, Some, None, option_map}
use Rattle.command_words.specs.Command.{Analyse}
use Rattle.command_words.specs.View.{given_view}
use Rattle.command_words.proofs.Commands.{analyse-is, analyse-none, texts}
use Rattle.command_words.proofs.command.analyse.Goals as goal

pub returns-in_default : goal.returns-in_default
returns-in_default c = analyse-none (texts c.args.words.now) (sym c.in_ok-given.ensures ∙ ap (option_map given_view) c.in_default.is)

pub returns-in_default-rounds_given : goal.returns-in_default-rounds_given
returns-in_default-rounds_given c =
    let given = sym c.in_ok-given.ensures ∙ ap (option_map given_view) c.in-Some.is in
    let delay = sym c.in_default-rounds_given.is ∙ c.rounds_given.ensures in
    analyse-is (texts c.args.words.now) (given_view c.in-Some.given) None _ _ given delay refl refl

pub returns-in_default-rounds_given-2 : goal.returns-in_default-rounds_given-2
returns-in_default-rounds_given-2 c =
    let given = sym c.in_ok-given.ensures ∙ ap (option_map given_view) c.in-Some.is in
    let delay = sym c.in-Some-rounds_given.is ∙ c.rounds_given.ensures in
    let descend = sym c.in_default-rounds_given-2.is ∙ c.rounds_given-2.ensures in
    analyse-is (texts c.args.words.now) (given_view c.in-Some.given) (Some c.in-Some-rounds_given.delay) None _ given delay descend refl

pub returns-in_default-domain_given : goal.returns-in_default-domain_given
returns-in_default-domain_given c =
    let given = sym c.in_ok-given.ensures ∙ ap (option_map given_view) c.in-Some.is in
    let delay = sym c.in-Some-rounds_given.is ∙ c.rounds_given.ensures in
    let descend = sym c.in-Some-rounds_given-2.is ∙ c.rounds_given-2.ensures in
    let domain = sym c.in_default-domain_given.is ∙ c.domain_given.ensures in
    analyse-is (texts c.args.words.now) (given_view c.in-Some.given) (Some c.in-Some-rounds_given.delay) (Some c.in-Some-rounds_given-2.descend) None given delay descend domain

pub returns : goal.returns
returns c =
    let given = sym c.in_ok-given.ensures ∙ ap (option_map given_view) c.in-Some.is in
    let delay = sym c.in-Some-rounds_given.is ∙ c.rounds_given.ensures in
    let descend = sym c.in-Some-rounds_given-2.is ∙ c.rounds_given-2.ensures in
    let domain = sym c.in-Some-domain_given.is ∙ c.domain_given.ensures in
    ap (λ file. Some (Analyse c.in-Some-rounds_given.delay c.in-Some-rounds_given-2.descend c.in-Some.given.full c.in-Some-domain_given.domain file)) c.in_ok-from_str.ensures.ok
    ∙ analyse-is (texts c.args.words.now) (given_view c.in-Some.given) (Some c.in-Some-rounds_given.delay) (Some c.in-Some-rounds_given-2.descend) (Some c.in-Some-domain_given.domain) given delay descend domain
