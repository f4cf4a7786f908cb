use Rattle.std.proofs.Common.{◌≡◌, ◌∙◌, subst, IfOk, option_map}
use Rattle.command_words.specs.View.{asked_by}
use Rattle.command_words.proofs.Commands.{asked-analyse, asked-bench, asked-none, asked-replay}
use Rattle.command_words.proofs.command.read_texts.Goals as goal

pub returns-in_default : goal.returns-in_default
returns-in_default c = subst (λ t. IfOk c.analyse.result (λ r. option_map asked_by r ≡ t)) (asked-none c.args.words.now c.in_default.ensures.cases) c.analyse.ensures

pub returns-in-bench : goal.returns-in-bench
returns-in-bench c = c.bench.ensures ∙ asked-bench c.args.words.now c.in-Some.first.now c.in-Some.rest.now c.in-Some.ensures.cases.0 c.in-bench.is

pub returns-in-replay : goal.returns-in-replay
returns-in-replay c =
    subst (λ t. IfOk c.replay.result (λ r. option_map asked_by r ≡ t))
    (asked-replay c.args.words.now c.in-Some.first.now c.in-Some.rest.now c.in-Some.ensures.cases.0 c.in-replay.is) c.replay.ensures

pub returns-in_default-first : goal.returns-in_default-first
returns-in_default-first c =
    subst (λ t. IfOk c.analyse-in_default-first.result (λ r. option_map asked_by r ≡ t))
    (asked-analyse c.args.words.now c.in-Some.first.now c.in-Some.rest.now c.in-Some.ensures.cases.0 c.in_default-first.not-bench c.in_default-first.not-replay) c.analyse-in_default-first.ensures
