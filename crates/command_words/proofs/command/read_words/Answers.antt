use Rattle.std.proofs.Common.{◌∙◌, ap, sym, option_map}
use Rattle.command_words.specs.Command.{asked_of_texts}
use Rattle.command_words.specs.View.{asked_by}
use Rattle.command_words.proofs.Commands.{asked-other, asked-text, texts}
use Rattle.command_words.proofs.command.read_words.Goals as goal

pub returns-in_default : goal.returns-in_default
returns-in_default c = asked-other _ (rw c.in_default.is at c.in_ok-texts.ensures)

pub returns-in-Some-2 : goal.returns-in-Some-2
returns-in-Some-2 c =
    let are = rw c.in-Some.is at c.in_ok-texts.ensures in
    let same = ap texts c.as_slice.ensures.value ∙ are.0 in
    asked-text _ are.1 ∙ ap asked_of_texts (sym same) ∙ sym c.in_ok-command.ensures ∙ ap (option_map asked_by) c.in-Some-2.is

pub returns : goal.returns
returns c =
    let are = rw c.in-Some.is at c.in_ok-texts.ensures in
    let same = ap texts c.as_slice.ensures.value ∙ are.0 in
    asked-text _ are.1 ∙ ap asked_of_texts (sym same) ∙ sym c.in_ok-command.ensures ∙ ap (option_map asked_by) c.in-None.is
