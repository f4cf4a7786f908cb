use Rattle.std.proofs.Common.{◌∙◌, ap₂, sym, Some}
use Rattle.command_words.specs.Command.{Replay}
use Rattle.command_words.proofs.Commands.{replay-other, replay-two}
use Rattle.command_words.proofs.command.replay.Goals as goal

pub returns-then-words-ne2 : goal.returns-then-words-ne2
returns-then-words-ne2 c = replay-other c.args.words.now c.if-words-ne2.true

pub returns-then-not-is_file : goal.returns-then-not-is_file
returns-then-not-is_file c =
    let file = sym c.is_file.ensures ∙ c.if-not-is_file.true in
    rw file at (replay-two c.args.words.now c.if-words-ne2.false)

pub returns-then-not-is_file-2 : goal.returns-then-not-is_file-2
returns-then-not-is_file-2 c =
    let file = sym c.is_file.ensures ∙ c.if-not-is_file.false in
    let choices = sym c.is_file-2.ensures ∙ c.if-not-is_file-2.true in
    rw (file, choices) at (replay-two c.args.words.now c.if-words-ne2.false)

pub returns : goal.returns
returns c =
    let file = sym c.is_file.ensures ∙ c.if-not-is_file.false in
    let choices = sym c.is_file-2.ensures ∙ c.if-not-is_file-2.false in
    ap₂ (λ a b. Some (Replay a b)) c.in_ok-from_str.ensures.ok c.in_ok-from_str-2.ensures.ok ∙ rw (file, choices) at (replay-two c.args.words.now c.if-words-ne2.false)
