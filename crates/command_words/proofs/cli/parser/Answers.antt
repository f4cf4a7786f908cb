use Rattle.std.proofs.Common.{rules, ◌∙◌, ap, ap₂, true}
use Rattle.clap.specs.Simple.{Shape, app_of_fields, on_top, with_rule}
use Rattle.command_words.specs.Cli.{cli}
use Rattle.command_words.proofs.cli.parser.Goals as goal

pub returns : goal.returns
unfolding cli
returns c =
    let base = ap app_of_fields c.no_binary_name.ensures ∙ ap (on_top (λ (s : Shape). record s { no_binary_name = true })) c.new.ensures.app in
    let plain = ap app_of_fields c.disable_help_flag-plain.ensures ∙ ap (on_top (λ (s : Shape). record s { disable_help_flag = true })) base in
    c.in_ok-whole.ensures.shape (search rules) ∙ ap₂ with_rule
    (c.in_ok-domain.ensures.shape (search rules) ∙ ap₂ with_rule
    (c.in_ok-full.ensures.shape (search rules) ∙ ap₂ with_rule
    (c.in_ok-descend.ensures.shape (search rules) ∙ ap₂ with_rule
    (c.in_ok-delay.ensures.shape (search rules) ∙ ap₂ with_rule plain c.valued.ensures.rule) c.valued-2.ensures.rule) c.flag.ensures.rule) c.valued-3.ensures.rule) c.file_word.ensures.rule
