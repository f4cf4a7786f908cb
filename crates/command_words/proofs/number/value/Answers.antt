use Rattle.std.proofs.Common.{◌∙◌, sym, true≢false, eq-eqb, arith}
use Rattle.command_words.proofs.Numbers.{parsed}
use Rattle.command_words.proofs.number.value.Goals as goal

pub returns : goal.returns
returns c =
    let test = c.starts_with.ensures.byte (omega arith) (omega arith) (λ w o m. m) in
    rw c.ok.ensures.value (parsed c.args.word.now c.parse.result c.parse.ensures.value.0 (λ e. true≢false (sym (test ∙ eq-eqb _ 43 e) ∙ c.if-starts_with.false)))
