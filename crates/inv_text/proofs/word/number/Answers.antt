use Rattle.std.proofs.Common.{◌∙◌, arith}
use Rattle.std.proofs.lemmas.Fmt.{parse-decimal}
use Rattle.inv_text.proofs.WordEnds.{utf8_decimal}
use Rattle.inv_text.proofs.word.number.Goals as goal

pub returns-in-Ok-parse : goal.returns-in-Ok-parse
returns-in-Ok-parse c = record {
  found = λ n l e.
      let is = c.in-Ok-parse.is in
      let r = parse-decimal 32 n c.in-Ok.text.now c.parse.result l (omega arith) (c.in-Ok.ensures.cases.0 ∙ e) c.parse.ensures.value.0 in
      cc;
}

pub returns-in-Err-parse : goal.returns-in-Err-parse
returns-in-Err-parse c = record {
  found = λ n l e.
      let is = c.in-Err-parse.is in
      let r = parse-decimal 32 n c.in-Ok.text.now c.parse.result l (omega arith) (c.in-Ok.ensures.cases.0 ∙ e) c.parse.ensures.value.0 in
      cc;
}

pub returns-in-Err : goal.returns-in-Err
returns-in-Err c = record { found = λ n l e. absurd (c.in-Err.ensures.cases.0 (utf8_decimal n c.args.word.now l e)) }
