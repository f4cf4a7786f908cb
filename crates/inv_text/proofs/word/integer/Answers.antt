use Rattle.std.proofs.Common.{◌≡◌, ◌∙◌, Some, ap, to_z, of_z}
use Rattle.std.specs.Prelude.{ℤ}
use Rattle.std.specs.Int.{w64}
use Rattle.std.proofs.lemmas.Int.{to_z-of_z}
use Rattle.std.proofs.lemmas.Fmt.{parse-signed_decimal}
use Rattle.inv_text.proofs.WordEnds.{utf8_signed, short_fits}
use Rattle.inv_text.proofs.word.integer.Goals as goal

pub returns-in-Ok-parse : goal.returns-in-Ok-parse
returns-in-Ok-parse c = record {
  found = λ z l e.
      let is = c.in-Ok-parse.is in
      let both = short_fits z l in
      let r = parse-signed_decimal w64 z c.in-Ok.text.now c.parse.result both.1 both.0 (c.in-Ok.ensures.cases.0 ∙ e) c.parse.ensures.value.0 in
      let same : c.in-Ok-parse.value ≡ z = cc in
      ap (λ (v : ℤ). Some (to_z w64 (of_z w64 v))) same ∙ ap (λ (v : ℤ). Some v) (to_z-of_z w64 z both.1);
}

pub returns-in-Err-parse : goal.returns-in-Err-parse
returns-in-Err-parse c = record {
  found = λ z l e.
      let is = c.in-Err-parse.is in
      let both = short_fits z l in
      let r = parse-signed_decimal w64 z c.in-Ok.text.now c.parse.result both.1 both.0 (c.in-Ok.ensures.cases.0 ∙ e) c.parse.ensures.value.0 in
      cc;
}

pub returns-in-Err : goal.returns-in-Err
returns-in-Err c = record { found = λ z l e. absurd (c.in-Err.ensures.cases.0 (utf8_signed z c.args.word.now l e)) }
