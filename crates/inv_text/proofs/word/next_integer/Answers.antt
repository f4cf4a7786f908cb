use Rattle.std.proofs.Common.{◌≡◌, ap, ◌∙◌, to_z, of_z}
use Rattle.std.specs.Prelude.{ℤ}
use Rattle.std.specs.Int.{w64}
use Rattle.std.specs.Fmt.{signed_decimal}
use Rattle.std.proofs.lemmas.Int.{to_z-of_z}
use Rattle.inv_text.proofs.Words.{plain-signed}
use Rattle.inv_text.proofs.WordEnds.{short_fits}
use Rattle.inv_text.proofs.word.next_integer.Goals as goal

pub returns-in_default-clause-found : goal.returns-in_default-clause-found
returns-in_default-clause-found c = λ z rest l s e. c.in_default.ensures.found (signed_decimal z) rest e (plain-signed z l) s

pub returns-in-Some-integer-clause-found : goal.returns-in-Some-integer-clause-found
returns-in-Some-integer-clause-found c = λ z rest l s e.
    let both = c.in-Some.ensures.found (signed_decimal z) rest e (plain-signed z l) s in
    let value = c.in-Some-integer.ensures.found z l both.0 in
    let same : c.in-Some-integer.value ≡ z = cc in
    (ap (λ (v : ℤ). to_z w64 (of_z w64 v)) same ∙ to_z-of_z w64 z (short_fits z l).1, both.1)

pub returns-in-None-clause-found : goal.returns-in-None-clause-found
returns-in-None-clause-found c = λ z rest l s e.
    let both = c.in-Some.ensures.found (signed_decimal z) rest e (plain-signed z l) s in
    let value = c.in-None.ensures.found z l both.0 in
    cc
