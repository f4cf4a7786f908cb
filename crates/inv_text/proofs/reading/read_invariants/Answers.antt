use Rattle.std.proofs.Common.{eqb, not, refl, length, sym, ap, ◌∙◌, arith}
use Rattle.std.specs.Cmp.Lexicographic.{pointwise}
use Rattle.std.proofs.lemmas.Bool.{false≢true}
use Rattle.std.proofs.lemmas.Bool.Decides.{Decides-eqb}
use Rattle.std.proofs.lemmas.Slice.Eq.{slice_eq-Decides}
use Rattle.inv_text.specs.CertText.{cert_text}
use Rattle.inv_text.specs.Reading.{lines_from}
use Rattle.inv_text.proofs.Lines.{text_lines}
use Rattle.inv_text.proofs.reading.read_invariants.Goals as goal

pub returns-in_default-clause-bad : goal.returns-in_default-clause-bad
returns-in_default-clause-bad c = λ _ x is.
    c.in_default.ensures.found (length x) (lines_from x 0 (length x)) (omega (arith, is.invariants.points, c.requires.few)) (is.text ∙ text_lines x)

pub returns-in-Err-clause-bad : goal.returns-in-Err-clause-bad
returns-in-Err-clause-bad c = λ bad x is.
    let lines = c.in-Some.ensures.found (length x) (lines_from x 0 (length x)) (omega (arith, is.invariants.points, c.requires.few)) (is.text ∙ text_lines x) in
    let memory = c.in-Err.ensures.found x is.invariants (lines ∙ ap (lines_from x 0) is.invariants.points) in
    cc

pub returns-then-ne-clause-bad : goal.returns-then-ne-clause-bad
returns-then-ne-clause-bad c = λ _ x is.
    let lines = c.in-Some.ensures.found (length x) (lines_from x 0 (length x)) (omega (arith, is.invariants.points, c.requires.few)) (is.text ∙ text_lines x) in
    let same = c.in-Ok.ensures.found x is.invariants (lines ∙ ap (lines_from x 0) is.invariants.points) in
    let equal = c.as_slice.ensures.value ∙ c.in_ok-text.ensures.text ∙ ap cert_text same ∙ sym is.text in
    let yes = (slice_eq-Decides {E = eqb} Decides-eqb c.as_slice.result.now c.args.bytes.now (pointwise eqb c.as_slice.result.now c.args.bytes.now) refl).1 equal in
    false≢true (sym (c.if-ne.ensures ∙ ap not yes))
