use Rattle.std.proofs.Common.{◌≡◌, ◌-◌, ◌∙◌, pos, length, get_or, refl, ap, arith, rules, FitsSigned, to_z, of_z}
use Rattle.std.specs.Int.{w64}
use Rattle.std.proofs.lemmas.Int.{to_z-of_z}
use Rattle.oct_def.specs.Bound.{bound_of}
use Rattle.interval_form.specs.declared.constraints.OctBound.{OctBound}
use Rattle.conc_analysis.proofs.Coding.{listed_more, listed_whole}
use Rattle.conc_analysis.proofs.tests.listed_word.Goals as goal

pub loop-k-preserved : goal.loop-k-preserved
loop-k-preserved c =
    let bounds = c.args.bounds.now in
    let none : OctBound = record { row = 0; column = 0; word = pos 0 } in
    let fits : FitsSigned w64 c.with_bound-word.result = search rules in
    listed_more bounds c.loop-k.k (get_or bounds (length bounds - 1 - c.loop-k.k) none) none c.args.row c.args.column (to_z w64 c.loop-k.word-bits) (to_z w64 (of_z w64 c.with_bound-word.result)) (omega (arith, c.loop-k-test.true)) refl c.loop-k.invariant
    (ap bound_of (to_z-of_z w64 c.with_bound-word.result fits) ∙ c.with_bound-word.ensures)
