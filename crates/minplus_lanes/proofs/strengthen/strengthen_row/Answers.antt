use Rattle.std.proofs.Common.{◌≡◌, ◌∙◌, arith}
use Rattle.std.specs.Int.{w64}
use Rattle.std.proofs.lemmas.Int.{ints, to_z-of_z}
use Rattle.oct_def.specs.Bound.{none_word}
use Rattle.minplus_lanes.proofs.Rows.{relaxed-is_word, word_fits}
use Rattle.minplus_lanes.proofs.Halves.{none_strong, strong-relaxed_again}
use Rattle.minplus_lanes.proofs.strengthen.strengthen_row.Goals as goal

pub returns-then-half-eq-NONE-clause-strong : goal.returns-then-half-eq-NONE-clause-strong
returns-then-half-eq-NONE-clause-strong c =
    let e : c.args.half ≡ none_word = omega (arith, ints) in
    λ j h. none_strong c.args.dst.now c.args.halves.now c.args.half j e

pub returns-clause-strong : goal.returns-clause-strong
returns-clause-strong c = λ j h.
    c.relax_two.ensures.relaxed j h (c.all_fit.ensures.fits j h)
    ∙ strong-relaxed_again c.args.dst.now c.args.halves.now c.args.half _ j (to_z-of_z w64 c.args.half c.ranges.half) c.requires.half (c.requires.halves.words j (omega arith))

pub returns-clause-words : goal.returns-clause-words
returns-clause-words c = λ j h k. relaxed-is_word c.args.dst.now _ _ _ _ j _ k (c.relax_two.ensures.relaxed j h (word_fits _ k))
