use Rattle.std.proofs.Common.{◌≡◌, ◌∙◌, ap, arith, to_z, of_z}
use Rattle.std.specs.Prelude.{ℤ}
use Rattle.std.specs.Int.{w64}
use Rattle.std.proofs.lemmas.Int.{ints, to_z-of_z}
use Rattle.oct_def.specs.Bound.{none_word}
use Rattle.minplus_lanes.specs.Rows.{low_at}
use Rattle.minplus_lanes.proofs.Low.{low_neither, low_second, low_first}
use Rattle.minplus_lanes.proofs.small.relax_small_row.Goals as goal

pub returns-then-b-eq-NONE-clause-relaxed : goal.returns-then-b-eq-NONE-clause-relaxed
returns-then-b-eq-NONE-clause-relaxed c =
    let a : c.args.a ≡ none_word = omega (arith, ints) in
    let b : c.args.b ≡ none_word = omega (arith, ints) in
    λ j h. low_neither c.args.dst.now c.args.p.now c.args.q.now c.args.a c.args.b j a b

pub returns-then-a-eq-NONE-clause-relaxed : goal.returns-then-a-eq-NONE-clause-relaxed
returns-then-a-eq-NONE-clause-relaxed c =
    let a : c.args.a ≡ none_word = omega (arith, ints) in
    λ j h. c.relax_low.ensures.relaxed j h (c.all_fit.ensures.fits j h) ∙ low_second c.args.dst.now c.args.p.now c.args.q.now c.args.a c.args.b _ j a (to_z-of_z w64 c.args.b c.ranges.b)

pub returns-then-b-eq-NONE-2-clause-relaxed : goal.returns-then-b-eq-NONE-2-clause-relaxed
returns-then-b-eq-NONE-2-clause-relaxed c =
    let b : c.args.b ≡ none_word = omega (arith, ints) in
    λ j h. c.relax_low-then-b-eq-NONE-2.ensures.relaxed j h (c.all_fit.ensures.fits j h) ∙ low_first c.args.dst.now c.args.p.now c.args.q.now c.args.a c.args.b _ j b (to_z-of_z w64 c.args.a c.ranges.a)

pub returns-clause-relaxed : goal.returns-clause-relaxed
returns-clause-relaxed c = λ j h.
    c.relax_low-2.ensures.relaxed j h (c.all_fit.ensures.fits j h)
    ∙ ap (λ (t : ℤ). low_at c.args.dst.now t c.args.p.now (to_z w64 (of_z w64 c.args.b)) c.args.q.now j) (to_z-of_z w64 c.args.a c.ranges.a)
    ∙ ap (λ (t : ℤ). low_at c.args.dst.now c.args.a c.args.p.now t c.args.q.now j) (to_z-of_z w64 c.args.b c.ranges.b)
