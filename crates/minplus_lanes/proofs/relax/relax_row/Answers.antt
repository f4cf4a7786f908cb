use Rattle.std.proofs.Common.{◌≡◌, ◌∙◌, ap, arith, to_z, of_z}
use Rattle.std.specs.Prelude.{ℤ}
use Rattle.std.specs.Int.{w64}
use Rattle.std.proofs.lemmas.Int.{ints, to_z-of_z}
use Rattle.oct_def.specs.Bound.{none_word}
use Rattle.minplus_lanes.specs.Rows.{relaxed_at}
use Rattle.minplus_lanes.proofs.Rows.{second_alone_at, first_alone_at, neither_at, relaxed-is_word, word_fits}
use Rattle.minplus_lanes.proofs.relax.relax_row.Goals as goal

pub returns-then-b-eq-NONE-clause-relaxed : goal.returns-then-b-eq-NONE-clause-relaxed
returns-then-b-eq-NONE-clause-relaxed c =
    let a : c.args.a ≡ none_word = omega (arith, ints) in
    let b : c.args.b ≡ none_word = omega (arith, ints) in
    λ j h. neither_at c.args.dst.now c.args.p.now c.args.q.now c.args.a c.args.b j a b

pub returns-then-a-eq-NONE-clause-relaxed : goal.returns-then-a-eq-NONE-clause-relaxed
returns-then-a-eq-NONE-clause-relaxed c =
    let a : c.args.a ≡ none_word = omega (arith, ints) in
    λ j h. c.relax_two.ensures.relaxed j h (c.all_fit.ensures.fits j h)
    ∙ ap (λ (t : ℤ). relaxed_at c.args.dst.now t c.args.q.now t c.args.q.now j) (to_z-of_z w64 c.args.b c.ranges.b)
    ∙ second_alone_at c.args.dst.now c.args.p.now c.args.q.now c.args.a c.args.b j a

pub returns-then-a-eq-NONE-clause-words : goal.returns-then-a-eq-NONE-clause-words
returns-then-a-eq-NONE-clause-words c = λ j h k. relaxed-is_word c.args.dst.now _ _ _ _ j _ k (c.relax_two.ensures.relaxed j h (word_fits _ k))

pub returns-then-b-eq-NONE-2-clause-relaxed : goal.returns-then-b-eq-NONE-2-clause-relaxed
returns-then-b-eq-NONE-2-clause-relaxed c =
    let b : c.args.b ≡ none_word = omega (arith, ints) in
    λ j h. c.relax_two-then-b-eq-NONE-2.ensures.relaxed j h (c.all_fit.ensures.fits j h)
    ∙ ap (λ (t : ℤ). relaxed_at c.args.dst.now t c.args.p.now t c.args.p.now j) (to_z-of_z w64 c.args.a c.ranges.a)
    ∙ first_alone_at c.args.dst.now c.args.p.now c.args.q.now c.args.a c.args.b j b

pub returns-then-b-eq-NONE-2-clause-words : goal.returns-then-b-eq-NONE-2-clause-words
returns-then-b-eq-NONE-2-clause-words c = λ j h k. relaxed-is_word c.args.dst.now _ _ _ _ j _ k (c.relax_two-then-b-eq-NONE-2.ensures.relaxed j h (word_fits _ k))

pub returns-clause-words : goal.returns-clause-words
returns-clause-words c = λ j h k. relaxed-is_word c.args.dst.now _ _ _ _ j _ k (c.relax_two-2.ensures.relaxed j h (word_fits _ k))

pub returns-clause-relaxed : goal.returns-clause-relaxed
returns-clause-relaxed c = λ j h.
    c.relax_two-2.ensures.relaxed j h (c.all_fit.ensures.fits j h)
    ∙ ap (λ (t : ℤ). relaxed_at c.args.dst.now t c.args.p.now (to_z w64 (of_z w64 c.args.b)) c.args.q.now j) (to_z-of_z w64 c.args.a c.ranges.a)
    ∙ ap (λ (t : ℤ). relaxed_at c.args.dst.now c.args.a c.args.p.now t c.args.q.now j) (to_z-of_z w64 c.args.b c.ranges.b)
