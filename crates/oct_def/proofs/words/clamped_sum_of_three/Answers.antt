use Rattle.std.proofs.Common.{ap, ◌∙◌, arith, rules}
use Rattle.std.specs.Prelude.{ℤ, ◌+ℤ◌, FitsSigned}
use Rattle.std.specs.Int.{w64, w128, cast_signed, cast_unsigned}
use Rattle.std.proofs.lemmas.Int.{ints, to_z-of_z}
use Rattle.oct_def.specs.Bound.{bound_of}
use Rattle.oct_def.proofs.WordBounds.{sum_of_three}
use Rattle.oct_def.proofs.words.clamped_sum_of_three.Goals as goal

-- a word cast to 128 bits, and a sum there
abbrev cast : ℤ → ℤ
cast z = cast_signed w128 (cast_unsigned w128 (cast_signed w64 (cast_unsigned w64 z)))

abbrev sum : ℤ → ℤ → ℤ
sum x y = cast_signed w128 (cast_unsigned w128 (x +ℤ y))

pub returns : goal.returns
returns c =
    let fits : FitsSigned w64 c.clamp.result = search rules in
    ap bound_of (to_z-of_z w64 c.clamp.result fits)
    ∙ sum_of_three c.args.a c.args.b c.args.c (sum (sum (cast c.args.a) (cast c.args.b)) (cast c.args.c)) c.clamp.result
    (λ e. c.if-a-eq-NONE.false (omega (arith, ints)))
    (λ e. c.if-b-eq-NONE.false (omega (arith, ints)))
    (λ e. c.if-c-eq-NONE.false (omega (arith, ints)))
    c.clamp.ensures (omega (arith, ints))
