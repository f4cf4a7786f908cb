use Rattle.std.proofs.Common.{◌≡◌, true, false, refl, sym, ap, ◌∙◌, arith, rules, length}
use Rattle.std.specs.Prelude.{ℤ, FitsSigned}
use Rattle.std.specs.Int.{w64, cast_signed, cast_unsigned}
use Rattle.std.proofs.lemmas.Int.{to_z-of_z}
use Rattle.oct_def.specs.Bound.{bound_of}
use Rattle.oct_def.specs.Table.{some_index}
use Rattle.oct_def.specs.Tight.{crossing, has_crossing}
use Rattle.oct_def.proofs.Closings.{crossing_of}
use Rattle.oct_def.proofs.Indices.{some_index-more, some_index-found}
use Rattle.full_oct.proofs.matrix.FullMatrix.has_crossing.Goals as goal

-- a word that the code passes on
abbrev word : ℤ → ℤ
word z = cast_signed w64 (cast_unsigned w64 z)

pub returns : goal.returns
unfolding has_crossing
returns c =
    let s = c.args.self.now in
    let all : c.loop-i.i ≡ length s = omega (arith, c.size-i-end.ensures.rows) in
    sym c.loop-i.invariant ∙ ap (λ n. some_index n (crossing s)) all

pub returns-then-has_negative_sum : goal.returns-then-has_negative_sum
unfolding has_crossing
returns-then-has_negative_sum c =
    let s = c.args.self.now in
    let above_fits : FitsSigned w64 c.word-above.result = search rules in
    let below_fits : FitsSigned w64 c.word-below.result = search rules in
    let above = ap bound_of (to_z-of_z w64 c.word-above.result above_fits) ∙ c.word-above.ensures.bound in
    let below = ap bound_of (to_z-of_z w64 c.word-below.result below_fits) ∙ c.word-below.ensures.bound in
    let test = crossing_of s c.loop-i.i c.opposite.result c.opposite-in-loop-i.result (word c.word-above.result) (word c.word-below.result) true c.opposite.ensures c.opposite-in-loop-i.ensures above below c.if-has_negative_sum.ensures in
    sym (some_index-found (length s) (crossing s) c.loop-i.i (omega (arith, c.size-i-end.ensures.rows)) test)

pub loop-i-init : goal.loop-i-init
unfolding some_index
loop-i-init c = refl

pub loop-i-preserved : goal.loop-i-preserved
loop-i-preserved c =
    let s = c.args.self.now in
    let above_fits : FitsSigned w64 c.word-above.result = search rules in
    let below_fits : FitsSigned w64 c.word-below.result = search rules in
    let above = ap bound_of (to_z-of_z w64 c.word-above.result above_fits) ∙ c.word-above.ensures.bound in
    let below = ap bound_of (to_z-of_z w64 c.word-below.result below_fits) ∙ c.word-below.ensures.bound in
    let test = crossing_of s c.loop-i.i c.opposite.result c.opposite-in-loop-i.result (word c.word-above.result) (word c.word-below.result) false c.opposite.ensures c.opposite-in-loop-i.ensures above below c.if-has_negative_sum.ensures in
    some_index-more c.loop-i.i (crossing s) c.loop-i.invariant test
