use Rattle.std.proofs.Common.{◌≡◌, true, refl, sym, ap, ◌∙◌, arith, rules, length}
use Rattle.std.specs.Prelude.{FitsSigned}
use Rattle.std.specs.Int.{w64}
use Rattle.std.proofs.lemmas.Int.{to_z-of_z}
use Rattle.oct_def.specs.Bound.{is_negative, bound_of}
use Rattle.oct_def.specs.Table.{some_index, at}
use Rattle.oct_def.specs.Tight.{negative_cycle, has_negative_cycle}
use Rattle.oct_def.proofs.Indices.{some_index-more, some_index-found}
use Rattle.full_oct.proofs.matrix.FullMatrix.has_negative_cycle.Goals as goal

pub returns : goal.returns
unfolding has_negative_cycle
returns c =
    let s = c.args.self.now in
    let all : c.loop-i.i ≡ length s = omega (arith, c.size-i-end.ensures.rows) in
    sym c.loop-i.invariant ∙ ap (λ n. some_index n (negative_cycle s)) all

pub returns-then-is_negative_word : goal.returns-then-is_negative_word
unfolding has_negative_cycle negative_cycle
returns-then-is_negative_word c =
    let s = c.args.self.now in
    let fits : FitsSigned w64 c.word.result = search rules in
    let word = ap bound_of (to_z-of_z w64 c.word.result fits) ∙ c.word.ensures.bound in
    let test : is_negative (at s c.loop-i.i c.loop-i.i) ≡ true = sym (c.if-is_negative_word.ensures ∙ ap is_negative word) in
    sym (some_index-found (length s) (negative_cycle s) c.loop-i.i (omega (arith, c.size-i-end.ensures.rows)) test)

pub loop-i-init : goal.loop-i-init
unfolding some_index
loop-i-init c = refl

pub loop-i-preserved : goal.loop-i-preserved
unfolding negative_cycle
loop-i-preserved c =
    let s = c.args.self.now in
    let fits : FitsSigned w64 c.word.result = search rules in
    let word = ap bound_of (to_z-of_z w64 c.word.result fits) ∙ c.word.ensures.bound in
    some_index-more c.loop-i.i (negative_cycle s) c.loop-i.invariant (sym (c.if-is_negative_word.ensures ∙ ap is_negative word))
