use Rattle.std.proofs.Common.{◌≡◌, ◌∙◌, ap, rules, to_z, of_z, FitsSigned}
use Rattle.std.specs.Prelude.{ℤ}
use Rattle.std.specs.Int.{w64}
use Rattle.std.proofs.lemmas.Int.{to_z-of_z}
use Rattle.oct_def.specs.Bound.{bound_of, least}
use Rattle.full_oct.proofs.Taking.{next_bound}
use Rattle.full_oct.proofs.matrix.FullMatrix.take.Goals as goal

pub returns : goal.returns
returns c =
    let b = c.args.bound in
    let old = c.word-old.result in
    let w = c.least_word.result in
    let f : FitsSigned w64 c.word-old.result = search rules in
    let g : FitsSigned w64 c.args.bound.word = search rules in
    let h : FitsSigned w64 c.least_word.result = search rules in
    let e : bound_of w ≡ least (bound_of old) (bound_of b.word) =
    c.least_word.ensures ∙ (ap (λ (x : ℤ). least (bound_of x) (bound_of (to_z w64 (of_z w64 b.word)))) (to_z-of_z w64 old f)
    ∙ ap (λ (x : ℤ). least (bound_of old) (bound_of x)) (to_z-of_z w64 b.word g)) in
    next_bound c.args.self.now c.set.new.self b old w (to_z w64 (of_z w64 w)) c.word-old.ensures.bound e (to_z-of_z w64 w h) c.set.ensures
