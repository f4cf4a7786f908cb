use Rattle.std.proofs.Common.{sym, ap, ◌∙◌, rules}
use Rattle.std.specs.Prelude.{FitsSigned}
use Rattle.std.specs.Int.{w64}
use Rattle.std.proofs.lemmas.Int.{to_z-of_z}
use Rattle.oct_def.specs.Bound.{bound_of, evened}
use Rattle.oct_def.proofs.Closings.{even_entry-unary, even_entry-other}
use Rattle.full_oct.proofs.matrix.FullMatrix.even_word.Goals as goal

pub returns-then-j-opposite : goal.returns-then-j-opposite
returns-then-j-opposite c =
    let s = c.args.self.now in
    let fits : FitsSigned w64 c.evened_word.result = search rules in
    let word_fits : FitsSigned w64 c.word.result = search rules in
    ap bound_of (to_z-of_z w64 c.evened_word.result fits) ∙ c.evened_word.ensures
    ∙ ap (λ w. evened (bound_of w)) (to_z-of_z w64 c.word.result word_fits) ∙ ap evened c.word.ensures.bound
    ∙ sym (even_entry-unary s c.args.i c.args.j (c.if-j-opposite.true ∙ c.opposite.ensures))

pub returns-else-j-opposite : goal.returns-else-j-opposite
returns-else-j-opposite c =
    let s = c.args.self.now in
    let w = c.word-else-j-opposite.result in
    let fits : FitsSigned w64 w = search rules in
    ap bound_of (to_z-of_z w64 w fits) ∙ c.word-else-j-opposite.ensures.bound
    ∙ sym (even_entry-other s c.args.i c.args.j (λ e. c.if-j-opposite.false (e ∙ sym c.opposite.ensures)))
