use Rattle.std.proofs.Common.{◌≡◌, ◌∷◌, [], ◌++◌, length, length-append, ap, sym, ◌∙◌, arith, rules}
use Rattle.std.specs.Prelude.{FitsSigned}
use Rattle.std.specs.Int.{w64}
use Rattle.std.proofs.lemmas.Int.{to_z-of_z}
use Rattle.oct_def.specs.Table.{at}
use Rattle.full_oct.proofs.Places.{rows_of}
use Rattle.full_oct.proofs.Rows.{row_more}
use Rattle.full_oct.proofs.matrix.FullMatrix.row.Goals as goal

pub word-requires-clause-column : goal.word-requires-clause-column
word-requires-clause-column c =
    let e = rows_of c.self.inside.size c.self.inside.words.items c.args.self.now c.self.view_is in
    omega (arith, e)

pub loop-j-preserved : goal.loop-j-preserved
loop-j-preserved c =
    let fits : FitsSigned w64 c.word.result = search rules in
    let words = c.loop-j.row.items in
    let pushed : c.push.new.self.items ≡ words ++ c.word.result ∷ [] =
    c.in_ok-push.ensures.items ∙ ap (λ w. words ++ w ∷ []) (to_z-of_z w64 c.word.result fits) in (
      omega (arith, ap length pushed, length-append words (c.word.result ∷ []), c.loop-j.invariant.0),
      row_more c.args.self.now c.args.i words c.push.new.self.items c.word.result c.loop-j.invariant.1 (c.word.ensures.bound ∙ ap (at c.args.self.now c.args.i) (sym c.loop-j.invariant.0)) pushed,
    )

pub returns : goal.returns
returns c =
    let e = rows_of c.self.inside.size c.self.inside.words.items c.args.self.now c.self.view_is in
    record {
      words = record {
        size = omega (arith, e, c.loop-j.invariant.0, c.loop-j-test.false);
        bounds = λ j h. c.loop-j.invariant.1 j (omega (arith, e, c.loop-j.invariant.0, c.loop-j-test.false, h));
      };
    }
