use Rattle.std.proofs.Common.{◌∷◌, ◌++◌, decimal, arith}
use Rattle.inv_text.proofs.Words.{plain-decimal}
use Rattle.inv_text.proofs.Lines.{behind_header}
use Rattle.inv_text.proofs.reading.lines_of_points.Goals as goal

pub returns : goal.returns
returns c = record {
  found = λ count lines l e.
      let s = c.split_word.ensures.found (decimal count) (10 ∷ lines) (behind_header c.args.text.now (decimal count ++ 10 ∷ lines) e) (plain-decimal count l) (omega arith) in
      c.behind_end.ensures.found 10 lines s.1;
}
