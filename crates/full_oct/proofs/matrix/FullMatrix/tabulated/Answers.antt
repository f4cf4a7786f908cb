use Rattle.std.proofs.Common.{◌+◌, ◌*◌, get_or, sym}
use Rattle.std.specs.Prelude.{pos}
use Rattle.full_oct.proofs.Places.{length-matrix_of, square-matrix_of, at-matrix_of}
use Rattle.full_oct.proofs.matrix.FullMatrix.tabulated.Goals as goal

pub returns-clause-rows : goal.returns-clause-rows
returns-clause-rows g c = length-matrix_of c.args.size c.in_ok-words.words.items

pub returns-clause-square : goal.returns-clause-square
returns-clause-square g c = square-matrix_of c.args.size c.in_ok-words.words.items

pub returns-clause-entries : goal.returns-clause-entries
returns-clause-entries g c = λ i j p q.
    (get_or c.in_ok-words.words.items (i * c.args.size + j) (pos 0), c.in_ok-words.ensures.entries i j p q, sym (at-matrix_of c.args.size c.in_ok-words.words.items i j p q))
