use Rattle.full_oct.proofs.Places.{rows_of, square_of}
use Rattle.full_oct.proofs.matrix.FullMatrix.size.Goals as goal

pub returns-clause-rows : goal.returns-clause-rows
returns-clause-rows c = rows_of c.self.inside.size c.self.inside.words.items c.args.self.now c.self.view_is

pub returns-clause-square : goal.returns-clause-square
returns-clause-square c = square_of c.self.inside.size c.self.inside.words.items c.args.self.now c.self.view_is
