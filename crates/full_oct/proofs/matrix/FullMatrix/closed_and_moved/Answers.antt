use Rattle.std.proofs.Common.{sym, ◌∙◌}
use Rattle.oct_def.proofs.Closings.{length-tight}
use Rattle.full_oct.proofs.matrix.FullMatrix.closed_and_moved.Goals as goal

pub moved-requires-clause-rows : goal.moved-requires-clause-rows
moved-requires-clause-rows c =
    length-tight c.args.self.now c.in-Some.closed (sym c.in-Some.is ∙ c.in_ok-closed.ensures.tight) ∙ c.requires.rows
