use Rattle.std.proofs.Common.{get_or}
use Rattle.std.specs.Prelude.{pos}
use Rattle.interval_form.specs.declared.constraints.OctBound.{OctBound}
use Rattle.full_oct.proofs.Taking.{placed_row, placed_column, taken_more, same_length}
use Rattle.full_oct.proofs.matrix.FullMatrix.take_all.Goals as goal

pub take-requires-clause-row : goal.take-requires-clause-row
take-requires-clause-row c = placed_row c.args.n c.bounds.self c.args.self.now c.args.bounds.now c.bounds.k _ c.requires.rows c.bounds.invariant.0 c.requires.placed c.bounds-test.true

pub take-requires-clause-column : goal.take-requires-clause-column
take-requires-clause-column c = placed_column c.args.n c.bounds.self c.args.self.now c.args.bounds.now c.bounds.k _ c.requires.rows c.bounds.invariant.0 c.requires.placed c.bounds-test.true

pub bounds-preserved : goal.bounds-preserved
bounds-preserved c =
    let d : OctBound = record { row = 0; column = 0; word = pos 0 } in (
      same_length c.take.new.self c.bounds.self c.args.self.now (get_or c.args.bounds.now c.bounds.k d) c.take.ensures c.bounds.invariant.0,
      taken_more c.args.self.now c.bounds.self c.take.new.self c.args.bounds.now c.bounds.k d c.bounds-test.true c.bounds.invariant.1 c.take.ensures,
    )
