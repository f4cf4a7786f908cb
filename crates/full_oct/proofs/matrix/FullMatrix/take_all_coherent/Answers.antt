use Rattle.std.proofs.Common.{length, get_or, ap, ◌∙◌, arith}
use Rattle.std.specs.Prelude.{pos}
use Rattle.interval_form.specs.declared.constraints.OctBound.{OctBound}
use Rattle.full_oct.specs.Placing.{placed_of}
use Rattle.full_oct.proofs.Coherently.{placed_in, bounded_more, length-bounded_matrix}
use Rattle.full_oct.proofs.matrix.FullMatrix.take_all_coherent.Goals as goal

pub take_coherent-requires-clause-row : goal.take_coherent-requires-clause-row
take_coherent-requires-clause-row c =
    let d : OctBound = record { row = 0; column = 0; word = pos 0 } in
    let p = (placed_in c.args.dims c.args.bounds.now c.bounds.k d c.requires.placed c.bounds-test.true).row in
    omega (arith, p, c.requires.rows, c.bounds.invariant.1)

pub take_coherent-requires-clause-column : goal.take_coherent-requires-clause-column
take_coherent-requires-clause-column c =
    let d : OctBound = record { row = 0; column = 0; word = pos 0 } in
    let p = (placed_in c.args.dims c.args.bounds.now c.bounds.k d c.requires.placed c.bounds-test.true).column in
    omega (arith, p, c.requires.rows, c.bounds.invariant.1)

pub bounds-preserved : goal.bounds-preserved
bounds-preserved c =
    let d : OctBound = record { row = 0; column = 0; word = pos 0 } in (
      bounded_more c.args.self.now c.bounds.self c.take_coherent.new.self c.args.bounds.now c.bounds.k d c.bounds-test.true c.bounds.invariant.0 c.take_coherent.ensures,
      ap length c.take_coherent.ensures ∙ length-bounded_matrix c.bounds.self (placed_of (get_or c.args.bounds.now c.bounds.k d)) ∙ c.bounds.invariant.1,
    )
