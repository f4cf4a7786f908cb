use Rattle.std.proofs.Common.{sym, subst, arith, to_z, of_z}
use Rattle.std.specs.Int.{w64}
use Rattle.std.proofs.lemmas.Int.{ints}
use Rattle.oct_def.specs.Table.{Matrix}
use Rattle.closing_bench.proofs.Ranges.{Good, good-set}
use Rattle.closing_bench.proofs.fill.Goals as goal

pub columns-preserved : goal.columns-preserved
columns-preserved c =
    let w = to_z w64 (of_z w64 c.bound.result) in
    subst (λ (m : Matrix). Good c.args.m.now m) (sym c.set.ensures)
    (good-set c.args.m.now c.columns.m c.rows.i c.columns.j w (omega (arith, ints, c.bound.ensures)) (omega (arith, ints, c.bound.ensures)) c.columns.invariant)
