use Rattle.std.proofs.Common.{length, subst, sym, ap, ◌∙◌, arith}
use Rattle.oct_def.specs.Bound.{InRange}
use Rattle.oct_def.specs.Table.{Matrix, at}
use Rattle.half_matrix.proofs.Ranges.{in_range-top, length-top}
use Rattle.closing_bench.proofs.measured.Goals as goal

pub fill-requires : goal.fill-requires
fill-requires c = λ i j. subst (λ (m : Matrix). InRange (at m i j)) (sym (c.in_ok-m.ensures.same ∙ c.in_ok-shared.ensures)) (in_range-top c.args.vars i j)

pub close_often-requires-clause-room : goal.close_often-requires-clause-room
close_often-requires-clause-room c =
    let e = ap length (c.in_ok-m.ensures.same ∙ c.in_ok-shared.ensures) ∙ length-top c.args.vars in
    omega (arith, e, c.fill.ensures.rows, c.in_ok-scratch.ensures)
