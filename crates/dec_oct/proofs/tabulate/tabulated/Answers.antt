use Rattle.std.proofs.Common.{◌≡◌, ◌*◌, length, ap, ◌∙◌, arith}
use Rattle.half_matrix.proofs.Ranges.{length-top}
use Rattle.dec_oct.proofs.tabulate.tabulated.Goals as goal

pub fill-requires : goal.fill-requires
fill-requires g c =
    let e : length c.in_ok-writing.field-0.now ≡ 2 * c.args.vars = ap length (c.in_ok-writing.ensures.same ∙ c.in_ok-m.ensures) ∙ length-top c.args.vars in
    record { callable = λ i j p q. c.requires.callable i j (omega arith) (omega arith) }

pub returns-clause-rows : goal.returns-clause-rows
returns-clause-rows g c = c.fill.ensures.rows ∙ ap length (c.in_ok-writing.ensures.same ∙ c.in_ok-m.ensures) ∙ length-top c.args.vars

pub returns-clause-entries : goal.returns-clause-entries
returns-clause-entries g c = λ i j p q.
    let e : length c.in_ok-writing.field-0.now ≡ 2 * c.args.vars = ap length (c.in_ok-writing.ensures.same ∙ c.in_ok-m.ensures) ∙ length-top c.args.vars in
    c.fill.ensures.entries i j (omega arith) q
