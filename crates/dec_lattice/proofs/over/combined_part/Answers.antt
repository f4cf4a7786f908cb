use Rattle.std.proofs.Common.{length, sym, ap, ◌∙◌}
use Rattle.block_laws.proofs.Restrict.{length-restrict}
use Rattle.dec_oct.specs.Value.{whole}
use Rattle.dec_lattice.specs.Over.{held}
use Rattle.dec_lattice.proofs.Parts.{same-part}
use Rattle.dec_lattice.proofs.Values.{first-part, second-part}
use Rattle.dec_lattice.proofs.over.combined_part.Goals as goal

pub returns-then-same_matrix : goal.returns-then-same_matrix
returns-then-same_matrix c =
    let a = c.args.a.now in
    let b = c.args.b.now in
    let vs = c.args.members.now in
    same-part c.args.op vs (whole a.dims (held a)) (whole a.dims (held b)) c.in_ok-first.first c.in_ok-second.second (first-part a b vs c.in_ok-first.first c.requires.sides c.in_ok-first.ensures) (second-part a b vs c.in_ok-second.second c.requires.sides c.in_ok-second.ensures)
    (sym c.buf.ensures ∙ c.same_matrix.ensures.yes c.if-same_matrix.true ∙ c.buf-2.ensures)

pub combined_with-requires : goal.combined_with-requires
combined_with-requires c =
    let a = c.args.a.now in
    let b = c.args.b.now in
    let vs = c.args.members.now in
    ap length (first-part a b vs c.in_ok-first.first c.requires.sides c.in_ok-first.ensures) ∙ length-restrict vs (whole a.dims (held a))
    ∙ sym (ap length (second-part a b vs c.in_ok-second.second c.requires.sides c.in_ok-second.ensures) ∙ length-restrict vs (whole a.dims (held b)))
