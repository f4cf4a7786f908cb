use Rattle.std.proofs.Common.{◌≡◌, sym, ◌∙◌, rules}
use Rattle.std.proofs.lemmas.Int.{to_z-of_z}
use Rattle.oct_def.specs.Bound.{bound_of}
use Rattle.oct_def.specs.Table.{at}
use Rattle.dec_oct.specs.Value.{whole}
use Rattle.dec_oct.proofs.Givens.{each-some}
use Rattle.dec_parts.proofs.Renaming.{renamed-same, renamed-old, renamed-new_row, renamed-new_column, dimension-below}
use Rattle.dec_parts.proofs.rename.renamed_word.Goals as goal

pub returns-then-i-j : goal.returns-then-i-j
returns-then-i-j c = each-some c.args.v.now.blocks _ (λ b e. sym (renamed-same c.args.origins.now (whole c.args.v.now.dims b) c.args.i c.args.j c.if-i-j.true))

pub entry-requires-clause-row : goal.entry-requires-clause-row
entry-requires-clause-row c = dimension-below c.args.v.now.dims c.args.origins.now c.args.i c.in-Some.p c.requires.origins (sym c.in-Some.ensures)

pub entry-requires-clause-column : goal.entry-requires-clause-column
entry-requires-clause-column c = dimension-below c.args.v.now.dims c.args.origins.now c.args.j c.in-Some-origin_dimension.q c.requires.origins (sym c.in-Some-origin_dimension.ensures)

pub returns-in-Some-origin_dimension : goal.returns-in-Some-origin_dimension
returns-in-Some-origin_dimension c = each-some c.args.v.now.blocks _ (λ b e.
    let m = whole c.args.v.now.dims b in
    let w : bound_of c.entry.result ≡ at m c.in-Some.p c.in-Some-origin_dimension.q = rw e at c.entry.ensures in
    search (rules, to_z-of_z) ∙ w ∙ sym (renamed-old c.args.origins.now m c.args.i c.args.j c.in-Some.p c.in-Some-origin_dimension.q c.if-i-j.false (sym c.in-Some.ensures) (sym c.in-Some-origin_dimension.ensures)))

pub returns-in-None-origin_dimension : goal.returns-in-None-origin_dimension
returns-in-None-origin_dimension c = each-some c.args.v.now.blocks _ (λ b e. sym (renamed-new_column c.args.origins.now (whole c.args.v.now.dims b) c.args.i c.args.j c.if-i-j.false (sym c.in-None-origin_dimension.ensures)))

pub returns-in-None : goal.returns-in-None
returns-in-None c = each-some c.args.v.now.blocks _ (λ b e. sym (renamed-new_row c.args.origins.now (whole c.args.v.now.dims b) c.args.i c.args.j c.if-i-j.false (sym c.in-None.ensures)))
