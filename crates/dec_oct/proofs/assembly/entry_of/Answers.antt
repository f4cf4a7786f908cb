use Rattle.std.proofs.Common.{ap, ◌∙◌, sym, subst, ◌<◌, length, rules}
use Rattle.std.specs.Prelude.{FitsSigned}
use Rattle.std.specs.Int.{w64}
use Rattle.std.proofs.lemmas.Int.{to_z-of_z}
use Rattle.oct_def.specs.Bound.{bound_of}
use Rattle.oct_def.specs.Table.{at}
use Rattle.dec_oct.proofs.Entries.{member-of, few-members, inner-fits, entry-joint, entry-apart}
use Rattle.dec_oct.proofs.assembly.entry_of.Goals as goal

pub inner_of-row-requires-clause-small : goal.inner_of-row-requires-clause-small
inner_of-row-requires-clause-small c = few-members c.args.partition.now _ c.in-Some.b c.known.ensures.partition c.in-Some.ensures.2 c.block-members.ensures

pub inner_of-row-requires-clause-member : goal.inner_of-row-requires-clause-member
inner_of-row-requires-clause-member c = member-of c.args.partition.now _ c.args.i c.in-Some.b c.block-members.ensures c.in-Some.ensures.0 c.in-Some.ensures.2

pub inner_of-column-requires-clause-small : goal.inner_of-column-requires-clause-small
inner_of-column-requires-clause-small c = few-members c.args.partition.now _ c.in-Some.b c.known.ensures.partition c.in-Some.ensures.2 c.block-members.ensures

pub inner_of-column-requires-clause-member : goal.inner_of-column-requires-clause-member
inner_of-column-requires-clause-member c = member-of c.args.partition.now _ c.args.j c.in-Some.b c.block-members.ensures c.in-Some.ensures.1 c.in-Some.ensures.2

pub get-requires-clause-row : goal.get-requires-clause-row
get-requires-clause-row c = subst (λ m. c.inner_of-row.result < length m) (sym c.buf.ensures) (inner-fits c.args.partition.now c.args.matrices.now _ _ c.args.i _ c.in-Some.b c.block-members.ensures c.inner_of-row.ensures c.index-matrices-b.is c.requires.count c.in-Some.ensures.0 c.in-Some.ensures.2 (c.requires.size c.in-Some.b c.in-Some.ensures.2))

pub get-requires-clause-column : goal.get-requires-clause-column
get-requires-clause-column c = subst (λ m. c.inner_of-column.result < length m) (sym c.buf.ensures) (inner-fits c.args.partition.now c.args.matrices.now _ _ c.args.j _ c.in-Some.b c.block-members.ensures c.inner_of-column.ensures c.index-matrices-b.is c.requires.count c.in-Some.ensures.1 c.in-Some.ensures.2 (c.requires.size c.in-Some.b c.in-Some.ensures.2))

pub returns-in-Some : goal.returns-in-Some
returns-in-Some c =
    let f : FitsSigned w64 c.get.result = search rules in
    entry-joint c.args.partition.now c.args.matrices.now _ c.index-matrices-b.result c.args.i c.args.j c.inner_of-row.result c.inner_of-column.result c.in-Some.b _
    (ap bound_of (to_z-of_z w64 c.get.result f) ∙ c.get.ensures.bound ∙ ap (λ m. at m c.inner_of-row.result c.inner_of-column.result) c.buf.ensures)
    c.block-members.ensures c.inner_of-row.ensures c.inner_of-column.ensures c.index-matrices-b.is c.requires.count c.in-Some.ensures

pub returns-in-None : goal.returns-in-None
returns-in-None c =
    let f : FitsSigned w64 c.top_word.result = search rules in
    entry-apart c.args.partition.now c.args.matrices.now c.args.i c.args.j _ (ap bound_of (to_z-of_z w64 c.top_word.result f) ∙ c.top_word.ensures) c.in-None.ensures
