use Rattle.std.proofs.Common.{ap, ◌∙◌, arith, rules}
use Rattle.std.specs.Prelude.{FitsSigned}
use Rattle.std.specs.Int.{w64}
use Rattle.std.proofs.lemmas.Int.{to_z-of_z}
use Rattle.oct_def.specs.Bound.{bound_of, least}
use Rattle.interval_form.specs.Listing.{listed}
use Rattle.dec_calls.specs.Brought.{standing}
use Rattle.dec_calls.proofs.Listings.{row-start, row-more, row-end}
use Rattle.dec_calls.proofs.returning.list_row.Goals as goal

pub loop-j-init : goal.loop-j-init
loop-j-init c = row-start c.args.dims c.args.args.now c.args.outputs c.args.exit.now.dims c.args.i c.args.exit.now.blocks c.args.out.now.items

pub loop-j-preserved : goal.loop-j-preserved
loop-j-preserved c =
    let w = c.apart_word-word.result in
    let f : FitsSigned w64 w = search rules in
    let now = c.loop-j.out.items in
    let row = c.joined_dimension-row.result in
    let column = c.joined_dimension-column.result in
    row-more c.args.dims c.args.args.now c.args.outputs c.args.exit.now.dims c.args.i c.loop-j.j row column w c.args.exit.now.blocks c.args.out.now.items now c.list_bound.new.out.items
    (omega (arith, c.requires.row, c.requires.inside)) (omega (arith, c.loop-j-test.true, c.requires.inside)) c.requires.row (omega (arith, c.loop-j-test.true))
    c.joined_dimension-row.ensures.place c.joined_dimension-row.ensures.inside c.joined_dimension-column.ensures.place c.joined_dimension-column.ensures.inside
    c.apart_word-word.ensures.entry c.in_ok-list_bound.ensures.placed
    (λ p q. c.in_ok-list_bound.ensures.entries p q ∙ ap (λ x. least (listed now p q) (standing row column (bound_of x) p q)) (to_z-of_z w64 w f)) c.loop-j.invariant

pub returns : goal.returns
returns c = row-end c.args.dims c.args.args.now c.args.outputs c.args.exit.now.dims c.args.i c.loop-j.j c.args.exit.now.blocks c.args.out.now.items c.loop-j.out.items (omega (arith, c.loop-j-test.false, c.loop-j.auto.j-end)) c.loop-j.invariant
