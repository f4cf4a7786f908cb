use Rattle.std.proofs.Common.{length, subst, sym}
use Rattle.interval_form.specs.declared.constraints.Sized.{Sized}
use Rattle.interval_form.specs.Sparse.{form_in}
use Rattle.interval_form.specs.Listing.{AreSized, rows_list}
use Rattle.interval_form.proofs.Listings.{sized-drop, slice-from, rows_more}
use Rattle.interval_form.proofs.constraints.list_rows.Goals as goal

pub list_row-requires-clause-sizes : goal.list_row-requires-clause-sizes
list_row-requires-clause-sizes g c = subst AreSized (sym (slice-from c.args.sizes.now c.rows.k)) (sized-drop c.args.sizes.now c.rows.k c.requires.sizes)

pub rows-preserved : goal.rows-preserved
rows-preserved g c =
    let ranges = g.R.Ranges.intervals c.args.ranges.now in
    let f = form_in (length ranges) c.args.form.now in
    let d : Sized = record { dim = 0; size = 0 } in
    let xs = c.args.sizes.now in
    rows_more ranges f xs c.rows.k d c.rows.out.items c.list_row.new.out.items (rows_list ranges f xs) c.rows-test.true c.rows.invariant c.in_ok-list_row.ensures
