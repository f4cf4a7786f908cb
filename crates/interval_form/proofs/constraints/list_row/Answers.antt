use Rattle.std.proofs.Common.{◌++◌, length}
use Rattle.interval_form.specs.declared.constraints.Sized.{Sized}
use Rattle.interval_form.specs.Sparse.{form_in}
use Rattle.interval_form.specs.Listing.{row_list}
use Rattle.interval_form.proofs.Listings.{sized_index, row_more}
use Rattle.interval_form.proofs.constraints.list_row.Goals as goal

pub list_pair-requires-clause-size : goal.list_pair-requires-clause-size
list_pair-requires-clause-size g c = sized_index c.args.others.now c.others.k (record { dim = 0; size = 0 }) c.requires.sizes c.others-test.true

pub others-preserved : goal.others-preserved
others-preserved g c =
    let ranges = g.R.Ranges.intervals c.args.ranges.now in
    let f = form_in (length ranges) c.args.form.now in
    let d : Sized = record { dim = 0; size = 0 } in
    let ys = c.args.others.now in
    row_more ranges f c.args.x ys c.others.k d c.others.out.items c.list_pair.new.out.items (c.args.out.now.items ++ row_list ranges f c.args.x ys)
    c.others-test.true c.others.invariant c.in_ok-list_pair.ensures
