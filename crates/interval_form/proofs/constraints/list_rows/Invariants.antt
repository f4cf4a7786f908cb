use Rattle.std.proofs.Common.{◌≡◌, ◌++◌, drop, length}
use Rattle.interval_form.specs.Sparse.{form_in}
use Rattle.interval_form.specs.Listing.{rows_list}
use Rattle.interval_form.proofs.constraints.list_rows.Given as goal

abbrev pub invariant-rows : goal.invariant-rows
invariant-rows g l =
    l.out.items ++ rows_list (g.R.Ranges.intervals l.ranges) (form_in (length (g.R.Ranges.intervals l.ranges)) l.form) (drop l.k l.sizes)
    ≡ rows_list (g.R.Ranges.intervals l.ranges) (form_in (length (g.R.Ranges.intervals l.ranges)) l.form) l.sizes
