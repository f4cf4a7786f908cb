use Rattle.std.proofs.Common.{◌≡◌, ◌++◌, drop, length}
use Rattle.interval_form.specs.Sparse.{form_in}
use Rattle.interval_form.specs.Listing.{row_list}
use Rattle.interval_form.proofs.constraints.list_row.Given as goal

abbrev pub invariant-others : goal.invariant-others
invariant-others g l =
    l.out.items ++ row_list (g.R.Ranges.intervals l.ranges) (form_in (length (g.R.Ranges.intervals l.ranges)) l.form) l.x (drop l.k l.others)
    ≡ l.fn.out.items ++ row_list (g.R.Ranges.intervals l.ranges) (form_in (length (g.R.Ranges.intervals l.ranges)) l.form) l.x l.others
