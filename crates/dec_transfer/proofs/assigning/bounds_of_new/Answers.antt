use Rattle.std.proofs.Common.{◌≡◌, ℕ, length, ◌∙◌, ap}
use Rattle.interval_form.specs.Linear.{variable_form}
use Rattle.interval_form.specs.Sparse.{form_in}
use Rattle.dec_oct.specs.Value.{whole}
use Rattle.dec_lattice.specs.Over.{held}
use Rattle.dec_transfer.proofs.NewVariable.{held-ranges, held-over, held-below, bounds-of-new, placed-new}
use Rattle.dec_transfer.proofs.assigning.bounds_of_new.Goals as goal

pub minus-requires-clause-left : goal.minus-requires-clause-left
minus-requires-clause-left c = let rs = c.in_ok-ranges.ranges in held-over c.args.v.now rs c.args.form.now (held-ranges c.args.v.now rs c.requires.not_bottom c.in_ok-ranges.ensures) c.requires.over

pub minus-requires-clause-right : goal.minus-requires-clause-right
minus-requires-clause-right c =
    let rs = c.in_ok-ranges.ranges in
    c.in_ok-new.ensures.over (length rs) (held-below c.args.v.now rs c.dims.result (held-ranges c.args.v.now rs c.requires.not_bottom c.in_ok-ranges.ensures) c.dims.ensures)

pub minus-requires-2-clause-left : goal.minus-requires-2-clause-left
minus-requires-2-clause-left c =
    let rs = c.in_ok-ranges.ranges in
    c.in_ok-new.ensures.over (length rs) (held-below c.args.v.now rs c.dims.result (held-ranges c.args.v.now rs c.requires.not_bottom c.in_ok-ranges.ensures) c.dims.ensures)

pub minus-requires-2-clause-right : goal.minus-requires-2-clause-right
minus-requires-2-clause-right c = let rs = c.in_ok-ranges.ranges in held-over c.args.v.now rs c.args.form.now (held-ranges c.args.v.now rs c.requires.not_bottom c.in_ok-ranges.ensures) c.requires.over

pub returns-clause-placed : goal.returns-clause-placed
returns-clause-placed c =
    let rs = c.in_ok-ranges.ranges in
    placed-new c.args.v.now rs (form_in (length rs) c.in_ok-below.below) (form_in (length rs) c.in_ok-above.above) c.in_ok-bounds.bounds (held-ranges c.args.v.now rs c.requires.not_bottom c.in_ok-ranges.ensures) c.in_ok-bounds.ensures

pub returns-clause-bounds : goal.returns-clause-bounds
returns-clause-bounds c =
    let v = c.args.v.now in
    let rs = c.in_ok-ranges.ranges in
    let new : (k : ℕ) → form_in k c.in_ok-new.new ≡ variable_form k v.dims = λ k. c.in_ok-new.ensures.form k ∙ ap (variable_form k) c.dims.ensures in
    bounds-of-new v.dims (whole v.dims (held v)) rs c.args.form.now c.in_ok-new.new c.in_ok-below.below c.in_ok-above.above c.in_ok-bounds.bounds (held-ranges v rs c.requires.not_bottom c.in_ok-ranges.ensures) c.requires.over new
    c.in_ok-below.ensures.form c.in_ok-above.ensures.form c.in_ok-bounds.ensures
