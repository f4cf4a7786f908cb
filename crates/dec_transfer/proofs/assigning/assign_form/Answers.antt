use Rattle.std.proofs.Common.{◌+◌, sym, subst}
use Rattle.std.specs.List.{All}
use Rattle.interval_form.specs.Listed.{IsPlaced}
use Rattle.dec_oct.specs.Value.{whole}
use Rattle.dec_lattice.specs.Over.{held}
use Rattle.dec_transfer.specs.Formed.{AreBoundsOfNew, ArePlaced}
use Rattle.dec_transfer.specs.Closed.{IsClosedAndMoved}
use Rattle.dec_transfer.proofs.Assigned.{assigned-nothing, assigned-few}
use Rattle.dec_transfer.proofs.assigning.assign_form.Goals as goal

pub with_new_bounds-requires-clause-placed : goal.with_new_bounds-requires-clause-placed
with_new_bounds-requires-clause-placed c =
    let n = c.args.v.now.dims + 1 in
    subst (All (IsPlaced n)) (sym c.deref.ensures.value) (subst (ArePlaced n) c.in-Few.is c.in_ok-bounds_of_new.ensures.placed)

pub returns-in-Nothing-clause-after : goal.returns-in-Nothing-clause-after
returns-in-Nothing-clause-after c =
    let v = c.args.v.now in
    let s = c.args.form.now in
    assigned-nothing v c.bottom.result c.args.target c.dims.result c.args.count.now s c.requires.not_bottom (subst (AreBoundsOfNew v.dims (whole v.dims (held v)) s) c.in-Nothing.is c.in_ok-bounds_of_new.ensures.bounds) c.dims.ensures
    c.bottom.ensures.value

pub returns-in_ok-after-in-Few-clause-after : goal.returns-in_ok-after-in-Few-clause-after
returns-in_ok-after-in-Few-clause-after c =
    let v = c.args.v.now in
    let s = c.args.form.now in
    let r = c.in_ok-after-in-Few.after in
    let new = c.with_new_bounds.new.count in
    assigned-few v r c.args.target s c.in-Few.bounds.items c.args.count.now new c.requires.not_bottom c.known.ensures (subst (AreBoundsOfNew v.dims (whole v.dims (held v)) s) c.in-Few.is c.in_ok-bounds_of_new.ensures.bounds)
    (subst (λ bs. IsClosedAndMoved v.dims c.args.target (held v) bs c.args.count.now new r) c.deref.ensures.value c.in_ok-after-in-Few.ensures.after)
