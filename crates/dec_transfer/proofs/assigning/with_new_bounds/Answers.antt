use Rattle.dec_oct.specs.Value.{blocks_of}
use Rattle.dec_transfer.proofs.Assigned.{closed-and-moved}
use Rattle.dec_transfer.proofs.assigning.with_new_bounds.Goals as goal

pub returns-clause-after : goal.returns-clause-after
returns-clause-after c =
    let parts = c.in_ok-parts.parts in
    closed-and-moved c.args.v.now c.in_ok-wide.wide c.in_ok-closed.closed c.in_ok-after.after c.args.target parts.dims c.dims.result (blocks_of parts.partition parts.matrices.items parts.settled.items) c.args.bounds.now _ _
    c.requires.not_bottom c.requires.target c.in_ok-wide.ensures c.in_ok-parts.ensures.dims c.in_ok-parts.ensures.parts c.known.ensures c.in_ok-closed.ensures.value c.in_ok-closed.ensures.marks c.in_ok-closed.ensures.count
    c.dims.ensures c.in_ok-after.ensures.value c.in_ok-after.ensures.missing
