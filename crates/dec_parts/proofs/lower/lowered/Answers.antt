use Rattle.dec_parts.proofs.LoweredParts.{lowered-value}
use Rattle.dec_parts.proofs.lower.lowered.Goals as goal

pub returns-clause-parts : goal.returns-clause-parts
returns-clause-parts c =
    let parts = c.in_ok-parts-in-Some.parts in
    lowered-value c.args.v.now.dims c.dims.result _ c.args.bounds.now c.in-Some.p.now c.in_ok-joined-in-Some.joined parts.partition parts.matrices.items parts.settled.items c.known.ensures c.requires.placed c.in-Some.ensures.blocks c.dims.ensures
    c.in_ok-joined-in-Some.ensures c.in_ok-parts-in-Some.ensures.partition c.in_ok-parts-in-Some.ensures.parts
