use Rattle.dec_oct.specs.Value.{blocks_of}
use Rattle.dec_transfer.proofs.Restricting.{given-lowered, closed-lowered}
use Rattle.dec_transfer.proofs.testing.closed_with.Goals as goal

pub tight_of-requires-clause-given : goal.tight_of-requires-clause-given
tight_of-requires-clause-given c = given-lowered c.args.v.now.dims _ c.args.v.now.blocks c.args.bounds.now (blocks_of c.in_ok-parts.parts.partition c.in_ok-parts.parts.matrices.items c.in_ok-parts.parts.settled.items) c.requires.not_bottom c.in_ok-parts.ensures.dims c.in_ok-parts.ensures.parts

pub returns-clause-value : goal.returns-clause-value
returns-clause-value c = closed-lowered c.args.v.now.dims _ c.args.v.now.blocks c.args.bounds.now (blocks_of c.in_ok-parts.parts.partition c.in_ok-parts.parts.matrices.items c.in_ok-parts.parts.settled.items) c.in_ok-closed.closed c.in_ok-parts.ensures.dims c.in_ok-parts.ensures.parts c.in_ok-closed.ensures.value
