use Rattle.dec_oct.proofs.Entries.{inner-is}
use Rattle.dec_oct.proofs.assembly.inner_of.Goals as goal

pub returns : goal.returns
returns c = inner-is c.args.members.now c.args.i c.place_of-at.result c.place_of-at.ensures
