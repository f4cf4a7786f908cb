use Rattle.dec_oct.proofs.Words.{outer-is}
use Rattle.dec_oct.proofs.parts.outer_of.Goals as goal

pub returns : goal.returns
returns c = outer-is c.args.members.now c.args.i
