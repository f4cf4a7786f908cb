use Rattle.std.proofs.Common.{sym}
use Rattle.dec_parts.proofs.Renaming.{dimension-old, dimension-new}
use Rattle.dec_parts.proofs.rename.origin_dimension.Goals as goal

pub returns-in-Some : goal.returns-in-Some
returns-in-Some c = sym (dimension-old c.args.origins.now c.args.i c.in-Some.u c.in-Some.is)

pub returns-in-None : goal.returns-in-None
returns-in-None c = sym (dimension-new c.args.origins.now c.args.i c.in-None.is)
