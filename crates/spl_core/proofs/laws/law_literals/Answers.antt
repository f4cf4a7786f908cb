use Rattle.spl_core.proofs.Literals.{literals_are_limited}
use Rattle.spl_core.proofs.laws.law_literals.Goals as goal

pub returns : goal.returns
returns c x is = literals_are_limited x is
