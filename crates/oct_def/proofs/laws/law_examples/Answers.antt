-- The worked closures are computed.
use Rattle.oct_def.proofs.Examples.{worked_closures}
use Rattle.oct_def.proofs.laws.law_examples.Goals as goal

pub returns : goal.returns
returns c = worked_closures
