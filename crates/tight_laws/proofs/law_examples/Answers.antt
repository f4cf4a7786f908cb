use Rattle.tight_laws.proofs.Examples.{worked_closures}
use Rattle.tight_laws.proofs.law_examples.Goals as goal

pub returns : goal.returns
returns c = worked_closures
