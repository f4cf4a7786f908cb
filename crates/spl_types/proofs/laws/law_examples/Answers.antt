use Rattle.spl_types.proofs.Worked.{worked}
use Rattle.spl_types.proofs.laws.law_examples.Goals as goal

pub returns : goal.returns
returns c = worked
