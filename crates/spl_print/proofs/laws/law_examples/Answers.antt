use Rattle.spl_print.proofs.Worked.{worked}
use Rattle.spl_print.proofs.laws.law_examples.Goals as goal

pub returns : goal.returns
returns c = worked
