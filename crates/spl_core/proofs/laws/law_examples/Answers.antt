use Rattle.spl_core.proofs.Worked.{core_examples, division_examples}
use Rattle.spl_core.proofs.laws.law_examples.Goals as goal

pub returns-clause-core : goal.returns-clause-core
returns-clause-core c = core_examples

pub returns-clause-division : goal.returns-clause-division
returns-clause-division c = division_examples
