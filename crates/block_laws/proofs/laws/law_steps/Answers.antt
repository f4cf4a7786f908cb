use Rattle.block_laws.proofs.Steps.{steps-lower, strengthening-of_bounds}
use Rattle.block_laws.proofs.laws.law_steps.Goals as goal

pub returns-clause-lower : goal.returns-clause-lower
returns-clause-lower c = steps-lower

pub returns-clause-bounds : goal.returns-clause-bounds
returns-clause-bounds c = strengthening-of_bounds
