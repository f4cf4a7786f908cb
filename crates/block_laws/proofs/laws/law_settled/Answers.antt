use Rattle.block_laws.proofs.Closing.{strengthening-closed}
use Rattle.block_laws.proofs.Steps.{settled-stays}
use Rattle.block_laws.proofs.laws.law_settled.Goals as goal

pub returns-clause-stays : goal.returns-clause-stays
returns-clause-stays c = settled-stays

pub returns-clause-again : goal.returns-clause-again
returns-clause-again c = strengthening-closed
