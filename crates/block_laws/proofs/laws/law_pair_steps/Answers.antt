use Rattle.block_laws.proofs.Restrict.{restrict-closure}
use Rattle.block_laws.proofs.Steps.{pair_step-inside}
use Rattle.block_laws.proofs.laws.law_pair_steps.Goals as goal

pub returns-clause-inside : goal.returns-clause-inside
returns-clause-inside c = pair_step-inside

pub returns-clause-block : goal.returns-clause-block
returns-clause-block c = restrict-closure
