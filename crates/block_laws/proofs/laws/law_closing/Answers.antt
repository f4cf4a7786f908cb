use Rattle.block_laws.proofs.Closing.{tight-assembly, tight-assembly_empty}
use Rattle.block_laws.proofs.laws.law_closing.Goals as goal

pub returns-clause-closed : goal.returns-clause-closed
returns-clause-closed c = tight-assembly

pub returns-clause-empty : goal.returns-clause-empty
returns-clause-empty c = tight-assembly_empty
