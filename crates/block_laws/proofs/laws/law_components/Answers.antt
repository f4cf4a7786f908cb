use Rattle.block_laws.proofs.Lattice.{separated-components, links-in_block}
use Rattle.block_laws.proofs.laws.law_components.Goals as goal

pub returns-clause-apart : goal.returns-clause-apart
returns-clause-apart c = separated-components

pub returns-clause-links : goal.returns-clause-links
returns-clause-links c = links-in_block
