use Rattle.block_laws.proofs.Components.{closing-components}
use Rattle.block_laws.proofs.Merged.{kept-block}
use Rattle.block_laws.proofs.laws.law_merging.Goals as goal

pub returns-clause-components : goal.returns-clause-components
returns-clause-components c = closing-components

pub returns-clause-stays : goal.returns-clause-stays
returns-clause-stays c = kept-block
