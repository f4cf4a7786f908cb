use Rattle.spl_core.proofs.Nodes.{stands_for}
use Rattle.spl_core.proofs.laws.law_numbers.Goals as goal

pub returns : goal.returns
returns c d w = stands_for d w
