use Rattle.spl_tree.proofs.Nodes.{has_as_many, stands_for}
use Rattle.spl_tree.proofs.laws.law_numbers.Goals as goal

pub returns : goal.returns
returns c t w = (has_as_many t w, stands_for t w)
