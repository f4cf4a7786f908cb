use Rattle.rounds.proofs.Sized.{are_solved}
use Rattle.rounds.proofs.Reached.{good-solved}
use Rattle.rounds.proofs.laws.law_sizes.Goals as goal

pub returns-clause-sizes : goal.returns-clause-sizes
returns-clause-sizes c = are_solved

pub returns-clause-values : goal.returns-clause-values
returns-clause-values c = good-solved
