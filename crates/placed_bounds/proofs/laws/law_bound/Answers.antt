use Rattle.placed_bounds.proofs.Bounded.{bounds_give_values}
use Rattle.placed_bounds.proofs.laws.law_bound.Goals as goal

pub returns : goal.returns
returns c = bounds_give_values
