use Rattle.std.proofs.Common.{arith}
use Rattle.minplus_lanes.specs.Choices.{chosen_at}
use Rattle.minplus_lanes.proofs.choose.min_row.Goals as goal

pub returns-clause-least : goal.returns-clause-least
unfolding chosen_at
returns-clause-least c = λ j h. c.choose_row.ensures.chosen j h (c.all_fit.ensures.fits j h) (c.all_fit-2.ensures.fits j (omega arith))
