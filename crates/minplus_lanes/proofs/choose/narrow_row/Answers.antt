use Rattle.std.proofs.Common.{arith}
use Rattle.minplus_lanes.specs.Choices.{chosen_at}
use Rattle.minplus_lanes.proofs.choose.narrow_row.Goals as goal

pub returns-clause-narrowed : goal.returns-clause-narrowed
unfolding chosen_at
returns-clause-narrowed c = λ j h. c.choose_row.ensures.chosen j h (c.all_fit.ensures.fits j h) (c.all_fit-2.ensures.fits j (omega arith))
