use Rattle.equations.proofs.Facts.{known}
use Rattle.rounds.proofs.Solved.{ascent_ends}
use Rattle.iteration.specs.Solved.{system_of}
use Rattle.iteration.proofs.Forward.{is_system}
use Rattle.iteration.proofs.Headline.{ascent_inductive}
use Rattle.iteration.proofs.laws.law_ascent.Goals as goal

pub returns-clause-system : goal.returns-clause-system
returns-clause-system c g is = is_system g (known g is)

pub returns-clause-ends : goal.returns-clause-ends
returns-clause-ends c g delay is = ascent_ends (system_of g) delay (is_system g (known g is))

pub returns-clause-inductive : goal.returns-clause-inductive
returns-clause-inductive c g delay is = ascent_inductive g delay (known g is)
