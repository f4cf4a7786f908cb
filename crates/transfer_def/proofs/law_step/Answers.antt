use Rattle.transfer_def.proofs.Moves.{meets-move_value, over-fits}
use Rattle.transfer_def.proofs.law_step.Goals as goal

pub returns-clause-step : goal.returns-clause-step
returns-clause-step c = meets-move_value

pub returns-clause-over : goal.returns-clause-over
returns-clause-over c = over-fits
