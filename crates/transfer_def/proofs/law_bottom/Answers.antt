use Rattle.transfer_def.proofs.Moves.{move-bottom, enter-bottom, back-bottom_caller, back-bottom_exit}
use Rattle.transfer_def.proofs.law_bottom.Goals as goal

pub returns-clause-moves : goal.returns-clause-moves
returns-clause-moves c = move-bottom

pub returns-clause-enter : goal.returns-clause-enter
returns-clause-enter c = enter-bottom

pub returns-clause-caller : goal.returns-clause-caller
returns-clause-caller c = back-bottom_caller

pub returns-clause-exit : goal.returns-clause-exit
returns-clause-exit c = back-bottom_exit
