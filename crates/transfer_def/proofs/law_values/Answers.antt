use Rattle.transfer_def.proofs.Moves.{value-move_value, dims-move_value}
use Rattle.transfer_def.proofs.Enter.{value-enter_value}
use Rattle.transfer_def.proofs.Back.{value-back_value}
use Rattle.transfer_def.proofs.law_values.Goals as goal

pub returns-clause-moves : goal.returns-clause-moves
returns-clause-moves c = value-move_value

pub returns-clause-dims : goal.returns-clause-dims
returns-clause-dims c = dims-move_value

pub returns-clause-enter : goal.returns-clause-enter
returns-clause-enter c = value-enter_value

pub returns-clause-back : goal.returns-clause-back
returns-clause-back c = value-back_value
