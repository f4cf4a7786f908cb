use Rattle.transfer_def.proofs.Enter.{meets-enter_value}
use Rattle.transfer_def.proofs.law_enter.Goals as goal

pub returns : goal.returns
returns c = meets-enter_value
