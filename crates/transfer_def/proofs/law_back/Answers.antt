use Rattle.transfer_def.proofs.Back.{meets-back_value}
use Rattle.transfer_def.proofs.law_back.Goals as goal

pub returns : goal.returns
returns c = meets-back_value
