use Rattle.spl_runs.proofs.Sound.{replays_are_runs}
use Rattle.spl_runs.proofs.laws.law_replays.Goals as goal

pub returns : goal.returns
returns c d given tops stack w e = replays_are_runs d given tops stack w e
