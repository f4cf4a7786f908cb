use Rattle.spl_runs.proofs.Coming.{runs_sound}
use Rattle.spl_runs.proofs.laws.law_runs.Goals as goal

pub returns : goal.returns
returns c g is r = runs_sound g is r
