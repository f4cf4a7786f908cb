use Rattle.spl_runs.proofs.Worked.{run_examples}
use Rattle.spl_runs.proofs.laws.law_examples.Goals as goal

pub returns : goal.returns
returns c = run_examples
