use Rattle.control_points.proofs.Agreeing.{named}
use Rattle.control_points.proofs.laws.law_names.Goals as goal

pub returns : goal.returns
returns c = named
