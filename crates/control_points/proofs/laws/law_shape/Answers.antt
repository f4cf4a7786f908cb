use Rattle.control_points.proofs.Heads.{heads, few}
use Rattle.control_points.proofs.laws.law_shape.Goals as goal

pub returns-clause-heads : goal.returns-clause-heads
returns-clause-heads c = heads

pub returns-clause-few : goal.returns-clause-few
returns-clause-few c = few
