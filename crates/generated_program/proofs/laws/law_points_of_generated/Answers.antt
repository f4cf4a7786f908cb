use Rattle.generated_program.proofs.Accepting.{has_points}
use Rattle.generated_program.proofs.laws.law_points_of_generated.Goals as goal

pub returns : goal.returns
returns c = has_points
