use Rattle.generated_program.proofs.Accepting.{is_accepted}
use Rattle.generated_program.proofs.laws.law_generated_text_is_accepted.Goals as goal

pub returns : goal.returns
returns c = is_accepted
