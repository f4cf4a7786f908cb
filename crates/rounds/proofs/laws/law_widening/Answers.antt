use Rattle.rounds.proofs.Widened.{is_widening}
use Rattle.rounds.proofs.laws.law_widening.Goals as goal

pub returns : goal.returns
returns c = is_widening
