use Rattle.command_words.proofs.Limits.{limits}
use Rattle.command_words.proofs.laws.law_limits.Goals as goal

pub returns : goal.returns
returns c = limits
