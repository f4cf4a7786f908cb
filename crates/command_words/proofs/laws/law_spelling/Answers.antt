use Rattle.command_words.proofs.Spelled.{reads-spelled, spelt}
use Rattle.command_words.proofs.laws.law_spelling.Goals as goal

pub returns : goal.returns
returns c = λ words items. (reads-spelled words items, λ e. (spelt words).free items e)
