use Rattle.equations.proofs.Facts.{known}
use Rattle.iteration.proofs.Headline.{is_sound}
use Rattle.iteration.proofs.laws.law_sound.Goals as goal

pub returns : goal.returns
returns c g delay descend is = is_sound g delay descend (known g is)
