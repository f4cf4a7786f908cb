-- An integer state meets the tight closure exactly where it meets the matrix.
use Rattle.oct_def.proofs.Sound.{meets-tight, meets-tight_back}
use Rattle.oct_def.proofs.laws.law_tight.Goals as goal

pub returns : goal.returns
returns c = λ m s sq. (meets-tight s m, meets-tight_back s m sq)
