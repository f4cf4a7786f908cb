use Rattle.spl_core.proofs.Values.{truncates_toward_zero}
use Rattle.spl_core.proofs.laws.law_quotient.Goals as goal

pub returns : goal.returns
returns c x y h = truncates_toward_zero x y h
