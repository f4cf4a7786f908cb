use Rattle.spl_parser.proofs.Laws.{one_derivation}
use Rattle.spl_parser.proofs.law_one_derivation.Goals as goal

pub returns : goal.returns
returns c d e h = one_derivation d e h
