-- A restriction of a matrix that is its own tight closure is so too.
use Rattle.tight_laws.proofs.Restriction.{restriction_is_tight}
use Rattle.tight_laws.proofs.law_restriction.Goals as goal

pub returns : goal.returns
returns c = restriction_is_tight
