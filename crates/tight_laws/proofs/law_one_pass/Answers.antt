use Rattle.tight_laws.proofs.Own.{one_pass_is_tight, one_pass_alone}
use Rattle.tight_laws.proofs.law_one_pass.Goals as goal

pub returns-clause-change : goal.returns-clause-change
returns-clause-change c = one_pass_is_tight

pub returns-clause-alone : goal.returns-clause-alone
returns-clause-alone c = one_pass_alone
