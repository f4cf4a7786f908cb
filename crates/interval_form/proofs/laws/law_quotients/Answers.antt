use Rattle.interval_form.proofs.Quotients.{Holds-quotient_of, Holds-remainder_of}
use Rattle.interval_form.proofs.laws.law_quotients.Goals as goal

pub returns-clause-quotients : goal.returns-clause-quotients
returns-clause-quotients c = Holds-quotient_of

pub returns-clause-remainders : goal.returns-clause-remainders
returns-clause-remainders c = Holds-remainder_of
