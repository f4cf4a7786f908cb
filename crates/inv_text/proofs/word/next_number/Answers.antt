use Rattle.std.proofs.Common.{decimal, arith}
use Rattle.inv_text.proofs.Words.{plain-decimal}
use Rattle.inv_text.proofs.word.next_number.Goals as goal

pub returns-in_default-clause-found : goal.returns-in_default-clause-found
returns-in_default-clause-found c = λ n rest l s e. c.in_default.ensures.found (decimal n) rest e (plain-decimal n (omega arith)) s

pub returns-in-Some-number-clause-found : goal.returns-in-Some-number-clause-found
returns-in-Some-number-clause-found c = λ n rest l s e.
    let both = c.in-Some.ensures.found (decimal n) rest e (plain-decimal n (omega arith)) s in
    let value = c.in-Some-number.ensures.found n l both.0 in
    (cc, both.1)

pub returns-in-None-clause-found : goal.returns-in-None-clause-found
returns-in-None-clause-found c = λ n rest l s e.
    let both = c.in-Some.ensures.found (decimal n) rest e (plain-decimal n (omega arith)) s in
    let value = c.in-None.ensures.found n l both.0 in
    cc
