use Rattle.std.proofs.Common.{◌∷◌, ◌++◌, decimal}
use Rattle.inv_text.specs.CertText.{value_text}
use Rattle.inv_text.proofs.Words.{plain-decimal}
use Rattle.inv_text.proofs.Left.{stops_value}
use Rattle.inv_text.proofs.reading.read_line.Goals as goal

pub returns-in-Some-clause-found : goal.returns-in-Some-clause-found
returns-in-Some-clause-found c = λ p value rest l is e.
    let s = c.split_word.ensures.found (decimal p) (value_text value ++ 10 ∷ rest) e (plain-decimal p l) (stops_value value rest) in
    let v = c.in-Ok.ensures.found value rest is s.1 in
    (v.0, c.in-Some.ensures.found 10 rest v.1)

pub returns-in-None-clause-found : goal.returns-in-None-clause-found
returns-in-None-clause-found c = λ p value rest l is e.
    let s = c.split_word.ensures.found (decimal p) (value_text value ++ 10 ∷ rest) e (plain-decimal p l) (stops_value value rest) in
    let v = c.in-Ok.ensures.found value rest is s.1 in
    absurd (c.in-None.ensures.found 10 rest v.1)

pub returns-in-Err-clause-found : goal.returns-in-Err-clause-found
returns-in-Err-clause-found c = λ p value rest l is e.
    let s = c.split_word.ensures.found (decimal p) (value_text value ++ 10 ∷ rest) e (plain-decimal p l) (stops_value value rest) in
    c.in-Err.ensures.found value rest is s.1
