use Rattle.std.proofs.Common.{◌≡◌, ◌≤◌, ◌^◌, take}
use Rattle.spl_text.specs.Words.{value_of_digits}
use Rattle.spl_text.proofs.word.value_of.Given as goal

-- the number that the digits so far write
abbrev pub invariant-loop-digit : goal.invariant-loop-digit
invariant-loop-digit l = record {
  value : l.value ≡ value_of_digits (take l.digit-index l.digits);
  small : l.value ≤ 2 ^ 61;
}
