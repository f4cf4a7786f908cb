use Rattle.std.proofs.Common.{◌^◌, sym, arith}
use Rattle.spl_text.proofs.Numerals.{value-large}
use Rattle.spl_text.proofs.word.value_of.Goals as goal

pub returns-then-longer-from : goal.returns-then-longer-from
returns-then-longer-from c =
    sym (value-large c.args.digits.now c.loop-digit.digit-index c.loop-digit.value (2 ^ 61) (omega arith) c.loop-digit.invariant.value (omega arith))
