-- The worked texts, computed.
use Rattle.std.proofs.Common.{refl}
use Rattle.std.specs.Fmt.{digits}
use Rattle.spl_print.specs.Canonical.{program_lines, canonical}
use Rattle.spl_print.specs.Examples.{TextExamples}

pub worked : TextExamples
unfolding digits program_lines canonical
worked = record { left = refl; right = refl; product = refl; opposite_of_both = refl; either = refl; no_target = refl; two_targets = refl; whole = refl }
