-- The worked programs, computed.
use Rattle.std.proofs.Common.{refl}
use Rattle.spl_types.specs.Checks.{checks}
use Rattle.spl_types.specs.Dimensions.{dimensions_of}
use Rattle.spl_types.specs.Examples.{CheckExamples}

pub worked : CheckExamples
unfolding checks dimensions_of
worked = record { unknown = refl; random = refl; kind = refl; twice = refl; count = refl; dimensions = refl }
