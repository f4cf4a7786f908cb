use Rattle.std.proofs.Common.{refl}
use Rattle.oct_def.specs.Octagon.{bottom_value}
use Rattle.full_oct.proofs.value.FullValue.bottom.Goals as goal

pub returns : goal.returns
unfolding bottom_value
returns c = record { value = refl }
