use Rattle.std.proofs.Common.{refl}
use Rattle.oct_def.specs.Octagon.{bottom_value}
use Rattle.dec_oct.proofs.value.DecOct.bottom.Goals as goal

pub returns-clause-value : goal.returns-clause-value
unfolding bottom_value
returns-clause-value c = refl
