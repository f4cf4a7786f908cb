use Rattle.oct_def.proofs.Indices.{xor_one}
use Rattle.oct_def.proofs.dimensions.opposite.Goals as goal

pub returns : goal.returns
returns c = xor_one c.args.i
