use Rattle.std.proofs.Common.{refl}
use Rattle.transfer_def.specs.Enter.{argument_dimension}
use Rattle.full_oct.proofs.calls.argument_dimension.Goals as goal

pub returns : goal.returns
unfolding argument_dimension
returns c = refl
