use Rattle.example_system.proofs.Known.{all_read}
use Rattle.example_system.proofs.WaysEquations.readers.Goals as goal

pub returns : goal.returns
returns g c = record { readers = all_read c.args._p }
