use Rattle.interval_form.proofs.Ranging.{few-ranges}
use Rattle.full_oct.proofs.matrix.FullMatrix.ranges.Goals as goal

pub of-requires : goal.of-requires
of-requires c = record { few = few-ranges c.args.dims c.args.self.now c.in_ok-ranges.ranges.items c.in_ok-ranges.ensures c.requires.small }
