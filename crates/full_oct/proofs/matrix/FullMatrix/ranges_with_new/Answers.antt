use Rattle.interval_form.proofs.Ranging.{few-more}
use Rattle.full_oct.proofs.matrix.FullMatrix.ranges_with_new.Goals as goal

pub of-requires : goal.of-requires
of-requires c = record { few = few-more c.args.dims c.args.self.now c.in_ok-ranges.ranges.items c.push.new.self.items _ c.in_ok-ranges.ensures c.requires.small c.in_ok-push.ensures.items }
