use Rattle.std.proofs.Common.{◌≡◌}
use Rattle.interval_form.specs.Interval.{ranges_of}
use Rattle.interval_form.proofs.Ranging.{few-more}
use Rattle.dec_oct.specs.Value.{whole}
use Rattle.dec_lattice.specs.Over.{held}
use Rattle.dec_lattice.proofs.Values.{if-held}
use Rattle.dec_transfer.proofs.ranges.ranges_with_new.Goals as goal

pub of-requires : goal.of-requires
of-requires c =
    let v = c.args.value.now in
    let rs = c.in_ok-ranges.ranges.items in
    record { few = few-more v.dims (whole v.dims (held v)) rs c.push.new.self.items _ (if-held v.blocks (λ b. rs ≡ ranges_of v.dims (whole v.dims b)) c.requires.not_bottom c.in_ok-ranges.ensures) c.requires.small c.in_ok-push.ensures.items }
