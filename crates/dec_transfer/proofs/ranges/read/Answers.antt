use Rattle.std.proofs.Common.{◌≡◌, ◌∙◌}
use Rattle.interval_form.specs.Interval.{range_of}
use Rattle.interval_form.proofs.Ranging.{ranges-none, range-pushed}
use Rattle.dec_oct.specs.Value.{whole}
use Rattle.dec_lattice.specs.Over.{held}
use Rattle.dec_lattice.proofs.Values.{if-held}
use Rattle.dec_transfer.proofs.ranges.read.Goals as goal

pub variables-init : goal.variables-init
variables-init c = c.new-ranges.ensures.items ∙ ranges-none (whole c.args.value.now.dims (held c.args.value.now))

pub variables-preserved : goal.variables-preserved
variables-preserved c =
    let v = c.args.value.now in
    range-pushed c.variables.v (whole v.dims (held v)) c.push.new.self.items c.variables.ranges.items c.range.result c.variables.invariant
    (if-held v.blocks (λ b. c.range.result ≡ range_of (whole v.dims b) c.variables.v) c.requires.not_bottom c.range.ensures) c.in_ok-push.ensures.items
