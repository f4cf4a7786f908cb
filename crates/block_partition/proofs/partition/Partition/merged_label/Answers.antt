use Rattle.std.proofs.Common.{◌∙◌, sym, ap}
use Rattle.block_partition.specs.Relabelling.{mark}
use Rattle.block_partition.proofs.Relabelled.{merged-marked, merged-plain}
use Rattle.block_partition.proofs.partition.Partition.merged_label.Goals as goal

pub returns-then-marks-key : goal.returns-then-marks-key
returns-then-marks-key c = merged-marked c.args.self.now c.args.marks.now c.args.v (ap (mark c.args.marks.now) (sym c.key.ensures.key) ∙ c.if-marks-key.true)

pub returns-else-marks-key : goal.returns-else-marks-key
returns-else-marks-key c = merged-plain c.args.self.now c.args.marks.now c.args.v _ (ap (mark c.args.marks.now) (sym c.key.ensures.key) ∙ c.if-marks-key.false) c.plain_label.ensures
