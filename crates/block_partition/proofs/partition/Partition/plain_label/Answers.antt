use Rattle.std.proofs.Common.{◌∙◌}
use Rattle.block_partition.proofs.Relabelled.{plain-some, plain-none}
use Rattle.block_partition.proofs.partition.Partition.plain_label.Goals as goal

pub returns-in_err-b : goal.returns-in_err-b
returns-in_err-b c = c.from_residual.ensures ∙ plain-none c.args.self.now c.args.v c.in_err-b.ensures

pub returns : goal.returns
returns c = plain-some c.args.self.now c.args.v c.in_ok-b.b c.in_ok-b.ensures
