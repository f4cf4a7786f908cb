use Rattle.std.proofs.Common.{◌∙◌}
use Rattle.block_partition.proofs.Relabelled.{meet-both, meet-first, meet-second}
use Rattle.block_partition.proofs.partition.Partition.meet_label.Goals as goal

pub returns-in_err-a : goal.returns-in_err-a
returns-in_err-a c = c.from_residual.ensures ∙ meet-first c.args.self.now c.args.other.now c.args.v c.in_err-a.ensures

pub returns-in_err-b : goal.returns-in_err-b
returns-in_err-b c = c.from_residual-in_err-b.ensures ∙ meet-second c.args.self.now c.args.other.now c.args.v c.in_ok-a.a c.in_ok-a.ensures c.in_err-b.ensures

pub returns : goal.returns
returns c = meet-both c.args.self.now c.args.other.now c.args.v c.in_ok-a.a c.in_ok-b.b c.in_ok-a.ensures c.in_ok-b.ensures
