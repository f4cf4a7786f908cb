use Rattle.std.proofs.Common.{refl, rules}
use Rattle.block_partition.proofs.Relabelled.{home-read}
use Rattle.block_partition.proofs.partition.Partition.block_of.Goals as goal

pub returns-then-at-homes : goal.returns-then-at-homes
returns-then-at-homes c = home-read c.args.self.now c.args.self.now c.homes-homes.result.now c.args.v _ refl c.homes-homes.ensures (search rules) refl
