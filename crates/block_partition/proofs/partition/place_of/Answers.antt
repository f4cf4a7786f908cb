use Rattle.block_partition.proofs.Relabelled.{searched-place, searched-none}
use Rattle.block_partition.proofs.partition.place_of.Goals as goal

pub returns-in-Ok : goal.returns-in-Ok
returns-in-Ok c = searched-place c.args.members.now c.args.v _ c.in-Ok.i c.requires.block c.binary_search.ensures.position c.in-Ok.is

pub returns-in-Err : goal.returns-in-Err
returns-in-Err c = searched-none c.args.members.now c.args.v _ _ c.requires.block c.binary_search.ensures.position c.in-Err.is
