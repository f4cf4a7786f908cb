use Rattle.dec_oct.proofs.Entries.{apart-homes, apart-first, apart-second}
use Rattle.dec_oct.proofs.assembly.joint_block.Goals as goal

pub returns-else-b-c : goal.returns-else-b-c
returns-else-b-c c = apart-homes c.args.partition.now c.args.i c.args.j c.in-Some.b c.in-Some-block_of.c c.in-Some.ensures c.in-Some-block_of.ensures c.if-b-c.false

pub returns-in-None-block_of : goal.returns-in-None-block_of
returns-in-None-block_of c = apart-second c.args.partition.now c.args.i c.args.j c.in-None-block_of.ensures

pub returns-in-None : goal.returns-in-None
returns-in-None c = apart-first c.args.partition.now c.args.i c.args.j c.in-None.ensures
