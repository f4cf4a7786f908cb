use Rattle.std.proofs.Common.{◌≡◌, arith, subst, length, rules}
use Rattle.block_partition.specs.Relabelling.{IsMarked}
use Rattle.block_partition.proofs.Relabelled.{marked-none, marked-more}
use Rattle.block_partition.proofs.partition.Partition.marks_of.Goals as goal

pub loop-i-init : goal.loop-i-init
loop-i-init c = marked-none c.args.self.now c.args.vars.now _ (search rules)

pub loop-i-preserved : goal.loop-i-preserved
loop-i-preserved c = marked-more c.args.self.now c.args.vars.now c.loop-i.i c.key-k.result _ c.loop-i.invariant c.key-k.ensures.key c.key-k.ensures.small

pub returns : goal.returns
returns c = let e : c.loop-i.i ≡ length c.args.vars.now = omega arith in subst (λ n. IsMarked c.args.self.now c.args.vars.now n c.loop-i.marks.items) e c.loop-i.invariant
