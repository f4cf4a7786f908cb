use Rattle.spl_gen.specs.Generated.{steps}
use Rattle.spl_gen.proofs.Groups.{group-put}
use Rattle.spl_gen.proofs.generator.put_all_steps.Goals as goal

pub loop-k-preserved : goal.loop-k-preserved
loop-k-preserved c = group-put steps c.loop-k.k c.args.out.now.items c.loop-k.out.items c.put_steps.new.out.items c.loop-k.invariant c.in_ok-put_steps.ensures
