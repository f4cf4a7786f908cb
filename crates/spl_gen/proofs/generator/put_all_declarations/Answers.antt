use Rattle.spl_gen.specs.Generated.{declarations}
use Rattle.spl_gen.proofs.Groups.{group-put}
use Rattle.spl_gen.proofs.generator.put_all_declarations.Goals as goal

pub loop-k-preserved : goal.loop-k-preserved
loop-k-preserved c = group-put declarations c.loop-k.k c.args.out.now.items c.loop-k.out.items c.put_declarations.new.out.items c.loop-k.invariant c.in_ok-put_declarations.ensures
