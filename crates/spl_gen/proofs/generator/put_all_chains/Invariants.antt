use Rattle.std.proofs.Common.{◌≡◌, ◌++◌}
use Rattle.spl_gen.specs.Generated.{chain, each}
use Rattle.spl_gen.proofs.generator.put_all_chains.Given as goal

-- The groups so far stand behind what was there.
abbrev pub invariant-loop-k : goal.invariant-loop-k
invariant-loop-k l = l.out.items ≡ l.fn.out.items ++ each chain l.k
