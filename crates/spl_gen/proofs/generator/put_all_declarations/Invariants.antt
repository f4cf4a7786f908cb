use Rattle.std.proofs.Common.{◌≡◌, ◌++◌}
use Rattle.spl_gen.specs.Generated.{declarations, each}
use Rattle.spl_gen.proofs.generator.put_all_declarations.Given as goal

-- The groups so far stand behind what was there.
abbrev pub invariant-loop-k : goal.invariant-loop-k
invariant-loop-k l = l.out.items ≡ l.fn.out.items ++ each declarations l.k
