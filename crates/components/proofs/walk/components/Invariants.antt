use Rattle.std.proofs.Common.{ℕ, ◌<◌}
use Rattle.components.specs.Walk.{HasJoins, IsWithin}
use Rattle.components.proofs.walk.components.Given as goal

-- Each pair of variables that shares a block is linked, and the variables so far have all their joins.
abbrev pub invariant-loop-u : goal.invariant-loop-u
invariant-loop-u g l = record {
  within : IsWithin (g.D.Domain.meaning l.v) l.blocks;
  joined : (u : ℕ) → u < l.u → HasJoins (g.D.Domain.meaning l.v) l.blocks l.dims u;
}
