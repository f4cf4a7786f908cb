use Rattle.components.specs.Walk.{Grows, HasJoins, IsWithin}
use Rattle.components.proofs.walk.join_all.Given as goal

abbrev pub invariant-loop-w : goal.invariant-loop-w
invariant-loop-w g l = record {
  within : IsWithin (g.D.Domain.meaning l.v) l.fn.blocks → IsWithin (g.D.Domain.meaning l.v) l.blocks;
  grows : Grows l.fn.blocks l.blocks;
  joined : HasJoins (g.D.Domain.meaning l.v) l.blocks l.w l.u;
}
