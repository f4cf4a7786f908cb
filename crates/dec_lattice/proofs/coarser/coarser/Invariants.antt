use Rattle.dec_lattice.specs.Coarser.{IsCoarser}
use Rattle.dec_lattice.proofs.coarser.coarser.Given as goal

abbrev pub invariant-loop-c : goal.invariant-loop-c
invariant-loop-c l = IsCoarser l.dims l.a l.b l.c l.made
