use Rattle.std.proofs.Common.{◌≡◌, drop, length}
use Rattle.full_oct.specs.Taken.{taken}
use Rattle.full_oct.proofs.matrix.FullMatrix.take_all.Given as goal

abbrev pub invariant-bounds : goal.invariant-bounds
invariant-bounds l = (length l.self ≡ length l.fn.self) × (taken l.self (drop l.k l.bounds) ≡ taken l.fn.self l.bounds)
