use Rattle.std.proofs.Common.{◌≡◌, length, map, drop}
use Rattle.full_oct.specs.Placing.{placed_of}
use Rattle.placed_bounds.specs.Bounded.{all_bounded}
use Rattle.full_oct.proofs.matrix.FullMatrix.take_all_coherent.Given as goal

abbrev pub invariant-bounds : goal.invariant-bounds
invariant-bounds l = (all_bounded l.self (map placed_of (drop l.k l.bounds)) ≡ all_bounded l.fn.self (map placed_of l.bounds)) × (length l.self ≡ length l.fn.self)
