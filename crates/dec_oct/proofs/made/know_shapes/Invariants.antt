use Rattle.std.proofs.Common.{ℕ, ◌<◌}
use Rattle.oct_def.specs.Matrix.{IsSquare, IsCoherent}
use Rattle.block_laws.specs.Assembly.{matrix}
use Rattle.dec_oct.proofs.made.know_shapes.Given as goal

abbrev pub invariant-loop-b : goal.invariant-loop-b
invariant-loop-b l = (k : ℕ) → k < l.b → IsSquare (matrix l.matrices k) × IsCoherent (matrix l.matrices k)
