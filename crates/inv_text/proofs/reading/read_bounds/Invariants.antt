use Rattle.std.proofs.Common.{◌≡◌, ℕ, ◌*◌, ◌≤◌, List, length}
use Rattle.oct_def.specs.Table.{Matrix}
use Rattle.oct_def.specs.Matrix.{IsEvenMatrix}
use Rattle.inv_text.specs.Reading.{IsLeft}
use Rattle.inv_text.proofs.reading.read_bounds.Given as goal

-- What is left of a line at the beginning is left of it in the rest.
abbrev pub invariant-loop-rest : goal.invariant-loop-rest
invariant-loop-rest l = record {
  rows : length l.matrix ≡ length l.fn.matrix;
  found : (n : ℕ) (whole : Matrix) (rest : List ℕ) → n ≤ 256 → IsEvenMatrix n whole → length l.fn.matrix ≡ 2 * n → IsLeft whole rest l.fn.matrix l.fn.text → IsLeft whole rest l.matrix l.rest;
}

abbrev pub decreases-loop-rest : goal.decreases-loop-rest
decreases-loop-rest l = length l.rest
