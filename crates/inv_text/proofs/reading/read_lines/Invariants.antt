use Rattle.std.proofs.Common.{◌≡◌, ◌-◌, List, Option, length, take}
use Rattle.oct_def.specs.Table.{Matrix}
use Rattle.inv_text.specs.Invariants.{AreInvariants}
use Rattle.inv_text.specs.Reading.{lines_from, AreInvariantsUpTo}
use Rattle.inv_text.proofs.reading.read_lines.Given as goal

-- The points so far have their values, and the rest has the lines of the others.
abbrev pub invariant-loop-p : goal.invariant-loop-p
invariant-loop-p l = record {
  over : AreInvariantsUpTo l.dims l.p l.x;
  found : (whole : List (Option Matrix)) → AreInvariants l.dims whole → l.text ≡ lines_from whole 0 (length l.dims) → (l.x ≡ take l.p whole) × (l.rest ≡ lines_from whole l.p (length l.dims - l.p));
}
