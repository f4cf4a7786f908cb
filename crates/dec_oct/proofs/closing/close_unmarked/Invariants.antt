use Rattle.std.proofs.Common.{◌≡◌, ℕ, ◌<◌, ◌≤◌, ◌+◌, length, Some}
use Rattle.oct_def.specs.Tight.{tight}
use Rattle.block_laws.specs.Assembly.{matrix}
use Rattle.dec_oct.specs.Cost.{cost_below}
use Rattle.dec_oct.proofs.Sures.{IsSureUpTo}
use Rattle.dec_oct.proofs.closing.close_unmarked.Given as goal

abbrev pub invariant-loop-b : goal.invariant-loop-b
invariant-loop-b l = record {
  size : length l.closed.matrices.items ≡ l.b;
  each : (k : ℕ) → k < l.b → tight (matrix l.matrices k) ≡ Some (matrix l.closed.matrices.items k);
  sure : IsSureUpTo l.marks l.b l.closed.matrices.items l.closed.settled.items;
  room : l.scratch ≡ l.initial.scratch;
  rises : l.initial.count ≤ l.count;
  count : l.count ≤ l.initial.count + cost_below l.matrices l.marks l.b;
}
