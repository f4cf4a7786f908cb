use Rattle.std.proofs.Common.{◌≡◌, ◌≤◌, ◌+◌, Some}
use Rattle.oct_def.specs.Tight.{tight}
use Rattle.block_laws.specs.Assembly.{matrix}
use Rattle.dec_oct.specs.Cost.{cost_below}
use Rattle.dec_oct.proofs.Flags.{IsFlagged}
use Rattle.dec_oct.proofs.closing.second_marks.Given as goal

abbrev pub invariant-loop-b : goal.invariant-loop-b
invariant-loop-b l = record {
  flags : IsFlagged (λ k. tight (matrix l.matrices k) ≡ Some (matrix l.matrices k)) l.b l.marks.items;
  room : l.scratch ≡ l.initial.scratch;
  rises : l.initial.count ≤ l.count;
  count : l.count ≤ l.initial.count + cost_below l.matrices l.known l.b;
}
