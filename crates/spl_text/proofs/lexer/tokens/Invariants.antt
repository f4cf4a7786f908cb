use Rattle.std.proofs.Common.{◌≡◌, ◌-◌, length}
use Rattle.spl_text.specs.TextRules.{depth_of, run_of}
use Rattle.spl_text.proofs.Cursors.{Cursor}
use Rattle.spl_text.proofs.lexer.tokens.Given as goal

-- pieces lead to the offset, no rule is broken before it, and the limits are those of the tokens so far
abbrev pub invariant-loop-at : goal.invariant-loop-at
invariant-loop-at l = record {
  cursor : Cursor l.bytes l.at l.items.items;
  depth : l.limits.depth ≡ depth_of l.items.items;
  run : l.limits.run ≡ run_of l.items.items;
}

abbrev pub decreases-loop-at : goal.decreases-loop-at
decreases-loop-at l = length l.bytes - l.at
