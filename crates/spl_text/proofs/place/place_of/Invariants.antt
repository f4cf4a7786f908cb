use Rattle.std.proofs.Common.{◌≡◌, ◌≤◌, ◌+◌}
use Rattle.spl_text.specs.Place.{line_of, column_of}
use Rattle.spl_text.proofs.place.place_of.Given as goal

-- Of the bytes so far, the line and the column, each at most one more than their number.
abbrev pub invariant-loop-byte : goal.invariant-loop-byte
invariant-loop-byte l = record {
  line : l.line ≡ line_of l.byte-items l.byte-index;
  column : l.column ≡ column_of l.byte-items l.byte-index;
  few_lines : l.line ≤ l.byte-index + 1;
  few_columns : l.column ≤ l.byte-index + 1;
}
