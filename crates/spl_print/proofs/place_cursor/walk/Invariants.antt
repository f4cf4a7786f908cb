use Rattle.std.proofs.Common.{◌+◌}
use Rattle.spl_print.specs.Cursor.{IsPlaceAt}
use Rattle.spl_print.proofs.place_cursor.walk.Given as goal

-- The place of the bytes so far.
abbrev pub invariant-loop-byte : goal.invariant-loop-byte
invariant-loop-byte l = IsPlaceAt l.bytes (l.fn.from.offset + l.byte-index) l.place
