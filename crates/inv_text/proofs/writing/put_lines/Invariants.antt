use Rattle.std.proofs.Common.{◌≡◌, ◌++◌}
use Rattle.std.specs.List.{flat_map, range_with_len}
use Rattle.inv_text.specs.CertText.{line_text}
use Rattle.inv_text.proofs.writing.put_lines.Given as goal

-- The lines of the points so far stand behind what was there.
abbrev pub invariant-loop-p : goal.invariant-loop-p
invariant-loop-p l = l.out.items ≡ l.fn.out.items ++ flat_map (line_text l.x) (range_with_len 0 l.p)
