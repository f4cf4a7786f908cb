use Rattle.std.proofs.Common.{◌≡◌, ◌++◌, take}
use Rattle.std.specs.List.{flat_map}
use Rattle.run_text.specs.Text.{value_text}
use Rattle.run_text.proofs.text.put_values.Given as goal

-- The texts of the values so far stand behind what was there.
abbrev pub invariant-loop-value : goal.invariant-loop-value
invariant-loop-value l = l.out.items ≡ l.fn.out.items ++ flat_map value_text (take l.value-index l.values)
