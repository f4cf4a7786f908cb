use Rattle.std.proofs.Common.{◌≡◌, take}
use Rattle.std.specs.List.{flat_map}
use Rattle.run_text.specs.Text.{top_text}
use Rattle.run_text.proofs.text.run_text.Given as goal

-- The lines of the stacks so far stand there.
abbrev pub invariant-loop-k : goal.invariant-loop-k
invariant-loop-k l = l.out.items ≡ flat_map top_text (take l.k l.run)
