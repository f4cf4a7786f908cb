-- Which marks may be missing after a call.
use Rattle.std.specs.Prelude.{ℕ, ◌+◌, Option, List}
use Rattle.std.specs.Option.{option_and_then}
use Rattle.oct_def.specs.Tight.{tight}
use Rattle.oct_def.specs.Octagon.{Octagon, on_both}
use Rattle.transfer_def.specs.Back.{joined}
use Rattle.dec_oct.specs.Value.{Blocks}
use Rattle.dec_parts.specs.Moving.{MarksAllButTargetsOf}

-- the closed value over the caller's variables and the outputs, before these take the places of the targets
unfoldable pub joined_value : Octagon → Octagon → List ℕ → ℕ → Octagon
joined_value caller exit args outputs = record {
  dims = caller.dims + outputs;
  matrix = option_and_then tight (on_both (joined caller.dims args outputs) caller.matrix exit.matrix);
}

-- a mark is missing only where the tight closure changes a block's matrix, where a target is in the block, or where one of its
-- variables shared a block with a target before the outputs took the targets' places
abbrev pub BackMarks : Octagon → Octagon → List ℕ → ℕ → List ℕ → Option Blocks → Type 0
BackMarks caller exit args outputs targets r = MarksAllButTargetsOf caller.dims targets (joined_value caller exit args outputs) r
