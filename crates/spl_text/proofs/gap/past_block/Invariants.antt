use Rattle.std.proofs.Common.{◌≡◌, ◌+◌, ◌-◌, length}
use Rattle.std.specs.List.{find, range_with_len}
use Rattle.spl_text.specs.Gaps.{stand_at}
use Rattle.spl_text.proofs.gap.past_block.Given as goal

-- no comment's end was passed
abbrev pub invariant-loop-close : goal.invariant-loop-close
invariant-loop-close l =
    find (stand_at 42 47 l.bytes) (range_with_len (l.at + 2) (length l.bytes - (l.at + 2)))
    ≡ find (stand_at 42 47 l.bytes) (range_with_len l.close (length l.bytes - l.close))
