use Rattle.std.specs.Prelude.{map}
use Rattle.spl_runs.specs.Choices.{given_of}
use Rattle.spl_runs.specs.Seen.{top_seen}
use Rattle.spl_runs.specs.Stacks.{stack_of}
use Rattle.spl_runs.proofs.Following.{Followed}
use Rattle.spl_runs.proofs.follow.follow.Given as goal

abbrev pub invariant-loop-k : goal.invariant-loop-k
invariant-loop-k l = Followed l.core (given_of l.choices) l.k (map top_seen l.tops.items) (stack_of l.stack)
