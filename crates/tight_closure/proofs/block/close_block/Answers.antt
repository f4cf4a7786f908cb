use Rattle.std.proofs.Common.{◌+◌, ◌-◌, ◌^◌, min, ap, ◌∙◌, length}
use Rattle.std.specs.Prelude.{ℕ}
use Rattle.tight_closure.proofs.Evening.{rows_of_block}
use Rattle.tight_closure.proofs.block.close_block.Goals as goal

pub returns-clause-count : goal.returns-clause-count
returns-clause-count c = λ k e. c.close_within.ensures.count ∙ ap (λ (t : ℕ). min (c.args.count.now + t) (2 ^ 64 - 1)) (rows_of_block (length c.args.m.now) k e)
