use Rattle.std.proofs.Common.{◌≡◌}
use Rattle.spl_tree.specs.Meaning.{exprs_in, expr_at}
use Rattle.spl_types.specs.Checks.{first_broken, expr_checks}
use Rattle.spl_types.specs.Sorts.{sort_of, waiting_checks, waiting_count, AreThere}
use Rattle.spl_types.proofs.exprs.expression.Given as goal

-- what waits is there, and breaks first what the whole does
abbrev pub invariant-loop-next : goal.invariant-loop-next
invariant-loop-next l = record {
  there : AreThere l.tree.exprs l.waiting.items;
  same : first_broken (waiting_checks l.names (exprs_in l.tree) l.waiting.items) ≡ first_broken (expr_checks l.names (sort_of l.fn.sort) (expr_at (exprs_in l.tree) l.fn.root));
}

abbrev pub decreases-loop-next : goal.decreases-loop-next
decreases-loop-next l = waiting_count (exprs_in l.tree) l.waiting.items
