use Rattle.std.proofs.Common.{◌∙◌}
use Rattle.spl_core.specs.Graph.{graph_of}
use Rattle.inv_check.proofs.Giving.{over_values, verdict_given}
use Rattle.inv_check.proofs.checking.inductive.Goals as goal

pub read_values-requires-clause-over : goal.read_values-requires-clause-over
read_values-requires-clause-over c = over_values (graph_of c.args.core.now) c.args.x.now c.deref.result.now (c.deref.ensures.value ∙ c.in_ok-values.ensures)

pub first_break-requires-clause-over : goal.first_break-requires-clause-over
first_break-requires-clause-over c = over_values (graph_of c.args.core.now) c.args.x.now c.deref-3.result.now (c.deref-3.ensures.value ∙ c.in_ok-values.ensures)

pub returns : goal.returns
returns c = record {
  verdict = verdict_given (graph_of c.args.core.now) c.args.x.now c.deref-3.result.now c.in_ok-verdict.verdict (c.deref-3.ensures.value ∙ c.in_ok-values.ensures) c.in_ok-verdict.ensures.verdict;
}
