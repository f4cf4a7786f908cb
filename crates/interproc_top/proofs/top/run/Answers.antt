use Rattle.std.proofs.Common.{Ok, Err}
use Rattle.interproc_top.proofs.Fair.{one_reading, completes}
use Rattle.interproc_top.proofs.top.run.Goals as goal

pub returns-in-Ok-clause-complete : goal.returns-in-Ok-clause-complete
returns-in-Ok-clause-complete g c =
    completes (Ok c.in-Ok.status) _ (one_reading c.law_one_cut_or_fault.ensures c.law_one_tree.ensures) c.law_choices.ensures.choices c.law_choices.ensures.not_both c.in-Ok.ensures.ends

pub returns-in-Err-clause-complete : goal.returns-in-Err-clause-complete
returns-in-Err-clause-complete g c =
    rw c.status.ensures
    (completes (Err c.in-Err.cause) _ (one_reading c.law_one_cut_or_fault.ensures c.law_one_tree.ensures) c.law_choices.ensures.choices c.law_choices.ensures.not_both (c.in-Err.ensures {u = tt}).ends)
