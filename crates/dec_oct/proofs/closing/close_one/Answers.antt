use Rattle.std.proofs.Common.{sym}
use Rattle.dec_oct.proofs.Costs.{count-min}
use Rattle.dec_oct.proofs.closing.close_one.Goals as goal

pub returns-in-Closed-clause-rises : goal.returns-in-Closed-clause-rises
returns-in-Closed-clause-rises c = (count-min _ _ _ (c.close_block.ensures.count c.vars.result (sym c.vars.ensures.rows)) c.rows.ensures.small).0

pub returns-in-Empty-clause-rises : goal.returns-in-Empty-clause-rises
returns-in-Empty-clause-rises c = (count-min _ _ _ (c.close_block.ensures.count c.vars.result (sym c.vars.ensures.rows)) c.rows.ensures.small).0
