use Rattle.oct_def.proofs.Closings.{tight-cycle, tight-crossing, tight-strong}
use Rattle.full_oct.proofs.matrix.FullMatrix.closed.Goals as goal

pub returns-then-has_negative_cycle : goal.returns-then-has_negative_cycle
returns-then-has_negative_cycle c = record {
  tight = tight-cycle c.args.self.now c.in_ok-closure.closure c.in_ok-closure.ensures.closure c.if-has_negative_cycle.ensures;
}

pub returns-then-has_crossing : goal.returns-then-has_crossing
returns-then-has_crossing c = record {
  tight = tight-crossing c.args.self.now c.in_ok-closure.closure c.in_ok-even.even c.in_ok-closure.ensures.closure c.if-has_negative_cycle.ensures c.in_ok-even.ensures.evening c.if-has_crossing.ensures;
}

pub returns : goal.returns
returns c = record {
  tight = tight-strong c.args.self.now c.in_ok-closure.closure c.in_ok-even.even c.in_ok-strong.strong c.in_ok-closure.ensures.closure c.if-has_negative_cycle.ensures c.in_ok-even.ensures.evening c.if-has_crossing.ensures c.in_ok-strong.ensures.strengthening;
}
