use Rattle.full_oct.proofs.Values.{top_even, top_is}
use Rattle.full_oct.proofs.value.FullValue.top.Goals as goal

pub shared-requires-clause-value : goal.shared-requires-clause-value
shared-requires-clause-value c = top_even c.args.dims c.in_ok-m.m c.in_ok-m.ensures.top

pub returns : goal.returns
returns c = record { value = top_is c.args.dims c.in_ok-m.m c.in_ok-v.v c.in_ok-m.ensures.top c.in_ok-v.ensures.value }
