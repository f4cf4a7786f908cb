use Rattle.std.proofs.Common.{◌∙◌}
use Rattle.dec_oct.specs.Value.{octagon}
use Rattle.dec_lattice.proofs.Values.{either-widen}
use Rattle.dec_lattice.proofs.lattice.widen.Goals as goal

pub returns-clause-value : goal.returns-clause-value
returns-clause-value c = c.in_ok-v.ensures.value ∙ either-widen (octagon c.args.a.now) (octagon c.args.b.now)
