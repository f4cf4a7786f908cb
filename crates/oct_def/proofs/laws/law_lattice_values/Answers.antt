-- Join, widening and narrowing give values.
use Rattle.oct_def.proofs.Lattice.{octagon-join, octagon-widen, octagon-narrow}
use Rattle.oct_def.proofs.laws.law_lattice_values.Goals as goal

pub returns-clause-join : goal.returns-clause-join
returns-clause-join c = octagon-join

pub returns-clause-widening : goal.returns-clause-widening
returns-clause-widening c = octagon-widen

pub returns-clause-narrowing : goal.returns-clause-narrowing
returns-clause-narrowing c = octagon-narrow
