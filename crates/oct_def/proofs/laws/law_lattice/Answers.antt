-- Join and widening keep the states of both sides, narrowing those of both at once.
use Rattle.oct_def.proofs.Lattice.{meets-join, meets-widen, meets-narrow, meets-least_matrix}
use Rattle.oct_def.proofs.laws.law_lattice.Goals as goal

pub returns-clause-join : goal.returns-clause-join
returns-clause-join c = meets-join

pub returns-clause-widening : goal.returns-clause-widening
returns-clause-widening c = meets-widen

pub returns-clause-narrowing : goal.returns-clause-narrowing
returns-clause-narrowing c = meets-narrow

pub returns-clause-least : goal.returns-clause-least
returns-clause-least c = meets-least_matrix
