use Rattle.block_laws.proofs.Lattice.{separated-join, separated-widen, separated-narrow, restrict-join, restrict-widen, restrict-narrow}
use Rattle.block_laws.proofs.laws.law_lattice.Goals as goal

pub returns-clause-join : goal.returns-clause-join
returns-clause-join c = separated-join

pub returns-clause-join_part : goal.returns-clause-join_part
returns-clause-join_part c = restrict-join

pub returns-clause-widening : goal.returns-clause-widening
returns-clause-widening c = separated-widen

pub returns-clause-widening_part : goal.returns-clause-widening_part
returns-clause-widening_part c = restrict-widen

pub returns-clause-narrowing : goal.returns-clause-narrowing
returns-clause-narrowing c = separated-narrow

pub returns-clause-narrowing_part : goal.returns-clause-narrowing_part
returns-clause-narrowing_part c = restrict-narrow
