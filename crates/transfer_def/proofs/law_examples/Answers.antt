use Rattle.transfer_def.proofs.Worked.{assignments, tests, lattice, calls}
use Rattle.transfer_def.proofs.law_examples.Goals as goal

pub returns-clause-assignments : goal.returns-clause-assignments
returns-clause-assignments c = assignments

pub returns-clause-tests : goal.returns-clause-tests
returns-clause-tests c = tests

pub returns-clause-lattice : goal.returns-clause-lattice
returns-clause-lattice c = lattice

pub returns-clause-calls : goal.returns-clause-calls
returns-clause-calls c = calls
