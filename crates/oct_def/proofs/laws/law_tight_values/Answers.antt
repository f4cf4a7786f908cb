-- The tight closure gives values.
use Rattle.oct_def.proofs.Values.{value-tight}
use Rattle.oct_def.proofs.Lattice.{octagon-tight}
use Rattle.oct_def.proofs.laws.law_tight_values.Goals as goal

pub returns-clause-matrices : goal.returns-clause-matrices
returns-clause-matrices c = value-tight

pub returns-clause-octagons : goal.returns-clause-octagons
returns-clause-octagons c = octagon-tight
