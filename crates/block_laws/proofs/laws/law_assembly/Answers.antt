use Rattle.block_laws.proofs.Assembly.{restrict-assembly, assembly-parts}
use Rattle.block_laws.proofs.Lattice.{restrict-restrict}
use Rattle.block_laws.proofs.laws.law_assembly.Goals as goal

pub returns-clause-part : goal.returns-clause-part
returns-clause-part c = restrict-assembly

pub returns-clause-whole : goal.returns-clause-whole
returns-clause-whole c = assembly-parts

pub returns-clause-twice : goal.returns-clause-twice
returns-clause-twice c = restrict-restrict
