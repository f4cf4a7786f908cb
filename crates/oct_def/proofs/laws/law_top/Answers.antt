-- Top and Bottom are values; every state meets the one and none the other.
use Rattle.oct_def.specs.Octagon.{bottom_value}
use Rattle.oct_def.proofs.Lattice.{octagon-top, meets-top}
use Rattle.oct_def.proofs.laws.law_top.Goals as goal

pub returns-clause-top : goal.returns-clause-top
returns-clause-top c = octagon-top

pub returns-clause-all : goal.returns-clause-all
returns-clause-all c = meets-top

pub returns-clause-bottom : goal.returns-clause-bottom
unfolding bottom_value
returns-clause-bottom c = λ n. tt

pub returns-clause-nothing : goal.returns-clause-nothing
unfolding bottom_value
returns-clause-nothing c = λ n s h. h
