use Rattle.equations.proofs.Facts.{known}
use Rattle.equations.proofs.Cover.{reading_covers, equations_cover, lowering_covers, solutions_cover}
use Rattle.equations.proofs.Inductions.{inductive_covers}
use Rattle.equations.proofs.laws.law_cover.Goals as goal

pub returns-clause-reading : goal.returns-clause-reading
returns-clause-reading c = reading_covers

pub returns-clause-equations : goal.returns-clause-equations
returns-clause-equations c g cut x is = equations_cover g cut x (known g is)

pub returns-clause-lowering : goal.returns-clause-lowering
returns-clause-lowering c g cut x p is = lowering_covers g cut x p (known g is)

pub returns-clause-solutions : goal.returns-clause-solutions
returns-clause-solutions c g cut x is = solutions_cover g cut x (known g is)

pub returns-clause-inductive : goal.returns-clause-inductive
returns-clause-inductive c g x is = inductive_covers g x (known g is)
