use Rattle.report.proofs.NamedConstraints.{named-first, named-others}
use Rattle.report.proofs.text.put_constraints.Goals as goal

pub put_constraint-requires : goal.put_constraint-requires
put_constraint-requires c = named-first _ _ _ _ c.in-Some.ensures.cases.0 c.requires

pub put_next_constraints-requires : goal.put_next_constraints-requires
put_next_constraints-requires c = named-others _ _ _ _ c.in-Some.ensures.cases.0 c.requires
