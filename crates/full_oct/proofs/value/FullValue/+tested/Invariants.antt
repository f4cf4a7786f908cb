use Rattle.full_oct.proofs.value.FullValue.+tested.Given as goal

abbrev pub decreases-tested : goal.decreases-tested
decreases-tested l = l.cond
