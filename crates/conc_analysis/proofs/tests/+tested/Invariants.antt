use Rattle.conc_analysis.proofs.tests.+tested.Given as goal

abbrev pub decreases-tested : goal.decreases-tested
decreases-tested l = l.cond
