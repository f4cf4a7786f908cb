use Rattle.dec_transfer.proofs.testing.+test.Given as goal

abbrev pub decreases-test : goal.decreases-test
decreases-test l = l.cond
