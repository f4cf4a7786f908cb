use Rattle.spl_runs.proofs.value.+may.Given as goal

abbrev pub decreases-may : goal.decreases-may
decreases-may l = l.c
