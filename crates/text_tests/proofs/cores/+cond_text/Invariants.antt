use Rattle.text_tests.proofs.cores.+cond_text.Given as goal

abbrev pub decreases-cond_text : goal.decreases-cond_text
decreases-cond_text l = l.c
