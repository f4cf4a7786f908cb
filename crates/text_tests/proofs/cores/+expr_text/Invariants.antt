use Rattle.text_tests.proofs.cores.+expr_text.Given as goal

abbrev pub decreases-expr_text : goal.decreases-expr_text
decreases-expr_text l = l.e
