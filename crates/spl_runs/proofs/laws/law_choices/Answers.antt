use Rattle.spl_runs.proofs.Spelling.{one_meaning}
use Rattle.spl_runs.proofs.Either.{has_either, not_both, one_fault}
use Rattle.spl_runs.proofs.laws.law_choices.Goals as goal

pub returns : goal.returns
returns c = record {
  choices = λ bytes g h v w. one_meaning bytes g h v.spells w.spells;
  either = has_either;
  not_both = not_both;
  fault = one_fault;
}
