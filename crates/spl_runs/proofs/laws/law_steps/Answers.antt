use Rattle.spl_runs.proofs.Taking.{moves_are_taken, taken_are_moves, taken_are_steps, steps_have_choices}
use Rattle.spl_runs.proofs.laws.law_steps.Goals as goal

pub returns-clause-taken : goal.returns-clause-taken
returns-clause-taken c = moves_are_taken

pub returns-clause-moves : goal.returns-clause-moves
returns-clause-moves c = taken_are_moves

pub returns-clause-steps : goal.returns-clause-steps
returns-clause-steps c = taken_are_steps

pub returns-clause-choices : goal.returns-clause-choices
returns-clause-choices c = steps_have_choices
