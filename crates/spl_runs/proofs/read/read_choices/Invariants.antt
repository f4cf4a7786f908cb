use Rattle.spl_runs.specs.Reading.{reading_of}
use Rattle.spl_runs.proofs.Answering.{Progress}
use Rattle.spl_runs.proofs.read.read_choices.Given as goal

abbrev pub invariant-loop-at : goal.invariant-loop-at
invariant-loop-at l = Progress l.bytes l.at (reading_of l.reader) l.start
