-- The worked choices and replays.
use Rattle.std.proofs.Common.{true, false, [], ◌∷◌, refl}
use Rattle.spl_core.specs.Expression.{eval}
use Rattle.spl_core.specs.Graph.{graph_of}
use Rattle.spl_runs.specs.ChoicesText.{lone, after, Lines, only, more}
use Rattle.spl_runs.specs.Examples.{RunExamples}

lines : Lines
lines = more (only (after (lone (record { minus = false; first = 53; others = [] })) 0 (record { minus = true; first = 48; others = 55 ∷ [] })))
    (after (lone (record { minus = false; first = 48; others = [] })) 1 (record { minus = false; first = 57; others = [] }))

pub run_examples : RunExamples
unfolding graph_of eval lines
run_examples = record {
  calls = refl;
  ends = refl;
  passes = refl;
  over_true = refl;
  over_false = refl;
  not_true = refl;
  not_false = refl;
  no_edge = refl;
  no_value = refl;
  no_start = refl;
  reads = record {
    spells = record { lines = lines; last = false; well = (((refl, tt), (refl, (refl, tt))), ((refl, tt), (refl, tt))); text = refl; means = refl };
    within = ((refl, (refl, tt)), (refl, (refl, tt), tt));
  };
  high = refl;
  low = refl;
}
