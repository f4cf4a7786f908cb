use Rattle.std.proofs.Common.{◌≡◌, ◌-◌, length, drop}
use Rattle.oct_def.specs.Bound.{bound_of}
use Rattle.interval_form.specs.Listing.{listed}
use Rattle.conc_analysis.proofs.tests.listed_word.Given as goal

abbrev pub invariant-loop-k : goal.invariant-loop-k
invariant-loop-k l = bound_of l.word ≡ listed (drop (length l.bounds - l.k) l.bounds) l.row l.column
