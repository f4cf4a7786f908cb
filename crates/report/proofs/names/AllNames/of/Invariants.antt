use Rattle.std.proofs.Common.{◌≡◌, map}
use Rattle.std.specs.List.{range_with_len}
use Rattle.spl_tree.specs.Meaning.{program_of}
use Rattle.spl_types.specs.Dimensions.{dimensions}
use Rattle.report.proofs.names.AllNames.of.Given as goal

-- The names of the procedures so far.
abbrev pub invariant-loop-p : goal.invariant-loop-p
invariant-loop-p l = l.procs.items ≡ map (dimensions (program_of l.checked)) (range_with_len 0 l.p)
