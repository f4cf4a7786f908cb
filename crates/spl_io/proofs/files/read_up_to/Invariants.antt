use Rattle.std.proofs.Common.{◌≡◌, ◌≤◌, ◌+◌, ◌-◌, ◌++◌, length}
use Rattle.spl_io.specs.Store.{Has}
use Rattle.spl_io.specs.Words.{name_at}
use Rattle.spl_io.proofs.files.read_up_to.Given as goal

abbrev pub invariant-loop-buf : goal.invariant-loop-buf
invariant-loop-buf g l = record {
  has : Has (g.F.Files.files l.fn.files) (name_at l.words l.place) (l.all.items ++ g.F.Files.left l.files);
  most : length l.all.items ≤ l.most + 1;
  same_files : g.F.Files.files l.files ≡ g.F.Files.files l.fn.files;
  open_counted : g.F.Files.open_faults l.fn.files ≤ g.F.Files.open_faults l.files;
  read_counted : g.F.Files.read_faults l.fn.files ≤ g.F.Files.read_faults l.files;
  calls_counted : g.F.Files.calls l.fn.files ≤ g.F.Files.calls l.files;
  few_calls : g.F.Files.calls l.files ≤ g.F.Files.calls l.fn.files + (1 + length l.all.items);
}

abbrev pub decreases-loop-buf : goal.decreases-loop-buf
decreases-loop-buf g l = l.most + 1 - length l.all.items
