-- Files that a call has read.
use Rattle.std.specs.Prelude.{◌⊎◌, ℕ, ◌≤◌, List, length}
use Rattle.spl_io.specs.Counts.{Rose}
use Rattle.spl_io.specs.Store.{Told, Lacks, Has, IsLong, most_bytes}
use Rattle.interproc_top.specs.declared.cause.Cause.{Cause}
use Rattle.interproc_top.specs.declared.cause.Cause.TheVariants as cause

-- the files as they were told, and the counts of their faults before the call and after it
pub record Reading : Type 0 where
  pub files : Told
  pub open_before : ℕ
  pub open_now : ℕ
  pub read_before : ℕ
  pub read_now : ℕ

-- these are the bytes of the file of this name, where the files are told, and no more than a program may have
pub record IsRead (files : Told) (name bytes : List ℕ) : Type 0 where
  pub has : Has files name bytes
  pub short : length bytes ≤ most_bytes

-- why the file of this name wasn't read, by the cause: opening failed or no file has the name, or a read failed, or the
-- file has more bytes than one may have; want of memory says nothing
abbrev pub Withholds : Reading → List ℕ → Cause → Type 0
Withholds r name cause.Usage = ⊥
Withholds r name cause.CannotOpen = Rose r.open_before r.open_now ⊎ Lacks r.files name
Withholds r name cause.ReadFault = Rose r.read_before r.read_now
Withholds r name cause.TooLong = (left : List ℕ) × IsLong r.files name left
Withholds r name (cause.Broken rule place) = ⊥
Withholds r name (cause.BadChoices place) = ⊥
Withholds r name (cause.NotARun step) = ⊥
Withholds r name (cause.Wide step) = ⊥
Withholds r name cause.WriteFault = ⊥
Withholds r name cause.NoMemory = Unit {0}
