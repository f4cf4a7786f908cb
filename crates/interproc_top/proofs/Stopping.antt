-- What ends a command before its output is made.
use Rattle.std.proofs.Common.{◌≡◌, ℕ, ◌≤◌, List, inl, inr, sym, subst, arith}
use Rattle.spl_io.specs.Counts.{Rose}
use Rattle.spl_io.specs.Store.{Lacks, IsLong}
use Rattle.spl_tree.specs.Program.{Program}
use Rattle.interproc_top.specs.Command.{IsProgram, StopsRun}
use Rattle.interproc_top.specs.Reading.{Reading, IsRead, Withholds}
use Rattle.interproc_top.specs.Replay.{Spoils}
use Rattle.interproc_top.specs.declared.cause.Cause.{Cause}
use Rattle.interproc_top.specs.declared.cause.Cause.TheVariants as cause

-- a count that rose since a later time rose since an earlier one
rose_since : (a b c : ℕ) → a ≤ b → Rose b c → Rose a c
rose_since a b c h rose = omega (arith, h, rose)

-- a file that is withheld by what happened since a later time is so since an earlier one
pub withheld_since : (before after : Reading) (name : List ℕ) (c : Cause) → before.files ≡ after.files → before.open_now ≡ after.open_now → before.read_now ≡ after.read_now
    → before.open_before ≤ after.open_before → before.read_before ≤ after.read_before → Withholds after name c → Withholds before name c
withheld_since r s name cause.Usage f o d op rd h = h
withheld_since r s name cause.CannotOpen f o d op rd (inl rose) = inl (subst (Rose r.open_before) (sym o) (rose_since r.open_before s.open_before s.open_now op rose))
withheld_since r s name cause.CannotOpen f o d op rd (inr lacks) = inr (subst (λ t. Lacks t name) (sym f) lacks)
withheld_since r s name cause.ReadFault f o d op rd rose = subst (Rose r.read_before) (sym d) (rose_since r.read_before s.read_before s.read_now rd rose)
withheld_since r s name cause.TooLong f o d op rd (left, long) = (left, subst (λ t. IsLong t name left) (sym f) long)
withheld_since r s name (cause.Broken broken place) f o d op rd h = h
withheld_since r s name (cause.BadChoices place) f o d op rd h = h
withheld_since r s name (cause.NotARun step) f o d op rd h = h
withheld_since r s name (cause.Wide step) f o d op rd h = h
withheld_since r s name cause.WriteFault f o d op rd h = h
withheld_since r s name cause.NoMemory f o d op rd h = h

-- after the program was accepted, the file of choices was withheld, or its bytes give no run
pub stops_run : (before after : Reading) (file choices : List ℕ) (p : Program) (c : Cause) → before.files ≡ after.files → before.open_now ≡ after.open_now → before.read_now ≡ after.read_now
    → before.open_before ≤ after.open_before → before.read_before ≤ after.read_before → IsProgram before.files file p → Withholds after choices c → StopsRun before file choices c
stops_run r s file choices p c f o d op rd is h = record { program = p; is = is; stops = inl (withheld_since r s choices c f o d op rd h) }

pub spoils_run : (r : Reading) (file choices bytes : List ℕ) (p : Program) (c : Cause) → IsProgram r.files file p → IsRead r.files choices bytes → Spoils p bytes c → StopsRun r file choices c
spoils_run r file choices bytes p c is read h = record { program = p; is = is; stops = inr (bytes, read, h) }
