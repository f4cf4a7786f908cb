use Rattle.std.proofs.Common.{◌⊎◌, ℕ, List, inr, refl, sym, subst}
use Rattle.std.proofs.lemmas.Result.{IfOk-weaker, IfErr-weaker, err_from_is_err_and}
use Rattle.spl_io.specs.Store.{Told}
use Rattle.spl_tree.specs.Program.{Program}
use Rattle.spl_tree.specs.Meaning.{program_of}
use Rattle.interproc_top.specs.Accepted.{IsAccepted}
use Rattle.interproc_top.specs.Command.{IsProgram, IsReplayed, StopsProgram, StopsRun}
use Rattle.interproc_top.specs.Reading.{Reading, IsRead}
use Rattle.interproc_top.specs.Replay.{IsRunText, Spoils}
use Rattle.interproc_top.proofs.Stopping.{stops_run, spoils_run}
use Rattle.interproc_top.proofs.replay.replay_text.Goals as goal

pub returns-in_err-text-clause-stopped : goal.returns-in_err-text-clause-stopped
returns-in_err-text-clause-stopped g c =
    let before : Reading = record {
      files = g.F.Files.files c.args.files.now;
      open_before = g.F.Files.open_faults c.args.files.now;
      open_now = g.F.Files.open_faults c.file_bytes-2.new.files;
      read_before = g.F.Files.read_faults c.args.files.now;
      read_now = g.F.Files.read_faults c.file_bytes-2.new.files;
    } in
    let between : Reading = record {
      files = g.F.Files.files c.file_bytes.new.files;
      open_before = g.F.Files.open_faults c.file_bytes.new.files;
      open_now = g.F.Files.open_faults c.file_bytes-2.new.files;
      read_before = g.F.Files.read_faults c.file_bytes.new.files;
      read_now = g.F.Files.read_faults c.file_bytes-2.new.files;
    } in
    let p : Program = program_of c.in_ok-checked.checked in
    let is : IsProgram before.files c.args.file.now p = record {
      bytes = c.in_ok-bytes.bytes.items;
      read = c.in_ok-bytes.ensures.read;
      accepted = subst (λ (bytes : List ℕ). IsAccepted bytes p) c.deref-3.ensures.value c.in_ok-checked.ensures.accepted;
    } in
    let e = err_from_is_err_and c.from_residual-in_err-text.result c.from_residual-in_err-text.ensures.1 in
    rw (e.1, e.2)
    (inr (stops_run before between c.args.file.now c.args.choices.now p c.in_err-text.field-0.0 (sym c.file_bytes.ensures.same_files) refl refl
    c.file_bytes.ensures.open_faults_never_fall c.file_bytes.ensures.read_faults_never_fall is c.in_err-text.ensures.withheld))

pub returns-clause-output : goal.returns-clause-output
returns-clause-output g c =
    let files : Told = g.F.Files.files c.args.files.now in
    let p : Program = program_of c.in_ok-checked.checked in
    let is : IsProgram files c.args.file.now p = record {
      bytes = c.in_ok-bytes.bytes.items;
      read = c.in_ok-bytes.ensures.read;
      accepted = subst (λ (bytes : List ℕ). IsAccepted bytes p) c.deref-3.ensures.value c.in_ok-checked.ensures.accepted;
    } in
    let read : IsRead files c.args.choices.now c.in_ok-text.text.items =
    subst (λ (told : Told). IsRead told c.args.choices.now c.in_ok-text.text.items) c.file_bytes.ensures.same_files c.in_ok-text.ensures.read in
    IfOk-weaker c.run_of.result (λ output. IsRunText p c.deref-4.result.now output.text.items output.status)
    (λ output. IsReplayed files c.args.file.now c.args.choices.now output.text.items output.status)
    (λ output run. record {
      program = p;
      is = is;
      bytes = c.in_ok-text.text.items;
      read = read;
      run = subst (λ (bytes : List ℕ). IsRunText p bytes output.text.items output.status) c.deref-4.ensures.value run;
    })
    c.run_of.ensures.output

pub returns-clause-stopped : goal.returns-clause-stopped
returns-clause-stopped g c =
    let before : Reading = record {
      files = g.F.Files.files c.args.files.now;
      open_before = g.F.Files.open_faults c.args.files.now;
      open_now = g.F.Files.open_faults c.file_bytes-2.new.files;
      read_before = g.F.Files.read_faults c.args.files.now;
      read_now = g.F.Files.read_faults c.file_bytes-2.new.files;
    } in
    let p : Program = program_of c.in_ok-checked.checked in
    let is : IsProgram before.files c.args.file.now p = record {
      bytes = c.in_ok-bytes.bytes.items;
      read = c.in_ok-bytes.ensures.read;
      accepted = subst (λ (bytes : List ℕ). IsAccepted bytes p) c.deref-3.ensures.value c.in_ok-checked.ensures.accepted;
    } in
    let read : IsRead before.files c.args.choices.now c.in_ok-text.text.items =
    subst (λ (told : Told). IsRead told c.args.choices.now c.in_ok-text.text.items) c.file_bytes.ensures.same_files c.in_ok-text.ensures.read in
    IfErr-weaker c.run_of.result (λ cause. Spoils p c.deref-4.result.now cause)
    (λ cause. StopsProgram before c.args.file.now cause ⊎ StopsRun before c.args.file.now c.args.choices.now cause)
    (λ cause spoils. inr (spoils_run before c.args.file.now c.args.choices.now c.in_ok-text.text.items p cause is read
    (subst (λ (bytes : List ℕ). Spoils p bytes cause) c.deref-4.ensures.value spoils)))
    c.run_of.ensures.stopped
