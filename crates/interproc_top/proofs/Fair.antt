-- Where the outside is fair, each end of a call but the wanted one is ruled out by its cause.
use Rattle.std.proofs.Common.{◌≡◌, ◌⊎◌, ℕ, ◌<◌, ◌≤◌, Bool, true, false, cond, List, length, Some, None, Ok, Err, ◌++◌, ◌+◌, refl, sym, ap, ◌∙◌, subst, inl, inr, arith, length-append}
use Rattle.std.specs.FinMap as map
use Rattle.std.specs.Io.KnownBytes.{Appends}
use Rattle.spl_io.specs.Store.{Store, Told, Lacks, Has, IsLong, most_bytes}
use Rattle.spl_text.specs.declared.token.Token.{Token}
use Rattle.spl_text.specs.TextRules.{HasOneCut, HasOneFault, EachTextHasOneReading}
use Rattle.spl_tree.specs.Program.{Program}
use Rattle.spl_parser.specs.Derives.{Derives}
use Rattle.spl_types.specs.Checks.{broken_rule}
use Rattle.spl_runs.specs.Choices.{Given}
use Rattle.spl_runs.specs.ChoicesText.{IsChoices}
use Rattle.spl_runs.specs.Laws.{ChoicesAreOne, HasNotBoth}
use Rattle.spl_runs.specs.Replay.{Top, Replay as Replayed, ran, not_a_run, too_wide, replayed}
use Rattle.spl_runs.specs.Runs.{Stack}
use Rattle.run_text.specs.Text.{run_text}
use Rattle.control_points.specs.CoreOf.{core_of}
use Rattle.command_words.specs.Command.{Asked, Analyse, Bench, Replay}
use Rattle.command_words.specs.declared.domain_name.DomainName.{DomainName}
use Rattle.interproc_top.specs.Accepted.{IsTokenized, IsParsed, IsAccepted, BreaksAt}
use Rattle.interproc_top.specs.Analysis.{report_on, verdict_on}
use Rattle.interproc_top.specs.Bench.{IsBenchOf}
use Rattle.interproc_top.specs.Call.{Call, Asks, AsksNothing, AsksOf, AsksRun, Answers, AnswersWith, Completes, End, Ends, Explains, Holds, IsFair, IsStopped, IsUnwritten, IsUsage, Writes, program_asked, status_at}
use Rattle.interproc_top.specs.Cause.{status_by, status_of}
use Rattle.interproc_top.specs.Command.{IsOutput, IsProgram, IsReported, IsReplayed, Stops, StopsProgram, options}
use Rattle.interproc_top.specs.Reading.{Reading, IsRead, Withholds}
use Rattle.interproc_top.specs.Replay.{IsRunText, Spoils, is_fail, last_point, status_of_run}
use Rattle.interproc_top.specs.Reported.{IsReportOf, Refuses}
use Rattle.interproc_top.specs.declared.analysis.Options.{Options}
use Rattle.interproc_top.specs.declared.cause.Cause.{Cause}
use Rattle.interproc_top.specs.declared.cause.Cause.TheVariants as cause
use Rattle.interproc_top.specs.declared.cause.Rule.{Rule}
use Rattle.interproc_top.specs.declared.cause.Rule.TheVariants as rule
use Rattle.interproc_top.specs.declared.cause.Status.{Status}
use Rattle.interproc_top.specs.declared.cause.Status.TheVariants as status
use Rattle.interproc_top.specs.declared.cause.Verdict.{Verdict}
use Rattle.interproc_top.specs.declared.cause.Verdict.TheVariants as verdict

-- the bytes have one list of tokens, and these derive one program
pub record OneReading : Type 0 where
  pub tokens : (bytes : List ℕ) (a b : List Token) → IsTokenized bytes a → IsTokenized bytes b → a ≡ b
  pub program : (bytes : List ℕ) (tokens : List Token) (p q : Program) → Derives bytes tokens p → Derives bytes tokens q → p ≡ q

one_tokens : EachTextHasOneReading → (bytes : List ℕ) (a b : List Token) → IsTokenized bytes a → IsTokenized bytes b → a ≡ b
one_tokens each bytes a b p q = by (each bytes)
  where
    by : HasOneCut bytes ⊎ HasOneFault bytes → a ≡ b
    by (inl cut) = cut.only a p.cut ∙ sym (cut.only b q.cut)
    by (inr fault) = absurd (p.unbroken fault.rule fault.at fault.fault.broken)

pub one_reading : EachTextHasOneReading → ((bytes : List ℕ) (tokens : List Token) (p q : Program) → Derives bytes tokens p → Derives bytes tokens q → p ≡ q) → OneReading
one_reading each program = record { tokens = one_tokens each; program = program }

-- told files have one content under a name
same_bytes : (told : Told) (files : Store) (name a b : List ℕ) → told ≡ Some files → map.get files name ≡ Some a → Has told name b → a ≡ b
same_bytes None files name a b t h has = cc t
same_bytes (Some f) files name a b t h has =
    let e : f ≡ files = cc t in
    let h' : map.get f name ≡ Some a = ap (λ x. map.get x name) e ∙ h in
    cc (h', has)

not_lacking : (told : Told) (files : Store) (name a : List ℕ) → told ≡ Some files → map.get files name ≡ Some a → Lacks told name → ⊥
not_lacking None files name a t h lacks = lacks
not_lacking (Some f) files name a t h lacks =
    let e : f ≡ files = cc t in
    let h' : map.get f name ≡ Some a = ap (λ x. map.get x name) e ∙ h in
    cc (h', lacks)

-- one byte more than a whole file may have came, so the file is too long
is_long : (told : Told) (files : Store) (name bytes left : List ℕ) → told ≡ Some files → map.get files name ≡ Some bytes → IsLong told name left → most_bytes < length bytes
is_long None files name bytes left t h long = cc t
is_long (Some f) files name bytes left t h (came, held, len) =
    let e : f ≡ files = cc t in
    let h' : map.get f name ≡ Some bytes = ap (λ x. map.get x name) e ∙ h in
    let same : bytes ≡ came ++ left = cc (h', held) in
    let lens : length bytes ≡ length came + length left = ap length same ∙ length-append came left in
    omega (arith, lens, len)

-- ---- files of a fair call

-- what was read of a file is what it holds
read_held : (call : Call) (fair : IsFair call) (name bytes read : List ℕ) → Holds call fair name bytes → IsRead call.reading.files name read → read ≡ bytes
read_held call fair name bytes read held is = sym (same_bytes call.reading.files fair.files name bytes read fair.told held is.has)

-- a file that is held and not too long is withheld by want of memory alone
withheld : (call : Call) (fair : IsFair call) (name bytes : List ℕ) (c : Cause) → Holds call fair name bytes → length bytes ≤ most_bytes → Withholds call.reading name c → c ≡ cause.NoMemory
withheld call fair name bytes cause.CannotOpen held short (inl rose) = absurd (fair.opens rose)
withheld call fair name bytes cause.CannotOpen held short (inr lacks) = absurd (not_lacking call.reading.files fair.files name bytes fair.told held lacks)
withheld call fair name bytes cause.ReadFault held short h = absurd (fair.reads h)
withheld call fair name bytes cause.TooLong held short (left, long) = absurd (omega (arith, short, is_long call.reading.files fair.files name bytes left fair.told held long))
withheld call fair name bytes cause.NoMemory held short h = refl
withheld call fair name bytes _ held short h = absurd h

-- a file that is held is withheld because it is too long, or for want of memory
withheld-long : (call : Call) (fair : IsFair call) (name bytes : List ℕ) (c : Cause) → Holds call fair name bytes → Withholds call.reading name c → Answers (status_of c) status.Refused
withheld-long call fair name bytes cause.CannotOpen held (inl rose) = absurd (fair.opens rose)
withheld-long call fair name bytes cause.CannotOpen held (inr lacks) = absurd (not_lacking call.reading.files fair.files name bytes fair.told held lacks)
withheld-long call fair name bytes cause.ReadFault held h = absurd (fair.reads h)
withheld-long call fair name bytes cause.TooLong held h = inl refl
withheld-long call fair name bytes cause.NoMemory held h = inr refl
withheld-long call fair name bytes _ held h = absurd h

-- what stands against a report or a run is a refusal, or want of memory
refuses-answer : (bytes : List ℕ) (c : Cause) → Refuses bytes c → Answers (status_of c) status.Refused
refuses-answer bytes (cause.Broken broken place) h = inl refl
refuses-answer bytes cause.NoMemory h = inr refl
refuses-answer bytes _ h = absurd h

spoils-answer : (p : Program) (choices : List ℕ) (c : Cause) → Spoils p choices c → Answers (status_of c) status.Refused
spoils-answer p choices (cause.BadChoices place) h = inl refl
spoils-answer p choices (cause.NotARun step) h = inl refl
spoils-answer p choices (cause.Wide step) h = inl refl
spoils-answer p choices cause.NoMemory h = inr refl
spoils-answer p choices _ h = absurd h

-- the bytes have one list of tokens and one program
pub same_program : OneReading → (bytes : List ℕ) (p q : Program) → IsParsed bytes p → IsParsed bytes q → p ≡ q
same_program one bytes p q a b = one.program bytes b.tokens p q (subst (λ ts. Derives bytes ts p) (one.tokens bytes a.tokens b.tokens a.tokenized b.tokenized) a.derives) b.derives

-- what is accepted breaks no rule
not_broken : OneReading → (bytes : List ℕ) (p : Program) (rule : Rule) (at : ℕ) → IsAccepted bytes p → BreaksAt bytes rule at → ⊥
not_broken one bytes p (rule.Text broken) at is breaks = is.parsed.tokenized.unbroken broken at breaks.broken
not_broken one bytes p rule.Syntax at is breaks =
    let same : is.parsed.tokens ≡ breaks.0 = one.tokens bytes is.parsed.tokens breaks.0 is.parsed.tokenized breaks.1 in
    breaks.2.none is.parsed.derives.0 (is.parsed.derives.1 ∙ same)
not_broken one bytes p (rule.Check broken) at is breaks =
    let same : p ≡ breaks.0 = same_program one bytes p breaks.0 is.parsed breaks.1 in
    cc (ap broken_rule same, is.kept, breaks.2)

-- nothing but want of memory stands against a report on an accepted program
pub accepted-stands : OneReading → (bytes : List ℕ) (p : Program) (c : Cause) → IsAccepted bytes p → Refuses bytes c → c ≡ cause.NoMemory
accepted-stands one bytes p (cause.Broken broken place) is h = absurd (not_broken one bytes p broken h.offset is h.breaks)
accepted-stands one bytes p cause.NoMemory is h = refl
accepted-stands one bytes p _ is h = absurd h

wanting : (c : Cause) → c ≡ cause.NoMemory → status_of c ≡ status.NoMemory
wanting c e = ap status_of e

-- ---- why a call ended early

data Why (call : Call) : Cause → Type 0 where
  usage : IsUsage call → Why call cause.Usage
  stopped : (c : Cause) → IsStopped call c → Why call c
  unwritten : IsUnwritten call → Why call cause.WriteFault
  no_memory : Why call cause.NoMemory

why : (c : Cause) (call : Call) → Explains c call → Why call c
why cause.Usage call h = usage h
why cause.WriteFault call h = unwritten h
why cause.NoMemory call h = no_memory
why c call h = stopped c h

-- the words ask for one thing
same_asked : (call : Call) (a b : Asked) → Asks call a → Asks call b → a ≡ b
same_asked call a b p q = cc (p, q)

asks_something : (call : Call) (a : Asked) → Asks call a → AsksNothing call → ⊥
asks_something call a p q = cc (p, q)

-- ---- the end of a call by what the words ask for: an output, or what stopped it, or a failed write, or want of memory

-- where no output can be and each stop is a refusal or want of memory, the end is such
refused : (end : End) (call : Call) (asked : Asked) → Ends end call → Asks call asked
    → ((text : List ℕ) (answer : Status) → IsOutput call.reading.files asked text answer → ⊥)
    → ((c : Cause) → Stops call.reading asked c → Answers (status_of c) status.Refused) → Answers (status_at end) status.Refused
refused (Ok answer) call asked ends asks none stops =
    absurd (none ends.text answer (subst (λ a. IsOutput call.reading.files a ends.text answer) (same_asked call ends.asked asked ends.asks asks) ends.output))
refused (Err c) call asked ends asks none stops = by c (why c call ends)
  where
    by : (c : Cause) → Why call c → Answers (status_of c) status.Refused
    by _ (usage u) = absurd (asks_something call asked asks u.no_form)
    by c (stopped _ s) = stops c (subst (λ a. Stops call.reading a c) (same_asked call s.asked asked s.asks asks) s.stops)
    by _ (unwritten u) = absurd (none u.text u.answer (subst (λ a. IsOutput call.reading.files a u.text u.answer) (same_asked call u.asked asked u.asks asks) u.output))
    by _ no_memory = inr refl

-- where each output is this one, each stop is want of memory, and no write fails, the end is this output or want of memory
given : (end : End) (call : Call) (asked : Asked) (wanted : Status) (text : List ℕ) → Ends end call → Asks call asked → Writes call
    → ((t : List ℕ) (answer : Status) → IsOutput call.reading.files asked t answer → (answer ≡ wanted) × (t ≡ text))
    → ((c : Cause) → Stops call.reading asked c → c ≡ cause.NoMemory) → AnswersWith (status_at end) call wanted text
given (Ok answer) call asked wanted text ends asks writes one stops =
    let same = one ends.text answer (subst (λ a. IsOutput call.reading.files a ends.text answer) (same_asked call ends.asked asked ends.asks asks) ends.output) in
    inl (same.0, subst (Appends call.out_before call.out_now) same.1 ends.whole)
given (Err c) call asked wanted text ends asks writes one stops = by c (why c call ends)
  where
    by : (c : Cause) → Why call c → AnswersWith (status_of c) call wanted text
    by _ (usage u) = absurd (asks_something call asked asks u.no_form)
    by c (stopped _ s) = inr (wanting c (stops c (subst (λ a. Stops call.reading a c) (same_asked call s.asked asked s.asks asks) s.stops)))
    by _ (unwritten u) = absurd (writes u.cause)
    by _ no_memory = inr refl

-- ---- a report

module _ (one : OneReading) (call : Call) (fair : IsFair call) (file bytes : List ℕ) (held : Holds call fair file bytes) (p : Program) (is : IsAccepted bytes p) where
  -- the report on a file is that on its program
  report-output : (o : Options) (text : List ℕ) (answer : Status) → IsReported call.reading.files o file text answer → (answer ≡ status_by (verdict_on o p)) × (text ≡ report_on o bytes p)
  report-output o text answer r =
      let e = read_held call fair file bytes r.bytes held r.read in
      let rep : IsReportOf o bytes text r.verdict = subst (λ b. IsReportOf o b text r.verdict) e r.report in
      let same : rep.program ≡ p = same_program one bytes rep.program p rep.accepted.parsed is.parsed in
      (r.decided ∙ ap status_by (rep.decided ∙ ap (verdict_on o) same), rep.written ∙ ap (report_on o bytes) same)

  -- nothing but want of memory stops the call before it knows the program
  program-known : length bytes ≤ most_bytes → (c : Cause) → StopsProgram call.reading file c → c ≡ cause.NoMemory
  program-known short c (inl w) = withheld call fair file bytes c held short w
  program-known short c (inr (read, r, h)) =
      let e = read_held call fair file bytes read held r in
      accepted-stands one bytes p c is (subst (λ b. Refuses b c) e h)

reported : OneReading → (end : End) (call : Call) → Ends end call → (fair : IsFair call) (delay descend : ℕ) (full : Bool) (domain : DomainName) (file bytes : List ℕ) (p : Program)
    → Asks call (Analyse delay descend full domain file) → Holds call fair file bytes → Writes call → length bytes ≤ most_bytes → IsAccepted bytes p
    → AnswersWith (status_at end) call (status_by (verdict_on (options delay descend full) p)) (report_on (options delay descend full) bytes p)
reported one end call ends fair delay descend full domain file bytes p asks held writes short is =
    let o = options delay descend full in
    given end call (Analyse delay descend full domain file) (status_by (verdict_on o p)) (report_on o bytes p) ends asks writes
    (report-output one call fair file bytes held p is o) (program-known one call fair file bytes held p is short)

-- ---- a bench

measured : (end : End) (call : Call) → Ends end call → (n : ℕ) → Asks call (Bench n) → Writes call
    → ((text : List ℕ) × IsBenchOf n text × AnswersWith (status_at end) call status.Proved text) ⊎ (status_at end ≡ status.NoMemory)
measured (Ok answer) call ends n asks writes =
    let out : IsBenchOf n ends.text × (answer ≡ status.Proved) =
    subst (λ a. IsOutput call.reading.files a ends.text answer) (same_asked call ends.asked (Bench n) ends.asks asks) ends.output in
    inl (ends.text, out.0, inl (out.1, ends.whole))
measured (Err c) call ends n asks writes = by c (why c call ends)
  where
    by : (c : Cause) → Why call c → ((text : List ℕ) × IsBenchOf n text × AnswersWith (status_of c) call status.Proved text) ⊎ (status_of c ≡ status.NoMemory)
    by _ (usage u) = absurd (asks_something call (Bench n) asks u.no_form)
    by c (stopped _ s) = inr (wanting c (subst (λ a. Stops call.reading a c) (same_asked call s.asked (Bench n) s.asks asks) s.stops))
    by _ (unwritten u) = absurd (writes u.cause)
    by _ no_memory = inr refl

-- ---- a file that is no accepted program

program-output : (files : Told) (asked : Asked) (file text : List ℕ) (answer : Status) → program_asked asked ≡ Some file → IsOutput files asked text answer → (p : Program) × IsProgram files file p
program-output files (Analyse delay descend full domain name) file text answer e out =
    let same : name ≡ file = cc e in
    (out.report.program, subst (λ n. IsProgram files n out.report.program) same (record { bytes = out.bytes; read = out.read; accepted = out.report.accepted }))
program-output files (Bench n) file text answer e out = absurd (cc e)
program-output files (Replay name choices) file text answer e out =
    let same : name ≡ file = cc e in
    (out.program, subst (λ n. IsProgram files n out.program) same out.is)

program-stops : (r : Reading) (asked : Asked) (file : List ℕ) (c : Cause) → program_asked asked ≡ Some file → Stops r asked c
    → StopsProgram r file c ⊎ ((p : Program) × IsProgram r.files file p)
program-stops r (Analyse delay descend full domain name) file c e h =
    let same : name ≡ file = cc e in
    inl (subst (λ n. StopsProgram r n c) same h)
program-stops r (Bench n) file c e h = absurd (cc e)
program-stops r (Replay name choices) file c e (inl h) =
    let same : name ≡ file = cc e in
    inl (subst (λ n. StopsProgram r n c) same h)
program-stops r (Replay name choices) file c e (inr h) =
    let same : name ≡ file = cc e in
    inr (h.program, subst (λ n. IsProgram r.files n h.program) same h.is)

no-program : (end : End) (call : Call) → Ends end call → (fair : IsFair call) (bytes : List ℕ) → (ask : AsksOf call fair bytes)
    → ((p : Program) → length bytes ≤ most_bytes → IsAccepted bytes p → ⊥) → Answers (status_at end) status.Refused
no-program end call ends fair bytes ask none = refused end call ask.asked ends ask.asks
    (λ text answer out. let q = program-output call.reading.files ask.asked ask.file text answer ask.is_file out in never q.0 q.1)
    (λ c h. stops c (program-stops call.reading ask.asked ask.file c ask.is_file h))
  where
    never : (p : Program) → IsProgram call.reading.files ask.file p → ⊥
    never p is =
        let e = read_held call fair ask.file bytes is.bytes ask.holds is.read in
        none p (subst (λ b. length b ≤ most_bytes) e is.read.short) (subst (λ b. IsAccepted b p) e is.accepted)

    stops : (c : Cause) → StopsProgram call.reading ask.file c ⊎ ((p : Program) × IsProgram call.reading.files ask.file p) → Answers (status_of c) status.Refused
    stops c (inl (inl w)) = withheld-long call fair ask.file bytes c ask.holds w
    stops c (inl (inr (read, r, h))) = refuses-answer read c h
    stops c (inr (p, is)) = absurd (never p is)

-- ---- a run

module _ (one : OneReading) (end : End) (call : Call) (ends : Ends end call) (fair : IsFair call) (p : Program) (choices : List ℕ) (ask : AsksRun call fair p choices) where
  run-program : (q : Program) → IsProgram call.reading.files ask.file q → q ≡ p
  run-program q is =
      let e = read_held call fair ask.file ask.bytes is.bytes ask.holds is.read in
      same_program one ask.bytes q p (subst (λ b. IsAccepted b q) e is.accepted).parsed ask.accepted.parsed

  run-output : (text : List ℕ) (answer : Status) → IsReplayed call.reading.files ask.file ask.name text answer → (length choices ≤ most_bytes) × IsRunText p choices text answer
  run-output text answer out =
      let e = read_held call fair ask.name choices out.bytes ask.holds_choices out.read in
      let run : IsRunText p out.bytes text answer = subst (λ q. IsRunText q out.bytes text answer) (run-program out.program out.is) out.run in
      (subst (λ b. length b ≤ most_bytes) e out.read.short, subst (λ b. IsRunText p b text answer) e run)

  run-stops : (c : Cause) → Stops call.reading (Replay ask.file ask.name) c → (c ≡ cause.NoMemory) ⊎ (Withholds call.reading ask.name c ⊎ ((length choices ≤ most_bytes) × Spoils p choices c))
  run-stops c (inl h) = inl (program-known one call fair ask.file ask.bytes ask.holds p ask.accepted ask.short c h)
  run-stops c (inr s) = by s.stops
    where
      by : Withholds call.reading ask.name c ⊎ ((bytes : List ℕ) × IsRead call.reading.files ask.name bytes × Spoils s.program bytes c)
          → (c ≡ cause.NoMemory) ⊎ (Withholds call.reading ask.name c ⊎ ((length choices ≤ most_bytes) × Spoils p choices c))
      by (inl w) = inr (inl w)
      by (inr (bytes, r, h)) =
          let e = read_held call fair ask.name choices bytes ask.holds_choices r in
          let h' : Spoils p bytes c = subst (λ q. Spoils q bytes c) (run-program s.program s.is) h in
          inr (inr (subst (λ b. length b ≤ most_bytes) e r.short, subst (λ b. Spoils p b c) e h'))

  -- choices that give no run are refused
  run-refused : ((text : List ℕ) (answer : Status) → length choices ≤ most_bytes → IsRunText p choices text answer → ⊥) → Answers (status_at end) status.Refused
  run-refused none = refused end call (Replay ask.file ask.name) ends ask.asks
      (λ text answer out. let r = run-output text answer out in none text answer r.0 r.1)
      (λ c h. by c (run-stops c h))
    where
      by : (c : Cause) → (c ≡ cause.NoMemory) ⊎ (Withholds call.reading ask.name c ⊎ ((length choices ≤ most_bytes) × Spoils p choices c)) → Answers (status_of c) status.Refused
      by c (inl e) = inr (wanting c e)
      by c (inr (inl w)) = withheld-long call fair ask.name choices c ask.holds_choices w
      by c (inr (inr (short, h))) = spoils-answer p choices c h

  module _ (choices_one : ChoicesAreOne) (not_both : HasNotBoth) (short : length choices ≤ most_bytes) (steps : Given) (spelled : IsChoices choices steps) where
    run-is : (text : List ℕ) (answer : Status) → IsRunText p choices text answer → (tops : List Top) × ((stack : Stack) × (replayed (core_of p) steps ≡ ran tops stack)) × (answer ≡ status_of_run p tops) × (text ≡ run_text tops)
    run-is text answer run =
        let e : run.given ≡ steps = choices_one choices run.given steps run.spelled spelled in
        (run.tops, (run.stack, subst (λ g. replayed (core_of p) g ≡ ran run.tops run.stack) e run.replays), run.decided, run.written)

    run-other : (r : Replayed) → replayed (core_of p) steps ≡ r → ((tops : List Top) (stack : Stack) → r ≡ ran tops stack → ⊥) → Answers (status_at end) status.Refused
    run-other r is never = run-refused (λ text answer small run. let h = run-is text answer run in never h.0 h.1.0 (sym is ∙ h.1.1))

    run-given : (tops : List Top) (stack : Stack) → replayed (core_of p) steps ≡ ran tops stack → Writes call → AnswersWith (status_at end) call (status_of_run p tops) (run_text tops)
    run-given tops stack is writes = given end call (Replay ask.file ask.name) (status_of_run p tops) (run_text tops) ends ask.asks writes output (λ c h. stops c (run-stops c h))
      where
        output : (t : List ℕ) (answer : Status) → IsReplayed call.reading.files ask.file ask.name t answer → (answer ≡ status_of_run p tops) × (t ≡ run_text tops)
        output t answer out =
            let h = run-is t answer (run-output t answer out).1 in
            let same : h.0 ≡ tops = cc (h.1.1, is) in
            (h.2 ∙ ap (status_of_run p) same, h.3 ∙ ap run_text same)

        spoiled : (c : Cause) → Spoils p choices c → c ≡ cause.NoMemory
        spoiled (cause.BadChoices place) h = absurd (not_both choices steps h.offset spelled h.fault)
        spoiled (cause.NotARun step) h =
            let e : h.given ≡ steps = choices_one choices h.given steps h.spelled spelled in
            let first : replayed (core_of p) steps ≡ not_a_run step = subst (λ g. replayed (core_of p) g ≡ not_a_run step) e h.first in
            absurd (cc (first, is))
        spoiled (cause.Wide step) h =
            let e : h.given ≡ steps = choices_one choices h.given steps h.spelled spelled in
            let first : replayed (core_of p) steps ≡ too_wide step = subst (λ g. replayed (core_of p) g ≡ too_wide step) e h.first in
            absurd (cc (first, is))
        spoiled cause.NoMemory h = refl
        spoiled _ h = absurd h

        stops : (c : Cause) → (c ≡ cause.NoMemory) ⊎ (Withholds call.reading ask.name c ⊎ ((length choices ≤ most_bytes) × Spoils p choices c)) → c ≡ cause.NoMemory
        stops c (inl e) = e
        stops c (inr (inl w)) = withheld call fair ask.name choices c ask.holds_choices short w
        stops c (inr (inr (small, h))) = spoiled c h

-- ---- words of no form

no_form : (end : End) (call : Call) → Ends end call → AsksNothing call → Answers (status_at end) status.Usage
no_form (Ok answer) call ends none = absurd (asks_something call ends.asked ends.asks none)
no_form (Err c) call ends none = by c (why c call ends)
  where
    by : (c : Cause) → Why call c → Answers (status_of c) status.Usage
    by _ (usage u) = inl refl
    by c (stopped _ s) = absurd (asks_something call s.asked s.asks none)
    by _ (unwritten u) = absurd (asks_something call u.asked u.asks none)
    by _ no_memory = inr refl

no_usage_by : (v : Verdict) → status_by v ≡ status.Usage → ⊥
no_usage_by verdict.AllUnreachable e = cc e
no_usage_by verdict.SomeNotExcluded e = cc e

no_usage_of_run : (b : Bool) → cond b status.Open status.Proved ≡ status.Usage → ⊥
no_usage_of_run true e = cc e
no_usage_of_run false e = cc e

no_usage : (files : Told) (asked : Asked) (text : List ℕ) (answer : Status) → IsOutput files asked text answer → answer ≡ status.Usage → ⊥
no_usage files (Analyse delay descend full domain file) text answer out e = no_usage_by out.verdict (sym out.decided ∙ e)
no_usage files (Bench n) text answer out e = cc (out.1, e)
no_usage files (Replay file choices) text answer out e = no_usage_of_run (is_fail out.program (last_point out.run.tops)) (sym out.run.decided ∙ e)

form : (end : End) (call : Call) → Ends end call → status_at end ≡ status.Usage → AsksNothing call
form (Ok answer) call ends e = absurd (no_usage call.reading.files ends.asked ends.text answer ends.output e)
form (Err cause.Usage) call ends e = ends.no_form
form (Err _) call ends e = absurd (cc e)

pub completes : (end : End) (call : Call) → OneReading → ChoicesAreOne → HasNotBoth → Ends end call → Completes (status_at end) call
completes end call one choices_one not_both ends = record {
  reported = reported one end call ends;
  measured = measured end call ends;
  followed = λ fair p choices steps tops stack ask writes short spelled is. run-given one end call ends fair p choices ask choices_one not_both short steps spelled tops stack is writes;
  long = λ fair bytes ask long. no-program end call ends fair bytes ask (λ p short is. omega (arith, long, short));
  broken = λ fair bytes broken at ask short breaks. no-program end call ends fair bytes ask (λ p small is. not_broken one bytes p broken at is breaks);
  long_choices = λ fair p choices ask long. run-refused one end call ends fair p choices ask (λ text answer short run. omega (arith, long, short));
  bad_choices = λ fair p choices at ask short fault. run-refused one end call ends fair p choices ask (λ text answer small run. not_both choices run.given at run.spelled fault);
  not_a_run = λ fair p choices steps step ask short spelled is. run-other one end call ends fair p choices ask choices_one not_both short steps spelled (not_a_run step) is (λ tops stack e. cc e);
  wide = λ fair p choices steps step ask short spelled is. run-other one end call ends fair p choices ask choices_one not_both short steps spelled (too_wide step) is (λ tops stack e. cc e);
  no_form = no_form end call ends;
  form = form end call ends;
}
