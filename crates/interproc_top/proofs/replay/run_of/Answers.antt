use Rattle.std.proofs.Common.{◌≡◌, ◌==◌, ℕ, Bool, cond, List, sym, ap, ◌∙◌, subst}
use Rattle.std.specs.List.{list_any}
use Rattle.std.proofs.lemmas.Result.{err_from_is_err_and}
use Rattle.spl_tree.specs.Program.{Program}
use Rattle.spl_tree.specs.Meaning.{program_of}
use Rattle.spl_core.specs.Graph.{Graph}
use Rattle.control_points.specs.declared.built.Fail.{Fail}
use Rattle.control_points.specs.CoreOf.{fails_of}
use Rattle.spl_runs.specs.Choices.{Given, given_of}
use Rattle.spl_runs.specs.Laws.{IsRunOf}
use Rattle.spl_runs.specs.Replay.{Top, ran, replayed}
use Rattle.interproc_top.specs.Replay.{is_fail, last_point}
use Rattle.interproc_top.specs.declared.cause.Status.TheVariants.{Open, Proved}
use Rattle.interproc_top.proofs.replay.run_of.Goals.{then-is_fail, else-is_fail}
use Rattle.interproc_top.proofs.replay.run_of.Goals as goal

pub returns-in_err-choices-clause-stopped : goal.returns-in_err-choices-clause-stopped
returns-in_err-choices-clause-stopped c =
    let h = c.in_err-choices.ensures.stopped (program_of c.args.checked.now) in
    let p = err_from_is_err_and c.from_residual.result c.from_residual.ensures.1 in
    rw (p.1, p.2) h

pub returns-in-Err-NotARun-clause-stopped : goal.returns-in-Err-NotARun-clause-stopped
returns-in-Err-NotARun-clause-stopped c =
    let r = rw c.in-Err-NotARun.field-0-is at c.in-Err-NotARun.ensures.steps in
    record { given = given_of c.in_ok-choices.choices; spelled = c.in_ok-choices.ensures.spelled; first = (cc (r, c.in_ok-built.ensures.graph, c.in-Err-NotARun.step-is)) }

pub returns-in-Err-Wide-clause-stopped : goal.returns-in-Err-Wide-clause-stopped
returns-in-Err-Wide-clause-stopped c =
    let r = rw c.in-Err-Wide.field-0-is at c.in-Err-Wide.ensures.steps in
    record { given = given_of c.in_ok-choices.choices; spelled = c.in_ok-choices.ensures.spelled; first = (cc (r, c.in_ok-built.ensures.graph, c.in-Err-Wide.step-is)) }

pub returns-clause-output : goal.returns-clause-output
returns-clause-output c =
    let p : Program = program_of c.args.checked.now in
    let given : Given = given_of c.in_ok-choices.choices in
    let tops : List Top = c.in-Ok.run' in
    let here : is_fail p (last_point tops) ≡ c.is_fail.result =
    ap (λ (k : ℕ). list_any (λ (f : Fail). f.point == k) (fails_of p)) (sym c.last_point.ensures)
    ∙ (ap (λ (fs : List Fail). list_any (λ (f : Fail). f.point == c.last_point.result) fs) (sym (c.deref.ensures.value ∙ c.in_ok-built.ensures.fails)) ∙ sym c.is_fail.ensures) in
    record {
      given = given;
      spelled = c.in_ok-choices.ensures.spelled;
      tops = tops;
      run = subst (λ (g : Graph). IsRunOf g given tops) c.in_ok-built.ensures.graph c.in-Ok.ensures.run;
      stack = c.in-Ok.ensures.steps.0;
      replays = subst (λ (g : Graph). replayed g given ≡ ran tops c.in-Ok.ensures.steps.0) c.in_ok-built.ensures.graph c.in-Ok.ensures.steps.1;
      written = c.in_ok-text.ensures;
      decided = elim c.if-is_fail.branch [
        | then-is_fail w ↦ w.status-is ∙ sym (ap (λ (b : Bool). cond b Open Proved) (here ∙ w.if-is_fail.true))
        | else-is_fail w ↦ w.status-is ∙ sym (ap (λ (b : Bool). cond b Open Proved) (here ∙ w.if-is_fail.false))
      ];
    }
