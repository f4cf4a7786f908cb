use Rattle.std.proofs.Common.{rules, ◌≡◌, ◌∙◌, Some, None, FitsSigned, sym, ap}
use Rattle.std.specs.Int.{w128}
use Rattle.std.specs.Prelude.{filter, nat_eq}
use Rattle.std.proofs.lemmas.Int.{to_z-of_z}
use Rattle.spl_runs.specs.Choices.{choice_of}
use Rattle.spl_runs.specs.Replay.{numbered}
use Rattle.spl_runs.specs.Stacks.{frame_of, frames_of}
use Rattle.spl_runs.proofs.Edges.{advance_none, advance_some}
use Rattle.spl_runs.proofs.stack.Stack.advance.Goals as goal

pub returns-in-Some : goal.returns-in-Some
returns-in-Some c =
    let f : FitsSigned w128 c.args.step.now.edge = search rules in
    let n : numbered (filter (λ e. nat_eq e.source c.args.self.now.top.point) c.args.core.now.edges) c.args.step.now.edge ≡ Some c.in-Some.edge =
    ap (numbered (filter (λ e. nat_eq e.source c.args.self.now.top.point) c.args.core.now.edges)) (sym (to_z-of_z w128 c.args.step.now.edge f)) ∙ sym c.in-Some.ensures.found in
    let o = advance_some c.args.core.now (frame_of c.args.self.now.top) (frames_of c.args.self.now.below.items) (choice_of c.args.step.now) c.in-Some.edge n in
    rw (o, ← c.deref.ensures.value) c.over.ensures

pub returns-in-None : goal.returns-in-None
returns-in-None c =
    let f : FitsSigned w128 c.args.step.now.edge = search rules in
    let n : numbered (filter (λ e. nat_eq e.source c.args.self.now.top.point) c.args.core.now.edges) c.args.step.now.edge ≡ None =
    ap (numbered (filter (λ e. nat_eq e.source c.args.self.now.top.point) c.args.core.now.edges)) (sym (to_z-of_z w128 c.args.step.now.edge f)) ∙ sym c.in-None.ensures.found in
    advance_none c.args.core.now (frame_of c.args.self.now.top) (frames_of c.args.self.now.below.items) (choice_of c.args.step.now) n
