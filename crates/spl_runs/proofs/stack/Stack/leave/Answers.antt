use Rattle.std.proofs.Common.{rules, ◌≡◌, ◌∙◌, ◌∷◌, FitsSigned, to_z, length, take, drop, sym, ap}
use Rattle.std.specs.Int.{w128}
use Rattle.std.proofs.lemmas.Int.{to_z-of_z}
use Rattle.std.proofs.lemmas.List.{with_items_is}
use Rattle.std.proofs.lemmas.Bool.{eqb-true}
use Rattle.spl_core.specs.Parts.{proc_at, span_dims}
use Rattle.spl_core.specs.Graph.{arc_of, move_of, graph_of}
use Rattle.spl_runs.specs.Choices.{choice_of}
use Rattle.spl_runs.specs.Runs.{frame, with_values, outputs_of}
use Rattle.spl_runs.specs.Replay.{left, left_over, moved}
use Rattle.spl_runs.specs.Stacks.{frame_of, frames_of}
use Rattle.spl_runs.proofs.Edges.{pops, frames_pushed}
use Rattle.spl_runs.proofs.stack.Stack.leave.Goals as goal

pub returns : goal.returns
unfolding graph_of
returns c =
    let f : FitsSigned w128 c.args.step.now.edge = search rules in
    let n : length c.args.step.now.values.items ≡ 0 = sym c.args.step.now.values.ok.0 ∙ eqb-true c.args.step.now.values.len 0 (sym c.is_empty.ensures ∙ c.if-not-is_empty.false) in
    let fr : frames_of c.args.self.now.below.items ≡ frame_of c.in-Some.caller ∷ frames_of c.pop.new.self.items =
    ap frames_of c.in-Some.ensures.items ∙ frames_pushed c.pop.new.self.items c.in-Some.caller in
    let callee : c.deref.result.now ≡ c.args.self.now.top.values.items = c.deref.ensures.value ∙ ap (λ f. f.values.items) c.replace-callee.ensures.value in
    let caller : c.deref_mut.result.now ≡ c.in-Some.caller.values.items = c.deref_mut.ensures.value ∙ ap (λ f. f.values.items) c.replace-callee.ensures.after in
    let outs : c.outputs.result.now ≡ outputs_of (proc_at c.args.core.now c.in-Call.callee) c.args.self.now.top.values.items =
    c.outputs.ensures ∙ (ap (λ x. take c.proc_at-proc.result.outputs (drop c.proc_at-proc.result.inputs x)) callee
    ∙ ap (λ q. outputs_of q c.args.self.now.top.values.items) c.proc_at-proc.ensures.found) in
    let values : with_values c.in-Some.caller.values.items (span_dims c.args.core.now c.in-Call.targets) (outputs_of (proc_at c.args.core.now c.in-Call.callee) c.args.self.now.top.values.items) ≡ c.set_outputs.new.values =
    sym (c.set_outputs.ensures ∙ (ap (λ x. with_values x (span_dims c.args.core.now c.in-Call.targets) c.outputs.result.now) caller
    ∙ ap (with_values c.in-Some.caller.values.items (span_dims c.args.core.now c.in-Call.targets)) outs)) in
    pops (choice_of c.args.step.now) (left (graph_of c.args.core.now) (frame_of c.args.self.now.top) (frames_of c.args.self.now.below.items) (arc_of c.args.core.now c.args.edge)) (sym (to_z-of_z w128 c.args.step.now.edge f) ∙ ap (to_z w128) c.if-step-ne0.false) n
    ∙ (ap (λ fs. left (graph_of c.args.core.now) (frame_of c.args.self.now.top) fs (arc_of c.args.core.now c.args.edge)) fr
    ∙ (ap (λ a. left_over (graph_of c.args.core.now) (frame_of c.args.self.now.top) (frame_of c.in-Some.caller) (frames_of c.pop.new.self.items) c.args.edge.target (move_of c.args.core.now a)) c.in-Call.is
    ∙ ap (λ s. moved (frame c.args.edge.target s ∷ frames_of c.pop.new.self.items)) (values ∙ sym (with_items_is c.replace-callee.new.dest.values c.set_outputs.new.values (c.set_outputs.auto.values ∙ c.deref_mut.ensures.len)))))
