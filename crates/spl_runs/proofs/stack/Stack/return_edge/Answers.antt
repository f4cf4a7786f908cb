use Rattle.std.proofs.Common.{◌≡◌, ◌∙◌, ◌-◌, Some, List, length, subst}
use Rattle.std.specs.Prelude.{slice_get}
use Rattle.spl_runs.specs.declared.frame.Frame.{Frame as Held}
use Rattle.spl_runs.specs.Stacks.{frame_of}
use Rattle.spl_runs.proofs.Edges.{return_some, return_none}
use Rattle.spl_runs.proofs.stack.Stack.return_edge.Goals as goal

pub returns-in-Some-at-clause-edge : goal.returns-in-Some-at-clause-edge
returns-in-Some-at-clause-edge c =
    let P : List Held → Type 0 = λ xs. Some c.in-Some.caller.now ≡ slice_get xs (length xs - 1) in
    c.if_called.ensures.edge ∙ return_some c.args.core.now (frame_of c.args.self.now.top) c.args.self.now.below.items c.in-Some.caller.now c.in-Some-at.edge
    (subst P c.deref.ensures.value c.in-Some.ensures.value) c.in-Some-at.ensures.found

pub returns-in-None-at-clause-edge : goal.returns-in-None-at-clause-edge
returns-in-None-at-clause-edge c =
    let P : List Held → Type 0 = λ xs. Some c.in-Some.caller.now ≡ slice_get xs (length xs - 1) in
    return_none c.args.core.now (frame_of c.args.self.now.top) c.args.self.now.below.items c.in-Some.caller.now
    (subst P c.deref.ensures.value c.in-Some.ensures.value) c.in-None-at.ensures.found
