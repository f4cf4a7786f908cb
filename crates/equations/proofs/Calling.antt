-- Calls and returns in the code.
use Rattle.std.proofs.Common.{◌≡◌, ℕ, ◌+◌, ◌<◌, ◌≤◌, List, length, sym, ap, subst, arith, ◌∙◌}
use Rattle.oct_def.specs.Octagon.{Octagon}
use Rattle.spl_core.specs.declared.parts.Action.{Action}
use Rattle.spl_core.specs.declared.parts.Action.TheVariants as action
use Rattle.spl_core.specs.declared.parts.Proc.{Proc}
use Rattle.spl_core.specs.declared.parts.Span.{Span}
use Rattle.spl_core.specs.Parts.{Parts, no_proc, proc_at, span_dims}
use Rattle.spl_core.specs.Facts.{IsCore, ActionFits, CallFits}
use Rattle.spl_core.specs.Graph.{graph_of, move_of}
use Rattle.spl_core.proofs.Graphs.{span_length}
use Rattle.transfer_def.specs.Back.{back_value}
use Rattle.equations.specs.Equations.{AreSized, returned_by}
use Rattle.equations.proofs.Bringing.{points, proc-dims}

pub return_call : (c : Parts) (read : ℕ → Octagon) (a : Action) (callee : ℕ) (args targets : Span) (v exit r : Octagon) (items outs : List ℕ) (q : Proc) → a ≡ action.Call callee args targets
    → items ≡ span_dims c args → outs ≡ span_dims c targets → q ≡ proc_at c callee → exit ≡ read q.exit → r ≡ back_value v exit items q.outputs outs
    → r ≡ returned_by (graph_of c) read (move_of c a) v
unfolding graph_of
return_call c read a callee args targets v exit r items outs q e i o p x h =
    h ∙ ap (λ (xs : List ℕ). back_value v exit xs q.outputs outs) i
    ∙ ap (λ (xs : List ℕ). back_value v exit (span_dims c args) q.outputs xs) o
    ∙ ap (λ (w : Octagon). back_value v w (span_dims c args) q.outputs (span_dims c targets)) x
    ∙ ap (λ (y : Proc). back_value v (read y.exit) (span_dims c args) y.outputs (span_dims c targets)) p
    ∙ sym (ap (λ (y : Action). returned_by (graph_of c) read (move_of c y) v) e)

-- the exit's value has the callee's inputs and outputs
pub outputs_inside : (c : Parts) (p : Proc) (a : Action) (callee : ℕ) (args targets : Span) (r : ℕ → Octagon) (items : List ℕ) (q : Proc) (exit : Octagon) → IsCore c → AreSized (graph_of c) r
    → ActionFits c p a → a ≡ action.Call callee args targets → items ≡ span_dims c args → q ≡ proc_at c callee → exit ≡ r q.exit → length items + q.outputs ≤ exit.dims
outputs_inside c p a callee args targets r items q exit core sized f e i is h =
    let fit : CallFits c p callee args targets = subst (ActionFits c p) e f in
    let inside : callee < length c.procs = omega (arith, fit.callee_in_range) in
    let row = core.procs callee no_proc inside in
    let count : length items ≡ args.count = ap (λ (xs : List ℕ). length xs) i ∙ span_length c args fit.args_fit.0 in
    let there : (proc_at c callee).exit < length (graph_of c).owners = subst (λ (n : ℕ). (proc_at c callee).exit < n) (sym (points c)) row.exit in
    let dims : exit.dims ≡ (proc_at c callee).dims =
    ap (λ (o : Octagon). o.dims) h ∙ ap (λ (y : Proc). (r y.exit).dims) is
    ∙ sized.dims (proc_at c callee).exit there ∙ proc-dims c (proc_at c callee).exit ∙ ap (λ (o : ℕ). (proc_at c o).dims) row.owns_exit in
    let outs : q.outputs ≡ (proc_at c callee).outputs = ap (λ (y : Proc). y.outputs) is in
    omega (arith, count, fit.arguments, outs, dims, row.within)

-- the callee's exit is a point
pub exit_point : (c : Parts) (p : Proc) (a : Action) (callee : ℕ) (args targets : Span) (q : Proc) → IsCore c → ActionFits c p a → a ≡ action.Call callee args targets → q ≡ proc_at c callee → q.exit < length c.owners
exit_point c p a callee args targets q core f e is =
    let fit : CallFits c p callee args targets = subst (ActionFits c p) e f in
    let inside : callee < length c.procs = omega (arith, fit.callee_in_range) in
    let row = core.procs callee no_proc inside in
    subst (λ (r : Proc). r.exit < length c.owners) (sym is) row.exit
