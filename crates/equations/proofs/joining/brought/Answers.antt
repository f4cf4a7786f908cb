use Rattle.std.proofs.Common.{map, ap, sym, subst, ◌∙◌}
use Rattle.oct_def.specs.Octagon.{top_value}
use Rattle.spl_core.specs.declared.parts.Proc.{Proc}
use Rattle.spl_core.specs.Graph.{graph_of}
use Rattle.equations.specs.declared.source.Source.TheVariants.{Flow, Enter, Back}
use Rattle.equations.specs.Sources.{SourceFits}
use Rattle.equations.specs.Equations.{brought, value_in}
use Rattle.equations.proofs.Bringing.{proc-dims, old-dims, move_over, flow_is, enter_is, back_is}
use Rattle.equations.proofs.joining.brought.Goals as goal

pub moved-requires-clause-over : goal.moved-requires-clause-over
moved-requires-clause-over g c =
    let m = g.D.Domain.meaning in
    let s = c.args.core.now in
    let e = c.in-Flow.edge in
    let fits : SourceFits s c.args.p (Flow e) = subst (SourceFits s c.args.p) c.in-Flow.is c.requires.source in
    move_over s (value_in (map m c.args.values.now)) e c.edge_at-edge.result (m c.read-old.result.now) c.edge_at-edge.ensures.known c.requires.sized fits.0 c.edge_at-edge.ensures.found c.read-old.ensures

pub moved-requires-clause-dims : goal.moved-requires-clause-dims
moved-requires-clause-dims g c =
    let m = g.D.Domain.meaning in
    let s = c.args.core.now in
    let e = c.in-Flow.edge in
    let fits : SourceFits s c.args.p (Flow e) = subst (SourceFits s c.args.p) c.in-Flow.is c.requires.source in
    ap (λ (q : Proc). q.dims) c.proc_owning-dims.ensures.found
    ∙ sym (old-dims s (value_in (map m c.args.values.now)) e c.edge_at-edge.result (m c.read-old.result.now) c.edge_at-edge.ensures.known c.requires.sized fits.0 c.edge_at-edge.ensures.found c.read-old.ensures)

pub entered-requires-clause-dims : goal.entered-requires-clause-dims
entered-requires-clause-dims g c =
    let m = g.D.Domain.meaning in
    let s = c.args.core.now in
    let e = c.in-Enter.edge in
    let fits : SourceFits s c.args.p (Enter e) = subst (SourceFits s c.args.p) c.in-Enter.is c.requires.source in
    old-dims s (value_in (map m c.args.values.now)) e c.edge_at-edge-in-Enter.result (m c.read-old-in-Enter.result.now) c.edge_at-edge-in-Enter.ensures.known c.requires.sized fits.0 c.edge_at-edge-in-Enter.ensures.found c.read-old-in-Enter.ensures
    ∙ sym (ap (λ (q : Proc). q.dims) c.proc_owning-caller.ensures.found)

pub returned-requires-clause-dims : goal.returned-requires-clause-dims
returned-requires-clause-dims g c =
    let m = g.D.Domain.meaning in
    let s = c.args.core.now in
    let e = c.in-Back.edge in
    let fits : SourceFits s c.args.p (Back e) = subst (SourceFits s c.args.p) c.in-Back.is c.requires.source in
    old-dims s (value_in (map m c.args.values.now)) e c.edge_at-edge-in-Back.result (m c.read-old-in-Back.result.now) c.edge_at-edge-in-Back.ensures.known c.requires.sized fits.0 c.edge_at-edge-in-Back.ensures.found c.read-old-in-Back.ensures
    ∙ sym (ap (λ (q : Proc). q.dims) c.proc_owning-caller-in-Back.ensures.found)

pub returns-in_ok-v-in-Always-clause-value : goal.returns-in_ok-v-in-Always-clause-value
returns-in_ok-v-in-Always-clause-value g c =
    let s = c.args.core.now in
    c.in_ok-v-in-Always.ensures.value
    ∙ ap top_value (ap (λ (q : Proc). q.dims) c.proc_owning.ensures.found ∙ sym (proc-dims s c.args.p))
    ∙ sym (ap (brought (graph_of s) (value_in (map g.D.Domain.meaning c.args.values.now)) c.args.p) c.in-Always.is)

pub returns-in_ok-v-in-Flow-clause-value : goal.returns-in_ok-v-in-Flow-clause-value
returns-in_ok-v-in-Flow-clause-value g c =
    let m = g.D.Domain.meaning in
    let s = c.args.core.now in
    let r = value_in (map m c.args.values.now) in
    flow_is s r c.args.p c.in-Flow.edge c.edge_at-edge.result (m c.read-old.result.now) (m c.in_ok-v-in-Flow.v) c.edge_at-edge.ensures.found c.read-old.ensures c.in_ok-v-in-Flow.ensures.value
    ∙ sym (ap (brought (graph_of s) r c.args.p) c.in-Flow.is)

pub returns-in_ok-v-in-Enter-clause-value : goal.returns-in_ok-v-in-Enter-clause-value
returns-in_ok-v-in-Enter-clause-value g c =
    let m = g.D.Domain.meaning in
    let s = c.args.core.now in
    let r = value_in (map m c.args.values.now) in
    enter_is s r c.args.p c.in-Enter.edge c.edge_at-edge-in-Enter.result (m c.read-old-in-Enter.result.now) (m c.in_ok-v-in-Enter.v) c.edge_at-edge-in-Enter.ensures.found c.read-old-in-Enter.ensures c.in_ok-v-in-Enter.ensures.value
    ∙ sym (ap (brought (graph_of s) r c.args.p) c.in-Enter.is)

pub returns-in_ok-v-in-Back-clause-value : goal.returns-in_ok-v-in-Back-clause-value
returns-in_ok-v-in-Back-clause-value g c =
    let m = g.D.Domain.meaning in
    let s = c.args.core.now in
    let r = value_in (map m c.args.values.now) in
    back_is s r c.args.p c.in-Back.edge c.edge_at-edge-in-Back.result (m c.read-old-in-Back.result.now) (m c.in_ok-v-in-Back.v) c.edge_at-edge-in-Back.ensures.found c.read-old-in-Back.ensures c.in_ok-v-in-Back.ensures.value
    ∙ sym (ap (brought (graph_of s) r c.args.p) c.in-Back.is)
