use Rattle.std.proofs.Common.{◌≡◌, ◌+◌, List, length, map, take, get_or, ap, sym, ◌∙◌, arith}
use Rattle.std.specs.List.{fold}
use Rattle.std.proofs.lemmas.List.{take_all}
use Rattle.std.proofs.lemmas.List.Sums.{fold_more}
use Rattle.oct_def.specs.Octagon.{Octagon, bottom_value, join_value}
use Rattle.spl_core.specs.declared.parts.Proc.{Proc}
use Rattle.spl_core.specs.Graph.{graph_of, dims_at}
use Rattle.equations.specs.declared.source.Source.{Source}
use Rattle.equations.specs.declared.source.Source.TheVariants.{Always}
use Rattle.equations.specs.Sources.{sources}
use Rattle.equations.specs.Equations.{with_source, equation, value_in}
use Rattle.equations.proofs.Bringing.{proc-dims, brought-dims, bottom-dims, sources_read, lists_long}
use Rattle.equations.proofs.Cover.{dims-fold}
use Rattle.equations.proofs.Fitting.{source_fits}
use Rattle.equations.proofs.joining.equation.Goals as goal

pub of-source-items-requires : goal.of-source-items-requires
of-source-items-requires g c = omega (arith, lists_long c.args.core.now c.args.table.now c.requires.table, c.requires.point)

pub brought-requires-clause-source : goal.brought-requires-clause-source
brought-requires-clause-source g c =
    source_fits c.args.core.now c.args.p c.of-source-items.result.now c.loop-source.source-index Always
    (c.of-source-items.ensures ∙ sources_read c.args.core.now c.args.table.now c.args.p c.requires.table c.requires.point) (omega arith)

pub join-requires : goal.join-requires
join-requires g c =
    let m = g.D.Domain.meaning in
    let s = c.args.core.now in
    let r = value_in (map m c.args.values.now) in
    let found : c.of-source-items.result.now ≡ sources (graph_of s) c.args.p = c.of-source-items.ensures ∙ sources_read s c.args.table.now c.args.p c.requires.table c.requires.point in
    record {
      dims = ap (λ (o : Octagon). o.dims) c.loop-source.invariant.0
          ∙ dims-fold (graph_of s) r c.args.p (take c.loop-source.source-index (sources (graph_of s) c.args.p)) (bottom_value (dims_at (graph_of s) c.args.p))
          ∙ bottom-dims (dims_at (graph_of s) c.args.p)
          ∙ sym (ap (λ (o : Octagon). o.dims) c.in_ok-new.ensures.value
          ∙ brought-dims s r c.args.p (get_or c.of-source-items.result.now c.loop-source.source-index Always) c.proc_owning.ensures.known c.requires.sized
          (source_fits s c.args.p c.of-source-items.result.now c.loop-source.source-index Always found (omega arith)));
    }

pub loop-source-init : goal.loop-source-init
loop-source-init g c =
    (c.bottom-value.ensures.value ∙ ap bottom_value (ap (λ (q : Proc). q.dims) c.proc_owning.ensures.found ∙ sym (proc-dims c.args.core.now c.args.p)), c.bottom-value.ensures.work)

pub loop-source-preserved : goal.loop-source-preserved
loop-source-preserved g c =
    let m = g.D.Domain.meaning in
    let s = c.args.core.now in
    let r = value_in (map m c.args.values.now) in
    let step = with_source (graph_of s) r c.args.p in
    let start = bottom_value (dims_at (graph_of s) c.args.p) in
    let items = c.of-source-items.result.now in
    let i = c.loop-source.source-index in
    let found : items ≡ sources (graph_of s) c.args.p = c.of-source-items.ensures ∙ sources_read s c.args.table.now c.args.p c.requires.table c.requires.point in (
      c.in_ok-value.ensures.value
          ∙ ap (join_value (m c.loop-source.value)) c.in_ok-new.ensures.value
          ∙ ap (λ (v : Octagon). step v (get_or items i Always)) (c.loop-source.invariant.0 ∙ ap (λ (l : List Source). fold step start (take i l)) (sym found))
          ∙ sym (fold_more step start items i Always (omega arith))
          ∙ ap (λ (l : List Source). fold step start (take (i + 1) l)) found,
      omega (arith, c.loop-source.invariant.1, c.in_ok-new.ensures.work, c.in_ok-value.ensures.work),
    )

pub returns-clause-value : goal.returns-clause-value
unfolding equation
returns-clause-value g c =
    let s = c.args.core.now in
    let xs = sources (graph_of s) c.args.p in
    let r = value_in (map g.D.Domain.meaning c.args.values.now) in
    let found : c.of-source-items.result.now ≡ xs = c.of-source-items.ensures ∙ sources_read s c.args.table.now c.args.p c.requires.table c.requires.point in
    c.loop-source.invariant.0
    ∙ ap (fold (with_source (graph_of s) r c.args.p) (bottom_value (dims_at (graph_of s) c.args.p))) (take_all c.loop-source.source-index xs (omega (arith, ap (λ (l : List Source). length l) found)))
