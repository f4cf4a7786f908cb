use Rattle.std.proofs.Common.{◌≡◌, ◌<◌, [], replicate, length, map, refl, ap, ◌∙◌, arith}
use Rattle.std.specs.List.{filter, range_with_len}
use Rattle.spl_core.specs.Graph.{graph_of}
use Rattle.equations.specs.Sources.{sources, is_reader, readers}
use Rattle.equations.proofs.Gathering.{rows_long, rows_empty}
use Rattle.equations.proofs.Readers.{list_read}
use Rattle.equations.proofs.reading.reader_lists.Goals as goal

pub loop-q-init : goal.loop-q-init
loop-q-init c =
    c.in_ok-rows.ensures ∙ ap (λ n. replicate n []) c.points.ensures.count
    ∙ rows_empty (λ p. filter (is_reader (graph_of c.args.core.now) p) (range_with_len 0 0)) (length c.args.core.now.owners) (λ p l. refl)

pub bounds-lists-q : goal.bounds-lists-q
bounds-lists-q c = omega (arith, c.loop-q-test.true, c.points-q-end.ensures.count, rows_long (λ v. v.items) (sources (graph_of c.args.core.now)) (length c.args.core.now.owners) c.args.lists.now c.requires)

pub add_reader-requires-clause-sources : goal.add_reader-requires-clause-sources
add_reader-requires-clause-sources c =
    let lt : c.loop-q.q < length c.args.core.now.owners = omega (arith, c.loop-q-test.true, c.points-q-end.ensures.count) in
    c.deref.ensures.value ∙ list_read c.args.lists.now (sources (graph_of c.args.core.now)) (length c.args.core.now.owners) c.loop-q.q c.index-lists-q.result c.requires lt c.index-lists-q.is

pub returns : goal.returns
unfolding readers graph_of
returns c =
    let e : c.loop-q.q ≡ length c.args.core.now.owners = omega (arith, c.loop-q-test.false, c.points-q-end.ensures.count, c.loop-q.auto.q-end) in
    c.loop-q.invariant ∙ ap (λ n. map (λ p. filter (is_reader (graph_of c.args.core.now) p) (range_with_len 0 n)) (range_with_len 0 (length c.args.core.now.owners))) e
