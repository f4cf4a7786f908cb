use Rattle.std.proofs.Common.{◌+◌, length, take, sym, ap, ◌∙◌, refl, arith}
use Rattle.std.specs.List.{list_any, filter, range_with_len}
use Rattle.std.proofs.lemmas.List.{take_all}
use Rattle.std.proofs.lemmas.List.Folds.{list_any_more}
use Rattle.spl_core.specs.Graph.{graph_of}
use Rattle.equations.specs.declared.source.Source.TheVariants.{Always}
use Rattle.equations.specs.Sources.{is_read_by, is_reader}
use Rattle.equations.proofs.Gathering.{rows_long}
use Rattle.equations.proofs.Fitting.{source_fits}
use Rattle.equations.proofs.Readers.{tests_same, before_below, before_rows, after_rows}
use Rattle.equations.proofs.reading.add_reader.Goals as goal

pub add_reader_by-requires-clause-fits : goal.add_reader_by-requires-clause-fits
add_reader_by-requires-clause-fits c = source_fits c.args.core.now c.args.q c.args.found.now c.loop-source.source-index Always c.requires.sources c.loop-source-test.true

pub add_reader_by-requires-clause-rows : goal.add_reader_by-requires-clause-rows
add_reader_by-requires-clause-rows c =
    let long =
    rows_long (λ v. v.items) (λ p. filter (is_reader (graph_of c.args.core.now) p) (range_with_len 0 c.args.q)) (length c.args.core.now.owners) c.args.rows.now c.requires.before in
    omega (arith, c.loop-source.auto.rows, long)

pub loop-source-init : goal.loop-source-init
loop-source-init c = c.requires.before ∙ before_rows (graph_of c.args.core.now) c.args.q (length c.args.core.now.owners) (λ p. list_any (is_read_by (graph_of c.args.core.now) p) (take 0 c.args.found.now)) (λ p. refl)

pub loop-source-preserved : goal.loop-source-preserved
loop-source-preserved c =
    c.in_ok-add_reader_by.ensures (λ p. filter (is_reader (graph_of c.args.core.now) p) (range_with_len 0 c.args.q))
    (λ p. list_any (is_read_by (graph_of c.args.core.now) p) (take c.loop-source.source-index c.args.found.now)) (before_below (graph_of c.args.core.now) c.args.q) c.loop-source.invariant
    ∙ tests_same (λ p. filter (is_reader (graph_of c.args.core.now) p) (range_with_len 0 c.args.q)) _ (λ p. list_any (is_read_by (graph_of c.args.core.now) p) (take (c.loop-source.source-index + 1) c.args.found.now))
    c.args.q (length c.args.core.now.owners)
    (λ p. sym (list_any_more (is_read_by (graph_of c.args.core.now) p) c.args.found.now c.loop-source.source-index Always c.loop-source-test.true))

pub returns : goal.returns
returns c =
    c.loop-source.invariant
    ∙ after_rows (graph_of c.args.core.now) c.args.q (length c.args.core.now.owners) (λ p. list_any (is_read_by (graph_of c.args.core.now) p) (take c.loop-source.source-index c.args.found.now))
    (λ p. ap (list_any (is_read_by (graph_of c.args.core.now) p)) (take_all c.loop-source.source-index c.args.found.now (omega (arith, c.loop-source-test.false)) ∙ c.requires.sources))
