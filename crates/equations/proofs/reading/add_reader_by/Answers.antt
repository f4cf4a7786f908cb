use Rattle.std.proofs.Common.{◌||◌, ℕ, length, subst, arith, ap, eqb, ◌∙◌}
use Rattle.std.proofs.Math.Bool.{or_assoc}
use Rattle.spl_core.specs.Graph.{graph_of}
use Rattle.equations.specs.Sources.{SourceFits, is_read_by}
use Rattle.equations.proofs.Readers.{read_flow, read_enter, read_back, source_below, exit_below, tests_same}
use Rattle.equations.proofs.reading.add_reader_by.Goals as goal

pub add_to_row-requires : goal.add_to_row-requires
add_to_row-requires c =
    let l = source_below c.args.core.now c.in-Flow.edge c.edge_at.result c.edge_at.ensures.known (subst (SourceFits c.args.core.now c.args.q) c.in-Flow.is c.requires.fits).0 c.edge_at.ensures.found in
    omega (arith, l, c.requires.rows)

pub add_to_row-requires-in-Enter : goal.add_to_row-requires-in-Enter
add_to_row-requires-in-Enter c =
    let l = source_below c.args.core.now c.in-Enter.edge c.edge_at-in-Enter.result c.edge_at-in-Enter.ensures.known (subst (SourceFits c.args.core.now c.args.q) c.in-Enter.is c.requires.fits).0 c.edge_at-in-Enter.ensures.found in
    omega (arith, l, c.requires.rows)

pub add_to_row-requires-in-Back : goal.add_to_row-requires-in-Back
add_to_row-requires-in-Back c =
    let l = source_below c.args.core.now c.in-Back.edge c.edge_at-in-Back.result c.edge_at-in-Back.ensures.known (subst (SourceFits c.args.core.now c.args.q) c.in-Back.is c.requires.fits).0 c.edge_at-in-Back.ensures.found in
    omega (arith, l, c.requires.rows)

pub add_to_row-requires-in-Back-2 : goal.add_to_row-requires-in-Back-2
add_to_row-requires-in-Back-2 c =
    let l = exit_below c.args.core.now c.in-Back.edge c.exit_behind.result c.edge_at-in-Back.ensures.known (subst (SourceFits c.args.core.now c.args.q) c.in-Back.is c.requires.fits).0 c.exit_behind.ensures in
    omega (arith, l, c.requires.rows, c.add_to_row-in-Back.auto.rows)

pub returns-in_ok-add_to_row-in-Flow : goal.returns-in_ok-add_to_row-in-Flow
returns-in_ok-add_to_row-in-Flow c base test below is =
    c.in_ok-add_to_row-in-Flow.ensures base test (length c.args.core.now.owners) below is
    ∙ tests_same base (λ p. test p || eqb p c.edge_at.result.source) (λ p. test p || is_read_by (graph_of c.args.core.now) p c.args.source) c.args.q (length c.args.core.now.owners)
    (λ p. ap (λ b. test p || b) (read_flow c.args.core.now p c.in-Flow.edge c.edge_at.result c.args.source c.edge_at.ensures.found c.in-Flow.is))

pub returns-in_ok-add_to_row-in-Enter : goal.returns-in_ok-add_to_row-in-Enter
returns-in_ok-add_to_row-in-Enter c base test below is =
    c.in_ok-add_to_row-in-Enter.ensures base test (length c.args.core.now.owners) below is
    ∙ tests_same base (λ p. test p || eqb p c.edge_at-in-Enter.result.source) (λ p. test p || is_read_by (graph_of c.args.core.now) p c.args.source) c.args.q (length c.args.core.now.owners)
    (λ p. ap (λ b. test p || b) (read_enter c.args.core.now p c.in-Enter.edge c.edge_at-in-Enter.result c.args.source c.edge_at-in-Enter.ensures.found c.in-Enter.is))

pub returns-in_ok-add_to_row-in-Back-2 : goal.returns-in_ok-add_to_row-in-Back-2
returns-in_ok-add_to_row-in-Back-2 c base test below is =
    let before = λ (p : ℕ). test p || eqb p c.edge_at-in-Back.result.source in
    c.in_ok-add_to_row-in-Back-2.ensures base before (length c.args.core.now.owners) below (c.in_ok-add_to_row-in-Back.ensures base test (length c.args.core.now.owners) below is)
    ∙ tests_same base (λ p. before p || eqb p c.exit_behind.result) (λ p. test p || is_read_by (graph_of c.args.core.now) p c.args.source) c.args.q (length c.args.core.now.owners)
    (λ p. or_assoc (test p) (eqb p c.edge_at-in-Back.result.source) (eqb p c.exit_behind.result)
    ∙ ap (λ b. test p || b) (read_back c.args.core.now p c.in-Back.edge c.exit_behind.result c.edge_at-in-Back.result c.args.source c.edge_at-in-Back.ensures.found c.in-Back.is c.exit_behind.ensures))
