use Rattle.std.proofs.Common.{◌-◌, ◌∙◌}
use Rattle.interproc_top.proofs.Benched.{bench-with, generated-points, generated-short, generated-stands}
use Rattle.interproc_top.proofs.Fair.{one_reading}
use Rattle.interproc_top.proofs.bench.bench_text.Goals as goal

pub figures_by-requires-clause-short : goal.figures_by-requires-clause-short
figures_by-requires-clause-short c =
    generated-short c.law_generated_text_is_accepted.ensures c.args.number c.deref.result.now c.requires.least c.requires.greatest (c.deref.ensures.value ∙ c.in_ok-bytes.ensures)

pub figures_by-requires-clause-points : goal.figures_by-requires-clause-points
figures_by-requires-clause-points c =
    generated-points (one_reading c.law_one_cut_or_fault.ensures c.law_one_tree.ensures) c.law_generated_text_is_accepted.ensures c.args.number c.deref.result.now
    c.requires.least c.requires.greatest (c.deref.ensures.value ∙ c.in_ok-bytes.ensures) c.law_points_of_generated.ensures

pub unreachable-requires : goal.unreachable-requires
unreachable-requires c =
    absurd (c.in_default.not-NoMemory
    (generated-stands (one_reading c.law_one_cut_or_fault.ensures c.law_one_tree.ensures) c.law_generated_text_is_accepted.ensures c.args.number c.deref.result.now
    c.requires.least c.requires.greatest (c.deref.ensures.value ∙ c.in_ok-bytes.ensures) c.in-Err.cause c.in-Err.ensures.refused))

pub returns-clause-figures : goal.returns-clause-figures
returns-clause-figures c =
    let shown = c.in-Ok.ensures.figures in
    bench-with c.args.number (c.figures_by.new.dom - c.args.dom.now) c.deref.result.now c.in_ok-text.text.items shown.0 c.in-Ok.figures (c.deref.ensures.value ∙ c.in_ok-bytes.ensures) shown.1 shown.2 c.in_ok-text.ensures
