use Rattle.std.proofs.Common.{ℕ, map, ap, ◌∙◌, arith}
use Rattle.spl_tree.specs.Meaning.{program_of}
use Rattle.control_points.specs.CoreOf.{core_of}
use Rattle.report.specs.Report.{report}
use Rattle.report.specs.Values.{value_in}
use Rattle.report.proofs.Solutions.{points_built, read_sized, report_solved}
use Rattle.report.proofs.reading.report_text.Goals as goal

pub read_values-requires : goal.read_values-requires
read_values-requires g c =
    let built = points_built (program_of c.args.checked.now) c.args.built.now.core c.args.built.now.fails.items c.args.solution.now c.requires.built c.requires.solved in
    omega (arith, c.points.ensures.count, built)

pub report_by_values-requires-clause-sized : goal.report_by_values-requires-clause-sized
report_by_values-requires-clause-sized g c =
    let m = g.D.Domain.meaning in
    let p = program_of c.args.checked.now in
    let built = points_built p c.args.built.now.core c.args.built.now.fails.items c.args.solution.now c.requires.built c.requires.solved in
    read_sized (core_of p) c.args.solution.now c.points.result (map m c.deref.result.now) c.law_sizes.ensures c.requires.solved (c.points.ensures.count ∙ built)
    (ap (map m) c.deref.ensures.value ∙ c.in_ok-values.ensures.values)

pub returns-clause-text : goal.returns-clause-text
returns-clause-text g c = λ delay descend solution.
    let m = g.D.Domain.meaning in
    let p = program_of c.args.checked.now in
    let built = points_built p c.args.built.now.core c.args.built.now.fails.items c.args.solution.now c.requires.built c.requires.solved in
    report_solved c.args.bytes.now c.in_ok-text.text.items c.args.full p c.args.solution.now c.points.result (map m c.deref.result.now) delay descend (c.points.ensures.count ∙ built)
    (ap (map m) c.deref.ensures.value ∙ c.in_ok-values.ensures.values) (c.in_ok-text.ensures.text ∙ ap (λ (r : ℕ). report c.args.bytes.now c.args.full (value_in (map m c.deref.result.now)) r p) c.rounds.ensures) solution
