use Rattle.std.proofs.Common.{◌≡◌, ◌<◌, ℕ, List, length, map, ap, sym, ◌∙◌, subst, arith}
use Rattle.std.specs.List.{All}
use Rattle.std.proofs.lemmas.List.{length-map}
use Rattle.spl_tree.specs.Meaning.{program_of}
use Rattle.control_points.specs.declared.built.Fail.{Fail}
use Rattle.report.proofs.Solutions.{points_built, fails_read, verdicts_solved}
use Rattle.report.proofs.reading.all_unreachable.Goals as goal

pub read_values-requires : goal.read_values-requires
read_values-requires g c =
    let built = points_built (program_of c.args.checked.now) c.args.built.now.core c.args.built.now.fails.items c.args.solution.now c.requires.built c.requires.solved in
    omega (arith, c.points.ensures.count, built)

pub are_unreachable-requires : goal.are_unreachable-requires
are_unreachable-requires g c =
    let m = g.D.Domain.meaning in
    let p = program_of c.args.checked.now in
    let built = points_built p c.args.built.now.core c.args.built.now.fails.items c.args.solution.now c.requires.built c.requires.solved in
    let read = fails_read p c.args.built.now.core c.args.built.now.fails.items c.args.solution.now c.points.result (map m c.in_ok-values.values.items)
    c.requires.built c.requires.solved (c.points.ensures.count ∙ built) c.in_ok-values.ensures.values in
    let many : length (map m c.in_ok-values.values.items) ≡ length c.deref-2.result.now = length-map c.in_ok-values.values.items m ∙ sym (ap length c.deref-2.ensures.value) in
    record {
      points = subst (λ (n : ℕ). All (λ (f : Fail). f.point < n) c.deref.result.now) many
          (subst (λ (fs : List Fail). All (λ (f : Fail). f.point < length (map m c.in_ok-values.values.items)) fs) (sym c.deref.ensures.value) read);
    }

pub returns-clause-all : goal.returns-clause-all
returns-clause-all g c = λ delay descend solution.
    let m = g.D.Domain.meaning in
    let p = program_of c.args.checked.now in
    let built = points_built p c.args.built.now.core c.args.built.now.fails.items c.args.solution.now c.requires.built c.requires.solved in
    verdicts_solved c.are_unreachable.result p c.args.built.now.core c.deref.result.now c.args.solution.now c.points.result (map m c.deref-2.result.now) delay descend
    (record { core = c.requires.built.core; fails = c.deref.ensures.value ∙ c.requires.built.fails }) (c.points.ensures.count ∙ built)
    (ap (map m) c.deref-2.ensures.value ∙ c.in_ok-values.ensures.values) c.are_unreachable.ensures.all solution
