use Rattle.std.proofs.Common.{◌≡◌, Bool, cond, sym, ap, ◌∙◌, subst}
use Rattle.spl_tree.specs.Meaning.{program_of}
use Rattle.spl_core.specs.Graph.{Graph}
use Rattle.spl_core.specs.GraphFacts.{IsGraph}
use Rattle.control_points.specs.CoreOf.{core_of}
use Rattle.iteration.specs.Solution.{IsSolution}
use Rattle.interproc_top.specs.Analysis.{verdict_on}
use Rattle.interproc_top.specs.declared.cause.Verdict.TheVariants.{AllUnreachable, SomeNotExcluded}
use Rattle.interproc_top.proofs.Promised.{holds, unreachable, no_fail}
use Rattle.interproc_top.proofs.analysis.analysed_in.Goals.{then-branch, else-branch}
use Rattle.interproc_top.proofs.analysis.analysed_in.Goals as goal

pub returns : goal.returns
returns g c =
    let o = c.args.options in
    let p = program_of c.args.checked.now in
    let is : IsGraph (core_of p) = c.law_graphs.ensures p c.tree.ensures.accepted in
    let solved : IsSolution (core_of p) o.delay o.descend c.in_ok-solution.solution =
    subst (λ (g : Graph). IsSolution g o.delay o.descend c.in_ok-solution.solution) c.in_ok-built.ensures.graph c.in_ok-solution.ensures.solution in
    let all = c.in_ok-all_unreachable.ensures.all o.delay o.descend solved in
    let decided : c.if-branch.verdict ≡ verdict_on o p =
    elim c.if-branch.branch [
      | then-branch w ↦ w.verdict-is ∙ sym (ap (λ (b : Bool). cond b AllUnreachable SomeNotExcluded) (sym all ∙ w.if-branch.true))
      | else-branch w ↦ w.verdict-is ∙ sym (ap (λ (b : Bool). cond b AllUnreachable SomeNotExcluded) (sym all ∙ w.if-branch.false))
    ] in
    record {
      program = p;
      accepted = c.requires.accepted;
      written = c.in_ok-text.ensures.text o.delay o.descend solved;
      decided = decided;
      holds = holds c.law_sound.ensures c.law_listing.ensures o p is;
      unreachable = unreachable c.law_sound.ensures o p is;
      proved = no_fail c.law_sound.ensures o p c.if-branch.verdict is decided;
      reads_back = c.in_ok-text.ensures.reads_back;
    }
