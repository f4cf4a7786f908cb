use Rattle.std.proofs.Common.{length, sym, ap, ◌∙◌, arith}
use Rattle.std.proofs.lemmas.List.{length-map}
use Rattle.spl_core.specs.Parts.{Parts}
use Rattle.iteration.proofs.Planned.{points}
use Rattle.iteration.proofs.system.CoreSystemEquations.equation.Goals as goal

pub equation-requires-clause-point : goal.equation-requires-clause-point
equation-requires-clause-point g c = omega (arith, ap (λ (k : Parts). length k.owners) c.self.view_is, points c.args.self.now, c.requires.point)

pub equation-requires-clause-points : goal.equation-requires-clause-points
equation-requires-clause-points g c =
    sym (length-map c.args.values.now g.D.Domain.meaning) ∙ c.requires.read.points ∙ points c.args.self.now ∙ sym (ap (λ (k : Parts). length k.owners) c.self.view_is)
