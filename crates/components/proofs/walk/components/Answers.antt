use Rattle.std.proofs.Common.{ℕ, ◌<◌, ◌≤◌, is_none, arith, sym, ap, subst, ◌∙◌}
use Rattle.std.proofs.lemmas.Bool.{false≢true}
use Rattle.oct_def.specs.Octagon.{Octagon}
use Rattle.components.specs.Walk.{HasJoins}
use Rattle.components.proofs.Walked.{walked}
use Rattle.components.proofs.walk.components.Goals as goal

pub returns : goal.returns
returns g c =
    let v : Octagon = g.D.Domain.meaning c.args.v.now in
    let few : v.dims ≤ 512 = omega (arith, c.known.ensures.small) in
    let all : (u : ℕ) → u < v.dims → HasJoins v c.loop-u.blocks v.dims u =
    λ u lt. subst (λ n. HasJoins v c.loop-u.blocks n u) c.requires.dims (c.loop-u.invariant.joined u (omega (arith, lt, c.requires.dims, c.loop-u-test.false))) in
    walked v c.loop-u.blocks c.known.ensures.value few c.known-2.ensures.partition c.known-2.ensures.ordered c.loop-u.invariant.within all
    (λ e. absurd (false≢true (sym c.if-is_bottom.false ∙ (c.is_bottom.ensures.bottom ∙ ap is_none e))))
