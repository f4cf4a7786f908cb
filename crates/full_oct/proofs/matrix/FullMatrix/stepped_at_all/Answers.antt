use Rattle.std.proofs.Common.{ap, ◌∙◌, arith, length}
use Rattle.oct_def.specs.Tight.{pair_step, pair_steps, closure}
use Rattle.oct_def.proofs.Sound.{length-pair_steps}
use Rattle.full_oct.proofs.Places.{pair_steps-more}
use Rattle.full_oct.proofs.matrix.FullMatrix.stepped_at_all.Goals as goal

pub step-requires : goal.step-requires
step-requires c =
    let rows = ap length c.loop-k.invariant ∙ length-pair_steps c.loop-k.k c.args.self.now in
    record { variable = omega (arith, c.size-k-end.ensures.rows) }

pub loop-k-init : goal.loop-k-init
unfolding pair_steps
loop-k-init c = c.in_ok-m.ensures.same

pub loop-k-preserved : goal.loop-k-preserved
loop-k-preserved c =
    c.in_ok-step.ensures.step ∙ ap (pair_step c.loop-k.k) c.loop-k.invariant ∙ pair_steps-more c.loop-k.k c.args.self.now

pub returns : goal.returns
unfolding closure
returns c = record {
  closure = c.loop-k.invariant ∙ ap (λ n. pair_steps n c.args.self.now) (omega (arith, c.size-k-end.ensures.rows));
}
