use Rattle.std.proofs.Common.{arith}
use Rattle.dec_oct.proofs.Givens.{each-some}
use Rattle.dec_parts.proofs.rename.renamed_parts.Goals as goal

pub returns-clause-parts : goal.returns-clause-parts
returns-clause-parts c = each-some c.args.v.now.blocks _ (λ b e. record {
  count = omega arith;
  size = omega arith;
  each = λ k p. rw e at (c.loop-c.invariant.1.1 k (omega arith));
})
