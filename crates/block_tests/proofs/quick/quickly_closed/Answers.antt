use Rattle.std.proofs.Common.{◌≡◌, ℕ, ◌/◌, length, sym, ap, subst, ◌∙◌, arith}
use Rattle.oct_def.specs.Table.{Matrix}
use Rattle.oct_def.specs.Matrix.{IsMatrix}
use Rattle.tight_laws.specs.Laws.{SameBut}
use Rattle.quick_close.specs.Closed.{changed}
use Rattle.block_tests.proofs.quick.quickly_closed.Goals as goal

pub quick_block-outcome-requires-clause-others : goal.quick_block-outcome-requires-clause-others
quick_block-outcome-requires-clause-others g c =
    let same = c.in_ok-m.ensures.same ∙ c.in_ok-closed.ensures in
    let rows = ap length same ∙ c.requires.rows in
    let half : 40 ≡ length c.in_ok-m.m.now / 2 = omega (arith, rows) in
    changed c.args.chain.now (subst (λ (k : ℕ). IsMatrix k c.args.chain.now) half c.requires.matrix) c.requires.own (subst (λ (t : Matrix). SameBut 39 c.args.chain.now t) (sym same) c.requires.same)
