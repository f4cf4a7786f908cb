use Rattle.std.proofs.Common.{◌≡◌, sym, rules}
use Rattle.quick_close.proofs.Passes.{small_matrix}
use Rattle.dec_oct.proofs.closing.settles.Goals as goal

pub returns : goal.returns
returns c = λ e r t. c.law_tight_again.ensures c.vars.result c.args.m.now r
    (small_matrix c.vars.result c.args.m.now (sym c.vars.ensures.rows) c.shape.ensures.square c.shape.ensures.coherent (c.fits.ensures.yes e) (c.has_zero_diagonal.ensures (search rules))) t
