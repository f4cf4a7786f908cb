use Rattle.std.specs.Prelude.{IfSome}
use Rattle.dec_oct.specs.Value.{whole}
use Rattle.dec_calls.proofs.Listings.{IsRowTo}
use Rattle.dec_calls.proofs.returning.list_row.Given as goal

abbrev pub invariant-loop-j : goal.invariant-loop-j
invariant-loop-j l = IfSome l.exit.blocks (λ e. IsRowTo l.dims l.args l.outputs (whole l.exit.dims e) l.i l.j l.fn.out.items l.out.items)
