use Rattle.std.specs.Prelude.{IfSome}
use Rattle.dec_oct.specs.Value.{whole}
use Rattle.dec_calls.proofs.Listings.{AreRowsTo}
use Rattle.dec_calls.proofs.returning.brought.Given as goal

abbrev pub invariant-loop-i : goal.invariant-loop-i
invariant-loop-i l = IfSome l.exit.blocks (λ e. AreRowsTo l.dims l.args l.outputs (whole l.exit.dims e) l.i l.bounds.items)
