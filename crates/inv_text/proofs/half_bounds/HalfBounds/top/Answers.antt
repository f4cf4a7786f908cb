use Rattle.std.proofs.Common.{List, sym, subst}
use Rattle.inv_text.specs.declared.bound.InvBound.{InvBound}
use Rattle.inv_text.specs.Listed.{IsListing}
use Rattle.inv_text.proofs.Keeping.{top_listing}
use Rattle.inv_text.proofs.half_bounds.HalfBounds.top.Goals as goal

pub invariant_of-result : goal.invariant_of-result
invariant_of-result c = subst (λ (bs : List InvBound). IsListing c.args.dims bs) (sym c.new.ensures.items) (top_listing c.args.dims c.requires.small)
