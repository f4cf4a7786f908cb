use Rattle.std.proofs.Common.{map, length, sym, ap, ◌∙◌, subst}
use Rattle.oct_def.specs.Matrix.{IsEvenMatrix}
use Rattle.full_oct.specs.Placing.{placed_of}
use Rattle.placed_bounds.specs.Bounded.{all_bounded}
use Rattle.placed_bounds.proofs.Bounded.{bounds_give_values}
use Rattle.full_oct.proofs.Coherently.{length-top}
use Rattle.full_oct.proofs.plain.FullDomain.from_bounds.Goals as goal

pub take_all_coherent-requires-clause-rows : goal.take_all_coherent-requires-clause-rows
take_all_coherent-requires-clause-rows c = ap length c.in_ok-m.ensures.top ∙ length-top c.args.dims

pub shared-requires-clause-value : goal.shared-requires-clause-value
shared-requires-clause-value c =
    subst (IsEvenMatrix c.args.dims) (sym (c.take_all_coherent.ensures ∙ ap (λ m. all_bounded m (map placed_of c.args.bounds.now)) c.in_ok-m.ensures.top))
    (bounds_give_values c.args.dims (map placed_of c.args.bounds.now) c.requires.placed)
