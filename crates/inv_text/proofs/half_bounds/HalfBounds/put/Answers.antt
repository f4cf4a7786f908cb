use Rattle.std.proofs.Common.{◌≡◌, ◌-◌, ◌<◌, false, get_or, sym, ap, subst, ◌∙◌, arith}
use Rattle.std.proofs.lemmas.List.{get_or_default}
use Rattle.oct_def.specs.Table.{Matrix}
use Rattle.inv_text.specs.declared.bound.InvBound.{InvBound}
use Rattle.inv_text.specs.Listed.{listed_matrix, IsListing}
use Rattle.inv_text.specs.Given.{TakesBound, with_bound}
use Rattle.inv_text.specs.Places.{is_before}
use Rattle.inv_text.proofs.Keeping.{inserted_listing}
use Rattle.inv_text.proofs.half_bounds.HalfBounds.put.Goals as goal
use Rattle.inv_text.proofs.half_bounds.HalfBounds.put.Goals.{then-loop-place-test+else-is_earlier, else-loop-place-test}

-- what the loop and the insertion leave
put : (c : goal.In_ok-insert) → (listed_matrix c.self.inside.dims c.insert.new.self.items ≡ with_bound (listed_matrix c.self.inside.dims c.self.inside.bounds.items) c.args.bound)
    × IsListing c.self.inside.dims c.insert.new.self.items
put c =
    inserted_listing c.self.inside.dims c.self.inside.bounds.items c.insert.new.self.items c.args.bound c.stored-bound.result c.loop-place.place
    c.self.invariant (subst (λ (m : Matrix). TakesBound m c.args.bound) (sym c.self.view_is) c.requires.takes) c.stored-bound.ensures c.loop-place.invariant.0
    before c.loop-place.invariant.1 c.in_ok-insert.ensures.items
  where
    before : 0 < c.loop-place.place → is_before c.stored-bound.result (get_or c.self.inside.bounds.items (c.loop-place.place - 1) c.stored-bound.result) ≡ false
    before p = elim c.loop-place-test.branch [
      | then-loop-place-test+else-is_earlier w ↦
          let e = w.index.ensures ∙ get_or_default c.self.inside.bounds.items (c.loop-place.place - 1) w.index.result.now c.stored-bound.result (omega (arith, c.loop-place.invariant.0)) in
          subst (λ (b : InvBound). is_before c.stored-bound.result b ≡ false) e (sym w.if-is_earlier.ensures)
      | else-loop-place-test w ↦ absurd (omega arith)
    ]

pub invariant_of-self-2 : goal.invariant_of-self-2
invariant_of-self-2 c = (put c).1

pub returns-clause-ok : goal.returns-clause-ok
returns-clause-ok c = (put c).0 ∙ ap (λ (m : Matrix). with_bound m c.args.bound) c.self.view_is
