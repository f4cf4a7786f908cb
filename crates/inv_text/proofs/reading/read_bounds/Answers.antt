use Rattle.std.proofs.Common.{◌≡◌, ◌∷◌, ◌++◌, ap, ◌∙◌, subst, arith}
use Rattle.std.specs.List.{flat_map}
use Rattle.std.specs.Prelude.{Err}
use Rattle.std.proofs.lemmas.Bool.Decides.{nat_tests}
use Rattle.inv_text.specs.declared.bound.InvBound.{InvBound}
use Rattle.inv_text.specs.declared.fault.CertFault.{CertFault}
use Rattle.inv_text.specs.Listed.{half_bounds, item_text}
use Rattle.inv_text.proofs.Left.{only_memory, stops_items, next_item, taken_item, none_left}
use Rattle.inv_text.proofs.reading.read_bounds.Goals as goal
use Rattle.inv_text.proofs.reading.read_bounds.Goals.{then-loop-rest-test+else-rest-eq32, else-loop-rest-test}

pub returns-in_default-clause-found : goal.returns-in_default-clause-found
returns-in_default-clause-found c = λ n whole rest l is rows left.
    let item = next_item n whole rest c.loop-rest.matrix c.loop-rest.rest.now l is (c.loop-rest.invariant.found n whole rest l is rows left) c.if-rest-eq32.true in
    absurd (c.in_default.ensures.found item.bound (flat_map item_text item.todo ++ 10 ∷ rest) item.short (stops_items item.todo rest) item.text_is)

pub returns-in-Err-clause-found : goal.returns-in-Err-clause-found
returns-in-Err-clause-found c = λ n whole rest l is rows left.
    let item = next_item n whole rest c.loop-rest.matrix c.loop-rest.rest.now l is (c.loop-rest.invariant.found n whole rest l is rows left) c.if-rest-eq32.true in
    let both = c.in-Some.ensures.found item.bound (flat_map item_text item.todo ++ 10 ∷ rest) item.short (stops_items item.todo rest) item.text_is in
    only_memory c.in-Err.fault
    (λ bad. c.take_next.ensures.bad (subst (λ (f : CertFault). c.take_next.result ≡ Err f) bad c.in-Err.is) n whole item.todo l is (c.loop-rest.invariant.rows ∙ rows)
    (ap (λ (x : InvBound). half_bounds c.loop-rest.matrix ++ x ∷ item.todo) both.0 ∙ item.listed))

pub loop-rest-preserved : goal.loop-rest-preserved
loop-rest-preserved c = record {
  rows = c.in-Ok.ensures.rows ∙ c.loop-rest.invariant.rows;
  found = λ n whole rest l is rows left.
      let item = next_item n whole rest c.loop-rest.matrix c.loop-rest.rest.now l is (c.loop-rest.invariant.found n whole rest l is rows left) c.if-rest-eq32.true in
      let both = c.in-Some.ensures.found item.bound (flat_map item_text item.todo ++ 10 ∷ rest) item.short (stops_items item.todo rest) item.text_is in
      taken_item whole rest c.loop-rest.matrix c.take_next.new.matrix c.in-Some.after.now item.bound c.in-Some.bound item.todo item.listed both.0 c.in-Ok.ensures.ok both.1;
}

pub returns-clause-found : goal.returns-clause-found
returns-clause-found c = λ n whole rest l is rows left.
    none_left whole rest c.loop-rest.matrix c.loop-rest.rest.now (c.loop-rest.invariant.found n whole rest l is rows left)
    (λ some first. elim c.loop-rest-test.branch [
      | then-loop-rest-test+else-rest-eq32 w ↦ w.if-rest-eq32.false first
      | else-loop-rest-test w ↦ (let e = c.is_empty.ensures in let t = w.loop-rest-test.false in grind (arith, nat_tests))
    ])
