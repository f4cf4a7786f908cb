use Rattle.std.proofs.Common.{◌≡◌, ℕ, ◌+◌, ◌*◌, List, true, length, get_or, sym, ap, ◌∙◌, subst, arith}
use Rattle.std.proofs.lemmas.Bool.{false≢true}
use Rattle.inv_text.specs.declared.bound.InvBound.{InvBound}
use Rattle.inv_text.specs.Listed.{half_bounds, placed_at}
use Rattle.inv_text.specs.Places.{is_before, order_key}
use Rattle.inv_text.specs.Reading.{AllBefore, IsListable}
use Rattle.inv_text.proofs.Halves.{length-bounded}
use Rattle.inv_text.proofs.Next.{takes_next, not_next, behind_last}
use Rattle.inv_text.proofs.reading.take_next.Goals as goal
use Rattle.inv_text.proofs.reading.take_next.Goals.{then-not-is_listable-via-then-not-is_listable, then-not-is_listable-via-else-not-is_listable+then-not-is_behind}

pub returns-then-not-is_listable-clause-bad : goal.returns-then-not-is_listable-clause-bad
returns-then-not-is_listable-clause-bad c = λ _ n whole todo l is rows e.
    let both = not_next n whole (half_bounds c.args.matrix.now) c.args.bound todo l is e in
    let same : n ≡ c.dims.result = omega (arith, rows, c.dims.ensures.rows) in
    elim c.then-not-is_listable.branch [
      | then-not-is_listable-via-then-not-is_listable w ↦
          false≢true (sym w.if-not-is_listable.true ∙ c.is_listable.ensures.1 (subst (λ (k : ℕ). IsListable (2 * k) c.args.bound) same both.0))
      | then-not-is_listable-via-else-not-is_listable+then-not-is_behind w ↦
          let no = w.is_behind.ensures.no w.if-not-is_behind.true in
          behind_last w.bounds.result.now c.args.bound (subst (AllBefore (order_key c.args.bound)) (sym w.bounds.ensures) both.1) no.0 no.1
    ]

pub put-requires : goal.put-requires
put-requires c = record {
  takes = (takes_next c.dims.result c.args.matrix.now c.args.bound c.dims.ensures.small c.dims.ensures.value (c.is_listable.ensures.0 c.if-not-is_listable.false)
      (subst (λ (bs : List InvBound). (k : ℕ) → k + 1 ≡ length bs → is_before (get_or bs k c.args.bound) c.args.bound ≡ true) c.bounds.ensures (c.is_behind.ensures.yes c.if-not-is_behind.false))).0;
}

pub returns-clause-rows : goal.returns-clause-rows
returns-clause-rows c = ap length c.in_ok-put.ensures.ok ∙ length-bounded c.args.matrix.now (placed_at c.args.bound)

pub returns-clause-ok : goal.returns-clause-ok
returns-clause-ok c =
    ap half_bounds c.in_ok-put.ensures.ok
    ∙ (takes_next c.dims.result c.args.matrix.now c.args.bound c.dims.ensures.small c.dims.ensures.value (c.is_listable.ensures.0 c.if-not-is_listable.false)
    (subst (λ (bs : List InvBound). (k : ℕ) → k + 1 ≡ length bs → is_before (get_or bs k c.args.bound) c.args.bound ≡ true) c.bounds.ensures (c.is_behind.ensures.yes c.if-not-is_behind.false))).1
