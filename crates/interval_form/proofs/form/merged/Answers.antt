use Rattle.std.proofs.Common.{◌≡◌, ◌+◌, ◌≤◌, ◌++◌, ◌∷◌, [], ℕ, List, true, false, refl, sym, ap, subst, arith, ◌∙◌}
use Rattle.interval_form.specs.declared.form.Term.{Term}
use Rattle.interval_form.specs.Sparse.{past_all, joined, term_at}
use Rattle.interval_form.specs.Form.{is_nothing}
use Rattle.interval_form.proofs.Merging.{Merging, merging_to, merging_skipped, merging_pushed, merging_sums}
use Rattle.interval_form.proofs.form.merged.Goals.{then-not-is_nothing+in_ok-push, else-not-is_nothing}
use Rattle.interval_form.proofs.form.merged.Goals as goal

pub merging-preserved-then-v-eq-PAST : goal.merging-preserved-then-v-eq-PAST
merging-preserved-then-v-eq-PAST c =
    let m = merging_to c.args.minus c.args.a.now c.args.b.now c.merging.i c.merging.j c.merging.next c.merging.out.items c.head.result c.head-in-merging.result c.min-v.result c.merging.invariant c.head.ensures c.head-in-merging.ensures c.min-v.ensures in
    subst (λ (v : ℕ). Merging c.args.minus c.args.a.now c.args.b.now c.merging.i c.merging.j v c.merging.out.items) c.if-v-eq-PAST.true m

pub coefficient_from-p-requires-clause-small : goal.coefficient_from-p-requires-clause-small
coefficient_from-p-requires-clause-small c =
    let m = merging_to c.args.minus c.args.a.now c.args.b.now c.merging.i c.merging.j c.merging.next c.merging.out.items c.head.result c.head-in-merging.result c.min-v.result c.merging.invariant c.head.ensures c.head-in-merging.ensures c.min-v.ensures in
    omega (arith, m.bound)

pub coefficient_from-q-requires-clause-small : goal.coefficient_from-q-requires-clause-small
coefficient_from-q-requires-clause-small c =
    let m = merging_to c.args.minus c.args.a.now c.args.b.now c.merging.i c.merging.j c.merging.next c.merging.out.items c.head.result c.head-in-merging.result c.min-v.result c.merging.invariant c.head.ensures c.head-in-merging.ensures c.min-v.ensures in
    omega (arith, m.bound)

pub overflow_cast-v : goal.overflow_cast-v
overflow_cast-v c =
    let m = merging_to c.args.minus c.args.a.now c.args.b.now c.merging.i c.merging.j c.merging.next c.merging.out.items c.head.result c.head-in-merging.result c.min-v.result c.merging.invariant c.head.ensures c.head-in-merging.ensures c.min-v.ensures in
    record { fits = omega (arith, m.bound) }

pub past-i-requires-clause-small : goal.past-i-requires-clause-small
past-i-requires-clause-small c =
    let m = merging_to c.args.minus c.args.a.now c.args.b.now c.merging.i c.merging.j c.merging.next c.merging.out.items c.head.result c.head-in-merging.result c.min-v.result c.merging.invariant c.head.ensures c.head-in-merging.ensures c.min-v.ensures in
    omega (arith, m.bound)

pub past-j-requires-clause-small : goal.past-j-requires-clause-small
past-j-requires-clause-small c =
    let m = merging_to c.args.minus c.args.a.now c.args.b.now c.merging.i c.merging.j c.merging.next c.merging.out.items c.head.result c.head-in-merging.result c.min-v.result c.merging.invariant c.head.ensures c.head-in-merging.ensures c.min-v.ensures in
    omega (arith, m.bound)

pub overflow_add-next : goal.overflow_add-next
overflow_add-next c =
    let m = merging_to c.args.minus c.args.a.now c.args.b.now c.merging.i c.merging.j c.merging.next c.merging.out.items c.head.result c.head-in-merging.result c.min-v.result c.merging.invariant c.head.ensures c.head-in-merging.ensures c.min-v.ensures in
    record { fits = omega (arith, m.bound) }

pub merging-preserved : goal.merging-preserved
merging-preserved c =
    let m = merging_to c.args.minus c.args.a.now c.args.b.now c.merging.i c.merging.j c.merging.next c.merging.out.items c.head.result c.head-in-merging.result c.min-v.result c.merging.invariant c.head.ensures c.head-in-merging.ensures c.min-v.ensures in
    let l : c.min-v.result + 1 ≤ past_all = omega (arith, m.bound) in
    let minus = c.args.minus in
    let a = c.args.a.now in
    let b = c.args.b.now in
    let v = c.min-v.result in
    let k = c.joined_coefficient-coefficient.result in
    let t : Term = record { dimension = v; coefficient = k } in
    let e : k ≡ joined minus (term_at a v) (term_at b v) = cc (c.joined_coefficient-coefficient.ensures, c.coefficient_from-p.ensures.value, c.coefficient_from-q.ensures.value) in
    elim c.if-not-is_nothing.branch [
      | then-not-is_nothing+in_ok-push w ↦
          let x : is_nothing k ≡ false = sym c.is_nothing.ensures ∙ w.if-not-is_nothing.true in
          let p : c.if-not-is_nothing.out.items ≡ c.merging.out.items ++ t ∷ [] = ap (λ o. o.items) w.out-is ∙ w.in_ok-push.ensures.ok in
          subst (λ (xs : List Term). Merging minus a b c.past-i.result c.past-j.result (v + 1) xs) (sym p)
          (merging_pushed minus a b c.merging.i c.merging.j v c.merging.out.items c.past-i.result c.past-j.result t m c.past-i.ensures c.past-j.ensures (omega arith) refl e x)
      | else-not-is_nothing w ↦
          let x : is_nothing (joined minus (term_at a v) (term_at b v)) ≡ true = ap is_nothing (sym e) ∙ (sym c.is_nothing.ensures ∙ w.if-not-is_nothing.false) in
          let p : c.if-not-is_nothing.out.items ≡ c.merging.out.items = ap (λ o. o.items) w.out-is in
          subst (λ (xs : List Term). Merging minus a b c.past-i.result c.past-j.result (v + 1) xs) (sym p)
          (merging_skipped minus a b c.merging.i c.merging.j v c.merging.out.items c.past-i.result c.past-j.result m c.past-i.ensures c.past-j.ensures (omega arith) x)
    ]

pub returns-clause-sums : goal.returns-clause-sums
returns-clause-sums c =
    let e : c.merging.next ≡ past_all = omega (arith, c.merging.invariant.bound) in
    merging_sums c.args.minus c.args.a.now c.args.b.now c.merging.i c.merging.j c.merging.out.items c.requires.left c.requires.right
    (subst (λ (v : ℕ). Merging c.args.minus c.args.a.now c.args.b.now c.merging.i c.merging.j v c.merging.out.items) e c.merging.invariant)
