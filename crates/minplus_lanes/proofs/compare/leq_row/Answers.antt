use Rattle.std.proofs.Common.{◌≡◌, ◌*◌, true, false, not, refl, sym, ap, subst, length, arith}
use Rattle.std.specs.Prelude.{ℕ}
use Rattle.oct_def.specs.Table.{some_index}
use Rattle.minplus_lanes.specs.Rows.{is_above}
use Rattle.minplus_lanes.proofs.Above.{none_more, none_next, found_from, found_at, above_again}
use Rattle.minplus_lanes.proofs.compare.leq_row.Goals as goal

pub lanes-init : goal.lanes-init
unfolding some_index
lanes-init c = refl

pub lanes-preserved : goal.lanes-preserved
lanes-preserved c =
    let test = is_above c.args.a.now c.args.b.now in
    subst (λ (t : ℕ). some_index t test ≡ false) (omega arith) (none_more 4 (4 * c.lanes.k) test c.lanes.invariant (c.some_above.ensures.none c.if-some_above.false))

pub returns-then-some_above : goal.returns-then-some_above
returns-then-some_above c =
    found_from 4 (4 * c.lanes.k) (length c.args.a.now) (is_above c.args.a.now c.args.b.now) c.some_above.result (omega arith) c.some_above.ensures.clear c.if-some_above.true

pub pairs-init : goal.pairs-init
pairs-init c = subst (λ (t : ℕ). some_index t (is_above c.args.a.now c.args.b.now) ≡ false) (omega arith) c.lanes.invariant

pub pairs-preserved : goal.pairs-preserved
pairs-preserved c =
    let test = is_above c.args.a.now c.args.b.now in
    subst (λ (t : ℕ). some_index t test ≡ false) (omega arith) (none_more 2 (2 * c.pairs.k) test c.pairs.invariant (c.some_above-in-pairs.ensures.none c.if-some_above-2.false))

pub returns-then-some_above-2 : goal.returns-then-some_above-2
returns-then-some_above-2 c =
    found_from 2 (2 * c.pairs.k) (length c.args.a.now) (is_above c.args.a.now c.args.b.now) c.some_above-in-pairs.result (omega arith) c.some_above-in-pairs.ensures.clear c.if-some_above-2.true

pub rest-init : goal.rest-init
rest-init c = subst (λ (t : ℕ). some_index t (is_above c.args.a.now c.args.b.now) ≡ false) (omega arith) c.pairs.invariant

pub rest-preserved : goal.rest-preserved
rest-preserved c = none_next c.rest.j (is_above c.args.a.now c.args.b.now) c.rest.invariant (above_again c.args.a.now c.args.b.now c.rest.j false (c.all_fit.ensures.fits c.rest.j (omega arith)) (c.all_fit-2.ensures.fits c.rest.j (omega arith)) c.if-b-j.false)

pub returns-then-b-j : goal.returns-then-b-j
returns-then-b-j c = found_at c.rest.j (length c.args.a.now) (is_above c.args.a.now c.args.b.now) (omega arith) (above_again c.args.a.now c.args.b.now c.rest.j true (c.all_fit.ensures.fits c.rest.j (omega arith)) (c.all_fit-2.ensures.fits c.rest.j (omega arith)) c.if-b-j.true)

pub returns : goal.returns
returns c =
    let all : c.rest.j ≡ length c.args.a.now = omega arith in
    sym (ap (λ t. not t) (subst (λ (t : ℕ). some_index t (is_above c.args.a.now c.args.b.now) ≡ false) all c.rest.invariant))
