use Rattle.std.proofs.Common.{◌≡◌, length, sym, ap, ◌∙◌, arith, map, refl, rules, subst}
use Rattle.std.specs.BTreeMap.{get}
use Rattle.std.proofs.lemmas.List.{length-map}
use Rattle.block_partition.specs.Grouping.{label_cmp, IsPutIn, IsNumbered}
use Rattle.block_partition.proofs.Steps.{gathers-none, gathers-unlabelled, gathers-labelled, gathers-few, gathers-number, gathered-blocks, gathered-homes}
use Rattle.block_partition.proofs.grouping.group_by.Goals.{in-None+in_ok-push-in-None, in-Some+in_ok-b-in-Some+in_ok-put_in-in-Some+in_ok-push-in-Some}
use Rattle.block_partition.proofs.grouping.group_by.Goals as goal

pub loop-v-init : goal.loop-v-init
loop-v-init c = gathers-none c.args.labels.now _ _ _ (ap (map (λ vs. vs.items)) c.new-blocks.ensures.items) c.new-homes.ensures.items (λ l. rw (c.new-numbers.ensures.empty) refl)

pub overflow_cast-len : goal.overflow_cast-len
overflow_cast-len c = let r = gathers-few _ c.loop-v.blocks.items c.args.labels.now c.loop-v.v _ _ c.loop-v.invariant in let s = c.loop-v-test.true in let t = c.requires.small in let e = c.len.ensures in omega arith

pub put_in-requires : goal.put_in-requires
put_in-requires c = let q : c.len.result ≡ length c.loop-v.blocks.items = search rules in
    record { known = gathers-number _ c.loop-v.blocks.items c.args.labels.now c.loop-v.v _ _ _ _ _ _ c.loop-v.invariant c.in_ok-b-in-Some.ensures q }

pub loop-v-preserved : goal.loop-v-preserved
loop-v-preserved c =
    let labels = c.args.labels.now in
    elim c.match-labels-v.branch [
      | in-Some+in_ok-b-in-Some+in_ok-put_in-in-Some+in_ok-push-in-Some w ↦ gathers-labelled labels c.loop-v.v _ _ _ _ _ _ _ _ _ c.loop-v-test.true c.loop-v.invariant w.in-Some.is (let q : w.len.result ≡ length c.loop-v.blocks.items = search rules in q ∙ sym (length-map c.loop-v.blocks.items (λ vs. vs.items))) (subst (IsNumbered (get label_cmp c.loop-v.numbers) _ _ w.in_ok-b-in-Some.b) (ap (get label_cmp) (sym w.numbers-is)) w.in_ok-b-in-Some.ensures)
          (subst (IsPutIn (map (λ vs. vs.items) c.loop-v.blocks.items) w.in_ok-b-in-Some.b c.loop-v.v) (ap (λ b. map (λ vs. vs.items) b.items) (sym w.blocks-is)) w.in_ok-put_in-in-Some.ensures) (ap (λ h. h.items) w.homes-is ∙ w.in_ok-push-in-Some.ensures.items)
      | in-None+in_ok-push-in-None w ↦ gathers-unlabelled labels c.loop-v.v _ _ _ _ _ _ c.loop-v.invariant w.in-None.is (ap (λ b. map (λ vs. vs.items) b.items) w.blocks-is) (ap (get label_cmp) w.numbers-is) (ap (λ h. h.items) w.homes-is ∙ w.in_ok-push-in-None.ensures.items)
    ]

pub returns-clause-blocks : goal.returns-clause-blocks
returns-clause-blocks c = gathered-blocks c.args.labels.now c.loop-v.v _ _ _ c.loop-v.invariant (omega arith)

pub returns-clause-homes : goal.returns-clause-homes
returns-clause-homes c = gathered-homes c.args.labels.now c.loop-v.v _ _ _ c.loop-v.invariant (omega arith) c.requires.small
