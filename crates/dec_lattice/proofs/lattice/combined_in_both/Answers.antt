use Rattle.std.proofs.Common.{rules, ◌≡◌, List, refl, subst}
use Rattle.std.specs.Prelude.{ℕ}
use Rattle.block_partition.specs.Changes.{IsMeetOf}
use Rattle.dec_lattice.specs.Over.{held, AreSides}
use Rattle.dec_lattice.proofs.Overs.{over-meet}
use Rattle.dec_lattice.proofs.Values.{if-held, first-side, second-side, either-first, either-second, either-both}
use Rattle.dec_lattice.proofs.lattice.combined_in_both.Goals as goal

pub combined_over-requires-clause-others : goal.combined_over-requires-clause-others
combined_over-requires-clause-others c =
    let a = c.args.a.now in
    let b = c.args.b.now in
    let sides : AreSides a b = record { dims = c.requires.dims; first = c.in-Some.ensures.some refl; second = c.in-Some-partition.ensures.some refl } in
    let first : c.in-Some.p.now ≡ (held a).partition = if-held _ (λ h. c.in-Some.p.now ≡ h.partition) sides.first (search rules) in
    let second : c.in-Some-partition.q.now ≡ (held b).partition = if-held _ (λ h. c.in-Some-partition.q.now ≡ h.partition) sides.second (search rules) in
    let meet = c.in_ok-meet-in-Some-partition.meet in
    over-meet c.args.op a.dims (held a) (held b) meet c.requires.loses c.known.ensures.small (first-side a b sides c.known.ensures) (second-side a b sides c.known-2.ensures) c.known-in-Some-partition.ensures.partition
    (subst (λ (t : List (List ℕ)). IsMeetOf t (held b).partition meet) first (subst (λ (t : List (List ℕ)). IsMeetOf c.in-Some.p.now t meet) second c.in_ok-meet-in-Some-partition.ensures))

pub returns-in_ok-v-in-None-clause-value : goal.returns-in_ok-v-in-None-clause-value
returns-in_ok-v-in-None-clause-value c = either-first c.args.op c.in_ok-v-in-None.v c.args.a.now c.args.b.now c.requires.dims (search rules) c.in_ok-v-in-None.ensures

pub returns-in_ok-v-in-None-partition-clause-value : goal.returns-in_ok-v-in-None-partition-clause-value
returns-in_ok-v-in-None-partition-clause-value c = either-second c.args.op c.in_ok-v-in-None-partition.v c.args.a.now c.args.b.now (search rules) c.in_ok-v-in-None-partition.ensures

pub returns-in_ok-v-in-Some-partition-clause-value : goal.returns-in_ok-v-in-Some-partition-clause-value
returns-in_ok-v-in-Some-partition-clause-value c =
    let sides : AreSides c.args.a.now c.args.b.now = record { dims = c.requires.dims; first = c.in-Some.ensures.some refl; second = c.in-Some-partition.ensures.some refl } in
    either-both c.args.op c.in_ok-v-in-Some-partition.v c.args.a.now c.args.b.now sides c.in_ok-v-in-Some-partition.ensures.value
