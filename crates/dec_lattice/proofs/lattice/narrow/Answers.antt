use Rattle.std.proofs.Common.{rules, ◌≡◌, List, length, refl, ap, subst, arith}
use Rattle.std.specs.Prelude.{ℕ}
use Rattle.dec_lattice.specs.Over.{held, AreSides}
use Rattle.dec_lattice.specs.Coarser.{IsCoarser}
use Rattle.dec_lattice.proofs.Overs.{over-coarser}
use Rattle.dec_lattice.proofs.Values.{if-held, first-side, second-side, narrow-first, narrow-second, narrow-both}
use Rattle.dec_lattice.proofs.lattice.narrow.Goals as goal

pub combined_over-requires-clause-others : goal.combined_over-requires-clause-others
combined_over-requires-clause-others c =
    let a = c.args.a.now in
    let b = c.args.b.now in
    let p = c.in-Some.p.now in
    let q = c.in-Some-partition.q.now in
    let sides : AreSides a b = record { dims = c.requires; first = c.in-Some.ensures.some refl; second = c.in-Some-partition.ensures.some refl } in
    let first : p ≡ (held a).partition = if-held _ (λ h. p ≡ h.partition) sides.first (search rules) in
    let second : q ≡ (held b).partition = if-held _ (λ h. q ≡ h.partition) sides.second (search rules) in
    let both = c.in_ok-both-in-Some-partition.both in
    let size = ap length second in
    over-coarser a.dims (held a) (held b) both (length q) (first-side a b sides c.known.ensures) (second-side a b sides c.known-2.ensures)
    (subst (λ (t : List (List ℕ)). IsCoarser a.dims t (held b).partition (length q) both) first
    (subst (λ (t : List (List ℕ)). IsCoarser a.dims p t (length q) both) second
    (subst (λ (n : ℕ). IsCoarser n p q (length q) both) c.dims-in-Some-partition.ensures c.in_ok-both-in-Some-partition.ensures))) (omega arith)

pub returns-in-None-clause-value : goal.returns-in-None-clause-value
returns-in-None-clause-value c = narrow-first c.dims.result c.bottom.result c.args.a.now c.args.b.now c.dims.ensures (search rules) c.bottom.ensures.value

pub returns-in-None-partition-clause-value : goal.returns-in-None-partition-clause-value
returns-in-None-partition-clause-value c =
    narrow-second c.dims-in-None-partition.result c.bottom-in-None-partition.result c.args.a.now c.args.b.now c.dims-in-None-partition.ensures (search rules) c.bottom-in-None-partition.ensures.value

pub returns-in_ok-v-in-Some-partition-clause-value : goal.returns-in_ok-v-in-Some-partition-clause-value
returns-in_ok-v-in-Some-partition-clause-value c =
    let sides : AreSides c.args.a.now c.args.b.now = record { dims = c.requires; first = c.in-Some.ensures.some refl; second = c.in-Some-partition.ensures.some refl } in
    narrow-both c.in_ok-v-in-Some-partition.v c.args.a.now c.args.b.now sides c.in_ok-v-in-Some-partition.ensures.value
