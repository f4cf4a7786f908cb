-- The signed dimensions of a block.
use Rattle.std.proofs.Common.{◌≡◌, ℕ, ◌+◌, ◌*◌, ◌/◌, ◌%◌, ◌<◌, List, length, refl, sym, ap, ◌∙◌, arith}
use Rattle.oct_def.specs.Matrix.{opposite}
use Rattle.block_partition.specs.Partition.{member, place, IsIn, IsBlock}
use Rattle.block_laws.specs.Assembly.{outer, inner}
use Rattle.block_partition.proofs.Places.{member-place, in-member, place-member}

pub outer-half : (vs : List ℕ) (i : ℕ) → outer vs i / 2 ≡ member vs (i / 2)
unfolding outer
outer-half vs i = omega arith

pub outer-even : (vs : List ℕ) (c : ℕ) → outer vs (2 * c) ≡ 2 * member vs c
unfolding outer
outer-even vs c =
    let e : (2 * c) / 2 ≡ c = omega arith in
    let f : (2 * c) % 2 ≡ 0 = omega arith in
    rw (e, f) (omega arith)

pub outer-odd : (vs : List ℕ) (c : ℕ) → outer vs (2 * c + 1) ≡ 2 * member vs c + 1
unfolding outer
outer-odd vs c =
    let e : (2 * c + 1) / 2 ≡ c = omega arith in
    let f : (2 * c + 1) % 2 ≡ 1 = omega arith in
    rw (e, f) refl

pub outer-opposite : (vs : List ℕ) (i : ℕ) → outer vs (opposite i) ≡ opposite (outer vs i)
unfolding outer
outer-opposite vs i =
    let e : opposite i / 2 ≡ i / 2 = omega arith in
    let f : member vs (opposite i / 2) ≡ member vs (i / 2) = ap (member vs) e in
    omega arith

pub outer_below : (n : ℕ) (vs : List ℕ) (i : ℕ) → IsBlock n vs → i < 2 * length vs → outer vs i < 2 * n
unfolding outer
outer_below n vs i bl h = let b = bl.below (i / 2) (omega arith) in omega arith

pub outer_in : (vs : List ℕ) (i : ℕ) → i < 2 * length vs → IsIn vs (outer vs i / 2)
outer_in vs i h = rw (outer-half vs i) (in-member vs (i / 2) (omega arith))

pub inner_below : (vs : List ℕ) (i : ℕ) → IsIn vs (i / 2) → inner vs i < 2 * length vs
unfolding inner
inner_below vs i h = omega arith

pub outer-inner : (vs : List ℕ) (i : ℕ) → IsIn vs (i / 2) → outer vs (inner vs i) ≡ i
unfolding outer inner
outer-inner vs i h =
    let e : (2 * place vs (i / 2) + i % 2) / 2 ≡ place vs (i / 2) = omega arith in
    let f : member vs ((2 * place vs (i / 2) + i % 2) / 2) ≡ i / 2 = ap (member vs) e ∙ member-place vs (i / 2) h in
    omega arith

pub inner-outer : (n : ℕ) (vs : List ℕ) (i : ℕ) → IsBlock n vs → i < 2 * length vs → inner vs (outer vs i) ≡ i
unfolding inner outer
inner-outer n vs i bl h =
    let e : (2 * member vs (i / 2) + i % 2) / 2 ≡ member vs (i / 2) = omega arith in
    let f : place vs ((2 * member vs (i / 2) + i % 2) / 2) ≡ i / 2 = place-member n vs (i / 2) _ bl (omega arith) (sym e) in
    omega arith
