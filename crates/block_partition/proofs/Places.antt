-- Places of variables in blocks, and the blocks that have them.
use Rattle.std.proofs.Common.{◌≡◌, ℕ, ◌<◌, ◌≤◌, ◌⊎◌, inl, inr, eqb, ltb, List, [], length, sym, ap, ◌∙◌, refl, arith, zero, suc}
use Rattle.std.proofs.lemmas.Bool.{eqb-true, eq-eqb, ne_eqb, ltb-true, cases_lt, both_ways}
use Rattle.std.proofs.lemmas.List.Sums.{passes_at_first, fails_before_first, position_or_len_is}
use Rattle.block_partition.specs.Partition.{member, place, IsIn, block, home, IsBlock, IsPartition, IsOrdered}

pub member-place : (vs : List ℕ) (v : ℕ) → IsIn vs v → member vs (place vs v) ≡ v
unfolding place
member-place vs v h = eqb-true _ _ (passes_at_first (λ x. eqb x v) vs 0 h)

pub in-member : (vs : List ℕ) (i : ℕ) → i < length vs → IsIn vs (member vs i)
unfolding place
in-member vs i h = by (cases_lt (place vs (member vs i)) (length vs))
  where
    by : (place vs (member vs i) < length vs) ⊎ (length vs ≤ place vs (member vs i)) → IsIn vs (member vs i)
    by (inl p) = p
    by (inr p) =
        let fails = fails_before_first (λ x. eqb x (member vs i)) vs i 0 (omega arith) in
        absurd (both_ways (eqb (member vs i) (member vs i)) fails (eq-eqb _ _ refl))

pub place-member : (n : ℕ) (vs : List ℕ) (i v : ℕ) → IsBlock n vs → i < length vs → member vs i ≡ v → place vs v ≡ i
unfolding place
place-member n vs i v bl h e = position_or_len_is (λ x. eqb x v) vs i 0 (omega arith)
    (λ k p. ne_eqb (member vs k) v (λ (f : member vs k ≡ v). let r = bl.rising k i p h in omega arith))
    (λ p. eq-eqb (member vs i) v e)

pub place-none : (vs : List ℕ) (v : ℕ) → ((k : ℕ) → k < length vs → member vs k ≡ v → ⊥) → place vs v ≡ length vs
unfolding place
place-none vs v none = position_or_len_is (λ x. eqb x v) vs (length vs) 0 (omega arith) (λ k p. ne_eqb _ _ (none k p)) (λ p. absurd (omega arith))

-- ---- homes

pub home_in : (bs : List (List ℕ)) (v : ℕ) → home bs v < length bs → IsIn (block bs (home bs v)) v
unfolding home
home_in bs v h = ltb-true _ _ (passes_at_first (λ vs. ltb (place vs v) (length vs)) bs [] h)

pub home-in : (n : ℕ) (bs : List (List ℕ)) (b v : ℕ) → IsPartition n bs → b < length bs → IsIn (block bs b) v → home bs v ≡ b
home-in n bs b v p h i = ap (home bs) (sym (member-place (block bs b) v i)) ∙ p.homes b (place (block bs b) v) h i

-- ---- a partition in order has at most as many blocks as variables

head-at_least : (bs : List (List ℕ)) → IsOrdered bs → (b : ℕ) → b < length bs → b ≤ member (block bs b) 0
head-at_least bs o zero h = omega arith
head-at_least bs o (suc b) h =
    let r = head-at_least bs o b (omega arith) in
    let s = o.order b (suc b) (omega arith) h in
    omega arith

pub few_blocks : (n : ℕ) (bs : List (List ℕ)) (b : ℕ) → IsPartition n bs → IsOrdered bs → b < length bs → b < n
few_blocks n bs b p o h =
    let r = head-at_least bs o b h in
    let s = (p.blocks b h).below 0 (o.filled b h) in
    omega arith

pub block_count : (n : ℕ) (bs : List (List ℕ)) → IsPartition n bs → IsOrdered bs → length bs ≤ n
block_count n bs p o = by (cases_lt n (length bs))
  where
    by : (n < length bs) ⊎ (length bs ≤ n) → length bs ≤ n
    by (inl h) = let r = few_blocks n bs n p o h in absurd (omega arith)
    by (inr h) = h

member-at_least : (n : ℕ) (vs : List ℕ) → IsBlock n vs → (i : ℕ) → i < length vs → i ≤ member vs i
member-at_least n vs bl zero h = omega arith
member-at_least n vs bl (suc i) h =
    let r = member-at_least n vs bl i (omega arith) in
    let s = bl.rising i (suc i) (omega arith) h in
    omega arith

pub block_length : (n : ℕ) (vs : List ℕ) → IsBlock n vs → length vs ≤ n
block_length n vs bl = by (cases_lt n (length vs))
  where
    by : (n < length vs) ⊎ (length vs ≤ n) → length vs ≤ n
    by (inl q) = let r = member-at_least n vs bl n q in let s = bl.below n q in absurd (omega arith)
    by (inr q) = q

pub block_size : (n : ℕ) (bs : List (List ℕ)) (b : ℕ) → IsPartition n bs → b < length bs → length (block bs b) ≤ n
block_size n bs b p h = block_length n (block bs b) (p.blocks b h)
