-- The finest partition that is coarser than two, block by block of the second.
use Rattle.std.proofs.Common.{◌≡◌, ℕ, ◌+◌, ◌<◌, ◌≤◌, ◌⊎◌, inl, inr, List, length, refl, sym, ap, ◌∙◌, subst, arith}
use Rattle.std.proofs.lemmas.Bool.{cases_eq}
use Rattle.block_partition.specs.Partition.{member, place, IsIn, block, home, SameBlock, IsPartition}
use Rattle.block_partition.specs.Changes.{IsNear, IsMergedBy}
use Rattle.block_partition.proofs.Places.{member-place, home_in}
use Rattle.block_laws.proofs.Components.{same_block-sym}
use Rattle.dec_oct.proofs.Bounded.{merged-partition}
use Rattle.dec_lattice.specs.Coarser.{AreTogether, IsCoarser}

-- a member of block k
in-kth : (cs : List (List ℕ)) (vs : List ℕ) (k u : ℕ) → vs ≡ block cs k → home cs u ≡ k → k < length cs → IsIn vs u
in-kth cs vs k u e f h = subst (λ t. IsIn t u) (ap (block cs) f ∙ sym e) (home_in cs u (omega arith))

two_of : (bs : List (List ℕ)) (b u w : ℕ) → home bs u ≡ b → home bs w ≡ b → b < length bs → SameBlock bs u w
two_of bs b u w e f h = (e ∙ sym f, omega arith)

then_same : (bs : List (List ℕ)) (u v w : ℕ) → SameBlock bs u v → SameBlock bs v w → SameBlock bs u w
then_same bs u v w s t = (s.0 ∙ t.0, s.1)

-- a block that is in one of the made blocks already
pub coarser-skip : (n : ℕ) (bs cs ds : List (List ℕ)) (vs : List ℕ) (k : ℕ) → k < length cs → vs ≡ block cs k → IsCoarser n bs cs k ds → AreTogether ds vs → IsCoarser n bs cs (k + 1) ds
coarser-skip n bs cs ds vs k h e c t = record {
  partition = c.partition;
  first = c.first;
  second = λ u w i j s p. by u w i j s p (cases_eq (home cs u) k);
  finest = c.finest;
}
  where
    there : (u : ℕ) → home cs u ≡ k → home ds u ≡ t.0
    there u f =
        let i = in-kth cs vs k u e f h in
        ap (home ds) (sym (member-place vs u i)) ∙ t.2 (place vs u) i

    by : (u w : ℕ) → u < n → w < n → SameBlock cs u w → home cs u < k + 1 → (home cs u ≡ k) ⊎ (home cs u ≡ k → ⊥) → SameBlock ds u w
    by u w i j s p (inl f) = two_of ds t.0 u w (there u f) (there w (sym s.0 ∙ f)) t.1
    by u w i j s p (inr d) = c.second u w i j s (grind (arith, d))

-- a block that is merged
pub coarser-merge : (n : ℕ) (bs cs ds es : List (List ℕ)) (vs : List ℕ) (k : ℕ) → n ≤ 512 → IsPartition n cs → k < length cs → vs ≡ block cs k → IsCoarser n bs cs k ds → IsPartition 512 es → IsMergedBy ds vs es → IsCoarser n bs cs (k + 1) es
coarser-merge n bs cs ds es vs k few pc h e c pe m = record {
  partition = merged-partition n ds es vs few c.partition pe m below;
  first = λ u w i j s. (m.exact u w (omega arith) (omega arith)).1 (inl (c.first u w i j s));
  second = λ u w i j s p. by u w i j s p (cases_eq (home cs u) k);
  finest = λ xs f g u w i j s. within xs f g u w i j ((m.exact u w (omega arith) (omega arith)).0 s);
}
  where
    below : (i : ℕ) → i < length vs → member vs i < n
    below i p = subst (λ t. member t i < n) (sym e) ((pc.blocks k h).below i (subst (λ t. i < length t) e p))

    at_home : (i : ℕ) → i < length vs → home cs (member vs i) ≡ k
    at_home i p = subst (λ t. home cs (member t i) ≡ k) (sym e) (pc.homes k i h (subst (λ t. i < length t) e p))

    near : (u : ℕ) → home cs u ≡ k → IsNear ds vs u
    near u f = let i = in-kth cs vs k u e f h in (place vs u, i, inl (member-place vs u i))

    by : (u w : ℕ) → u < n → w < n → SameBlock cs u w → home cs u < k + 1 → (home cs u ≡ k) ⊎ (home cs u ≡ k → ⊥) → SameBlock es u w
    by u w i j s p (inl f) = (m.exact u w (omega arith) (omega arith)).1 (inr (near u f, near w (sym s.0 ∙ f)))
    by u w i j s p (inr d) = (m.exact u w (omega arith) (omega arith)).1 (inl (c.second u w i j s (grind (arith, d))))

    -- in a coarser partition a near variable shares the block of a member
    reached : (xs : List (List ℕ)) → ((u w : ℕ) → u < n → w < n → SameBlock bs u w → SameBlock xs u w) → ((u w : ℕ) → u < n → w < n → SameBlock cs u w → SameBlock xs u w)
        → (u : ℕ) → u < n → (i : ℕ) → i < length vs → (member vs i ≡ u) ⊎ SameBlock ds (member vs i) u → SameBlock xs (member vs i) u
    reached xs f g u p i q (inl r) = subst (SameBlock xs (member vs i)) r (g (member vs i) (member vs i) (below i q) (below i q) (refl, (let a = at_home i q in omega arith)))
    reached xs f g u p i q (inr r) = c.finest xs f g (member vs i) u (below i q) p r

    within : (xs : List (List ℕ)) → ((u w : ℕ) → u < n → w < n → SameBlock bs u w → SameBlock xs u w) → ((u w : ℕ) → u < n → w < n → SameBlock cs u w → SameBlock xs u w)
        → (u w : ℕ) → u < n → w < n → SameBlock ds u w ⊎ (IsNear ds vs u × IsNear ds vs w) → SameBlock xs u w
    within xs f g u w p q (inl s) = c.finest xs f g u w p q s
    within xs f g u w p q (inr (a, b)) =
        let x = member vs a.0 in
        let y = member vs b.0 in
        let r : SameBlock xs x u = reached xs f g u p a.0 a.1 a.2 in
        let s : SameBlock xs y w = reached xs f g w q b.0 b.1 b.2 in
        let t : SameBlock xs x y = g x y (below a.0 a.1) (below b.0 b.1) (two_of cs k x y (at_home a.0 a.1) (at_home b.0 b.1) h) in
        then_same xs u x w (same_block-sym xs x u r) (then_same xs x y w t s)
