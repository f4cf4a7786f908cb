-- A partition in order is known by which variables share a block.
use Rattle.std.proofs.Common.{◌≡◌, ℕ, ◌<◌, ◌≤◌, ◌⊎◌, inl, inr, List, [], length, refl, sym, ap, ◌∙◌, subst, arith, zero, suc, get_or, map}
use Rattle.std.specs.Prelude.{◌↔◌}
use Rattle.std.proofs.lemmas.Bool.{cases_lt, cases_order}
use Rattle.std.proofs.lemmas.List.{same_lists, get_or_default, get_or-map, length-map}
use Rattle.std.proofs.lemmas.Grind.{same_number_lists}
use Rattle.block_partition.specs.Partition.{member, place, IsIn, block, home, SameBlock, IsBlock, IsPartition, IsOrdered}
use Rattle.block_partition.proofs.Places.{member-place, in-member, home_in}

-- ---- rising lists with the same members are equal

pub record IsRising (xs : List ℕ) : Type 0 where
  pub rising : (i j : ℕ) → i < j → j < length xs → member xs i < member xs j

-- every member of the first is one of the second
pub record IsWithin (xs ys : List ℕ) : Type 0 where
  pub within : (i : ℕ) → i < length xs → IsIn ys (member xs i)

place-rises : (xs ys : List ℕ) (i : ℕ) → IsRising xs → IsRising ys → IsWithin xs ys → suc i < length xs → place ys (member xs i) < place ys (member xs (suc i))
place-rises xs ys i rx ry w h = by (cases_order (place ys (member xs i)) (place ys (member xs (suc i))))
  where
    p : IsIn ys (member xs i)
    p = w.within i (omega arith)

    q : IsIn ys (member xs (suc i))
    q = w.within (suc i) h

    up : member xs i < member xs (suc i)
    up = rx.rising i (suc i) (omega arith) h

    ep : member ys (place ys (member xs i)) ≡ member xs i
    ep = member-place ys _ p

    eq : member ys (place ys (member xs (suc i))) ≡ member xs (suc i)
    eq = member-place ys _ q

    by : (place ys (member xs i) ≡ place ys (member xs (suc i))) ⊎ ((place ys (member xs i) < place ys (member xs (suc i))) ⊎ (place ys (member xs (suc i)) < place ys (member xs i))) → place ys (member xs i) < place ys (member xs (suc i))
    by (inl e) = let f : member xs i ≡ member xs (suc i) = sym ep ∙ ap (member ys) e ∙ eq in let u = up in absurd (omega arith)
    by (inr (inl e)) = e
    by (inr (inr e)) = let r = ry.rising _ _ e p in let u = up in let a = ep in let b = eq in absurd (omega arith)

place-at_least : (xs ys : List ℕ) → IsRising xs → IsRising ys → IsWithin xs ys → (i : ℕ) → i < length xs → i ≤ place ys (member xs i)
place-at_least xs ys rx ry w zero h = omega arith
place-at_least xs ys rx ry w (suc i) h =
    let r = place-at_least xs ys rx ry w i (omega arith) in
    let s = place-rises xs ys i rx ry w h in
    omega arith

length-within : (xs ys : List ℕ) → IsRising xs → IsRising ys → IsWithin xs ys → length xs ≤ length ys
length-within xs ys rx ry w = by (length xs) refl
  where
    by : (n : ℕ) → length xs ≡ n → n ≤ length ys
    by zero e = omega arith
    by (suc n) e =
        let r = place-at_least xs ys rx ry w n (omega arith) in
        let s = w.within n (omega arith) in
        omega arith

place-same : (n : ℕ) (xs : List ℕ) (i : ℕ) → IsRising xs → i < length xs → (v : ℕ) → member xs i ≡ v → place xs v ≡ i
place-same n xs i r h v e = by (cases_order (place xs v) i)
  where
    p : IsIn xs v
    p = subst (IsIn xs) e (in-member xs i h)

    f : member xs (place xs v) ≡ v
    f = member-place xs v p

    by : (place xs v ≡ i) ⊎ ((place xs v < i) ⊎ (i < place xs v)) → place xs v ≡ i
    by (inl g) = g
    by (inr (inl g)) = let s = r.rising (place xs v) i g h in let t = f in absurd (omega arith)
    by (inr (inr g)) = let s = r.rising i (place xs v) g p in let t = f in absurd (omega arith)

pub rising-unique : (xs ys : List ℕ) → IsRising xs → IsRising ys → IsWithin xs ys → IsWithin ys xs → xs ≡ ys
rising-unique xs ys rx ry w z = same_number_lists xs ys size same
  where
    size : length xs ≡ length ys
    size = let a = length-within xs ys rx ry w in let b = length-within ys xs ry rx z in omega arith

    same : (k : ℕ) → k < length xs → get_or xs k 0 ≡ get_or ys k 0
    same k h =
        let j = place ys (member xs k) in
        let up = place-at_least xs ys rx ry w k h in
        let p : j < length ys = w.within k h in
        let e : member ys j ≡ member xs k = member-place ys _ p in
        let down = place-at_least ys xs ry rx z j p in
        let back : place xs (member ys j) ≡ k = place-same 0 xs k rx h _ (sym e) in
        let f : j ≡ k = omega arith in
        sym e ∙ ap (member ys) f

-- ---- partitions

head : List ℕ → ℕ
head vs = member vs 0

heads : List (List ℕ) → List ℕ
heads bs = map head bs

length-heads : (bs : List (List ℕ)) → length (heads bs) ≡ length bs
unfolding heads
length-heads bs = length-map bs head

at-heads : (bs : List (List ℕ)) (b : ℕ) → b < length bs → member (heads bs) b ≡ member (block bs b) 0
unfolding heads head
at-heads bs b h = get_or-map (λ vs. member vs 0) bs b [] 0 h

-- the least of the variables that share a block with it
record IsLeast (n : ℕ) (bs : List (List ℕ)) (v : ℕ) : Type 0 where
  below : v < n
  placed : SameBlock bs v v
  least : (u : ℕ) → u < n → SameBlock bs u v → v ≤ u

head-is : (n : ℕ) (bs : List (List ℕ)) (b : ℕ) → IsPartition n bs → IsOrdered bs → b < length bs → IsLeast n bs (member (block bs b) 0)
head-is n bs b pt o h =
    let z = o.filled b h in
    let bl = pt.blocks b h in
    let lb = pt.homes b 0 h z in
    record {
      below = bl.below 0 z;
      placed = (refl, omega arith);
      least = λ u p s.
          let e : home bs u ≡ b = s.0 ∙ lb in
          let i : IsIn (block bs b) u = subst (λ t. IsIn (block bs t) u) e (home_in bs u (omega (arith, s.1))) in
          at_place b u h i bl (cases_lt 0 (place (block bs b) u));
    }
  where
    at_place : (b u : ℕ) → b < length bs → IsIn (block bs b) u → IsBlock n (block bs b) → (0 < place (block bs b) u) ⊎ (place (block bs b) u ≤ 0) → member (block bs b) 0 ≤ u
    at_place b u h i bl (inl p) =
        let r = bl.rising 0 (place (block bs b) u) p i in
        let e = member-place (block bs b) u i in omega arith
    at_place b u h i bl (inr p) =
        let f : 0 ≡ place (block bs b) u = omega arith in
        let e : member (block bs b) 0 ≡ u = ap (member (block bs b)) f ∙ member-place (block bs b) u i in omega arith

-- a least variable is the head of its block
head-of : (n : ℕ) (bs : List (List ℕ)) (v : ℕ) → IsPartition n bs → IsOrdered bs → IsLeast n bs v → member (block bs (home bs v)) 0 ≡ v
head-of n bs v pt o l =
    let b = home bs v in
    let h : b < length bs = l.placed.1 in
    let i = home_in bs v h in
    let z = o.filled b h in
    let e = pt.homes b 0 h z in
    let r = head-is n bs b pt o h in
    let up = l.least (member (block bs b) 0) r.below (e, omega arith) in
    let down = r.least v l.below (sym e, h) in
    omega arith

record IsAlike (n : ℕ) (bs cs : List (List ℕ)) : Type 0 where
  alike : (u w : ℕ) → u < n → w < n → SameBlock bs u w → SameBlock cs u w

heads-rising : (bs : List (List ℕ)) → IsOrdered bs → IsRising (heads bs)
heads-rising bs o = record {
  rising = λ i j p q.
      let l = length-heads bs in
      let a = at-heads bs i (omega arith) in
      let b = at-heads bs j (omega arith) in
      let r = o.order i j p (omega arith) in
      omega arith;
}

least-alike : (n : ℕ) (bs cs : List (List ℕ)) (v : ℕ) → IsAlike n bs cs → IsAlike n cs bs → IsLeast n bs v → IsLeast n cs v
least-alike n bs cs v a b l = record {
  below = l.below;
  placed = a.alike v v l.below l.below l.placed;
  least = λ u p s. l.least u p (b.alike u v p l.below s);
}

heads-within : (n : ℕ) (bs cs : List (List ℕ)) → IsPartition n bs → IsOrdered bs → IsPartition n cs → IsOrdered cs → IsAlike n bs cs → IsAlike n cs bs → IsWithin (heads bs) (heads cs)
heads-within n bs cs pb ob pc oc a b = record {
  within = λ i p.
      let l = length-heads bs in
      let h : i < length bs = omega arith in
      let least = least-alike n bs cs _ a b (head-is n bs i pb ob h) in
      let c = home cs (member (block bs i) 0) in
      let q : c < length cs = least.placed.1 in
      let e : member (heads cs) c ≡ member (heads bs) i = at-heads cs c q ∙ head-of n cs _ pc oc least ∙ sym (at-heads bs i h) in
      subst (IsIn (heads cs)) e (in-member (heads cs) c (omega (arith, length-heads cs)));
}

block-within : (n : ℕ) (bs cs : List (List ℕ)) (b : ℕ) → IsPartition n bs → IsOrdered bs → IsPartition n cs → IsOrdered cs → IsAlike n bs cs → b < length bs → b < length cs → member (block bs b) 0 ≡ member (block cs b) 0 → IsWithin (block bs b) (block cs b)
block-within n bs cs b pb ob pc oc a h g e = record {
  within = λ i p.
      let w = member (block bs b) i in
      let z = ob.filled b h in
      let l0 = pb.homes b 0 h z in
      let lw = pb.homes b i h p in
      let bl = pb.blocks b h in
      let s = a.alike (member (block bs b) 0) w (bl.below 0 z) (bl.below i p) (l0 ∙ sym lw, omega arith) in
      let lc : home cs (member (block bs b) 0) ≡ b = ap (home cs) e ∙ pc.homes b 0 g (oc.filled b g) in
      let f : home cs w ≡ b = sym s.0 ∙ lc in
      subst (λ t. IsIn (block cs t) w) f (home_in cs w (omega arith));
}

block-rising : (n : ℕ) (bs : List (List ℕ)) (b : ℕ) → IsPartition n bs → b < length bs → IsRising (block bs b)
block-rising n bs b pt h = record { rising = (pt.blocks b h).rising }

pub partition-unique : (n : ℕ) (bs cs : List (List ℕ)) → IsPartition n bs → IsPartition n cs → IsOrdered bs → IsOrdered cs
    → ((u w : ℕ) → u < n → w < n → SameBlock bs u w ↔ SameBlock cs u w) → bs ≡ cs
partition-unique n bs cs pb pc ob oc same = same_lists bs cs size each
  where
    to : IsAlike n bs cs
    to = record { alike = λ u w p q. (same u w p q).0 }

    from : IsAlike n cs bs
    from = record { alike = λ u w p q. (same u w p q).1 }

    same_heads : heads bs ≡ heads cs
    same_heads = rising-unique (heads bs) (heads cs) (heads-rising bs ob) (heads-rising cs oc) (heads-within n bs cs pb ob pc oc to from) (heads-within n cs bs pc oc pb ob from to)

    size : length bs ≡ length cs
    size = sym (length-heads bs) ∙ ap length same_heads ∙ length-heads cs

    same_block : (b : ℕ) → b < length bs → block bs b ≡ block cs b
    same_block b h =
        let g : b < length cs = omega (arith, size) in
        let e : member (block bs b) 0 ≡ member (block cs b) 0 = sym (at-heads bs b h) ∙ ap (λ xs. member xs b) same_heads ∙ at-heads cs b g in
        rising-unique (block bs b) (block cs b) (block-rising n bs b pb h) (block-rising n cs b pc g)
        (block-within n bs cs b pb ob pc oc to h g e) (block-within n cs bs b pc oc pb ob from g h (sym e))

    each : (k : ℕ) (d : List ℕ) → k < length bs → get_or bs k d ≡ get_or cs k d
    each k d h = get_or_default bs k d [] h ∙ same_block k h ∙ sym (get_or_default cs k d [] (omega (arith, size)))
