-- The variables that have a bound, and the merge of their blocks.
use Rattle.std.proofs.Common.{◌≡◌, ℕ, ◌+◌, ◌*◌, ◌/◌, ◌<◌, ◌≤◌, ◌⊎◌, inl, inr, List, [], ◌∷◌, ◌++◌, length, length-append, None, refl, sym, ap, ◌∙◌, subst, arith}
use Rattle.std.specs.Prelude.{ℤ}
use Rattle.std.proofs.lemmas.Bool.{cases_eq}
use Rattle.std.proofs.lemmas.List.{get_or_push, get_or_append_left}
use Rattle.oct_def.specs.Bound.{bound_of}
use Rattle.oct_def.specs.Table.{Matrix, at}
use Rattle.oct_def.specs.Matrix.{opposite}
use Rattle.oct_def.proofs.Indices.{opposite-even, opposite-odd}
use Rattle.block_partition.specs.Partition.{member, place, block, home, SameBlock, IsPartition}
use Rattle.block_partition.specs.Changes.{IsNear, IsMergedBy}
use Rattle.block_partition.proofs.Places.{member-place, home_in}
use Rattle.block_laws.specs.Assembly.{assembly, assembly_entry, IsSeparated}
use Rattle.block_laws.specs.Components.{HasBound, IsTouched, IsMerged}
use Rattle.block_laws.proofs.Assembly.{length-assembly, at-assembly}
use Rattle.block_laws.proofs.Components.{Finite, touched-bound, same_block-sym}
use Rattle.dec_oct.specs.Cut.{IsBounded}

-- the same of the variables below k, among n
pub record IsBoundedSoFar (n : ℕ) (m : Matrix) (k : ℕ) (vs : List ℕ) : Type 0 where
  pub only : (i : ℕ) → i < length vs → (member vs i < n) × HasBound m (member vs i)
  pub all : (v : ℕ) → v < k → HasBound m v → (i : ℕ) × (i < length vs) × (member vs i ≡ v)

pub bound-at : (n : ℕ) (bs : List (List ℕ)) (ms : List Matrix) (v i j : ℕ) (x : ℤ) → i < 2 * n → i / 2 ≡ v → j ≡ opposite i → bound_of x ≡ assembly_entry bs ms i j → (bound_of x ≡ None → ⊥) → HasBound (assembly n bs ms) v
bound-at n bs ms v i j x p e f g h = record {
  side = i;
  side_in = omega (arith, length-assembly n bs ms);
  side_is = e;
  finite = λ t. h (g ∙ sym (at-assembly n bs ms i j p (omega arith)) ∙ ap (at (assembly n bs ms) i) f ∙ t);
}

pub bound-first : (n : ℕ) (bs : List (List ℕ)) (ms : List Matrix) (v : ℕ) (x : ℤ) → v < n → bound_of x ≡ assembly_entry bs ms (2 * v) (2 * v + 1) → (bound_of x ≡ None → ⊥) → HasBound (assembly n bs ms) v
bound-first n bs ms v x h e f = bound-at n bs ms v (2 * v) (2 * v + 1) x (omega arith) (omega arith) (sym (opposite-even v)) e f

pub bound-second : (n : ℕ) (bs : List (List ℕ)) (ms : List Matrix) (v : ℕ) (x : ℤ) → v < n → bound_of x ≡ assembly_entry bs ms (2 * v + 1) (2 * v) → (bound_of x ≡ None → ⊥) → HasBound (assembly n bs ms) v
bound-second n bs ms v x h e f = bound-at n bs ms v (2 * v + 1) (2 * v) x (omega arith) (omega arith) (sym (opposite-odd v)) e f

pub bound-none : (n : ℕ) (bs : List (List ℕ)) (ms : List Matrix) (v : ℕ) (x y : ℤ) → v < n → bound_of x ≡ assembly_entry bs ms (2 * v) (2 * v + 1) → bound_of y ≡ assembly_entry bs ms (2 * v + 1) (2 * v) → bound_of x ≡ None → bound_of y ≡ None → HasBound (assembly n bs ms) v → ⊥
bound-none n bs ms v x y h ex ey nx ny hb = by (cases_eq hb.side (2 * v))
  where
    by : (hb.side ≡ 2 * v) ⊎ (hb.side ≡ 2 * v → ⊥) → ⊥
    by (inl e) = hb.finite (ap (λ t. at (assembly n bs ms) t (opposite t)) e ∙ ap (at (assembly n bs ms) (2 * v)) (opposite-even v) ∙ at-assembly n bs ms (2 * v) (2 * v + 1) (omega arith) (omega arith) ∙ sym ex ∙ nx)
    by (inr d) =
        let s = hb.side_is in
        let e : hb.side ≡ 2 * v + 1 = grind (arith, d, s) in
        hb.finite (ap (λ t. at (assembly n bs ms) t (opposite t)) e ∙ ap (at (assembly n bs ms) (2 * v + 1)) (opposite-odd v) ∙ at-assembly n bs ms (2 * v + 1) (2 * v) (omega arith) (omega arith) ∙ sym ey ∙ ny)

-- ---- the list

pub so_far-yes : (n : ℕ) (m : Matrix) (v : ℕ) (xs ys : List ℕ) → IsBoundedSoFar n m v xs → v < n → HasBound m v → ys ≡ xs ++ v ∷ [] → IsBoundedSoFar n m (v + 1) ys
so_far-yes n m v xs ys s h hb e = subst (IsBoundedSoFar n m (v + 1)) (sym e) (record {
  only = λ i p. let l = len in only i (split i (omega arith));
  all = λ u p k. all u k (cases_eq u v) p;
})
  where
    zs : List ℕ
    zs = xs ++ v ∷ []

    len : length zs ≡ length xs + 1
    len = length-append xs (v ∷ [])

    split : (i : ℕ) → i < length xs + 1 → (i < length xs) ⊎ (i ≡ length xs)
    split i p = grind arith

    here : (i : ℕ) → i ≡ length xs → v ≡ member zs i
    here i f = sym (get_or_push xs v 0 i (sym f))

    old : (i : ℕ) → i < length xs → member xs i ≡ member zs i
    old i p = sym (get_or_append_left xs (v ∷ []) 0 i p)

    only : (i : ℕ) → (i < length xs) ⊎ (i ≡ length xs) → (member zs i < n) × HasBound m (member zs i)
    only i (inl p) = subst (λ t. (t < n) × HasBound m t) (old i p) (s.only i p)
    only i (inr f) = subst (λ t. (t < n) × HasBound m t) (here i f) (h, hb)

    earlier : (u : ℕ) → u < v → HasBound m u → (i : ℕ) × (i < length zs) × (member zs i ≡ u)
    earlier u p k = let r = s.all u p k in let q = r.1 in let l = len in (r.0, omega arith, sym (old r.0 r.1) ∙ r.2)

    all : (u : ℕ) → HasBound m u → (u ≡ v) ⊎ (u ≡ v → ⊥) → u < v + 1 → (i : ℕ) × (i < length zs) × (member zs i ≡ u)
    all u k (inl f) p = let l = len in (length xs, omega arith, sym (here (length xs) refl) ∙ sym f)
    all u k (inr d) p = earlier u (grind (arith, d)) k

pub so_far-no : (n : ℕ) (m : Matrix) (v : ℕ) (xs ys : List ℕ) → IsBoundedSoFar n m v xs → (HasBound m v → ⊥) → ys ≡ xs → IsBoundedSoFar n m (v + 1) ys
so_far-no n m v xs ys s none e = subst (IsBoundedSoFar n m (v + 1)) (sym e) (record { only = s.only; all = λ u p k. by u k (cases_eq u v) p })
  where
    by : (u : ℕ) → HasBound m u → (u ≡ v) ⊎ (u ≡ v → ⊥) → u < v + 1 → (i : ℕ) × (i < length xs) × (member xs i ≡ u)
    by u k (inl f) p = absurd (none (subst (HasBound m) f k))
    by u k (inr d) p = s.all u (grind (arith, d)) k

-- ---- the merge

-- a variable that is in a block is below n
pub placed_below : (n : ℕ) (bs : List (List ℕ)) (u : ℕ) → IsPartition n bs → home bs u < length bs → u < n
placed_below n bs u pt h =
    let i = home_in bs u h in
    subst (λ t. t < n) (member-place (block bs (home bs u)) u i) ((pt.blocks (home bs u) h).below (place (block bs (home bs u)) u) i)

touched-from : (n : ℕ) (bs : List (List ℕ)) (m : Matrix) (vs : List ℕ) (u : ℕ) → length m ≡ 2 * n → IsSeparated n bs m → IsBounded n m vs → IsNear bs vs u → IsTouched bs m u
unfolding Finite
touched-from n bs m vs u e sep bd h =
    let b = bd.only h.0 h.1 in
    by (member vs h.0) b.0 b.1 h.2
  where
    by : (x : ℕ) → x < n → HasBound m x → (x ≡ u) ⊎ SameBlock bs x u → IsTouched bs m u
    by x p hb (inl t) =
        let q = hb.side_in in
        subst (IsTouched bs m) (hb.side_is ∙ t) (touched-bound n bs m hb.side e sep (omega arith) hb.finite)
    by x p hb (inr t) = (x, omega arith, same_block-sym bs x u t, hb)

touched-to : (n : ℕ) (bs : List (List ℕ)) (m : Matrix) (vs : List ℕ) (u : ℕ) → length m ≡ 2 * n → IsBounded n m vs → IsTouched bs m u → IsNear bs vs u
touched-to n bs m vs u e bd t =
    let r = bd.all t.0 (omega (arith, t.1)) t.3 in
    (r.0, r.1, inr (subst (λ x. SameBlock bs x u) (sym r.2) (same_block-sym bs u t.0 t.2)))

pub merged-partition : (n : ℕ) (bs cs : List (List ℕ)) (vs : List ℕ) → n ≤ 512 → IsPartition n bs → IsPartition 512 cs → IsMergedBy bs vs cs → ((k : ℕ) → k < length vs → member vs k < n) → IsPartition n cs
merged-partition n bs cs vs small pb pc mg below = record {
  blocks = λ c h. record {
    below = λ i p.
        let b = (pc.blocks c h).below i p in
        let l = pc.homes c i h p in
        by (member (block cs c) i) ((mg.exact (member (block cs c) i) (member (block cs c) i) b b).0 (refl, omega arith));
    rising = (pc.blocks c h).rising;
  };
  homes = pc.homes;
}
  where
    near : (u x : ℕ) → x < n → (x ≡ u) ⊎ SameBlock bs x u → u < n
    near u x p (inl e) = omega arith
    near u x p (inr s) = placed_below n bs u pb (omega (arith, s.0, s.1))

    by : (u : ℕ) → SameBlock bs u u ⊎ (IsNear bs vs u × IsNear bs vs u) → u < n
    by u (inl s) = placed_below n bs u pb s.1
    by u (inr t) = let r = t.0 in near u (member vs r.0) (below r.0 r.1) r.2

pub merged-is : (n : ℕ) (bs cs : List (List ℕ)) (m : Matrix) (vs : List ℕ) → n ≤ 512 → length m ≡ 2 * n → IsSeparated n bs m → IsPartition n bs → IsPartition 512 cs → IsBounded n m vs → IsMergedBy bs vs cs → IsMerged n bs cs m
merged-is n bs cs m vs small e sep pb pc bd mg = record {
  partition = merged-partition n bs cs vs small pb pc mg (λ k p. (bd.only k p).0);
  exact = λ u w p q. (λ h. there u w ((mg.exact u w (omega arith) (omega arith)).0 h), λ h. (mg.exact u w (omega arith) (omega arith)).1 (back u w h));
}
  where
    there : (u w : ℕ) → SameBlock bs u w ⊎ (IsNear bs vs u × IsNear bs vs w) → SameBlock bs u w ⊎ (IsTouched bs m u × IsTouched bs m w)
    there u w (inl s) = inl s
    there u w (inr t) = inr (touched-from n bs m vs u e sep bd t.0, touched-from n bs m vs w e sep bd t.1)

    back : (u w : ℕ) → SameBlock bs u w ⊎ (IsTouched bs m u × IsTouched bs m w) → SameBlock bs u w ⊎ (IsNear bs vs u × IsNear bs vs w)
    back u w (inl s) = inl s
    back u w (inr t) = inr (touched-to n bs m vs u e bd t.0, touched-to n bs m vs w e bd t.1)
