-- A walk over the entries of a value makes its components.
use Rattle.std.proofs.Common.{◌≡◌, ◌⊎◌, inl, inr, ℕ, ◌+◌, ◌*◌, ◌/◌, ◌<◌, ◌≤◌, List, [], ◌∷◌, length, Option, Some, None, zero, suc, refl, sym, ap, ◌∙◌, subst, arith}
use Rattle.std.proofs.lemmas.Bool.{cases_eq, cases_lt}
use Rattle.oct_def.specs.Table.{Matrix}
use Rattle.oct_def.specs.Matrix.{opposite, IsMatrix, IsEvenMatrix}
use Rattle.oct_def.specs.Octagon.{Octagon, IsOctagon, IsValueOver}
use Rattle.oct_def.proofs.Indices.{opposite_below, opposite_same}
use Rattle.block_partition.specs.Partition.{member, block, IsPartition, IsOrdered, SameBlock}
use Rattle.block_partition.specs.Changes.{IsNear, IsMergedBy}
use Rattle.block_laws.specs.Components.{Joins, Linked, One, More}
use Rattle.block_laws.proofs.Components.{same_block-sym}
use Rattle.components.specs.Value.{AreComponents, AreComponentsOf}
use Rattle.components.specs.Walk.{AreJoined, AreLinked, Grows, HasJoins, IsWithin}

same_block-trans : (bs : List (List ℕ)) (u v w : ℕ) → SameBlock bs u v → SameBlock bs v w → SameBlock bs u w
same_block-trans bs u v w h k = (h.0 ∙ k.0, h.1)

same_block-self : (bs : List (List ℕ)) (u w : ℕ) → SameBlock bs u w → SameBlock bs u u
same_block-self bs u w h = (refl, h.1)

-- ---- links go both ways

half-opposite : (i : ℕ) → opposite i / 2 ≡ i / 2
half-opposite i = omega arith

joins-sym : (n : ℕ) (m : Matrix) (u w : ℕ) → IsMatrix n m → Joins m u w → Joins m w u
joins-sym n m u w is h = record {
  row = opposite h.column;
  column = opposite h.row;
  row_in = below h.column h.column_in;
  column_in = below h.row h.row_in;
  row_is = half-opposite h.column ∙ h.column_is;
  column_is = half-opposite h.row ∙ h.row_is;
  apart = λ e. h.apart (sym (opposite_same h.column h.row e));
  finite = λ e. h.finite (is.coherent.twins h.row h.column h.row_in h.column_in ∙ e);
}
  where
    below : (i : ℕ) → i < length m → opposite i < length m
    below i lt =
        let e = is.rows in
        let r = opposite_below n i (omega (arith, lt, e)) in
        omega (arith, r, e)

linked-sym : (n : ℕ) (m : Matrix) (u w : ℕ) → IsMatrix n m → Linked m u w → Linked m w u
linked-sym n m u w is (One _ _ h) = One w u (joins-sym n m u w is h)
linked-sym n m u w is (More _ v _ h k) = More w v u (linked-sym n m v w is k) (linked-sym n m u v is h)

-- ---- one merge

module _ (n : ℕ) (m : Matrix) (is : IsMatrix n m) (bs cs : List (List ℕ)) (a b : ℕ) (joins : Joins m a b) (small_a : a < n) (small_b : b < n) (few : n ≤ 512)
    (within : IsWithin (record { dims = n; matrix = Some m }) bs) where
  near-linked : (u : ℕ) → u < 512 → IsNear bs (a ∷ b ∷ []) u → Linked m a u
  near-linked u lt (zero, _, inl e) = subst (Linked m a) e (More a b a (One a b joins) (One b a (joins-sym n m a b is joins)))
  near-linked u lt (zero, _, inr s) = within.linked a u (omega (arith, small_a, few)) lt s
  near-linked u lt (suc zero, _, inl e) = subst (Linked m a) e (One a b joins)
  near-linked u lt (suc zero, _, inr s) = More a b u (One a b joins) (within.linked b u (omega (arith, small_b, few)) lt s)
  near-linked u lt (suc (suc i), p, h) = absurd (omega (arith, p))

  near-inside : (u : ℕ) → u < 512 → IsNear bs (a ∷ b ∷ []) u → u < n
  near-inside u lt (zero, _, inl e) = subst (λ x. x < n) e small_a
  near-inside u lt (zero, _, inr s) = within.inside u lt (same_block-self bs u a (same_block-sym bs a u s))
  near-inside u lt (suc zero, _, inl e) = subst (λ x. x < n) e small_b
  near-inside u lt (suc zero, _, inr s) = within.inside u lt (same_block-self bs u b (same_block-sym bs b u s))
  near-inside u lt (suc (suc i), p, h) = absurd (omega (arith, p))

  pub merged-within : IsMergedBy bs (a ∷ b ∷ []) cs → IsWithin (record { dims = n; matrix = Some m }) cs
  merged-within merged = record {
    inside = λ u lt s. inside-by u lt ((merged.exact u u lt lt).0 s);
    linked = λ u w lt lt' s. linked-by u w lt lt' ((merged.exact u w lt lt').0 s);
  }
    where
      inside-by : (u : ℕ) → u < 512 → SameBlock bs u u ⊎ (IsNear bs (a ∷ b ∷ []) u × IsNear bs (a ∷ b ∷ []) u) → u < n
      inside-by u lt (inl s) = within.inside u lt s
      inside-by u lt (inr (p, q)) = near-inside u lt p

      linked-by : (u w : ℕ) → u < 512 → w < 512 → SameBlock bs u w ⊎ (IsNear bs (a ∷ b ∷ []) u × IsNear bs (a ∷ b ∷ []) w) → Linked m u w
      linked-by u w lt lt' (inl s) = within.linked u w lt lt' s
      linked-by u w lt lt' (inr (p, q)) = More u a w (linked-sym n m a u is (near-linked u lt p)) (near-linked w lt' q)

pub merged-grows : (bs cs : List (List ℕ)) (vs : List ℕ) → IsMergedBy bs vs cs → Grows bs cs
merged-grows bs cs vs merged = λ u w lt lt' s. (merged.exact u w lt lt').1 (inl s)

pub merged-joined : (bs cs : List (List ℕ)) (a b : ℕ) → a < 512 → b < 512 → IsMergedBy bs (a ∷ b ∷ []) cs → SameBlock cs a b
merged-joined bs cs a b small_a small_b merged = (merged.exact a b small_a small_b).1 (inr ((0, omega arith, inl refl), (1, omega arith, inl refl)))

-- ---- the end of the walk

joins-below : (n : ℕ) (m : Matrix) (u w : ℕ) → length m ≡ 2 * n → Joins m u w → (u < n) × (w < n)
joins-below n m u w e h =
    let p = h.row_in in
    let q = h.column_in in
    let a = h.row_is in
    let b = h.column_is in
    (omega (arith, p, a, e), omega (arith, q, b, e))

linked-same : (n : ℕ) (m : Matrix) (bs : List (List ℕ)) → length m ≡ 2 * n → ((u : ℕ) → u < n → (w : ℕ) → w < n → Joins m u w → SameBlock bs u w)
    → (u w : ℕ) → Linked m u w → SameBlock bs u w
linked-same n m bs e all u w (One _ _ h) = let p = joins-below n m u w e h in all u p.0 w p.1 h
linked-same n m bs e all u w (More _ v _ h k) = same_block-trans bs u v w (linked-same n m bs e all u v h) (linked-same n m bs e all v w k)

partition-below : (v : Octagon) (bs : List (List ℕ)) → IsPartition 512 bs → IsWithin v bs → IsPartition v.dims bs
partition-below v bs is within = record {
  blocks = λ b lt. record {
    below = λ i l. member-below b i lt l;
    rising = (is.blocks b lt).rising;
  };
  homes = is.homes;
}
  where
    member-below : (b i : ℕ) → b < length bs → i < length (block bs b) → member (block bs b) i < v.dims
    member-below b i lt l =
        let e = is.homes b i lt l in
        within.inside (member (block bs b) i) ((is.blocks b lt).below i l) (refl, subst (λ h. h < length bs) (sym e) lt)

pub walked : (v : Octagon) (bs : List (List ℕ)) → IsOctagon v → v.dims ≤ 512 → IsPartition 512 bs → IsOrdered bs → IsWithin v bs
    → ((u : ℕ) → u < v.dims → HasJoins v bs v.dims u) → (v.matrix ≡ None → bs ≡ []) → AreComponentsOf v bs
walked v bs is few partition ordered within all none = record { ordered = ordered; exact = by v.matrix refl }
  where
    by : (o : Option Matrix) → v.matrix ≡ o → AreComponents v.dims v.matrix bs
    by None e = subst (λ o. AreComponents v.dims o bs) (sym e) (none e)
    by (Some m) e =
        let is' : IsEvenMatrix v.dims m = subst (λ o. IsValueOver v.dims o) e is in
        let all' : (u : ℕ) → u < v.dims → (w : ℕ) → w < v.dims → Joins m u w → SameBlock bs u w =
        λ u lt w lt' j. all u lt w lt' (subst (λ o. AreJoined o u w) (sym e) j) in
        subst (λ o. AreComponents v.dims o bs) (sym e) (record {
          partition = partition-below v bs partition within;
          exact = λ u w lt lt'. (λ s. subst (λ o. AreLinked o u w) e (within.linked u w (omega (arith, lt, few)) (omega (arith, lt', few)) s), linked-same v.dims m bs is'.matrix.rows all' u w);
        })

-- ---- one turn of the walk

-- joins of a variable below one number more
joined-next : (v : Octagon) (bs : List (List ℕ)) (u w : ℕ) → HasJoins v bs w u → (AreJoined v.matrix u w → SameBlock bs u w) → HasJoins v bs (w + 1) u
joined-next v bs u w before here x lt j = by (cases_eq x w)
  where
    by : (x ≡ w) ⊎ (x ≡ w → ⊥) → SameBlock bs u x
    by (inl e) = subst (SameBlock bs u) (sym e) (here (subst (AreJoined v.matrix u) e j))
    by (inr other) = before x (by-cases (cases_lt x w)) j
      where
        by-cases : (x < w) ⊎ (w ≤ x) → x < w
        by-cases (inl below) = below
        by-cases (inr above) = absurd (other (omega (arith, lt, above)))

joined-grows : (v : Octagon) (bs cs : List (List ℕ)) (u w : ℕ) → u < 512 → w ≤ 512 → Grows bs cs → HasJoins v bs w u → HasJoins v cs w u
joined-grows v bs cs u w small few grows before x lt j = grows u x small (omega (arith, lt, few)) (before x lt j)

module _ (v : Octagon) (first bs cs : List (List ℕ)) (u w : ℕ) (is : IsOctagon v) (few : v.dims ≤ 512) (small_u : u < v.dims) (small_w : w < v.dims)
    (joined : AreJoined v.matrix u w) (merged : IsMergedBy bs (u ∷ w ∷ []) cs) where
  pub turn-within : (IsWithin v first → IsWithin v bs) → IsWithin v first → IsWithin v cs
  turn-within before start = by v.matrix refl
    where
      by : (o : Option Matrix) → v.matrix ≡ o → IsWithin v cs
      by None e = absurd (subst (λ o. AreJoined o u w) e joined)
      by (Some m) e =
          let same : v ≡ record { dims = v.dims; matrix = Some m } = ap (λ (o : Option Matrix). record { dims = v.dims; matrix = o }) e in
          let is' : IsEvenMatrix v.dims m = subst (λ o. IsValueOver v.dims o) e is in
          subst (λ x. IsWithin x cs) (sym same)
          (merged-within v.dims m is'.matrix bs cs u w (subst (λ o. AreJoined o u w) e joined) small_u small_w few (subst (λ x. IsWithin x bs) same (before start)) merged)

  pub turn-grows : Grows first bs → Grows first cs
  turn-grows before = λ x y lt lt' s. merged-grows bs cs (u ∷ w ∷ []) merged x y lt lt' (before x y lt lt' s)

  pub turn-joined : HasJoins v bs w u → HasJoins v cs (w + 1) u
  turn-joined before = joined-next v cs u w
      (joined-grows v bs cs u w (omega (arith, small_u, few)) (omega (arith, small_w, few)) (merged-grows bs cs (u ∷ w ∷ []) merged) before)
      (λ j. merged-joined bs cs u w (omega (arith, small_u, few)) (omega (arith, small_w, few)) merged)

pub stay-joined : (v : Octagon) (bs : List (List ℕ)) (u w : ℕ) → (AreJoined v.matrix u w → ⊥) → HasJoins v bs w u → HasJoins v bs (w + 1) u
stay-joined v bs u w never before = joined-next v bs u w before (λ j. absurd (never j))
