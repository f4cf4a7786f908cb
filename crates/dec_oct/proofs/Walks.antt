-- The walk over the entries of one block's matrix.
use Rattle.std.proofs.Common.{◌≡◌, ℕ, ◌+◌, ◌*◌, ◌/◌, ◌<◌, ◌≤◌, ◌⊎◌, inl, inr, List, [], ◌∷◌, ◌++◌, length, None, refl, sym, ap, ◌∙◌, subst, arith, map, length-append}
use Rattle.std.proofs.lemmas.Bool.{eq-eqb, ne_eqb, cases_eq, cond-true, cond-false}
use Rattle.std.proofs.lemmas.List.{get_or-map, length-map, get_or_push, get_or_append_left}
use Rattle.oct_def.specs.Table.{Matrix, at}
use Rattle.oct_def.specs.Matrix.{opposite, IsCoherent}
use Rattle.oct_def.proofs.Indices.{opposite_same}
use Rattle.block_partition.specs.Partition.{member}
use Rattle.block_partition.specs.Changes.{leaving}
use Rattle.block_laws.specs.Components.{Joins, Linked, One, More}
use Rattle.dec_oct.specs.Cut.{relabelled, Chain, Same, Then, IsSound, IsDone, IsChainLabels, SameLabel, IsLinkLabels}

-- ---- entries that join members

pub joins-at : (m : Matrix) (u w i j : ℕ) → i < length m → j < length m → i / 2 ≡ u → j / 2 ≡ w → (i ≡ j → ⊥) × (at m i j ≡ None → ⊥) → Joins m u w
joins-at m u w i j p q f g h = record { row = i; column = j; row_in = p; column_in = q; row_is = f; column_is = g; apart = h.0; finite = h.1 }

pub joins-none : (m : Matrix) (u w : ℕ) → ((2 * u ≡ 2 * w → ⊥) → at m (2 * u) (2 * w) ≡ None) → ((2 * u ≡ 2 * w + 1 → ⊥) → at m (2 * u) (2 * w + 1) ≡ None)
    → ((2 * u + 1 ≡ 2 * w → ⊥) → at m (2 * u + 1) (2 * w) ≡ None) → ((2 * u + 1 ≡ 2 * w + 1 → ⊥) → at m (2 * u + 1) (2 * w + 1) ≡ None) → Joins m u w → ⊥
joins-none m u w ee eo oe oo k = by (side k.row u k.row_is) (side k.column w k.column_is)
  where
    side : (i v : ℕ) → i / 2 ≡ v → (i ≡ 2 * v) ⊎ (i ≡ 2 * v + 1)
    side i v e = grind arith

    at_none : (i j : ℕ) → k.row ≡ i → k.column ≡ j → ((i ≡ j → ⊥) → at m i j ≡ None) → ⊥
    at_none i j e f h = k.finite (ap (λ t. at m t k.column) e ∙ ap (at m i) f ∙ h (λ t. k.apart (e ∙ t ∙ sym f)))

    by : (k.row ≡ 2 * u) ⊎ (k.row ≡ 2 * u + 1) → (k.column ≡ 2 * w) ⊎ (k.column ≡ 2 * w + 1) → ⊥
    by (inl e) (inl f) = at_none _ _ e f ee
    by (inl e) (inr f) = at_none _ _ e f eo
    by (inr e) (inl f) = at_none _ _ e f oe
    by (inr e) (inr f) = at_none _ _ e f oo

pub joins-turned : (n : ℕ) (m : Matrix) (u w : ℕ) → length m ≡ 2 * n → IsCoherent m → Joins m u w → Joins m w u
joins-turned n m u w e c k =
    let p = k.row_in in
    let q = k.column_in in
    let f = k.row_is in
    let g = k.column_is in
    record {
      row = opposite k.column;
      column = opposite k.row;
      row_in = omega arith;
      column_in = omega arith;
      row_is = omega arith;
      column_is = omega arith;
      apart = λ t. k.apart (sym (opposite_same k.column k.row t));
      finite = λ t. k.finite (c.twins k.row k.column p q ∙ t);
    }

joins-below : (n : ℕ) (m : Matrix) (u w : ℕ) → length m ≡ 2 * n → Joins m u w → (u < n) × (w < n)
joins-below n m u w e k =
    let p = k.row_in in
    let q = k.column_in in
    let f = k.row_is in
    let g = k.column_is in
    (omega arith, omega arith)

pub column_below : (m : Matrix) (u w : ℕ) → Joins m u w → 2 * w < length m
column_below m u w k =
    let q = k.column_in in
    let g = k.column_is in
    omega arith

-- what a block's matrix is, in its size
pub record IsWalked (n : ℕ) (m : Matrix) : Type 0 where
  pub rows : length m ≡ 2 * n
  pub coherent : IsCoherent m

turned : (n : ℕ) (m : Matrix) → IsWalked n m → (u w : ℕ) → Joins m u w → Joins m w u
turned n m s u w k = joins-turned n m u w s.rows s.coherent k

-- ---- chains

chain-append : (m : Matrix) (u v w : ℕ) → Chain m u v → Chain m v w → Chain m u w
chain-append m u v w c (Same _) = c
chain-append m u v w c (Then _ x _ d h) = Then u x w (chain-append m u v x c d) h

chain-one : (m : Matrix) (u w : ℕ) → Joins m u w → Chain m u w
chain-one m u w h = Then u u w (Same u) h

-- ---- one relabelling

relabelled-from : (from to l : ℕ) → l ≡ from → relabelled from to l ≡ to
relabelled-from from to l e = cond-true _ _ _ (eq-eqb l from e)

relabelled-other : (from to l : ℕ) → (l ≡ from → ⊥) → relabelled from to l ≡ l
relabelled-other from to l d = cond-false _ _ _ (ne_eqb l from d)

relabelled-to : (from to : ℕ) → relabelled from to to ≡ to
relabelled-to from to = by (cases_eq to from)
  where
    by : (to ≡ from) ⊎ (to ≡ from → ⊥) → relabelled from to to ≡ to
    by (inl e) = relabelled-from from to to e
    by (inr d) = relabelled-other from to to d

member-map : (f : ℕ → ℕ) (ls : List ℕ) (x : ℕ) → x < length ls → member (map f ls) x ≡ f (member ls x)
member-map f ls x h = get_or-map f ls x 0 0 h

sound-step : (n : ℕ) (m : Matrix) (ls : List ℕ) (u w : ℕ) → IsWalked n m → IsSound n m ls → Joins m u w → IsSound n m (map (relabelled (member ls w) (member ls u)) ls)
sound-step n m ls u w s0 s h = record {
  size = length-map ls (relabelled (member ls w) (member ls u)) ∙ s.size;
  small = λ x p.
      let z = s.size in
      subst (λ t. t < n) (sym (member-map _ ls x (omega arith))) (low x p (cases_eq (member ls x) (member ls w)));
  chain = λ x y p q e.
      let z = s.size in
      let f : relabelled (member ls w) (member ls u) (member ls x) ≡ relabelled (member ls w) (member ls u) (member ls y) =
      sym (member-map _ ls x (omega arith)) ∙ e ∙ member-map _ ls y (omega arith) in
      by x y p q f (cases_eq (member ls x) (member ls w)) (cases_eq (member ls y) (member ls w));
}
  where
    un : u < n
    un = (joins-below n m u w s0.rows h).0

    wn : w < n
    wn = (joins-below n m u w s0.rows h).1

    low : (x : ℕ) → x < n → (member ls x ≡ member ls w) ⊎ (member ls x ≡ member ls w → ⊥) → relabelled (member ls w) (member ls u) (member ls x) < n
    low x p (inl a) = subst (λ t. t < n) (sym (relabelled-from _ (member ls u) _ a)) (s.small u un)
    low x p (inr a) = subst (λ t. t < n) (sym (relabelled-other _ (member ls u) _ a)) (s.small x p)

    by : (x y : ℕ) → x < n → y < n → relabelled (member ls w) (member ls u) (member ls x) ≡ relabelled (member ls w) (member ls u) (member ls y)
        → (member ls x ≡ member ls w) ⊎ (member ls x ≡ member ls w → ⊥) → (member ls y ≡ member ls w) ⊎ (member ls y ≡ member ls w → ⊥) → Chain m x y
    by x y p q e (inl a) (inl b) = s.chain x y p q (a ∙ sym b)
    by x y p q e (inl a) (inr b) =
        let t : member ls u ≡ member ls y = sym (relabelled-from _ (member ls u) _ a) ∙ e ∙ relabelled-other _ (member ls u) _ b in
        chain-append m x w y (s.chain x w p wn a) (chain-append m w u y (chain-one m w u (turned n m s0 u w h)) (s.chain u y un q t))
    by x y p q e (inr a) (inl b) =
        let t : member ls x ≡ member ls u = sym (relabelled-other _ (member ls u) _ a) ∙ e ∙ relabelled-from _ (member ls u) _ b in
        chain-append m x u y (s.chain x u p un t) (chain-append m u w y (chain-one m u w h) (s.chain w y wn q (sym b)))
    by x y p q e (inr a) (inr b) = s.chain x y p q (sym (relabelled-other _ (member ls u) _ a) ∙ e ∙ relabelled-other _ (member ls u) _ b)

same-mapped : (f : ℕ → ℕ) (ls : List ℕ) (x y : ℕ) → x < length ls → y < length ls → member ls x ≡ member ls y → member (map f ls) x ≡ member (map f ls) y
same-mapped f ls x y p q e = member-map f ls x p ∙ ap f e ∙ sym (member-map f ls y q)

done-step : (n : ℕ) (m : Matrix) (ls : List ℕ) (u w : ℕ) → length m ≡ 2 * n → length ls ≡ n → IsDone m ls u w → Joins m u w → IsDone m (map (relabelled (member ls w) (member ls u)) ls) u (w + 1)
done-step n m ls u w e0 size d h = record {
  rows = λ x y p k. let b = joins-below n m x y e0 k in let b0 = b.0 in let b1 = b.1 in same-mapped _ ls x y (omega arith) (omega arith) (d.rows x y p k);
  row = λ y p k. by y k (cases_eq y w) p;
}
  where
    f : ℕ → ℕ
    f = relabelled (member ls w) (member ls u)

    by : (y : ℕ) → Joins m u y → (y ≡ w) ⊎ (y ≡ w → ⊥) → y < w + 1 → member (map f ls) u ≡ member (map f ls) y
    by y k (inl e) p =
        let b = joins-below n m u y e0 k in
        let b0 = b.0 in
        let b1 = b.1 in
        member-map f ls u (omega arith) ∙ relabelled-to (member ls w) (member ls u)
        ∙ sym (relabelled-from (member ls w) (member ls u) (member ls y) (ap (member ls) e)) ∙ sym (member-map f ls y (omega arith))
    by y k (inr e) p =
        let b = joins-below n m u y e0 k in
        let b0 = b.0 in
        let b1 = b.1 in
        same-mapped f ls u y (omega arith) (omega arith) (d.row y (grind (arith, e)) k)

done-skip : (m : Matrix) (ls : List ℕ) (u w : ℕ) → IsDone m ls u w → (Joins m u w → ⊥) → IsDone m ls u (w + 1)
done-skip m ls u w d free = record { rows = d.rows; row = λ y p k. by y k (cases_eq y w) p }
  where
    by : (y : ℕ) → Joins m u y → (y ≡ w) ⊎ (y ≡ w → ⊥) → y < w + 1 → member ls u ≡ member ls y
    by y k (inl e) p = absurd (free (subst (Joins m u) e k))
    by y k (inr e) p = d.row y (grind (arith, e)) k

pub done-row : (n : ℕ) (m : Matrix) (ls : List ℕ) (u w : ℕ) → length m ≡ 2 * n → IsDone m ls u w → n ≤ w → IsDone m ls (u + 1) 0
done-row n m ls u w e0 d h = record { rows = λ x y p k. by x y k (cases_eq x u) p; row = λ y p k. absurd (omega arith) }
  where
    by : (x y : ℕ) → Joins m x y → (x ≡ u) ⊎ (x ≡ u → ⊥) → x < u + 1 → member ls x ≡ member ls y
    by x y k (inl e) p =
        let b = (joins-below n m x y e0 k).1 in
        ap (member ls) e ∙ d.row y (omega arith) (subst (λ t. Joins m t y) e k)
    by x y k (inr e) p = d.rows x y (grind (arith, e)) k

pub walk-start : (n : ℕ) (m : Matrix) (ls : List ℕ) → length ls ≡ n → ((k : ℕ) → k < n → member ls k ≡ k) → IsSound n m ls × IsDone m ls 0 0
walk-start n m ls size own = (
  record { size = size; small = λ x p. subst (λ t. t < n) (sym (own x p)) p; chain = λ x y p q e. let f : x ≡ y = sym (own x p) ∙ e ∙ own y q in subst (Chain m x) f (Same x) },
  record { rows = λ x y p k. absurd (omega arith); row = λ y p k. absurd (omega arith) },
)

pub walk-yes : (n : ℕ) (m : Matrix) (ls ns : List ℕ) (u w : ℕ) → IsWalked n m → IsSound n m ls × IsDone m ls u w → Joins m u w → ns ≡ map (relabelled (member ls w) (member ls u)) ls → IsSound n m ns × IsDone m ns u (w + 1)
walk-yes n m ls ns u w s0 h k e =
    (subst (IsSound n m) (sym e) (sound-step n m ls u w s0 h.0 k), subst (λ t. IsDone m t u (w + 1)) (sym e) (done-step n m ls u w s0.rows h.0.size h.1 k))

pub walk-no : (n : ℕ) (m : Matrix) (ls ns : List ℕ) (u w : ℕ) → IsSound n m ls × IsDone m ls u w → (Joins m u w → ⊥) → ns ≡ ls → IsSound n m ns × IsDone m ns u (w + 1)
walk-no n m ls ns u w h free e = (subst (IsSound n m) (sym e) h.0, subst (λ t. IsDone m t u (w + 1)) (sym e) (done-skip m ls u w h.1 free))

pub walk-end : (n : ℕ) (m : Matrix) (ls : List ℕ) (u : ℕ) → length m ≡ 2 * n → IsSound n m ls → IsDone m ls u 0 → n ≤ u → IsChainLabels n m ls
walk-end n m ls u e0 s d h = record { size = s.size; small = s.small; exact = λ x y p q. (s.chain x y p q, back x y) }
  where
    back : (x y : ℕ) → Chain m x y → member ls x ≡ member ls y
    back x y (Same _) = refl
    back x y (Then _ v _ c k) = let r = (joins-below n m v y e0 k).0 in back x v c ∙ d.rows v y (omega arith) k

-- ---- members that no entry joins to any

abbrev pub HasJoin : Matrix → ℕ → Type 0
HasJoin m u = (w : ℕ) × Joins m u w

pub record KeptSoFar (m : Matrix) (labels : List ℕ) (v : ℕ) (kept : List ℕ) : Type 0 where
  pub size : length kept ≡ v
  pub each : (x : ℕ) → x < v → (HasJoin m x × (member kept x ≡ member labels x)) ⊎ ((HasJoin m x → ⊥) × (member kept x ≡ leaving))

kept-more : (m : Matrix) (labels kept ks : List ℕ) (v l : ℕ) → KeptSoFar m labels v kept → ks ≡ kept ++ l ∷ [] → (HasJoin m v × (l ≡ member labels v)) ⊎ ((HasJoin m v → ⊥) × (l ≡ leaving)) → KeptSoFar m labels (v + 1) ks
kept-more m labels kept ks v l s e h = subst (KeptSoFar m labels (v + 1)) (sym e) (record {
  size = let z = s.size in length-append kept (l ∷ []) ∙ omega arith;
  each = λ x p. by x p (cases_eq x v);
})
  where
    by : (x : ℕ) → x < v + 1 → (x ≡ v) ⊎ (x ≡ v → ⊥) → (HasJoin m x × (member (kept ++ l ∷ []) x ≡ member labels x)) ⊎ ((HasJoin m x → ⊥) × (member (kept ++ l ∷ []) x ≡ leaving))
    by x p (inl f) =
        subst (λ t. (HasJoin m x × (t ≡ member labels x)) ⊎ ((HasJoin m x → ⊥) × (t ≡ leaving))) (sym (get_or_push kept l 0 x (s.size ∙ sym f)))
        (subst (λ t. (HasJoin m t × (l ≡ member labels t)) ⊎ ((HasJoin m t → ⊥) × (l ≡ leaving))) (sym f) h)
    by x p (inr d) =
        let q : x < v = grind (arith, d) in
        let z = s.size in
        subst (λ t. (HasJoin m x × (t ≡ member labels x)) ⊎ ((HasJoin m x → ⊥) × (t ≡ leaving))) (sym (get_or_append_left kept (l ∷ []) 0 x (omega arith))) (s.each x q)

pub kept-joined : (m : Matrix) (labels kept ks : List ℕ) (v l : ℕ) → KeptSoFar m labels v kept → ks ≡ kept ++ l ∷ [] → HasJoin m v → l ≡ member labels v → KeptSoFar m labels (v + 1) ks
kept-joined m labels kept ks v l s e h f = kept-more m labels kept ks v l s e (inl (h, f))

pub kept-free : (m : Matrix) (labels kept ks : List ℕ) (v : ℕ) → KeptSoFar m labels v kept → ks ≡ kept ++ leaving ∷ [] → ((w : ℕ) → Joins m v w → ⊥) → KeptSoFar m labels (v + 1) ks
kept-free m labels kept ks v s e h = kept-more m labels kept ks v leaving s e (inr (λ k. h k.0 k.1, refl))

linked-first : (m : Matrix) (u w : ℕ) → Linked m u w → HasJoin m u
linked-first m u w (One _ _ k) = (w, k)
linked-first m u w (More _ v _ k l) = linked-first m u v k

linked-last : (n : ℕ) (m : Matrix) (u w : ℕ) → IsWalked n m → Linked m u w → HasJoin m w
linked-last n m u w s (One _ _ k) = (u, turned n m s u w k)
linked-last n m u w s (More _ v _ k l) = linked-last n m v w s l

chain-linked : (m : Matrix) (u w : ℕ) → Linked m u w → Chain m u w
chain-linked m u w (One _ _ k) = chain-one m u w k
chain-linked m u w (More _ v _ k l) = chain-append m u v w (chain-linked m u v k) (chain-linked m v w l)

linked-chain : (n : ℕ) (m : Matrix) (u w : ℕ) → IsWalked n m → HasJoin m u → Chain m u w → Linked m u w
linked-chain n m u w s h (Same _) = More u h.0 u (One _ _ h.1) (One _ _ (turned n m s u h.0 h.1))
linked-chain n m u w s h (Then _ v _ c k) = More u v w (linked-chain n m u v s h c) (One _ _ k)

pub links-all : (n : ℕ) (m : Matrix) (labels kept : List ℕ) (v : ℕ) → IsWalked n m → n ≤ 512 → IsChainLabels n m labels → KeptSoFar m labels v kept → v ≡ n → IsLinkLabels n m kept
links-all n m labels kept v s0 few c s e = record { size = s.size ∙ e; exact = λ u w p q. (λ t. there u w p q t (s.each u (omega arith)) (s.each w (omega arith)), λ l. back u w p q l (s.each u (omega arith)) (s.each w (omega arith))) }
  where
    there : (u w : ℕ) → u < n → w < n → SameLabel kept u w → (HasJoin m u × (member kept u ≡ member labels u)) ⊎ ((HasJoin m u → ⊥) × (member kept u ≡ leaving))
        → (HasJoin m w × (member kept w ≡ member labels w)) ⊎ ((HasJoin m w → ⊥) × (member kept w ≡ leaving)) → Linked m u w
    there u w p q t (inl a) (inl b) = linked-chain n m u w s0 a.0 ((c.exact u w p q).0 (sym a.1 ∙ t.0 ∙ b.1))
    there u w p q t (inl a) (inr b) = absurd (t.1 (t.0 ∙ b.1))
    there u w p q t (inr a) d = absurd (t.1 a.1)

    back : (u w : ℕ) → u < n → w < n → Linked m u w → (HasJoin m u × (member kept u ≡ member labels u)) ⊎ ((HasJoin m u → ⊥) × (member kept u ≡ leaving))
        → (HasJoin m w × (member kept w ≡ member labels w)) ⊎ ((HasJoin m w → ⊥) × (member kept w ≡ leaving)) → SameLabel kept u w
    back u w p q l (inl a) (inl b) =
        (a.1 ∙ (c.exact u w p q).1 (chain-linked m u w l) ∙ sym b.1, λ t. let z = c.small u p in let f : member labels u ≡ leaving = sym a.1 ∙ t in absurd (omega arith))
    back u w p q l (inl a) (inr b) = absurd (b.0 (linked-last n m u w s0 l))
    back u w p q l (inr a) d = absurd (a.0 (linked-first m u w l))

pub links-size : (k n : ℕ) (m : Matrix) (labels : List ℕ) → 2 * n ≡ length m → length m ≡ 2 * k → IsLinkLabels n m labels → IsLinkLabels k m labels
links-size k n m labels e f h = subst (λ t. IsLinkLabels t m labels) (let g : n ≡ k = omega arith in g) h

pub chains-size : (k n : ℕ) (m : Matrix) (labels : List ℕ) → 2 * n ≡ length m → length m ≡ 2 * k → IsChainLabels n m labels → IsChainLabels k m labels
chains-size k n m labels e f h = subst (λ t. IsChainLabels t m labels) (let g : n ≡ k = omega arith in g) h

-- ---- numbers that are pushed in turn

pub own-pushed : (xs ys : List ℕ) (n : ℕ) → (length xs ≡ n) × ((k : ℕ) → k < n → member xs k ≡ k) → ys ≡ xs ++ n ∷ [] → (length ys ≡ n + 1) × ((k : ℕ) → k < n + 1 → member ys k ≡ k)
own-pushed xs ys n h e =
    let size = h.0 in
    (ap length e ∙ length-append xs (n ∷ []) ∙ omega arith, λ k p. ap (λ zs. member zs k) e ∙ by k p (cases_eq k n))
  where
    by : (k : ℕ) → k < n + 1 → (k ≡ n) ⊎ (k ≡ n → ⊥) → member (xs ++ n ∷ []) k ≡ k
    by k p (inl f) = get_or_push xs n 0 k (h.0 ∙ sym f) ∙ sym f
    by k p (inr f) = let q : k < n = grind (arith, f) in get_or_append_left xs (n ∷ []) 0 k (omega (arith, h.0)) ∙ h.1 k q
