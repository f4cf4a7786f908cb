-- The partition that labels make.
use Rattle.std.proofs.Common.{◌≡◌, ℕ, ◌+◌, ◌<◌, ◌≤◌, ◌⊎◌, inl, inr, Bool, true, false, cond, List, [], ◌∷◌, ◌++◌, length, length-append, append-nil, refl, sym, ap, ◌∙◌, subst, arith, zero, suc, ltb, Option, None}
use Rattle.std.specs.Prelude.{◌↔◌}
use Rattle.std.proofs.lemmas.Bool.{cases_lt, cases_eq, both_ways, eqb-true, eq-eqb, and_parts, and_from, lt-ltb, le-ltb, not-true, not_from_false}
use Rattle.std.proofs.lemmas.List.{get_or-map, length-map, get_or_append_left, get_or_push}
use Rattle.std.proofs.lemmas.List.Sums.{position_or_len_is}
use Rattle.block_partition.specs.Partition.{member, place, IsIn, block, home, SameBlock, IsBlock, IsPartition, IsOrdered}
use Rattle.block_partition.specs.Grouping.{Label, label, first_with, kept, has_label_of, is_leader, group, grouped}
use Rattle.block_partition.proofs.Labels.{same-true, same-from, same-not, label-first, before-first, first-in}
use Rattle.block_partition.proofs.Places.{member-place, in-member, home_in}

-- two variables have one label
pub record SameLabel (labels : List (Option Label)) (u w : ℕ) : Type 0 where
  pub first : u < length labels
  pub second : w < length labels
  pub same : label labels u ≡ label labels w
  pub labelled : label labels u ≡ None → ⊥

-- ---- the numbers that pass a test

-- what kept numbers are
pub record IsKept (test : ℕ → Bool) (n : ℕ) (xs : List ℕ) : Type 0 where
  pub below : (i : ℕ) → i < length xs → member xs i < n
  pub rising : (i j : ℕ) → i < j → j < length xs → member xs i < member xs j
  pub passes : (i : ℕ) → i < length xs → test (member xs i) ≡ true
  pub all : (v : ℕ) → v < n → test v ≡ true → (i : ℕ) × (i < length xs) × (member xs i ≡ v)

kept-more : (test : ℕ → Bool) (n : ℕ) (xs : List ℕ) → IsKept test n xs → (b : Bool) → test n ≡ b → IsKept test (suc n) (xs ++ cond b (n ∷ []) [])
kept-more test n xs k false e = subst (IsKept test (suc n)) (sym (append-nil xs)) (record {
  below = λ i p. let r = k.below i p in omega arith;
  rising = k.rising;
  passes = k.passes;
  all = λ v p t. k.all v (smaller v p t (cases_eq v n)) t;
})
  where
    smaller : (v : ℕ) → v < suc n → test v ≡ true → (v ≡ n) ⊎ (v ≡ n → ⊥) → v < n
    smaller v p t (inl f) = absurd (both_ways (test n) e (ap test (sym f) ∙ t))
    smaller v p t (inr f) = grind (arith, f)
kept-more test n xs k true e = record {
  below = λ i p. let l = len in below i (split i (omega arith));
  rising = λ i j p q. let l = len in rising i j p (split j (omega arith));
  passes = λ i p. let l = len in passes i (split i (omega arith));
  all = λ v p t. all v p t (cases_eq v n);
}
  where
    ys : List ℕ
    ys = xs ++ n ∷ []

    len : length ys ≡ length xs + 1
    len = length-append xs (n ∷ [])

    split : (i : ℕ) → i < length xs + 1 → (i < length xs) ⊎ (i ≡ length xs)
    split i p = grind arith

    old : (i : ℕ) → i < length xs → member ys i ≡ member xs i
    old i p = get_or_append_left xs (n ∷ []) 0 i p

    last : (i : ℕ) → i ≡ length xs → member ys i ≡ n
    last i f = get_or_push xs n 0 i (sym f)

    below : (i : ℕ) → (i < length xs) ⊎ (i ≡ length xs) → member ys i < suc n
    below i (inl p) = let r = k.below i p in let o = old i p in omega arith
    below i (inr f) = let o = last i f in omega arith

    rising : (i j : ℕ) → i < j → (j < length xs) ⊎ (j ≡ length xs) → member ys i < member ys j
    rising i j p (inl q) = let r = k.rising i j p q in let o = old i (omega arith) in let t = old j q in omega arith
    rising i j p (inr f) = let r = k.below i (omega arith) in let o = old i (omega arith) in let t = last j f in omega arith

    passes : (i : ℕ) → (i < length xs) ⊎ (i ≡ length xs) → test (member ys i) ≡ true
    passes i (inl p) = ap test (old i p) ∙ k.passes i p
    passes i (inr f) = ap test (last i f) ∙ e

    here : (v : ℕ) → v < n → test v ≡ true → (i : ℕ) × (i < length ys) × (member ys i ≡ v)
    here v p t = let r = k.all v p t in let l = len in let q = r.1 in (r.0, omega arith, old r.0 r.1 ∙ r.2)

    all : (v : ℕ) → v < suc n → test v ≡ true → (v ≡ n) ⊎ (v ≡ n → ⊥) → (i : ℕ) × (i < length ys) × (member ys i ≡ v)
    all v p t (inl f) = let l = len in (length xs, omega arith, last (length xs) refl ∙ sym f)
    all v p t (inr f) = here v (grind (arith, f)) t

pub kept-is : (test : ℕ → Bool) (n : ℕ) → IsKept test n (kept test n)
unfolding kept
kept-is test zero = record { below = λ i p. absurd (omega arith); rising = λ i j p q. absurd (omega arith); passes = λ i p. absurd (omega arith); all = λ v p e. absurd (omega arith) }
kept-is test (suc n) = kept-more test n (kept test n) (kept-is test n) (test n) refl

-- ---- groups

unfoldable pub leaders : List (Option Label) → List ℕ
leaders labels = kept (is_leader labels) (length labels)

pub leaders-are : (labels : List (Option Label)) → IsKept (is_leader labels) (length labels) (leaders labels)
unfolding leaders
leaders-are labels = kept-is (is_leader labels) (length labels)

group-is : (labels : List (Option Label)) (v : ℕ) → IsKept (has_label_of labels v) (length labels) (group labels v)
unfolding group
group-is labels v = kept-is (has_label_of labels v) (length labels)

pub length-grouped : (labels : List (Option Label)) → length (grouped labels) ≡ length (leaders labels)
unfolding grouped leaders
length-grouped labels = length-map (kept (is_leader labels) (length labels)) (group labels)

pub block-grouped : (labels : List (Option Label)) (b : ℕ) → b < length (leaders labels) → block (grouped labels) b ≡ group labels (member (leaders labels) b)
unfolding grouped leaders
block-grouped labels b h = get_or-map (group labels) (kept (is_leader labels) (length labels)) b 0 [] h

-- what is known of a leader
pub record Leads (labels : List (Option Label)) (v : ℕ) : Type 0 where
  pub labelled : label labels v ≡ None → ⊥
  pub first : first_with labels (label labels v) ≡ v

pub leads : (labels : List (Option Label)) (v : ℕ) → is_leader labels v ≡ true → Leads labels v
unfolding is_leader
leads labels v h =
    let r = and_parts _ _ h in
    record { labelled = λ e. both_ways _ (not-true _ r.0) (same-from _ _ e); first = eqb-true _ _ r.1 }

leader-from : (labels : List (Option Label)) (v : ℕ) → Leads labels v → is_leader labels v ≡ true
unfolding is_leader
leader-from labels v h = and_from _ _ (not_from_false _ (same-not _ _ h.labelled)) (eq-eqb _ _ h.first)

pub leader-at : (labels : List (Option Label)) (b : ℕ) → b < length (leaders labels) → Leads labels (member (leaders labels) b)
leader-at labels b h = leads labels _ ((leaders-are labels).passes b h)

group-home : (labels : List (Option Label)) (v w : ℕ) → IsIn (group labels v) w → (label labels w ≡ label labels v) × (w < length labels)
unfolding has_label_of
group-home labels v w h =
    let k = group-is labels v in
    let e = member-place (group labels v) w h in
    (ap (label labels) (sym e) ∙ same-true _ _ (k.passes (place (group labels v) w) h), (let r = k.below (place (group labels v) w) h in omega arith))

pub group-has : (labels : List (Option Label)) (v w : ℕ) → w < length labels → label labels w ≡ label labels v → IsIn (group labels v) w
unfolding has_label_of
group-has labels v w p e =
    let r = (group-is labels v).all w p (same-from _ _ e) in
    subst (IsIn (group labels v)) r.2 (in-member (group labels v) r.0 r.1)

pub home-group : (labels : List (Option Label)) (v b : ℕ) → b < length (leaders labels) → IsIn (group labels (member (leaders labels) b)) v → home (grouped labels) v ≡ b
unfolding home
home-group labels v b h i =
    position_or_len_is (λ vs. ltb (place vs v) (length vs)) (grouped labels) b [] (omega (arith, length-grouped labels))
    (λ k p. le-ltb _ _ (apart k p (cases_lt (place (block (grouped labels) k) v) (length (block (grouped labels) k)))))
    (λ p. lt-ltb _ _ (subst (λ vs. IsIn vs v) (sym (block-grouped labels b h)) i))
  where
    apart : (k : ℕ) → k < b → (place (block (grouped labels) k) v < length (block (grouped labels) k)) ⊎ (length (block (grouped labels) k) ≤ place (block (grouped labels) k) v) → length (block (grouped labels) k) ≤ place (block (grouped labels) k) v
    apart k p (inr q) = q
    apart k p (inl q) =
        let hk : k < length (leaders labels) = omega arith in
        let there = group-home labels _ v (subst (λ vs. IsIn vs v) (block-grouped labels k hk) q) in
        let here = group-home labels _ v i in
        let same : member (leaders labels) k ≡ member (leaders labels) b =
        sym (leader-at labels k hk).first ∙ ap (first_with labels) (sym there.0 ∙ here.0) ∙ (leader-at labels b h).first in
        let r = (leaders-are labels).rising k b p h in
        absurd (omega arith)

pub partition-grouped : (labels : List (Option Label)) → IsPartition (length labels) (grouped labels)
partition-grouped labels = record {
  blocks = λ b h.
      let g : b < length (leaders labels) = omega (arith, length-grouped labels) in
      subst (IsBlock (length labels)) (sym (block-grouped labels b g))
      (record { below = (group-is labels _).below; rising = (group-is labels _).rising });
  homes = λ b i h p.
      let g : b < length (leaders labels) = omega (arith, length-grouped labels) in
      home-group labels _ b g (subst (λ vs. IsIn vs (member (block (grouped labels) b) i)) (block-grouped labels b g) (in-member (block (grouped labels) b) i p));
}

-- the block of a labelled variable
find-leader : (labels : List (Option Label)) (u : ℕ) → u < length labels → (label labels u ≡ None → ⊥) → (b : ℕ) × (b < length (leaders labels)) × (label labels (member (leaders labels) b) ≡ label labels u)
find-leader labels u p d =
    let l = first_with labels (label labels u) in
    let q : l < length labels = first-in labels u p in
    let f : label labels l ≡ label labels u = label-first labels (label labels u) q in
    let r = (leaders-are labels).all l q (leader-from labels l (record { labelled = λ e. d (sym f ∙ e); first = ap (first_with labels) f })) in
    (r.0, r.1, ap (label labels) r.2 ∙ f)

pub same_block-grouped : (labels : List (Option Label)) (u w : ℕ) → SameBlock (grouped labels) u w ↔ SameLabel labels u w
same_block-grouped labels u w = (there, back)
  where
    there : SameBlock (grouped labels) u w → SameLabel labels u w
    there h =
        let b = home (grouped labels) u in
        let g : b < length (leaders labels) = omega (arith, length-grouped labels, h.1) in
        let iu : IsIn (block (grouped labels) b) u = home_in (grouped labels) u h.1 in
        let iw : IsIn (block (grouped labels) b) w = subst (λ t. IsIn (block (grouped labels) t) w) (sym h.0) (home_in (grouped labels) w (omega (arith, h.0, h.1))) in
        let ru = group-home labels _ u (subst (λ vs. IsIn vs u) (block-grouped labels b g) iu) in
        let rw' = group-home labels _ w (subst (λ vs. IsIn vs w) (block-grouped labels b g) iw) in
        record {
          first = ru.1;
          second = rw'.1;
          same = ru.0 ∙ sym rw'.0;
          labelled = λ e. (leader-at labels b g).labelled (sym ru.0 ∙ e);
        }

    back : SameLabel labels u w → SameBlock (grouped labels) u w
    back h =
        let r = find-leader labels u h.first h.labelled in
        let eu = home-group labels u r.0 r.1 (group-has labels _ u h.first (sym r.2)) in
        let ew = home-group labels w r.0 r.1 (group-has labels _ w h.second (sym h.same ∙ sym r.2)) in
        (eu ∙ sym ew, (let q = r.1 in omega (arith, length-grouped labels)))

-- the least member of a group is its leader
head-group : (labels : List (Option Label)) (v : ℕ) → v < length labels → Leads labels v → (0 < length (group labels v)) × (member (group labels v) 0 ≡ v)
head-group labels v p l =
    let i = group-has labels v v p refl in
    (omega arith, by (cases_lt 0 (place (group labels v) v)) i)
  where
    by : (0 < place (group labels v) v) ⊎ (place (group labels v) v ≤ 0) → IsIn (group labels v) v → member (group labels v) 0 ≡ v
    by (inr q) i = ap (member (group labels v)) (let e : 0 ≡ place (group labels v) v = omega arith in e) ∙ member-place (group labels v) v i
    by (inl q) i =
        let k = group-is labels v in
        let h = member (group labels v) 0 in
        let z : 0 < length (group labels v) = omega arith in
        let r = k.rising 0 (place (group labels v) v) q i in
        let e = member-place (group labels v) v i in
        let same = group-home labels v h (in-member (group labels v) 0 z) in
        let f : h < first_with labels (label labels v) = (let t = l.first in omega arith) in
        absurd (before-first labels (label labels v) h f same.0)

pub ordered-grouped : (labels : List (Option Label)) → IsOrdered (grouped labels)
ordered-grouped labels = record {
  filled = λ b h. let g : b < length (leaders labels) = omega (arith, length-grouped labels) in
      subst (λ vs. 0 < length vs) (sym (block-grouped labels b g)) (head b g).0;
  order = λ b c p h.
      let gc : c < length (leaders labels) = omega (arith, length-grouped labels) in
      let gb : b < length (leaders labels) = omega arith in
      let eb : member (block (grouped labels) b) 0 ≡ member (leaders labels) b = ap (λ vs. member vs 0) (block-grouped labels b gb) ∙ (head b gb).1 in
      let ec : member (block (grouped labels) c) 0 ≡ member (leaders labels) c = ap (λ vs. member vs 0) (block-grouped labels c gc) ∙ (head c gc).1 in
      let r = (leaders-are labels).rising b c p gc in
      omega arith;
}
  where
    head : (b : ℕ) → b < length (leaders labels) → (0 < length (group labels (member (leaders labels) b))) × (member (group labels (member (leaders labels) b)) 0 ≡ member (leaders labels) b)
    head b g = head-group labels _ ((leaders-are labels).below b g) (leader-at labels b g)

pub grouped-none : grouped [] ≡ []
unfolding grouped kept
grouped-none = refl
