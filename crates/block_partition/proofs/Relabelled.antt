-- Labels that keep, merge, split and meet blocks make the partitions that these calls state.
use Rattle.std.proofs.Common.{◌≡◌, ℕ, ◌+◌, ◌<◌, ◌≤◌, ◌⊎◌, inl, inr, Bool, true, false, List, [], length, set, refl, sym, ap, ◌∙◌, subst, arith, replicate, zero, suc, Option, Some, None}
use Rattle.std.specs.Prelude.{◌↔◌}
use Rattle.std.proofs.lemmas.Bool.{eq-eqb, ne_eqb, lt-ltb, le-ltb, both_ways, cond-true, cond-false, cases_lt, cases_eq, cases_Bool}
use Rattle.std.proofs.lemmas.List.{get_or-set_same, get_or-set_other, get_or_past, length-set}
use Rattle.block_partition.specs.Partition.{member, block, home, place, SameBlock, IsBlock, IsPartition, IsOrdered}
use Rattle.block_partition.specs.Changes.{IsNear, IsMergedBy, leaving, label_of, IsSplitPair, IsSplitBy, IsMeetOf, given_label, IsGroupedBy}
use Rattle.block_partition.specs.Grouping.{Label, Merged, Whole, Part, label, grouped, home_at, home_of, IsHomes}
use Rattle.block_partition.specs.Relabelling.{plain_label, key, mark, IsMarked, merged_label, part_label, own_label, split_label, meet_label, IsLabelled, IsSpan}
use Rattle.std.specs.List.Sorted.{IsBinarySearchResult}
use Rattle.std.specs.Ordering.{nat_cmp}
use Rattle.std.proofs.Common.{Result, Ok, Err}
use Rattle.std.specs.Prelude.{MatchResult, MatchOption}
use Rattle.std.proofs.lemmas.List.Sorted.{searched}
use Rattle.block_partition.proofs.Places.{home_in, few_blocks, place-member, place-none}
use Rattle.block_partition.proofs.Labels.{none_some}
use Rattle.block_partition.proofs.Groups.{same_block-grouped, partition-grouped, ordered-grouped, grouped-none}

-- ---- numbers of blocks

pub home-found : (bs : List (List ℕ)) (v b : ℕ) → home_of bs v ≡ Some b → (b ≡ home bs v) × (b < length bs)
unfolding home_of
home-found bs v b e = by (cases_lt (home bs v) (length bs))
  where
    by : (home bs v < length bs) ⊎ (length bs ≤ home bs v) → (b ≡ home bs v) × (b < length bs)
    by (inl q) = let g : Some (home bs v) ≡ Some b = sym (cond-true _ _ _ (lt-ltb _ _ q)) ∙ e in let f : b ≡ home bs v = cc in (f, omega arith)
    by (inr q) = let g : None ≡ Some b = sym (cond-false _ _ _ (le-ltb _ _ q)) ∙ e in absurd (none_some b g)

pub home-free : (bs : List (List ℕ)) (v : ℕ) → home_of bs v ≡ None → length bs ≤ home bs v
unfolding home_of
home-free bs v e = by (cases_lt (home bs v) (length bs))
  where
    by : (home bs v < length bs) ⊎ (length bs ≤ home bs v) → length bs ≤ home bs v
    by (inr q) = q
    by (inl q) = absurd (none_some (home bs v) (sym e ∙ cond-true _ _ _ (lt-ltb _ _ q)))

-- ---- labels that a function gives

pub labelled-all : (f : ℕ → Option Label) (labels : List (Option Label)) (v n : ℕ) → (length labels ≡ v) × ((k : ℕ) → k < v → label labels k ≡ f k) → v ≡ n → n ≤ 512 → ((k : ℕ) → n ≤ k → f k ≡ None) → IsLabelled f labels
labelled-all f labels v n h e few rest = record {
  few = omega (arith, h.0);
  own = λ k p. h.1 k (omega (arith, h.0));
  rest = λ k p. rest k (omega (arith, h.0));
}

same-labelled : (f : ℕ → Option Label) (labels : List (Option Label)) → IsLabelled f labels → (u w : ℕ) → SameBlock (grouped labels) u w ↔ ((f u ≡ f w) × (f u ≡ None → ⊥))
same-labelled f labels h u w = (there, back)
  where
    there : SameBlock (grouped labels) u w → (f u ≡ f w) × (f u ≡ None → ⊥)
    there s =
        let r = (same_block-grouped labels u w).0 s in
        (sym (h.own u r.first) ∙ r.same ∙ h.own w r.second, λ e. r.labelled (h.own u r.first ∙ e))

    within : (v : ℕ) → (f v ≡ None → ⊥) → (v < length labels) ⊎ (length labels ≤ v) → v < length labels
    within v d (inl p) = p
    within v d (inr p) = absurd (d (h.rest v p))

    back : (f u ≡ f w) × (f u ≡ None → ⊥) → SameBlock (grouped labels) u w
    back r =
        let p = within u r.1 (cases_lt u (length labels)) in
        let q = within w (λ e. r.1 (r.0 ∙ e)) (cases_lt w (length labels)) in
        (same_block-grouped labels u w).1 (record {
          first = p;
          second = q;
          same = h.own u p ∙ r.0 ∙ sym (h.own w q);
          labelled = λ e. r.1 (sym (h.own u p) ∙ e);
        })

-- ---- the label that keeps blocks

pub plain-some : (bs : List (List ℕ)) (v b : ℕ) → (b ≡ home bs v) × (b < length bs) → Some (Whole b) ≡ plain_label bs v
unfolding plain_label
plain-some bs v b h = let p : home bs v < length bs = omega (arith, h.0, h.1) in ap (λ t. Some (Whole t)) h.0 ∙ sym (cond-true _ _ _ (lt-ltb _ _ p))

pub plain-none : (bs : List (List ℕ)) (v : ℕ) → length bs ≤ home bs v → None ≡ plain_label bs v
unfolding plain_label
plain-none bs v h = sym (cond-false _ _ _ (le-ltb _ _ h))

data Plain (bs : List (List ℕ)) (v : ℕ) (l : Option Label) : Type 0 where
  placed : home bs v < length bs → l ≡ Some (Whole (home bs v)) → Plain bs v l
  free : length bs ≤ home bs v → l ≡ None → Plain bs v l

plain : (bs : List (List ℕ)) (v : ℕ) → Plain bs v (plain_label bs v)
plain bs v = by (cases_lt (home bs v) (length bs))
  where
    by : (home bs v < length bs) ⊎ (length bs ≤ home bs v) → Plain bs v (plain_label bs v)
    by (inl p) = placed p (sym (plain-some bs v (home bs v) (refl, p)))
    by (inr p) = free p (sym (plain-none bs v p))

-- two variables with one plain label are in one block
plain-same : (bs : List (List ℕ)) (u w : ℕ) (a b : Option Label) → Plain bs u a → Plain bs w b → a ≡ b → (a ≡ None → ⊥) → SameBlock bs u w
plain-same bs u w a b (placed p e) (placed r f) t d = (let g : home bs u ≡ home bs w = cc in g, p)
plain-same bs u w a b (placed p e) (free r f) t d = absurd (d (t ∙ f))
plain-same bs u w a b (free r f) _ t d = absurd (d f)

-- ---- the meet

pub meet-both : (xs ys : List (List ℕ)) (v a b : ℕ) → (a ≡ home xs v) × (a < length xs) → (b ≡ home ys v) × (b < length ys) → Some (Part a b) ≡ meet_label xs ys v
unfolding meet_label
meet-both xs ys v a b p q =
    let r : home xs v < length xs = omega (arith, p.0, p.1) in
    let s : home ys v < length ys = omega (arith, q.0, q.1) in
    ap (λ t. Some (Part t b)) p.0 ∙ ap (λ t. Some (Part (home xs v) t)) q.0 ∙ sym (cond-true _ _ _ (lt-ltb _ _ r) ∙ cond-true _ _ _ (lt-ltb _ _ s))

pub meet-second : (xs ys : List (List ℕ)) (v a : ℕ) → (a ≡ home xs v) × (a < length xs) → length ys ≤ home ys v → None ≡ meet_label xs ys v
unfolding meet_label
meet-second xs ys v a p q =
    let r : home xs v < length xs = omega (arith, p.0, p.1) in
    sym (cond-true _ _ _ (lt-ltb _ _ r) ∙ cond-false _ _ _ (le-ltb _ _ q))

pub meet-first : (xs ys : List (List ℕ)) (v : ℕ) → length xs ≤ home xs v → None ≡ meet_label xs ys v
unfolding meet_label
meet-first xs ys v p = sym (cond-false _ _ _ (le-ltb _ _ p))

data Meets (xs ys : List (List ℕ)) (v : ℕ) (l : Option Label) : Type 0 where
  shared : home xs v < length xs → home ys v < length ys → l ≡ Some (Part (home xs v) (home ys v)) → Meets xs ys v l
  alone : l ≡ None → Meets xs ys v l

meets : (xs ys : List (List ℕ)) (v : ℕ) → Meets xs ys v (meet_label xs ys v)
meets xs ys v = by (cases_lt (home xs v) (length xs)) (cases_lt (home ys v) (length ys))
  where
    by : (home xs v < length xs) ⊎ (length xs ≤ home xs v) → (home ys v < length ys) ⊎ (length ys ≤ home ys v) → Meets xs ys v (meet_label xs ys v)
    by (inl p) (inl q) = shared p q (sym (meet-both xs ys v _ _ (refl, p) (refl, q)))
    by (inl p) (inr q) = alone (sym (meet-second xs ys v _ (refl, p) q))
    by (inr p) _ = alone (sym (meet-first xs ys v p))

pub meet-labels : (xs ys ds : List (List ℕ)) (labels : List (Option Label)) → IsLabelled (meet_label xs ys) labels → ds ≡ grouped labels → IsMeetOf xs ys ds
meet-labels xs ys ds labels h e = subst (IsMeetOf xs ys) (sym e) (record { exact = λ u w p q. (there u w, back u w) })
  where
    same : (u w : ℕ) (a b : Option Label) → Meets xs ys u a → Meets xs ys w b → a ≡ b → (a ≡ None → ⊥) → SameBlock xs u w × SameBlock ys u w
    same u w a b (alone f) _ s d = absurd (d f)
    same u w a b (shared p q f) (alone g) s d = absurd (d (s ∙ g))
    same u w a b (shared p q f) (shared r t g) s d = ((let x : home xs u ≡ home xs w = cc in x, p), (let y : home ys u ≡ home ys w = cc in y, q))

    there : (u w : ℕ) → SameBlock (grouped labels) u w → SameBlock xs u w × SameBlock ys u w
    there u w s = let r = (same-labelled _ labels h u w).0 s in same u w _ _ (meets xs ys u) (meets xs ys w) r.0 r.1

    back : (u w : ℕ) → SameBlock xs u w × SameBlock ys u w → SameBlock (grouped labels) u w
    back u w s =
        let eu = meet-both xs ys u _ _ (refl, s.0.1) (refl, s.1.1) in
        let ew = meet-both xs ys w _ _ (refl, omega (arith, s.0.0, s.0.1)) (refl, omega (arith, s.1.0, s.1.1)) in
        let mid : Some (Part (home xs u) (home ys u)) ≡ Some (Part (home xs w) (home ys w)) = ap (λ t. Some (Part t (home ys u))) s.0.0 ∙ ap (λ t. Some (Part (home xs w) t)) s.1.0 in
        (same-labelled _ labels h u w).1 (sym eu ∙ mid ∙ ew, λ t. none_some (Part (home xs u) (home ys u)) (sym t ∙ sym eu))

-- ---- a merge

pub key-some : (bs : List (List ℕ)) (v b : ℕ) → (b ≡ home bs v) × (b < length bs) → b ≡ key bs v
unfolding key
key-some bs v b h = let p : home bs v < length bs = omega (arith, h.0, h.1) in h.0 ∙ sym (cond-true _ _ _ (lt-ltb _ _ p))

pub key-none : (bs : List (List ℕ)) (v : ℕ) → length bs ≤ home bs v → 512 + v ≡ key bs v
unfolding key
key-none bs v h = sym (cond-false _ _ _ (le-ltb _ _ h))

data Keyed (bs : List (List ℕ)) (v k : ℕ) : Type 0 where
  placed : home bs v < length bs → home bs v < 512 → k ≡ home bs v → Keyed bs v k
  free : length bs ≤ home bs v → k ≡ 512 + v → Keyed bs v k

keyed : (bs : List (List ℕ)) → IsPartition 512 bs → IsOrdered bs → (v : ℕ) → Keyed bs v (key bs v)
keyed bs pt o v = by (cases_lt (home bs v) (length bs))
  where
    by : (home bs v < length bs) ⊎ (length bs ≤ home bs v) → Keyed bs v (key bs v)
    by (inl p) = placed p (few_blocks 512 bs _ pt o p) (sym (key-some bs v _ (refl, p)))
    by (inr p) = free p (sym (key-none bs v p))

key-gives : (bs : List (List ℕ)) (x v k l : ℕ) → Keyed bs x k → Keyed bs v l → k ≡ l → (x ≡ v) ⊎ SameBlock bs x v
key-gives bs x v k l (placed p q e) (placed r s f) t = inr (sym e ∙ t ∙ f, p)
key-gives bs x v k l (placed p q e) (free r f) t = absurd (omega arith)
key-gives bs x v k l (free p e) (placed r s f) t = absurd (omega arith)
key-gives bs x v k l (free p e) (free r f) t = inl (omega arith)

key-from : (bs : List (List ℕ)) (x v : ℕ) → (x ≡ v) ⊎ SameBlock bs x v → key bs x ≡ key bs v
key-from bs x v (inl e) = ap (key bs) e
key-from bs x v (inr s) = sym (key-some bs x _ (refl, s.1)) ∙ key-some bs v _ (s.0, s.1)

-- what the marks say
near-mark : (bs : List (List ℕ)) (vs : List ℕ) (marks : List Bool) (v : ℕ) → IsPartition 512 bs → IsOrdered bs → IsMarked bs vs (length vs) marks → mark marks (key bs v) ≡ true → IsNear bs vs v
near-mark bs vs marks v pt o m e =
    let r = m.only (key bs v) e in
    (r.0, r.1, key-gives bs _ v _ _ (keyed bs pt o (member vs r.0)) (keyed bs pt o v) r.2)

mark-near : (bs : List (List ℕ)) (vs : List ℕ) (marks : List Bool) (v : ℕ) → IsMarked bs vs (length vs) marks → IsNear bs vs v → mark marks (key bs v) ≡ true
mark-near bs vs marks v m n = ap (mark marks) (sym (key-from bs _ v n.2)) ∙ m.known n.0 n.1

near-moved : (bs : List (List ℕ)) (vs : List ℕ) (u w : ℕ) → SameBlock bs u w → IsNear bs vs u → IsNear bs vs w
near-moved bs vs u w s n = (n.0, n.1, by n.2)
  where
    by : (member vs n.0 ≡ u) ⊎ SameBlock bs (member vs n.0) u → (member vs n.0 ≡ w) ⊎ SameBlock bs (member vs n.0) w
    by (inl e) = inr (subst (λ t. SameBlock bs t w) (sym e) s)
    by (inr r) = inr (r.0 ∙ s.0, r.1)

pub merged-marked : (bs : List (List ℕ)) (marks : List Bool) (v : ℕ) → mark marks (key bs v) ≡ true → Some Merged ≡ merged_label bs marks v
unfolding merged_label
merged-marked bs marks v e = sym (cond-true _ _ _ e)

pub merged-plain : (bs : List (List ℕ)) (marks : List Bool) (v : ℕ) (l : Option Label) → mark marks (key bs v) ≡ false → l ≡ plain_label bs v → l ≡ merged_label bs marks v
unfolding merged_label
merged-plain bs marks v l e f = f ∙ sym (cond-false _ _ _ e)

data Merges (bs : List (List ℕ)) (vs : List ℕ) (v : ℕ) (l : Option Label) : Type 0 where
  near : IsNear bs vs v → l ≡ Some Merged → Merges bs vs v l
  far : (IsNear bs vs v → ⊥) → Plain bs v l → Merges bs vs v l

merged : (bs : List (List ℕ)) (vs : List ℕ) (marks : List Bool) (v : ℕ) → IsPartition 512 bs → IsOrdered bs → IsMarked bs vs (length vs) marks → Merges bs vs v (merged_label bs marks v)
merged bs vs marks v pt o m = by (cases_Bool (mark marks (key bs v)))
  where
    by : (mark marks (key bs v) ≡ true) ⊎ (mark marks (key bs v) ≡ false) → Merges bs vs v (merged_label bs marks v)
    by (inl e) = near (near-mark bs vs marks v pt o m e) (sym (merged-marked bs marks v e))
    by (inr e) = far (λ n. both_ways _ e (mark-near bs vs marks v m n)) (subst (Plain bs v) (merged-plain bs marks v _ e refl) (plain bs v))

pub merged-rest : (bs : List (List ℕ)) (vs : List ℕ) (marks : List Bool) (n v : ℕ) → IsPartition 512 bs → IsOrdered bs → IsMarked bs vs (length vs) marks → IsSpan bs vs n → n ≤ v → merged_label bs marks v ≡ None
merged-rest bs vs marks n v pt o m sp h = by (cases_Bool (mark marks (key bs v)))
  where
    near : (i : ℕ) → i < length vs → (member vs i ≡ v) ⊎ SameBlock bs (member vs i) v → ⊥
    near i p (inl e) = let r = sp.given i p in absurd (omega arith)
    near i p (inr s) = let r = sp.rest v h in absurd (omega (arith, s.0, s.1))

    by : (mark marks (key bs v) ≡ true) ⊎ (mark marks (key bs v) ≡ false) → merged_label bs marks v ≡ None
    by (inl e) = let r = near-mark bs vs marks v pt o m e in absurd (near r.0 r.1 r.2)
    by (inr e) = sym (plain-none bs v (sp.rest v h) ∙ merged-plain bs marks v _ e refl)

pub merged-labels : (bs ds : List (List ℕ)) (vs : List ℕ) (labels : List (Option Label)) (marks : List Bool) → IsPartition 512 bs → IsOrdered bs → IsMarked bs vs (length vs) marks → IsLabelled (merged_label bs marks) labels → ds ≡ grouped labels → IsMergedBy bs vs ds
merged-labels bs ds vs labels marks pt o m h e = subst (IsMergedBy bs vs) (sym e) (record { exact = λ u w p q. (there u w, back u w) })
  where
    IsJoint : ℕ → ℕ → Type 0
    IsJoint u w = SameBlock bs u w ⊎ (IsNear bs vs u × IsNear bs vs w)

    apart : (b : ℕ) → Some Merged ≡ Some (Whole b) → ⊥
    apart b e = cc

    same : (u w : ℕ) (a b : Option Label) → Merges bs vs u a → Merges bs vs w b → a ≡ b → (a ≡ None → ⊥) → IsJoint u w
    same u w a b (near n f) (near k g) s d = inr (n, k)
    same u w a b (near n f) (far k (placed p g)) s d = absurd (apart (home bs w) (sym f ∙ s ∙ g))
    same u w a b (near n f) (far k (free p g)) s d = absurd (d (s ∙ g))
    same u w a b (far n (placed p f)) (near k g) s d = absurd (apart (home bs u) (sym g ∙ sym s ∙ f))
    same u w a b (far n (free p f)) (near k g) s d = absurd (d f)
    same u w a b (far n f) (far k g) s d = inl (plain-same bs u w a b f g s d)

    there : (u w : ℕ) → SameBlock (grouped labels) u w → IsJoint u w
    there u w s = let r = (same-labelled _ labels h u w).0 s in same u w _ _ (merged bs vs marks u pt o m) (merged bs vs marks w pt o m) r.0 r.1

    one : (u w : ℕ) (a b : Option Label) → Merges bs vs u a → Merges bs vs w b → IsJoint u w → (a ≡ b) × (a ≡ None → ⊥)
    one u w a b (near n f) (near k g) j = (f ∙ sym g, λ t. none_some Merged (sym t ∙ f))
    one u w a b (near n f) (far k g) (inl s) = absurd (k (near-moved bs vs u w s n))
    one u w a b (near n f) (far k g) (inr j) = absurd (k j.1)
    one u w a b (far n f) _ (inr j) = absurd (n j.0)
    one u w a b (far n f) (near k g) (inl s) = absurd (n (near-moved bs vs w u (sym s.0, omega (arith, s.0, s.1)) k))
    one u w a b (far n (free p f)) (far k g) (inl s) = absurd (omega (arith, s.1))
    one u w a b (far n (placed p f)) (far k (free r g)) (inl s) = absurd (omega (arith, s.0, s.1))
    one u w a b (far n (placed p f)) (far k (placed r g)) (inl s) = (f ∙ ap (λ z. Some (Whole z)) s.0 ∙ sym g, λ t. none_some (Whole (home bs u)) (sym t ∙ f))

    back : (u w : ℕ) → IsJoint u w → SameBlock (grouped labels) u w
    back u w j = (same-labelled _ labels h u w).1 (one u w _ _ (merged bs vs marks u pt o m) (merged bs vs marks w pt o m) j)

-- ---- the marks

pub marked-none : (bs : List (List ℕ)) (vs : List ℕ) (marks : List Bool) → marks ≡ replicate 1024 false → IsMarked bs vs 0 marks
marked-none bs vs marks e = record {
  size = ap length e;
  known = λ i p. absurd (omega arith);
  only = λ k f. absurd (both_ways (mark marks k) (ap (λ t. mark t k) e ∙ replicated 1024 k) f);
}
  where
    replicated : (n k : ℕ) → mark (replicate n false) k ≡ false
    replicated zero k = refl
    replicated (suc n) zero = refl
    replicated (suc n) (suc k) = replicated n k

pub marked-more : (bs : List (List ℕ)) (vs : List ℕ) (i k : ℕ) (marks : List Bool) → IsMarked bs vs i marks → k ≡ key bs (member vs i) → k < 1024 → IsMarked bs vs (i + 1) (set marks k true)
marked-more bs vs i k marks m e p = record {
  size = length-set marks k true ∙ m.size;
  known = λ j q. known j q (cases_eq (key bs (member vs j)) k);
  only = λ j f. only j f (cases_eq j k);
}
  where
    known : (j : ℕ) → j < i + 1 → (key bs (member vs j) ≡ k) ⊎ (key bs (member vs j) ≡ k → ⊥) → mark (set marks k true) (key bs (member vs j)) ≡ true
    known j q (inl f) = ap (mark (set marks k true)) f ∙ get_or-set_same marks k true false (let s = m.size in omega arith)
    known j q (inr d) = get_or-set_other marks k _ true false d ∙ m.known j (before (cases_eq j i))
      where
        before : (j ≡ i) ⊎ (j ≡ i → ⊥) → j < i
        before (inl f) = absurd (d (ap (λ t. key bs (member vs t)) f ∙ sym e))
        before (inr n) = grind (arith, n)

    only : (j : ℕ) → mark (set marks k true) j ≡ true → (j ≡ k) ⊎ (j ≡ k → ⊥) → (l : ℕ) × (l < i + 1) × (key bs (member vs l) ≡ j)
    only j f (inl g) = (i, omega arith, sym e ∙ sym g)
    only j f (inr d) = let r = m.only j (sym (get_or-set_other marks k j true false d) ∙ f) in (r.0, omega (arith, r.1), r.2)

-- ---- a split

pub split-part : (bs : List (List ℕ)) (b v i : ℕ) (l : Option Label) (labels : List ℕ) → home bs v ≡ b → i ≡ place (block bs b) v → l ≡ part_label b (member labels i) → l ≡ split_label bs b labels v
unfolding split_label
split-part bs b v i l labels e f g = g ∙ ap (λ t. part_label b (member labels t)) f ∙ sym (cond-true _ _ _ (eq-eqb _ _ e))

pub split-other : (bs : List (List ℕ)) (b v : ℕ) (l : Option Label) (labels : List ℕ) → (home bs v ≡ b → ⊥) → l ≡ plain_label bs v → l ≡ split_label bs b labels v
unfolding split_label
split-other bs b v l labels d f = f ∙ sym (cond-false _ _ _ (ne_eqb _ _ d))

pub split-place : (bs : List (List ℕ)) (b v a : ℕ) → (a ≡ home bs v) × (a < length bs) → a ≡ b → place (block bs b) v < length (block bs b)
split-place bs b v a h e = subst (λ t. place (block bs t) v < length (block bs t)) (sym h.0 ∙ e) (home_in bs v (omega (arith, h.0, h.1)))

data Splits (bs : List (List ℕ)) (b : ℕ) (labels : List ℕ) (v : ℕ) (l : Option Label) : Type 0 where
  other : (home bs v ≡ b → ⊥) → Plain bs v l → Splits bs b labels v l
  stays : home bs v ≡ b → (label_of bs b labels v ≡ leaving → ⊥) → l ≡ Some (Part b (label_of bs b labels v)) → Splits bs b labels v l
  leaves : home bs v ≡ b → label_of bs b labels v ≡ leaving → l ≡ None → Splits bs b labels v l

splits : (bs : List (List ℕ)) (b : ℕ) (labels : List ℕ) (v : ℕ) → Splits bs b labels v (split_label bs b labels v)
splits bs b labels v = by (cases_eq (home bs v) b) (cases_eq (label_of bs b labels v) leaving)
  where
    by : (home bs v ≡ b) ⊎ (home bs v ≡ b → ⊥) → (label_of bs b labels v ≡ leaving) ⊎ (label_of bs b labels v ≡ leaving → ⊥) → Splits bs b labels v (split_label bs b labels v)
    by (inr d) _ = other d (subst (Plain bs v) (split-other bs b v _ labels d refl) (plain bs v))
    by (inl e) (inl f) = leaves e f (sym (split-part bs b v _ _ labels e refl (sym (cond-true _ _ _ (eq-eqb _ _ f)))))
    by (inl e) (inr d) = stays e d (sym (split-part bs b v _ _ labels e refl (sym (cond-false _ _ _ (ne_eqb _ _ d)))))

pub split-labels : (bs ds : List (List ℕ)) (b : ℕ) (ls : List ℕ) (labels : List (Option Label)) → IsLabelled (split_label bs b ls) labels → ds ≡ grouped labels → IsSplitBy bs b ls ds
split-labels bs ds b ls labels lab e = subst (IsSplitBy bs b ls) (sym e) (record { exact = λ u w p q. (there u w, back u w) })
  where
    IsKept : ℕ → ℕ → Type 0
    IsKept u w = (SameBlock bs u w × (home bs u ≡ b → ⊥)) ⊎ IsSplitPair bs b ls u w

    apart : (a l : ℕ) → Some (Whole a) ≡ Some (Part b l) → ⊥
    apart a l e = cc

    inside : (l m : ℕ) → Some (Part b l) ≡ Some (Part b m) → l ≡ m
    inside l m e = cc

    same : (u w : ℕ) (x y : Option Label) → Splits bs b ls u x → Splits bs b ls w y → x ≡ y → (x ≡ None → ⊥) → IsKept u w
    same u w x y (leaves p q f) _ s d = absurd (d f)
    same u w x y _ (leaves p q f) s d = absurd (d (s ∙ f))
    same u w x y (other n f) (other k g) s d = inl (plain-same bs u w x y f g s d, n)
    same u w x y (stays p n f) (stays q k g) s d = inr (record { first = p; second = q; same = inside _ _ (sym f ∙ s ∙ g); stays = n })
    same u w x y (other n (free p f)) (stays q k g) s d = absurd (d f)
    same u w x y (other n (placed p f)) (stays q k g) s d = absurd (apart _ _ (sym f ∙ s ∙ g))
    same u w x y (stays p n f) (other k (free q g)) s d = absurd (d (s ∙ g))
    same u w x y (stays p n f) (other k (placed q g)) s d = absurd (apart _ _ (sym g ∙ sym s ∙ f))

    there : (u w : ℕ) → SameBlock (grouped labels) u w → IsKept u w
    there u w s = let r = (same-labelled _ labels lab u w).0 s in same u w _ _ (splits bs b ls u) (splits bs b ls w) r.0 r.1

    one : (u w : ℕ) (x y : Option Label) → Splits bs b ls u x → Splits bs b ls w y → IsKept u w → (x ≡ y) × (x ≡ None → ⊥)
    one u w x y (other n (placed p f)) (other k (placed r g)) (inl s) = (f ∙ ap (λ z. Some (Whole z)) s.0.0 ∙ sym g, λ t. none_some (Whole (home bs u)) (sym t ∙ f))
    one u w x y (other n (free p f)) _ (inl s) = absurd (omega (arith, s.0.1))
    one u w x y (other n (placed p f)) (other k (free r g)) (inl s) = absurd (omega (arith, s.0.0, s.0.1))
    one u w x y (other n f) (stays q k g) (inl s) = absurd (n (s.0.0 ∙ q))
    one u w x y (other n f) (leaves q k g) (inl s) = absurd (n (s.0.0 ∙ q))
    one u w x y (stays p n f) _ (inl s) = absurd (s.1 p)
    one u w x y (leaves p n f) _ (inl s) = absurd (s.1 p)
    one u w x y (other n f) _ (inr s) = absurd (n s.first)
    one u w x y (leaves p n f) _ (inr s) = absurd (s.stays n)
    one u w x y (stays p n f) (other k g) (inr s) = absurd (k s.second)
    one u w x y (stays p n f) (leaves q k g) (inr s) = absurd (n (s.same ∙ k))
    one u w x y (stays p n f) (stays q k g) (inr s) = (f ∙ ap (λ z. Some (Part b z)) s.same ∙ sym g, λ t. none_some (Part b (label_of bs b ls u)) (sym t ∙ f))

    back : (u w : ℕ) → IsKept u w → SameBlock (grouped labels) u w
    back u w k = (same-labelled _ labels lab u w).1 (one u w _ _ (splits bs b ls u) (splits bs b ls w) k)

-- ---- the type's facts

pub partition-more : (n k : ℕ) (bs : List (List ℕ)) → n ≤ k → IsPartition n bs → IsPartition k bs
partition-more n k bs h p = record {
  blocks = λ b q. record {
    below = λ i r. let s = (p.blocks b q).below i r in omega arith;
    rising = (p.blocks b q).rising;
  };
  homes = p.homes;
}

pub valid-labels : (labels : List (Option Label)) (bs : List (List ℕ)) (homes : List (Option ℕ)) → bs ≡ grouped labels → length labels ≤ 512 → IsHomes (grouped labels) homes → IsPartition 512 bs × IsOrdered bs × IsHomes bs homes
valid-labels labels bs homes e h f = (
  subst (IsPartition 512) (sym e) (partition-more (length labels) 512 (grouped labels) h (partition-grouped labels)),
  subst IsOrdered (sym e) (ordered-grouped labels),
  subst (λ t. IsHomes t homes) (sym e) f,
)

pub valid-none : (bs : List (List ℕ)) (homes : List (Option ℕ)) → bs ≡ [] → homes ≡ [] → IsPartition 512 bs × IsOrdered bs × IsHomes bs homes
valid-none bs homes e f = valid-labels [] bs homes (e ∙ sym none) (omega arith) (record {
  few = omega (arith, ap length f);
  own = λ v p. absurd (omega (arith, ap length f));
  rest = λ v p. let l = ap length none in omega arith;
})
  where
    none : grouped [] ≡ []
    none = grouped-none

-- ---- the place of a member

rises : (vs : List ℕ) (i j : ℕ) → IsBlock 512 vs → i ≤ j → j < length vs → member vs i ≤ member vs j
rises vs i j bl p q = by (cases_eq i j)
  where
    by : (i ≡ j) ⊎ (i ≡ j → ⊥) → member vs i ≤ member vs j
    by (inl e) = let f = ap (member vs) e in omega arith
    by (inr d) = let r = bl.rising i j (grind (arith, d)) q in omega arith

pub searched-place : (vs : List ℕ) (v : ℕ) (r : Result ℕ ℕ) (i : ℕ) → IsBlock 512 vs → IsBinarySearchResult (λ y. nat_cmp y v) vs r → r ≡ Ok i → i ≡ place vs v
searched-place vs v r i bl s e =
    let f = subst (λ t. MatchResult t (λ i. (i < length vs) × (member vs i ≡ v)) (λ i. (i ≤ length vs) × ((k : ℕ) → k < i → member vs k < v) × ((k : ℕ) → i ≤ k → k < length vs → v < member vs k))) e (searched vs v r s (λ i j p q. rises vs i j bl p q)) in
    sym (place-member 512 vs i v bl f.0 f.1)

pub searched-none : (vs : List ℕ) (v : ℕ) (r : Result ℕ ℕ) (i : ℕ) → IsBlock 512 vs → IsBinarySearchResult (λ y. nat_cmp y v) vs r → r ≡ Err i → length vs ≡ place vs v
searched-none vs v r i bl s e =
    let f = subst (λ t. MatchResult t (λ i. (i < length vs) × (member vs i ≡ v)) (λ i. (i ≤ length vs) × ((k : ℕ) → k < i → member vs k < v) × ((k : ℕ) → i ≤ k → k < length vs → v < member vs k))) e (searched vs v r s (λ i j p q. rises vs i j bl p q)) in
    sym (place-none vs v (λ k p g. by k p g f.1 f.2 (cases_lt k i)))
  where
    by : (k : ℕ) → k < length vs → member vs k ≡ v → ((k : ℕ) → k < i → member vs k < v) → ((k : ℕ) → i ≤ k → k < length vs → v < member vs k) → (k < i) ⊎ (i ≤ k) → ⊥
    by k p g low high (inl q) = let r = low k q in absurd (omega arith)
    by k p g low high (inr q) = let r = high k q p in absurd (omega arith)

-- ---- in terms of the fields

-- the number that is read for a variable
pub home-read : (bs cs : List (List ℕ)) (homes : List (Option ℕ)) (v : ℕ) (b : Option ℕ) → bs ≡ cs → IsHomes bs homes → v < length homes → b ≡ home_at homes v → MatchOption b (length cs ≤ home cs v) (λ b. (b ≡ home cs v) × (b < length cs))
home-read bs cs homes v b e h p f = subst (λ t. MatchOption b (length t ≤ home t v) (λ b. (b ≡ home t v) × (b < length t))) e (by b (sym (f ∙ h.own v p)))
  where
    by : (b : Option ℕ) → home_of bs v ≡ b → MatchOption b (length bs ≤ home bs v) (λ b. (b ≡ home bs v) × (b < length bs))
    by None g = home-free bs v g
    by (Some b) g = home-found bs v b g

pub plain-rest : (bs cs : List (List ℕ)) (homes : List (Option ℕ)) (k : ℕ) → bs ≡ cs → IsHomes bs homes → length homes ≤ k → plain_label cs k ≡ None
plain-rest bs cs homes k e h p = subst (λ t. plain_label t k ≡ None) e (sym (plain-none bs k (h.rest k p)))

pub meet-rest : (bs cs ds : List (List ℕ)) (homes : List (Option ℕ)) (k : ℕ) → bs ≡ cs → IsHomes bs homes → length homes ≤ k → meet_label cs ds k ≡ None
meet-rest bs cs ds homes k e h p = subst (λ t. meet_label t ds k ≡ None) e (sym (meet-first bs ds k (h.rest k p)))

pub split-rest : (bs cs : List (List ℕ)) (b : ℕ) (labels : List ℕ) (homes : List (Option ℕ)) (k : ℕ) → bs ≡ cs → IsHomes bs homes → b < length cs → length homes ≤ k → split_label cs b labels k ≡ None
split-rest bs cs b labels homes k e h q p =
    let r = subst (λ t. length t ≤ home t k) e (h.rest k p) in
    sym (split-other cs b k _ labels (λ t. absurd (omega arith)) (plain-none cs k r))

-- ---- numbers that variables are given

own-same : (a b : Option ℕ) → own_label a ≡ own_label b → a ≡ b
own-same None None e = refl
own-same None (Some y) e = absurd (none_some (Whole y) e)
own-same (Some x) None e = absurd (none_some (Whole x) (sym e))
own-same (Some x) (Some y) e = let f : x ≡ y = cc in ap Some f

own-none : (a : Option ℕ) → own_label a ≡ None → a ≡ None
own-none None e = refl
own-none (Some x) e = absurd (none_some (Whole x) (sym e))

pub own-rest : (numbers : List (Option ℕ)) (v : ℕ) → length numbers ≤ v → own_label (given_label numbers v) ≡ None
own-rest numbers v p = ap own_label (get_or_past numbers v None p)

pub own-labels : (numbers : List (Option ℕ)) (ds : List (List ℕ)) (labels : List (Option Label)) → IsLabelled (λ v. own_label (given_label numbers v)) labels → ds ≡ grouped labels → IsGroupedBy numbers ds
own-labels numbers ds labels h e = subst (IsGroupedBy numbers) (sym e) (record { exact = λ u w. (there u w, back u w) })
  where
    there : (u w : ℕ) → SameBlock (grouped labels) u w → (given_label numbers u ≡ given_label numbers w) × (given_label numbers u ≡ None → ⊥)
    there u w s = let r = (same-labelled _ labels h u w).0 s in (own-same _ _ r.0, λ t. r.1 (ap own_label t))

    back : (u w : ℕ) → (given_label numbers u ≡ given_label numbers w) × (given_label numbers u ≡ None → ⊥) → SameBlock (grouped labels) u w
    back u w r = (same-labelled _ labels h u w).1 (ap own_label r.0, λ t. r.1 (own-none _ t))
