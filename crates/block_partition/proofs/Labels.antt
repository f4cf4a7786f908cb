-- Labels that are equal, and the first variable with one.
use Rattle.std.proofs.Common.{◌≡◌, ℕ, ◌<◌, ◌≤◌, ◌⊎◌, inl, inr, true, false, Option, Some, None, List, length, refl, ap, subst, arith}
use Rattle.std.proofs.lemmas.Bool.{eqb-true, eq-eqb, and_parts, and_from, both_ways, cases_Bool, cases_lt}
use Rattle.std.proofs.lemmas.List.Sums.{passes_at_first, fails_before_first}
use Rattle.block_partition.specs.Grouping.{Label, Merged, Whole, Part, label, is_same_label, is_same, first_with}

pub none_some : {X : Type 0} (x : X) → None ≡ Some x → ⊥
none_some x e = cc

label-true : (l m : Label) → is_same_label l m ≡ true → l ≡ m
unfolding is_same_label
label-true Merged Merged e = refl
label-true Merged (Whole b) e = cc
label-true Merged (Part b m) e = cc
label-true (Whole a) Merged e = cc
label-true (Whole a) (Whole b) e = ap Whole (eqb-true a b e)
label-true (Whole a) (Part b m) e = cc
label-true (Part a l) Merged e = cc
label-true (Part a l) (Whole b) e = cc
label-true (Part a l) (Part b m) e =
    let r = and_parts _ _ e in
    let f : a ≡ b = eqb-true a b r.0 in
    let g : l ≡ m = eqb-true l m r.1 in
    cc

label-itself : (l : Label) → is_same_label l l ≡ true
unfolding is_same_label
label-itself Merged = refl
label-itself (Whole a) = eq-eqb a a refl
label-itself (Part a l) = and_from _ _ (eq-eqb a a refl) (eq-eqb l l refl)

pub cases_label : (l m : Label) → (l ≡ m) ⊎ (l ≡ m → ⊥)
cases_label l m = by (cases_Bool (is_same_label l m))
  where
    by : (is_same_label l m ≡ true) ⊎ (is_same_label l m ≡ false) → (l ≡ m) ⊎ (l ≡ m → ⊥)
    by (inl e) = inl (label-true l m e)
    by (inr e) = inr (λ f. both_ways _ e (subst (λ t. is_same_label l t ≡ true) f (label-itself l)))

pub same-true : (a b : Option Label) → is_same a b ≡ true → a ≡ b
unfolding is_same
same-true None None e = refl
same-true None (Some m) e = cc
same-true (Some l) None e = cc
same-true (Some l) (Some m) e = ap Some (label-true l m e)

same-itself : (a : Option Label) → is_same a a ≡ true
unfolding is_same
same-itself None = refl
same-itself (Some l) = label-itself l

pub same-from : (a b : Option Label) → a ≡ b → is_same a b ≡ true
same-from a b e = subst (λ t. is_same a t ≡ true) e (same-itself a)

pub same-not : (a b : Option Label) → (a ≡ b → ⊥) → is_same a b ≡ false
same-not a b d = by (cases_Bool (is_same a b))
  where
    by : (is_same a b ≡ true) ⊎ (is_same a b ≡ false) → is_same a b ≡ false
    by (inl e) = absurd (d (same-true a b e))
    by (inr e) = e

-- ---- the first variable with a label

pub label-first : (labels : List (Option Label)) (l : Option Label) → first_with labels l < length labels → label labels (first_with labels l) ≡ l
unfolding first_with
label-first labels l h = same-true _ _ (passes_at_first (λ m. is_same m l) labels None h)

-- a variable before it has another one
pub before-first : (labels : List (Option Label)) (l : Option Label) (k : ℕ) → k < first_with labels l → label labels k ≡ l → ⊥
unfolding first_with
before-first labels l k h e = both_ways _ (fails_before_first (λ m. is_same m l) labels k None h) (same-from _ _ e)

pub first-in : (labels : List (Option Label)) (i : ℕ) → i < length labels → first_with labels (label labels i) < length labels
first-in labels i h = by (cases_lt (first_with labels (label labels i)) (length labels))
  where
    by : (first_with labels (label labels i) < length labels) ⊎ (length labels ≤ first_with labels (label labels i)) → first_with labels (label labels i) < length labels
    by (inl p) = p
    by (inr p) = absurd (before-first labels (label labels i) i (omega arith) refl)
