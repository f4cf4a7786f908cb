-- Half matrices made entry by entry.
use Rattle.std.proofs.Common.{◌≡◌, ℕ, ◌+◌, ◌*◌, ◌<◌, ◌≤◌, ◌⊎◌, inl, inr, true, false, List, length, refl, sym, ap, ◌∙◌, subst, arith}
use Rattle.std.specs.Prelude.{ℤ}
use Rattle.std.proofs.lemmas.Bool.{cases_Bool, cases_eq, cond-true, cond-false}
use Rattle.oct_def.specs.Bound.{Bound, bound_of}
use Rattle.oct_def.specs.Table.{Matrix, at}
use Rattle.oct_def.specs.Matrix.{opposite, IsSquare, IsCoherent}
use Rattle.oct_def.proofs.Tables.{at-table, is-table}
use Rattle.half_matrix.specs.Lending.{same_entry, set_entry, with_entry}
use Rattle.half_matrix.proofs.Ranges.{length-set_entry}
use Rattle.half_matrix.proofs.Places.{Same, same_of, of_same}
use Rattle.block_partition.specs.Partition.{IsBlock}
use Rattle.block_laws.specs.Assembly.{outer, restrict, restrict_entry}
use Rattle.block_laws.proofs.Places.{outer_below, outer-opposite}

-- the stored entries before (i, j), row after row, are as asked
pub record Stored (asked : ℕ → ℕ → ℤ → Type 0) (m : Matrix) (i j : ℕ) : Type 0 where
  pub rows : (r c : ℕ) → r < i → r < length m → c < opposite r + 1 → (w : ℤ) × asked r c w × (bound_of w ≡ at m r c)
  pub row : (c : ℕ) → c < j → i < length m → c < opposite i + 1 → (w : ℤ) × asked i c w × (bound_of w ≡ at m i c)

pub stored-row : (asked : ℕ → ℕ → ℤ → Type 0) (m : Matrix) (i j : ℕ) → Stored asked m i j → opposite i + 1 ≤ j → Stored asked m (i + 1) 0
stored-row asked m i j s h = record { rows = λ r c p q t. by r c q t p (cases_eq r i); row = λ c p. absurd (omega arith) }
  where
    by : (r c : ℕ) → r < length m → c < opposite r + 1 → r < i + 1 → (r ≡ i) ⊎ (r ≡ i → ⊥) → (w : ℤ) × asked r c w × (bound_of w ≡ at m r c)
    by r c q t p (inl e) = subst (λ x. (w : ℤ) × asked x c w × (bound_of w ≡ at m x c)) (sym e) (s.row c (let f = ap opposite e in omega arith) (omega arith) (subst (λ x. c < opposite x + 1) e t))
    by r c q t p (inr d) = s.rows r c (grind (arith, d)) q t

-- a write at a stored place changes no other stored entry
own-entry : (m : Matrix) (i j r c : ℕ) (b : Bound) → i < length m → r < length m → c < length m → j < opposite i + 1 → c < opposite r + 1 → (at (with_entry m i j b) r c ≡ at m r c) ⊎ ((r ≡ i) × (c ≡ j))
unfolding with_entry set_entry
own-entry m i j r c b p q s u v = by (cases_Bool (same_entry i j r c))
  where
    here : Same i j r c → (r ≡ i) × (c ≡ j)
    here (inl k) = k
    here (inr (x, y)) = (omega arith, omega arith)

    by : (same_entry i j r c ≡ true) ⊎ (same_entry i j r c ≡ false) → (at (with_entry m i j b) r c ≡ at m r c) ⊎ ((r ≡ i) × (c ≡ j))
    by (inl e) = inr (here (same_of i j r c e))
    by (inr e) = inl (at-table (length m) (set_entry m i j b) r c q s ∙ cond-false _ _ _ e)

pub stored-more : (asked : ℕ → ℕ → ℤ → Type 0) (m x : Matrix) (i j : ℕ) (w : ℤ) → Stored asked m i j → i < length m → j < length m → j < opposite i + 1 → x ≡ with_entry m i j (bound_of w) → asked i j w → Stored asked x i (j + 1)
unfolding with_entry set_entry
stored-more asked m x i j w s p q own e here = subst (λ t. Stored asked t i (j + 1)) (sym e) (record {
  rows = λ r c l k t.
      let z = length-set_entry m i j (bound_of w) in
      old r c (omega arith) t (inr l) (s.rows r c l (omega arith) t) (own-entry m i j r c (bound_of w) p (omega arith) (omega arith) own t);
  row = λ c l k t. let z = length-set_entry m i j (bound_of w) in by c l t (cases_eq c j);
})
  where
    y : Matrix
    y = with_entry m i j (bound_of w)

    old : (r c : ℕ) → r < length m → c < opposite r + 1 → (r ≡ i → c ≡ j → ⊥) ⊎ (r < i) → (v : ℤ) × asked r c v × (bound_of v ≡ at m r c) → (at y r c ≡ at m r c) ⊎ ((r ≡ i) × (c ≡ j)) → (v : ℤ) × asked r c v × (bound_of v ≡ at y r c)
    old r c l t d h (inl f) = (h.0, h.1, h.2 ∙ sym f)
    old r c l t (inl d) h (inr (f, g)) = absurd (d f g)
    old r c l t (inr d) h (inr (f, g)) = absurd (omega arith)

    by : (c : ℕ) → c < j + 1 → c < opposite i + 1 → (c ≡ j) ⊎ (c ≡ j → ⊥) → (v : ℤ) × asked i c v × (bound_of v ≡ at y i c)
    by c l t (inl f) = subst (λ c. (v : ℤ) × asked i c v × (bound_of v ≡ at y i c)) (sym f) (w, here, sym (at-table (length m) (set_entry m i j (bound_of w)) i j p q ∙ cond-true _ _ _ (of_same i j i j (inl (refl, refl)))))
    by c l t (inr d) = old i c p t (inl (λ f g. d g)) (s.row c (grind (arith, d)) p t) (own-entry m i j i c (bound_of w) p p (omega arith) own t)

pub stored-all : (asked : ℕ → ℕ → ℤ → Type 0) (m : Matrix) (n i r c : ℕ) → Stored asked m i 0 → length m ≡ n → n ≤ i → r < n → c < opposite r + 1 → (w : ℤ) × asked r c w × (bound_of w ≡ at m r c)
stored-all asked m n i r c s e h p q = s.rows r c (omega arith) (omega arith) q

-- ---- a stored part of a matrix

-- a coherent matrix whose stored entries are those of a part is the part
pub part-is : (n : ℕ) (vs : List ℕ) (x m : Matrix) → IsBlock n vs → length x ≡ 2 * n → IsCoherent x → length m ≡ 2 * length vs → IsSquare m → IsCoherent m
    → ((i j : ℕ) → i < 2 * length vs → j < opposite i + 1 → at m i j ≡ at x (outer vs i) (outer vs j)) → m ≡ restrict vs x
unfolding restrict restrict_entry
part-is n vs x m bl e cx f sq cm h = is-table m (2 * length vs) (restrict_entry vs x) sq f (λ i j p q. by i j p q (grind arith))
  where
    by : (i j : ℕ) → i < 2 * length vs → j < 2 * length vs → (j < opposite i + 1) ⊎ (opposite i < j) → at m i j ≡ at x (outer vs i) (outer vs j)
    by i j p q (inl o) = h i j p o
    by i j p q (inr o) =
        let a = outer_below n vs i bl p in
        let b = outer_below n vs j bl q in
        cm.twins i j (omega arith) (omega arith) ∙ h (opposite j) (opposite i) (omega arith) (omega arith)
        ∙ ap (λ t. at x t (outer vs (opposite i))) (outer-opposite vs j) ∙ ap (at x (opposite (outer vs j))) (outer-opposite vs i)
        ∙ sym (cx.twins (outer vs i) (outer vs j) (omega arith) (omega arith))
