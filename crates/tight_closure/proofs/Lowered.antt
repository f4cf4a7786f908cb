-- The step by lowered rows.
use Rattle.std.proofs.Common.{◌≡◌, ℕ, ◌+◌, ◌*◌, ◌<◌, ◌≤◌, ◌⊎◌, inl, inr, List, length, get_or, sym, ap, ◌∙◌, subst, arith, FitsSigned, to_z, of_z}
use Rattle.std.specs.Prelude.{ℤ, pos, ◌≤ℤ◌}
use Rattle.std.specs.Int.{w64}
use Rattle.std.proofs.lemmas.Int.{ints, clamps, to_z-of_z}
use Rattle.std.proofs.Math.ListN.{set, length-set}
use Rattle.std.proofs.lemmas.List.{get_or-set_same, get_or-set_other}
use Rattle.oct_def.specs.Bound.{Bound, bound_of, none_word, least, plus, clamped}
use Rattle.oct_def.specs.Table.{Matrix, at}
use Rattle.oct_def.specs.Matrix.{opposite, IsCoherent}
use Rattle.oct_def.specs.Tight.{pair_entry}
use Rattle.half_matrix.specs.Place.{row_length}
use Rattle.half_matrix.specs.Lending.{with_row, IsRowOf}
use Rattle.minplus_lanes.specs.Rows.{IsLow, IsLowWeight, far, loose, low_at}
use Rattle.minplus_lanes.proofs.Low.{low_fits}
use Rattle.tight_closure.specs.LowRows.{IsSmallWord, IsLowered, IsLowRowOf}
use Rattle.tight_closure.proofs.Steps.{weighed}
use Rattle.tight_closure.proofs.Rows.{RowsDone, row_more}

pub small_fits : (x : ℤ) → IsSmallWord x → FitsSigned w64 x
small_fits x (inl e) = omega (arith, ints)
small_fits x (inr h) = let p = h.0 in let q = h.1 in omega (arith, ints)

pub small_again : (x : ℤ) → IsSmallWord x → to_z w64 (of_z w64 x) ≡ x
small_again x h = to_z-of_z w64 x (small_fits x h)

pub low_again : (x : ℤ) → IsLow x → to_z w64 (of_z w64 x) ≡ x
low_again x h = to_z-of_z w64 x (low_fits x h)

pub passed_small : (x : ℤ) → IsSmallWord x → IsSmallWord (to_z w64 (of_z w64 x))
passed_small x h = subst IsSmallWord (sym (small_again x h)) h

pub passed_low : (x : ℤ) → IsLow x → IsLow (to_z w64 (of_z w64 x))
passed_low x h = subst IsLow (sym (low_again x h)) h

-- ---- a row lowered place by place

pub record Lowering (old : List ℤ) (j : ℕ) (now : List ℤ) : Type 0 where
  pub size : length now ≡ length old
  pub low : (k : ℕ) → k < j → IsLow (get_or now k (pos 0))
  pub bounds : (k : ℕ) → k < j → loose (get_or now k (pos 0)) ≡ bound_of (get_or old k (pos 0))
  pub kept : (k : ℕ) → j ≤ k → k < length old → get_or now k (pos 0) ≡ get_or old k (pos 0)

pub lowering_more : (old : List ℤ) (j : ℕ) (now : List ℤ) (w : ℤ) → Lowering old j now → j < length old → IsLow w → loose w ≡ bound_of (get_or old j (pos 0)) → Lowering old (j + 1) (set now j w)
lowering_more old j now w l lt lw e = record {
  size = length-set now j w ∙ l.size;
  low = λ k h. by k (grind arith);
  bounds = λ k h. of k (grind arith);
  kept = λ k h i. get_or-set_other now j k w (pos 0) (omega arith) ∙ l.kept k (omega arith) i;
}
  where
    same : get_or (set now j w) j (pos 0) ≡ w
    same = get_or-set_same now j w (pos 0) (omega (arith, l.size))

    by : (k : ℕ) → (k < j) ⊎ (k ≡ j) → IsLow (get_or (set now j w) k (pos 0))
    by k (inl h) = subst IsLow (sym (get_or-set_other now j k w (pos 0) (omega arith))) (l.low k h)
    by k (inr h) = subst (λ t. IsLow (get_or (set now j w) t (pos 0))) (sym h) (subst IsLow (sym same) lw)

    of : (k : ℕ) → (k < j) ⊎ (k ≡ j) → loose (get_or (set now j w) k (pos 0)) ≡ bound_of (get_or old k (pos 0))
    of k (inl h) = ap loose (get_or-set_other now j k w (pos 0) (omega arith)) ∙ l.bounds k h
    of k (inr h) = ap (λ t. loose (get_or (set now j w) t (pos 0))) h ∙ ap loose same ∙ e ∙ ap (λ t. bound_of (get_or old t (pos 0))) (sym h)

pub lowered_row : (m : Matrix) (k : ℕ) (old now : List ℤ) → IsRowOf m k old → IsLowered old now → IsLowRowOf m k now
lowered_row m k old now r l = record {
  size = l.size ∙ r.size;
  low = l.low;
  bounds = λ j h. l.bounds j (omega (arith, r.size)) ∙ r.words j h;
}

-- ---- the step

pub low_more : (n k i : ℕ) (m now : Matrix) (old w p q : List ℤ) (a b : ℤ) → length m ≡ 2 * n → IsCoherent m → k < n → i < 2 * n
    → RowsDone (pair_entry k m) m i now → IsLowRowOf m (2 * k) p → IsLowRowOf m (2 * k + 1) q → length old ≡ row_length i → length w ≡ length old
    → ((j : ℕ) → j ≤ opposite i → bound_of (get_or old j (pos 0)) ≡ at now i j)
    → bound_of a ≡ least (at m (2 * k + 1) (opposite i)) (plus (at m (2 * k) (opposite i)) (at m (2 * k + 1) (2 * k)))
    → bound_of b ≡ least (at m (2 * k) (opposite i)) (plus (at m (2 * k + 1) (opposite i)) (at m (2 * k) (2 * k + 1)))
    → ((j : ℕ) → j < length old → bound_of (get_or w j (pos 0)) ≡ low_at old a p b q j)
    → RowsDone (pair_entry k m) m (i + 1) (with_row now i w)
unfolding low_at
low_more n k i m now old w p q a b e co hk hi s rp rq lo lw held ea eb relaxed = row_more (pair_entry k m) n i m now w e hi s (lw ∙ lo) (λ c hc o.
    let entry : bound_of (get_or old c (pos 0)) ≡ at m i c = held c o ∙ s.kept i c (omega arith) (omega arith) hc o in
    relaxed c (omega arith)
    ∙ ap (λ t. least t (least (clamped (plus (bound_of a) (loose (get_or p c (pos 0))))) (clamped (plus (bound_of b) (loose (get_or q c (pos 0))))))) entry
    ∙ ap (λ t. least (at m i c) (least (clamped (plus (bound_of a) t)) (clamped (plus (bound_of b) (loose (get_or q c (pos 0))))))) (rp.bounds c hc)
    ∙ ap (λ t. least (at m i c) (least (clamped (plus (bound_of a) (at m (2 * k) c))) (clamped (plus (bound_of b) t)))) (rq.bounds c hc)
    ∙ weighed n k i c m (bound_of a) (bound_of b) e co hk hi ea eb)

-- the word of a lowered row at the opposite of i
pub low_bound_at : (m : Matrix) (k : ℕ) (buf : List ℤ) (o j : ℕ) (w : ℤ) → IsLowRowOf m k buf → o < length m → o ≡ j → bound_of w ≡ loose (to_z w64 (of_z w64 (get_or buf o (pos 0)))) → bound_of w ≡ at m k j
low_bound_at m k buf o j w r lt e h = h ∙ ap loose (low_again (get_or buf o (pos 0)) (r.low.words o (omega (arith, r.size)))) ∙ r.bounds o lt ∙ ap (at m k) e

-- ---- words

pub near_bound : (x : ℤ) → (x ≡ far → ⊥) → IsLow x → bound_of x ≡ loose x
near_bound x n (inl e) = absurd (n e)
near_bound x n (inr h) = let p = h.0 in let q = h.1 in grind (arith, ints)

pub far_bound : (x : ℤ) → (x ≡ none_word → ⊥) → IsSmallWord x → loose x ≡ bound_of x
far_bound x n (inl e) = absurd (n e)
far_bound x n (inr h) = let p = h.0 in let q = h.1 in grind (arith, ints)

pub small_weight_of : (x : ℤ) → IsSmallWord x → IsLowWeight x
small_weight_of x (inl e) = inl e
small_weight_of x (inr h) = let p = h.0 in let q = h.1 in inr (record { low = omega (arith, ints); high = omega (arith, ints) })

pub lesser_kept : (x s : ℤ) (b : Bound) → x ≤ℤ s → s ≤ℤ none_word → bound_of s ≡ b → bound_of x ≡ least (bound_of x) b
lesser_kept x s b h l e = kept ∙ ap (least (bound_of x)) e
  where
    kept : bound_of x ≡ least (bound_of x) (bound_of s)
    kept = grind (arith, ints, clamps)
