-- Each step of the tight closure by itself.
use Rattle.std.proofs.Common.{◌≡◌, ℕ, ◌+◌, ◌*◌, ◌/◌, ◌<◌, ◌≤◌, ◌⊎◌, inl, inr, Bool, true, false, cond, eqb, List, length, Some, None, refl, sym, ap, ◌∙◌, subst, arith, zero, suc, add-one}
use Rattle.std.specs.Prelude.{ℤ}
use Rattle.std.proofs.lemmas.Int.{ints}
use Rattle.std.proofs.lemmas.Bool.{cases_eq}
use Rattle.oct_def.specs.Bound.{Bound, plus, least, half, evened, at_most}
use Rattle.oct_def.specs.Table.{Matrix, table, at}
use Rattle.oct_def.specs.Matrix.{opposite, IsSquare}
use Rattle.oct_def.specs.Tight.{pivot_entry, pair_entry, pair_step, pair_steps, closure, even_entry, evening, strong_entry, strengthening, tight}
use Rattle.oct_def.proofs.Tables.{at-table, square-table, same-matrices}
use Rattle.oct_def.proofs.Bounds.{int_min_left, half_low}
use Rattle.oct_def.proofs.Orders.{plus_none, least_none}
use Rattle.oct_def.proofs.Sound.{length-pair_steps, square-pair_steps}
use Rattle.oct_def.proofs.Indices.{opposite_twice, opposite_below}
use Rattle.block_partition.specs.Partition.{IsIn}
use Rattle.block_laws.specs.Assembly.{IsCutOff}
use Rattle.block_laws.specs.Components.{HasBound}
use Rattle.block_laws.specs.Steps.{IsBelow, StepsLower, StepsKeep}
use Rattle.block_laws.proofs.Restrict.{pair_entry-still}
use Rattle.block_laws.proofs.Closing.{evened_closure, closed-from, length-evening, at-strengthening}

-- ---- a step at a variable of a block that is cut off

pub pair_step-inside : (n k : ℕ) (vs : List ℕ) (m : Matrix) → length m ≡ 2 * n → k < n → IsIn vs k → IsCutOff vs m
    → (i j : ℕ) → i < length m → j < length m → (IsIn vs (i / 2) → ⊥) ⊎ (IsIn vs (j / 2) → ⊥) → at (pair_step k m) i j ≡ at m i j
unfolding pair_step
pair_step-inside n k vs m e hk hin cut i j p q out = at-table (length m) (pair_entry k m) i j p q ∙ pair_entry-still k m i j (by out)
  where
    even_in : IsIn vs ((2 * k) / 2)
    even_in = let f : (2 * k) / 2 ≡ k = omega arith in rw f hin

    odd_in : IsIn vs ((2 * k + 1) / 2)
    odd_in = let f : (2 * k + 1) / 2 ≡ k = omega arith in rw f hin

    by : (IsIn vs (i / 2) → ⊥) ⊎ (IsIn vs (j / 2) → ⊥) → ((at m i (2 * k) ≡ None) × (at m i (2 * k + 1) ≡ None)) ⊎ ((at m (2 * k) j ≡ None) × (at m (2 * k + 1) j ≡ None))
    by (inl h) = inl (cut.back (2 * k) i (omega arith) p even_in h, cut.back (2 * k + 1) i (omega arith) p odd_in h)
    by (inr h) = inr (cut.out (2 * k) j (omega arith) q even_in h, cut.out (2 * k + 1) j (omega arith) q odd_in h)

-- ---- bounds in order

lower-least : (a b : Bound) → at_most (least a b) a ≡ true
lower-least None b = refl
lower-least (Some x) None = grind (arith, ints)
lower-least (Some x) (Some y) = let r = int_min_left x y in grind (arith, ints)

lower-same : (a : Bound) → at_most a a ≡ true
lower-same None = refl
lower-same (Some x) = grind (arith, ints)

lower-evened : (a : Bound) → at_most (evened a) a ≡ true
lower-evened None = refl
lower-evened (Some x) = let r = half_low x in grind (arith, ints)

lower-trans : (a b c : Bound) → at_most a b ≡ true → at_most b c ≡ true → at_most a c ≡ true
lower-trans a b None h k = refl
lower-trans a None (Some z) h k = absurd (cc)
lower-trans None (Some y) (Some z) h k = absurd (cc)
lower-trans (Some x) (Some y) (Some z) h k = grind (arith, ints)

lower-both : (a b : Bound) → at_most a b ≡ true → at_most b a ≡ true → a ≡ b
lower-both None None h k = refl
lower-both None (Some y) h k = absurd (cc)
lower-both (Some x) None h k = absurd (cc)
lower-both (Some x) (Some y) h k = ap Some (omega (arith, ints))

lower-cond : (b : Bool) (a : Bound) → at_most (cond b (evened a) a) a ≡ true
lower-cond true a = lower-evened a
lower-cond false a = lower-same a

-- ---- no step raises an entry

below-table : (m : Matrix) (f : ℕ → ℕ → Bound) → ((i j : ℕ) → at_most (f i j) (at m i j) ≡ true) → IsBelow (table (length m) f) m
below-table m f h = record { below = λ i j p q. subst (λ t. at_most t (at m i j) ≡ true) (sym (at-table (length m) f i j p q)) (h i j) }

pair_step-lower : (k : ℕ) (m : Matrix) → IsBelow (pair_step k m) m
unfolding pair_step pair_entry pivot_entry
pair_step-lower k m = below-table m (pair_entry k m) (λ i j. lower-least (at m i j) _)

evening-lower : (m : Matrix) → IsBelow (evening m) m
unfolding evening even_entry
evening-lower m = below-table m (even_entry m) (λ i j. lower-cond (eqb j (opposite i)) (at m i j))

strengthening-lower : (m : Matrix) → IsBelow (strengthening m) m
unfolding strengthening strong_entry
strengthening-lower m = below-table m (strong_entry m) (λ i j. lower-least (at m i j) _)

pub steps-lower : (m : Matrix) → StepsLower m
steps-lower m = record { pairs = λ k. pair_step-lower k m; unary = evening-lower m; strong = strengthening-lower m }

-- ---- what the tight closure gives again

below-trans : (x y m : Matrix) → length y ≡ length m → IsBelow x y → IsBelow y m → IsBelow x m
below-trans x y m e h k = record { below = λ i j p q. lower-trans (at x i j) (at y i j) (at m i j) (h.below i j (omega arith) (omega arith)) (k.below i j p q) }

below-both : (x m : Matrix) → IsSquare x → IsSquare m → length x ≡ length m → IsBelow x m → IsBelow m x → x ≡ m
below-both x m sx sm e h k = same-matrices x m sx sm e (λ i j p q. lower-both (at x i j) (at m i j) (h.below i j (omega arith) (omega arith)) (k.below i j p q))

below-same : (m : Matrix) → IsBelow m m
below-same m = record { below = λ i j p q. lower-same (at m i j) }

-- from k steps on to more of them
below-more : (m : Matrix) (k e : ℕ) → k ≤ e → IsBelow (pair_steps e m) (pair_steps k m)
unfolding pair_steps
below-more m k zero h = subst (λ t. IsBelow m (pair_steps t m)) (let e : 0 ≡ k = omega arith in e) (below-same m)
below-more m k (suc e) h = by (cases_eq k (suc e)) (λ p. below-more m k e p)
  where
    by : (k ≡ suc e) ⊎ (k ≡ suc e → ⊥) → (k ≤ e → IsBelow (pair_steps e m) (pair_steps k m)) → IsBelow (pair_step e (pair_steps e m)) (pair_steps k m)
    by (inl f) rest = subst (λ t. IsBelow (pair_step e (pair_steps e m)) (pair_steps t m)) (sym f) (below-same (pair_step e (pair_steps e m)))
    by (inr d) rest =
        let a = length-pair_steps e m in
        let b = length-pair_steps k m in
        below-trans (pair_step e (pair_steps e m)) (pair_steps e m) (pair_steps k m) (omega arith) (pair_step-lower e (pair_steps e m)) (rest (grind (arith, d)))

evening-square : (m : Matrix) → IsSquare (evening m)
unfolding evening
evening-square m = square-table (length m) (even_entry m)

pub settled-stays : (m : Matrix) → IsSquare m → tight m ≡ Some m → StepsKeep (length m / 2) m
unfolding evened_closure closure pair_steps
settled-stays m sq h = record {
  pairs = λ k p. ap (pair_step k) (sym (same k (omega arith))) ∙ ap (λ t. pair_steps t m) (sym (add-one k)) ∙ same (k + 1) (omega arith);
  unary = evened;
  strong = ap strengthening (sym evened ∙ ap evening (sym closed)) ∙ sym result;
}
  where
    n : ℕ
    n = length m / 2

    result : m ≡ strengthening (evening (pair_steps n m))
    result = (closed-from m m h).result

    lc : length (pair_steps n m) ≡ length m
    lc = length-pair_steps n m

    le : length (evening (pair_steps n m)) ≡ length m
    le = length-evening (pair_steps n m) ∙ lc

    -- m is below each of the matrices on the way
    under_evened : IsBelow m (evening (pair_steps n m))
    under_evened = subst (λ t. IsBelow t (evening (pair_steps n m))) (sym result) (strengthening-lower (evening (pair_steps n m)))

    under_closed : IsBelow m (pair_steps n m)
    under_closed = below-trans m (evening (pair_steps n m)) (pair_steps n m) (le ∙ sym lc) under_evened (evening-lower (pair_steps n m))

    same : (k : ℕ) → k ≤ n → pair_steps k m ≡ m
    same k p =
        let lk = length-pair_steps k m in
        below-both (pair_steps k m) m (square-pair_steps k m sq) sq lk (below-more m 0 k (omega arith))
        (below-trans m (pair_steps n m) (pair_steps k m) (lc ∙ sym lk) under_closed (below-more m k n p))

    closed : pair_steps n m ≡ m
    closed = same n (omega arith)

    evened : evening m ≡ m
    evened = below-both (evening m) m (evening-square m) sq (length-evening m) (evening-lower m) (subst (λ t. IsBelow m (evening t)) closed under_evened)

-- ---- the strengthening

strong-left : (m : Matrix) (i j : ℕ) → at m i (opposite i) ≡ None → strong_entry m i j ≡ at m i j
unfolding strong_entry
strong-left m i j e = ap (λ t. least (at m i j) (plus (half t) (half (at m (opposite j) j)))) e ∙ least_none (at m i j)

strong-right : (m : Matrix) (i j : ℕ) → at m (opposite j) j ≡ None → strong_entry m i j ≡ at m i j
unfolding strong_entry
strong-right m i j e =
    ap (λ t. least (at m i j) (plus (half (at m i (opposite i))) (half t))) e
    ∙ ap (least (at m i j)) (plus_none (half (at m i (opposite i)))) ∙ least_none (at m i j)

pub strengthening-of_bounds : (n : ℕ) (m : Matrix) (i j : ℕ) → length m ≡ 2 * n → i < length m → j < length m → (HasBound m (i / 2) → ⊥) ⊎ (HasBound m (j / 2) → ⊥) → at (strengthening m) i j ≡ at m i j
strengthening-of_bounds n m i j e p q out = at-strengthening m i j p q ∙ by out
  where
    has : (k s : ℕ) (b : Bound) → s < length m → s / 2 ≡ k → at m s (opposite s) ≡ b → (HasBound m k → ⊥) → b ≡ None
    has k s None h f g d = refl
    has k s (Some x) h f g d = absurd (d (record { side = s; side_in = h; side_is = f; finite = λ t. absurd (some_none x (sym g ∙ t)) }))
      where
        some_none : (x : ℤ) → Some x ≡ None → ⊥
        some_none x t = cc

    by : (HasBound m (i / 2) → ⊥) ⊎ (HasBound m (j / 2) → ⊥) → strong_entry m i j ≡ at m i j
    by (inl d) = strong-left m i j (has (i / 2) i (at m i (opposite i)) p refl refl d)
    by (inr d) =
        let b = opposite_below n j (omega arith) in
        let none : at m (opposite j) (opposite (opposite j)) ≡ None = has (j / 2) (opposite j) _ (omega arith) (omega arith) refl d in
        strong-right m i j (ap (at m (opposite j)) (sym (opposite_twice j)) ∙ none)
