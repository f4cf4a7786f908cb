-- The step at one variable, row by row.
use Rattle.std.proofs.Common.{◌≡◌, ℕ, ◌+◌, ◌*◌, ◌<◌, ◌≤◌, inl, inr, List, length, get_or, refl, sym, ap, ◌∙◌, subst, arith, to_z, of_z}
use Rattle.std.specs.Prelude.{ℤ, pos, ◌≤ℤ◌}
use Rattle.std.specs.Int.{w64}
use Rattle.std.proofs.lemmas.Int.{ints, clamps}
use Rattle.oct_def.specs.Bound.{Bound, bound_of, none_word, least, plus, clamped, InRange, IsWord}
use Rattle.oct_def.specs.Table.{Matrix, at}
use Rattle.oct_def.specs.Matrix.{opposite, IsSquare, IsCoherent}
use Rattle.oct_def.specs.Tight.{path, long_path, pivot_entry, pair_entry, pair_step, pair_steps}
use Rattle.oct_def.proofs.Indices.{opposite-even, opposite-odd}
use Rattle.oct_def.proofs.Coherent.{twin, pair_entry-twin}
use Rattle.oct_def.proofs.WordBounds.{word-in_range}
use Rattle.oct_def.proofs.Values.{shape-pair_steps}
use Rattle.std.proofs.Common.{add-one}
use Rattle.tight_closure.proofs.Rows.{RowsDone, row_more, all_rows}
use Rattle.oct_def.proofs.Weights.{words_by_two_weights}
use Rattle.half_matrix.specs.Place.{row_length}
use Rattle.half_matrix.specs.Lending.{with_row, IsRowOf}
use Rattle.minplus_lanes.specs.Rows.{AllWords, IsWeight, relaxed_at}
use Rattle.minplus_lanes.proofs.Rows.{again}

-- words of a row
pub row_words : (m : Matrix) (k : ℕ) (buf : List ℤ) → ((i j : ℕ) → InRange (at m i j)) → IsRowOf m k buf → AllWords buf
row_words m k buf h r = record { words = λ j lt. word-in_range (get_or buf j (pos 0)) (subst InRange (sym (r.words j (omega (arith, r.size)))) (h k j)) }

pub row_word : (m : Matrix) (k : ℕ) (buf : List ℤ) (j : ℕ) → ((i j : ℕ) → InRange (at m i j)) → IsRowOf m k buf → j < length m → IsWord (get_or buf j (pos 0))
row_word m k buf j h r lt = (row_words m k buf h r).words j (omega (arith, r.size))

-- the entry of row i by the two weights
pub weighed : (n k i c : ℕ) (m : Matrix) (a b : Bound) → length m ≡ 2 * n → IsCoherent m → k < n → i < 2 * n
    → a ≡ least (at m (2 * k + 1) (opposite i)) (plus (at m (2 * k) (opposite i)) (at m (2 * k + 1) (2 * k)))
    → b ≡ least (at m (2 * k) (opposite i)) (plus (at m (2 * k + 1) (opposite i)) (at m (2 * k) (2 * k + 1)))
    → least (at m i c) (least (clamped (plus a (at m (2 * k) c))) (clamped (plus b (at m (2 * k + 1) c)))) ≡ pair_entry k m i c
unfolding pair_entry pivot_entry path long_path
weighed n k i c m a b e co hk hi ea eb =
    let p = 2 * k in
    let q = 2 * k + 1 in
    let ip : at m q (opposite i) ≡ at m i p = ap (λ t. at m t (opposite i)) (sym (opposite-even k)) ∙ sym (twin n m e co i p hi (omega arith)) in
    let iq : at m p (opposite i) ≡ at m i q = ap (λ t. at m t (opposite i)) (sym (opposite-odd k)) ∙ sym (twin n m e co i q hi (omega arith)) in
    let fa : a ≡ least (at m i p) (plus (at m i q) (at m q p)) = ea ∙ ap (λ t. least t (plus (at m p (opposite i)) (at m q p))) ip ∙ ap (λ t. least (at m i p) (plus t (at m q p))) iq in
    let fb : b ≡ least (at m i q) (plus (at m i p) (at m p q)) = eb ∙ ap (λ t. least t (plus (at m q (opposite i)) (at m p q))) iq ∙ ap (λ t. least (at m i q) (plus t (at m p q))) ip in
    ap (λ t. least (at m i c) (least (clamped (plus t (at m p c))) (clamped (plus b (at m q c))))) fa
    ∙ ap (λ t. least (at m i c) (least (clamped (plus (least (at m i p) (plus (at m i q) (at m q p))) (at m p c))) (clamped (plus t (at m q c))))) fb
    ∙ sym (words_by_two_weights (at m i c) (at m i p) (at m i q) (at m p q) (at m q p) (at m p c) (at m q c))

-- one row more
pub stepped_more : (n k i : ℕ) (m now : Matrix) (old w p q : List ℤ) (a b : ℤ) → length m ≡ 2 * n → IsCoherent m → k < n → i < 2 * n
    → RowsDone (pair_entry k m) m i now → IsRowOf m (2 * k) p → IsRowOf m (2 * k + 1) q → length old ≡ row_length i → length w ≡ length old
    → ((j : ℕ) → j ≤ opposite i → bound_of (get_or old j (pos 0)) ≡ at now i j)
    → bound_of a ≡ least (at m (2 * k + 1) (opposite i)) (plus (at m (2 * k) (opposite i)) (at m (2 * k + 1) (2 * k)))
    → bound_of b ≡ least (at m (2 * k) (opposite i)) (plus (at m (2 * k + 1) (opposite i)) (at m (2 * k) (2 * k + 1)))
    → ((j : ℕ) → j < length old → bound_of (get_or w j (pos 0)) ≡ relaxed_at old a p b q j)
    → RowsDone (pair_entry k m) m (i + 1) (with_row now i w)
unfolding relaxed_at
stepped_more n k i m now old w p q a b e co hk hi s rp rq lo lw held ea eb relaxed = row_more (pair_entry k m) n i m now w e hi s (lw ∙ lo) (λ c hc o.
    let entry : bound_of (get_or old c (pos 0)) ≡ at m i c = held c o ∙ s.kept i c (omega arith) (omega arith) hc o in
    relaxed c (omega arith)
    ∙ ap (λ t. least t (least (clamped (plus (bound_of a) (bound_of (get_or p c (pos 0))))) (clamped (plus (bound_of b) (bound_of (get_or q c (pos 0))))))) entry
    ∙ ap (λ t. least (at m i c) (least (clamped (plus (bound_of a) t)) (clamped (plus (bound_of b) (bound_of (get_or q c (pos 0))))))) (rp.words c hc)
    ∙ ap (λ t. least (at m i c) (least (clamped (plus (bound_of a) (at m (2 * k) c))) (clamped (plus (bound_of b) t)))) (rq.words c hc)
    ∙ weighed n k i c m (bound_of a) (bound_of b) e co hk hi ea eb)

-- all rows
pub all_stepped : (n k : ℕ) (m now : Matrix) → length m ≡ 2 * n → IsCoherent m → IsSquare now → IsCoherent now → k < n → RowsDone (pair_entry k m) m (2 * n) now → now ≡ pair_step k m
unfolding pair_step
all_stepped n k m now e co sq cn hk s = all_rows (pair_entry k m) n m now e sq cn (λ i j p q. pair_entry-twin n m e co k i j hk p q) s

-- ---- weights

pub weight_kept : (x s : ℤ) (b : Bound) → x ≤ℤ s → s ≤ℤ none_word → bound_of s ≡ b → bound_of x ≡ least (bound_of x) b
weight_kept x s b h l e = kept ∙ ap (least (bound_of x)) e
  where
    kept : bound_of x ≡ least (bound_of x) (bound_of s)
    kept = grind (arith, ints, clamps)

pub weight_from : (x y z u v t : ℤ) (bx by bz : Bound) → u ≡ x → v ≡ y → t ≡ z → bound_of x ≡ bx → bound_of y ≡ by → bound_of z ≡ bz
    → least (bound_of u) (plus (bound_of v) (bound_of t)) ≡ least bx (plus by bz)
weight_from x y z u v t bx by bz eu ev et ex ey ez =
    rw (ap bound_of eu ∙ ex, ap bound_of ev ∙ ey, ap bound_of et ∙ ez) refl

-- the word of a row at the opposite of i
pub word_at : (m : Matrix) (k : ℕ) (buf : List ℤ) (o j : ℕ) → IsRowOf m k buf → o < length m → o ≡ j → bound_of (get_or buf o (pos 0)) ≡ at m k j
word_at m k buf o j r lt e = r.words o lt ∙ ap (at m k) e

pub word_weight_again : (x : ℤ) → IsWord x → IsWeight (to_z w64 (of_z w64 x))
word_weight_again x h = subst IsWeight (sym (again x h)) (by h)
  where
    by : IsWord x → IsWeight x
    by (inl e) = inl e
    by (inr r) = inr (record { low = let a = r.0 in omega (arith, ints); high = let b = r.1 in omega (arith, ints) })

-- ---- all steps

pub pair_steps-more : (n : ℕ) (m : Matrix) → pair_step n (pair_steps n m) ≡ pair_steps (n + 1) m
unfolding pair_steps
pair_steps-more n m = rw add-one refl

pub in_range-steps : (n : ℕ) (m now : Matrix) (k : ℕ) → length m ≡ 2 * n → k ≤ n → IsSquare m → IsCoherent m → ((i j : ℕ) → InRange (at m i j)) → now ≡ pair_steps k m → (i j : ℕ) → InRange (at now i j)
in_range-steps n m now k e hk sq co h s i j =
    let v = shape-pair_steps n m k hk (record { rows = e; square = sq; coherent = co; in_range = h }) in
    subst (λ t. InRange (at t i j)) (sym s) (v.in_range i j)
