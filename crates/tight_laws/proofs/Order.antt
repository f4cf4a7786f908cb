-- The closure doesn't depend on the order of the pair steps: it is the greatest closed matrix between the limits below m,
-- since the steps only fall, stay above each such matrix, and end in one. A variable may come more than once.
use Rattle.std.proofs.Common.{◌≡◌, ℕ, ◌+◌, ◌*◌, ◌<◌, ◌≤◌, inl, inr, Bool, true, false, List, [], ◌∷◌, length, refl, sym, ap, ◌∙◌, arith}
use Rattle.oct_def.specs.Bound.{InRange}
use Rattle.oct_def.specs.Table.{Matrix, at}
use Rattle.oct_def.specs.Tight.{pair_step, negative_cycle, has_negative_cycle, tight_closed}
use Rattle.oct_def.proofs.Tables.{same-matrices}
use Rattle.oct_def.proofs.Bounds.{not_negative}
use Rattle.oct_def.proofs.Indices.{some_index-none}
use Rattle.oct_def.proofs.Values.{IsShape, shape-matrix, shape-pair_step}
use Rattle.tight_laws.specs.Laws.{IsSmallMatrix}
use Rattle.tight_laws.proofs.Below.{Below, Below-refl, Below-same, Below-trans, Below-plus, Below-antisym, within-Below}
use Rattle.tight_laws.proofs.Clamps.{Below-clamped}
use Rattle.tight_laws.proofs.Pairs.{under-pivot}
use Rattle.tight_laws.proofs.Weights.{In}
use Rattle.tight_laws.proofs.Closing.{at-pair_step, pair_step-lower, steps_at, length-steps_at}
use Rattle.tight_laws.proofs.Strong.{IsClosed}
use Rattle.tight_laws.proofs.Results.{closed-steps}

-- each entry is at most the other's
pub record Under (size : ℕ) (a b : Matrix) : Type 0 where
  pub under : (i j : ℕ) → i < size → j < size → Below (at a i j) (at b i j)

pub shape-steps_at : (n : ℕ) (m : Matrix) → IsShape n m → (ws : List ℕ) → ((w : ℕ) → In w ws → w < n) → IsShape n (steps_at ws m)
unfolding steps_at
shape-steps_at n m h [] inside = h
shape-steps_at n m h (w ∷ ws) inside = shape-pair_step n (steps_at ws m) w (inside w (inl refl)) (shape-steps_at n m h ws (λ v k. inside v (inr k)))

steps-lower : (n : ℕ) (m : Matrix) → length m ≡ 2 * n → (ws : List ℕ) → Under (2 * n) (steps_at ws m) m
unfolding steps_at
steps-lower n m e [] = record { under = λ i j hi hj. Below-refl (at m i j) }
steps-lower n m e (w ∷ ws) =
    let before = steps-lower n m e ws in
    record { under = λ i j hi hj. Below-trans (pair_step-lower (2 * n) w (steps_at ws m) (length-steps_at ws m ∙ e) i j hi hj) (before.under i j hi hj) }

-- a closed matrix in range below the entries stays below
under-step : (n w : ℕ) (g m : Matrix) → IsClosed n g → ((i j : ℕ) → InRange (at g i j)) → length m ≡ 2 * n → w < n → Under (2 * n) g m → Under (2 * n) g (pair_step w m)
under-step n w g m c range e hw u = record {
  under = λ i j hi hj.
      let p = 2 * w in
      let q = 2 * w + 1 in
      let hp : p < 2 * n = omega arith in
      let hq : q < 2 * n = omega arith in
      let short = λ (x : ℕ) (hx : x < 2 * n). Below-clamped (range i j) (Below-trans (c.triangle i x j) (Below-plus (u.under i x hi hx) (u.under x j hx hj))) in
      let long = λ (x y : ℕ) (hx : x < 2 * n) (hy : y < 2 * n). Below-clamped (range i j) (Below-trans (Below-trans (c.triangle i y j) (Below-plus (c.triangle i x y) (Below-refl (at g y j)))) (Below-plus (Below-plus (u.under i x hi hx) (u.under x y hx hy)) (u.under y j hy hj))) in
      Below-trans (under-pivot (at g i j) p q m i j (u.under i j hi hj) (short p hp) (short q hq) (long p q hp hq) (long q p hq hp)) (Below-same (sym (at-pair_step (2 * n) w m e i j hi hj)));
}

under-steps : (n : ℕ) (g m : Matrix) → IsClosed n g → ((i j : ℕ) → InRange (at g i j)) → length m ≡ 2 * n → Under (2 * n) g m → (ws : List ℕ) → ((w : ℕ) → In w ws → w < n) → Under (2 * n) g (steps_at ws m)
unfolding steps_at
under-steps n g m c range e u [] inside = u
under-steps n g m c range e u (w ∷ ws) inside =
    under-step n w g (steps_at ws m) c range (length-steps_at ws m ∙ e) (inside w (inl refl)) (under-steps n g m c range e u ws (λ v k. inside v (inr k)))

-- an order of the variables, each once or more
pub record Order (n : ℕ) (ws : List ℕ) : Type 0 where
  pub inside : (w : ℕ) → In w ws → w < n
  pub all : (w : ℕ) → w < n → In w ws
  pub few : 2 * length ws + 1 ≤ 4 * n + 4

no_cycle_under : (n : ℕ) (g m : Matrix) → IsClosed n g → length m ≡ 2 * n → Under (2 * n) g m → has_negative_cycle m ≡ false
unfolding has_negative_cycle negative_cycle
no_cycle_under n g m c e u = some_index-none (length m) (negative_cycle m) (λ i p.
    let hi : i < 2 * n = omega arith in
    not_negative (at m i i) (within-Below (Below-trans (Below-same (sym (c.zeros i hi))) (u.under i i hi hi))))

-- a matrix that a closing of m gives: it falls from m, stays above each closed matrix in range below m, and is closed
-- where it has no negative cycle
pub record IsClosing (n : ℕ) (m q : Matrix) : Type 0 where
  pub shape : IsShape n q
  pub lower : Under (2 * n) q m
  pub above : (g : Matrix) → IsClosed n g → ((i j : ℕ) → InRange (at g i j)) → Under (2 * n) g m → Under (2 * n) g q
  pub closes : has_negative_cycle q ≡ false → IsClosed n q

pub closing-steps : (n : ℕ) (m : Matrix) → IsSmallMatrix n m → (ws : List ℕ) → Order n ws → IsClosing n m (steps_at ws m)
closing-steps n m h ws o = record {
  shape = shape-steps_at n m (shape-matrix n m h.matrix) ws o.inside;
  lower = steps-lower n m h.matrix.rows ws;
  above = λ g c range u. under-steps n g m c range h.matrix.rows u ws o.inside;
  closes = closed-steps n m h ws o.inside o.all o.few;
}

same_closings : (n : ℕ) (m a b : Matrix) → IsClosing n m a → IsClosing n m b → has_negative_cycle a ≡ false → a ≡ b
same_closings n m a b ca cb e =
    let first = ca.closes e in
    let under_b = cb.above a first ca.shape.in_range ca.lower in
    let second = cb.closes (no_cycle_under n a b first cb.shape.rows under_b) in
    let under_a = ca.above b second cb.shape.in_range cb.lower in
    same-matrices a b ca.shape.square cb.shape.square (ca.shape.rows ∙ sym cb.shape.rows) (λ i j p q.
    let size = ca.shape.rows in
    Below-antisym (under_b.under i j (omega arith) (omega arith)) (under_a.under i j (omega arith) (omega arith)))

both_bottom : (a b : Matrix) → has_negative_cycle a ≡ true → has_negative_cycle b ≡ true → tight_closed a ≡ tight_closed b
unfolding tight_closed
both_bottom a b e f = rw (e, f) refl

-- all closings of one matrix end alike
pub any_closing : (n : ℕ) (m a b : Matrix) → IsClosing n m a → IsClosing n m b → tight_closed a ≡ tight_closed b
any_closing n m a b ca cb = by (has_negative_cycle a) (has_negative_cycle b) refl refl
  where
    by : (x y : Bool) → has_negative_cycle a ≡ x → has_negative_cycle b ≡ y → tight_closed a ≡ tight_closed b
    by false y e f = ap tight_closed (same_closings n m a b ca cb e)
    by true false e f = sym (ap tight_closed (same_closings n m b a cb ca f))
    by true true e f = both_bottom a b e f

pub any_order : (n : ℕ) (m : Matrix) → IsSmallMatrix n m → (ws vs : List ℕ) → Order n ws → Order n vs → tight_closed (steps_at ws m) ≡ tight_closed (steps_at vs m)
any_order n m h ws vs a b = any_closing n m (steps_at ws m) (steps_at vs m) (closing-steps n m h ws a) (closing-steps n m h vs b)
