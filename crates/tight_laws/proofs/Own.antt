-- A matrix that is its own tight closure is closed where its entries are small: no step of the closure lowers an entry, so
-- each entry is at most each sum of the step at its pivot. The same of the matrix without one variable.
use Rattle.std.proofs.Common.{◌≡◌, ◌≢◌, ℕ, ◌+◌, ◌-◌, ◌*◌, ◌/◌, ◌<◌, ◌≤◌, ◌⊎◌, inl, inr, Bool, true, false, cond, eqb, ltb, length, Some, refl, sym, ap, ◌∙◌, subst, arith, zero, suc}
use Rattle.oct_def.specs.Bound.{Bound, plus, clamped, evened, half, InRange}
use Rattle.oct_def.specs.Table.{Matrix, at}
use Rattle.oct_def.specs.Matrix.{opposite, IsSquare, IsMatrix}
use Rattle.oct_def.specs.Tight.{pivot_entry, pair_step, pair_steps, closure, even_entry, evening, strong_entry, strengthening, tight_closed, tight}
use Rattle.oct_def.proofs.Tables.{length-table, at-table, square-table, same-matrices}
use Rattle.oct_def.proofs.Bounds.{clamped-in_range}
use Rattle.oct_def.proofs.Orders.{plus_none}
use Rattle.oct_def.proofs.Sound.{length-pair_steps, square-pair_steps}
use Rattle.tight_laws.specs.Laws.{IsSmallMatrix, SameBut, QuickIsTight, QuickAlone, OnePassIsTight, OnePassAlone}
use Rattle.tight_laws.specs.Quick.{past, without_entry, without}
use Rattle.std.proofs.lemmas.Bool.Decides.{nat_tests}
use Rattle.oct_def.proofs.Indices.{opposite_below}
use Rattle.oct_def.proofs.Values.{each-table}
use Rattle.tight_laws.proofs.Below.{Below, Below-refl, Below-same, Below-trans, Below-left, Below-antisym, Sized, Sized-plus}
use Rattle.tight_laws.proofs.Clamps.{in_range-Sized}
use Rattle.tight_laws.proofs.Pairs.{pivot-first, pivot-second}
use Rattle.tight_laws.proofs.Closing.{at-pair_step, pair_step-lower}
use Rattle.tight_laws.proofs.Strong.{place, outside_row, outside_column, below_none, even_below, at-evening, length-evening}
use Rattle.tight_laws.proofs.Results.{most, most_fits, small_sized, Answers, answers, answered}
use Rattle.tight_laws.proofs.Near.{OthersClosed, quick-closed}
use Rattle.tight_laws.proofs.Once.{once-closed}

-- entries only fall
pair_steps-lower : (size : ℕ) (m : Matrix) → length m ≡ size → (i j : ℕ) → i < size → j < size → (n l : ℕ) → l ≤ n → Below (at (pair_steps n m) i j) (at (pair_steps l m) i j)
unfolding pair_steps
pair_steps-lower size m e i j hi hj zero l hl =
    let same : l ≡ 0 = omega arith in
    subst (λ t. Below (at m i j) (at (pair_steps t m) i j)) (sym same) (Below-refl (at m i j))
pair_steps-lower size m e i j hi hj (suc n) l hl = by (λ lt. pair_steps-lower size m e i j hi hj n l lt) (grind arith)
  where
    by : (l ≤ n → Below (at (pair_steps n m) i j) (at (pair_steps l m) i j)) → (l ≤ n) ⊎ (suc n ≡ l) → Below (at (pair_step n (pair_steps n m)) i j) (at (pair_steps l m) i j)
    by before (inl lt) = Below-trans (pair_step-lower size n (pair_steps n m) (length-pair_steps n m ∙ e) i j hi hj) (before lt)
    by before (inr same) = subst (λ t. Below (at (pair_step n (pair_steps n m)) i j) (at (pair_steps t m) i j)) same (Below-refl (at (pair_step n (pair_steps n m)) i j))

pair_steps-zero : (m : Matrix) → pair_steps 0 m ≡ m
unfolding pair_steps
pair_steps-zero m = refl

pair_steps-suc : (l : ℕ) (m : Matrix) → pair_steps (suc l) m ≡ pair_step l (pair_steps l m)
unfolding pair_steps
pair_steps-suc l m = refl

pub even_entry-lower : (c : Matrix) (i j : ℕ) → Below (even_entry c i j) (at c i j)
unfolding even_entry
even_entry-lower c i j = by (eqb j (opposite i))
  where
    by : (b : Bool) → Below (cond b (evened (at c i j)) (at c i j)) (at c i j)
    by true = even_below (at c i j)
    by false = Below-refl (at c i j)

pub strong_entry-lower : (e : Matrix) (i j : ℕ) → Below (strong_entry e i j) (at e i j)
unfolding strong_entry
strong_entry-lower e i j = Below-left (at e i j) (plus (half (at e i (opposite i))) (half (at e (opposite j) j)))

result-lower : (n : ℕ) (c : Matrix) → length c ≡ 2 * n → (i j : ℕ) → i < 2 * n → j < 2 * n → Below (at (strengthening (evening c)) i j) (at c i j)
unfolding strengthening
result-lower n c e i j hi hj =
    let rows = length-evening n c e in
    Below-trans (Below-same (at-table (length (evening c)) (strong_entry (evening c)) i j (omega arith) (omega arith)))
    (Below-trans (strong_entry-lower (evening c) i j) (Below-trans (Below-same (at-evening n c e i j hi hj)) (even_entry-lower c i j)))

own-lower : (n : ℕ) (old : Matrix) → IsMatrix n old → tight old ≡ Some old → (i j : ℕ) → i < 2 * n → j < 2 * n → Below (at old i j) (at (pair_steps n old) i j)
unfolding tight closure
own-lower n old h e i j hi hj =
    let rows = h.rows in
    let size : length old / 2 ≡ n = omega arith in
    by (answered (pair_steps n old) old (subst (λ k. tight_closed (pair_steps k old) ≡ Some old) size e))
  where
    by : Answers (pair_steps n old) old → Below (at old i j) (at (pair_steps n old) i j)
    by (answers a b c) = Below-trans (Below-same (ap (λ r. at r i j) c)) (result-lower n (pair_steps n old) (length-pair_steps n old ∙ h.rows) i j hi hj)

pub own-steps : (n : ℕ) (old : Matrix) → IsMatrix n old → tight old ≡ Some old → (l : ℕ) → l ≤ n → pair_steps l old ≡ old
own-steps n old h e l hl =
    let rows = h.rows in
    let size = length-pair_steps l old in
    same-matrices (pair_steps l old) old (square-pair_steps l old h.square) h.square size (λ i j p q.
    let hi : i < 2 * n = omega arith in
    let hj : j < 2 * n = omega arith in
    Below-antisym
    (Below-trans (pair_steps-lower (2 * n) old rows i j hi hj l 0 (omega arith)) (Below-same (ap (λ m. at m i j) (pair_steps-zero old))))
    (Below-trans (own-lower n old h e i j hi hj) (pair_steps-lower (2 * n) old rows i j hi hj n l hl)))

-- no step at a pivot changes the matrix
pub own-pair_step : (n : ℕ) (old : Matrix) → IsMatrix n old → tight old ≡ Some old → (w : ℕ) → w < n → pair_step w old ≡ old
own-pair_step n old h e w inside =
    sym (sym (own-steps n old h e (suc w) (omega (arith, inside))) ∙ pair_steps-suc w old ∙ ap (pair_step w) (own-steps n old h e w (omega (arith, inside))))

own-triangle : (n : ℕ) (old : Matrix) → IsMatrix n old → tight old ≡ Some old → (i k j : ℕ) → i < 2 * n → k < 2 * n → j < 2 * n → Below (at old i j) (clamped (plus (at old i k) (at old k j)))
own-triangle n old h e i k j hi hk hj = by (grind arith)
  where
    w : ℕ
    w = k / 2

    inside : k / 2 < n
    inside = omega arith

    same : old ≡ pair_step (k / 2) old
    same = sym (own-pair_step n old h e (k / 2) inside)

    entry : Below (at old i j) (pivot_entry (2 * (k / 2)) (2 * (k / 2) + 1) old i j)
    entry = Below-trans (Below-same (ap (λ m. at m i j) same)) (Below-same (at-pair_step (2 * n) (k / 2) old h.rows i j hi hj))

    by : (2 * (k / 2) ≡ k) ⊎ (2 * (k / 2) + 1 ≡ k) → Below (at old i j) (clamped (plus (at old i k) (at old k j)))
    by (inl f) = subst (λ x. Below (at old i j) (clamped (plus (at old i x) (at old x j)))) f (Below-trans entry (pivot-first (2 * (k / 2)) (2 * (k / 2) + 1) old i j))
    by (inr f) = subst (λ x. Below (at old i j) (clamped (plus (at old i x) (at old x j)))) f (Below-trans entry (pivot-second (2 * (k / 2)) (2 * (k / 2) + 1) old i j))

small_sum : (n : ℕ) (m : Matrix) → IsSmallMatrix n m → (i k j : ℕ) → clamped (plus (at m i k) (at m k j)) ≡ plus (at m i k) (at m k j)
small_sum n m h i k j =
    let fits = most_fits n 1 (omega arith) in
    let one : Sized (most n) (at m i k) = record { is = small_sized n (at m i k) (h.small i k) } in
    let two : Sized (most n) (at m k j) = record { is = small_sized n (at m k j) (h.small k j) } in
    clamped-in_range _ (in_range-Sized (omega arith) (Sized-plus one two))

-- closed outside v, where that holds up to clamping
clamped_others : (n v : ℕ) (m : Matrix) → IsSmallMatrix n m
    → ((i k j : ℕ) → i / 2 ≢ v → k / 2 ≢ v → j / 2 ≢ v → i < 2 * n → k < 2 * n → j < 2 * n → Below (at m i j) (clamped (plus (at m i k) (at m k j)))) → OthersClosed v m
clamped_others n v m h t = record { closed = λ i k j hi hk hj. by i k j hi hk hj (place (2 * n) i) (place (2 * n) k) (place (2 * n) j) }
  where
    by : (i k j : ℕ) → i / 2 ≢ v → k / 2 ≢ v → j / 2 ≢ v → (i < 2 * n) ⊎ (2 * n ≤ i) → (k < 2 * n) ⊎ (2 * n ≤ k) → (j < 2 * n) ⊎ (2 * n ≤ j) → Below (at m i j) (plus (at m i k) (at m k j))
    by i k j hi hk hj (inl p) (inl q) (inl r) = Below-trans (t i k j hi hk hj p q r) (Below-same (small_sum n m h i k j))
    by i k j hi hk hj (inr p) q r = below_none _ _ (ap (λ t. plus t (at m k j)) (outside_row n m h.matrix.rows i k p))
    by i k j hi hk hj (inl p) (inr q) r = below_none _ _ (ap (λ t. plus t (at m k j)) (outside_column n m h.matrix.rows h.matrix.square i k q))
    by i k j hi hk hj (inl p) (inl q) (inr r) = below_none _ _ (ap (plus (at m i k)) (outside_column n m h.matrix.rows h.matrix.square k j r) ∙ plus_none (at m i k))

same_sum : (a b c d : Bound) → a ≡ c → b ≡ d → clamped (plus a b) ≡ clamped (plus c d)
same_sum a b c d e f = rw (e, f) refl

others_closed : (n v : ℕ) (old m : Matrix) → IsMatrix n old → tight old ≡ Some old → IsSmallMatrix n m → SameBut v old m → OthersClosed v m
others_closed n v old m ho e h s = clamped_others n v m h (λ i k j hi hk hj p q r.
    Below-trans (Below-same (sym (s.same i j hi hj))) (Below-trans (own-triangle n old ho e i k j p q r)
    (Below-same (same_sum _ _ _ _ (s.same i k hi hk) (s.same k j hk hj)))))

pub quick_is_tight : QuickIsTight
quick_is_tight n v old m hv ho e h s = quick-closed n v m h hv (others_closed n v old m ho e h s)

pub one_pass_is_tight : OnePassIsTight
one_pass_is_tight n v old m hv ho e h s = once-closed n v m h hv (others_closed n v old m ho e h s)

-- ---- the matrix of the other variables alone

nat_lt_true : (a b : ℕ) → a < b → ltb a b ≡ true
nat_lt_true a b h = grind (arith, nat_tests)

nat_lt_false : (a b : ℕ) → b ≤ a → ltb a b ≡ false
nat_lt_false a b h = grind (arith, nat_tests)

past_low : (v i : ℕ) → i < 2 * v → past v i ≡ i
unfolding past
past_low v i h = rw (nat_lt_true i (2 * v) h) refl

past_high : (v i : ℕ) → 2 * v ≤ i → past v i ≡ i + 2
unfolding past
past_high v i h = rw (nat_lt_false i (2 * v) h) refl

past_opposite : (v i : ℕ) → past v (opposite i) ≡ opposite (past v i)
past_opposite v i = by (place (2 * v) i)
  where
    by : (i < 2 * v) ⊎ (2 * v ≤ i) → past v (opposite i) ≡ opposite (past v i)
    by (inl p) = past_low v (opposite i) (omega arith) ∙ ap opposite (sym (past_low v i p))
    by (inr p) = past_high v (opposite i) (omega arith) ∙ higher ∙ ap opposite (sym (past_high v i p))
      where
        higher : opposite i + 2 ≡ opposite (i + 2)
        higher = omega arith

past_below : (n v i : ℕ) → v < n → i < 2 * (n - 1) → past v i < 2 * n
past_below n v i hv h = by (place (2 * v) i)
  where
    by : (i < 2 * v) ⊎ (2 * v ≤ i) → past v i < 2 * n
    by (inl p) = omega (arith, past_low v i p)
    by (inr p) = omega (arith, past_high v i p)

-- each dimension of another variable has a place
pub data Placed (n v i : ℕ) : Type 0 where
  placed_at : (a : ℕ) → a < 2 * (n - 1) → past v a ≡ i → Placed n v i

placed : (n v i : ℕ) → v < n → i < 2 * n → i / 2 ≢ v → Placed n v i
placed n v i hv hi apart = by (grind arith)
  where
    by : (i < 2 * v) ⊎ (2 * v + 2 ≤ i) → Placed n v i
    by (inl p) = placed_at i (omega arith) (past_low v i p)
    by (inr p) = placed_at (i - 2) (omega arith) (past_high v (i - 2) (omega arith) ∙ back)
      where
        back : (i - 2) + 2 ≡ i
        back = omega arith

length-without : (n v : ℕ) (m : Matrix) → length m ≡ 2 * n → length (without v m) ≡ 2 * (n - 1)
unfolding without
length-without n v m e = let l = length-table (length m - 2) (without_entry v m) in omega arith

at-without : (n v : ℕ) (m : Matrix) → length m ≡ 2 * n → (i j : ℕ) → i < 2 * (n - 1) → j < 2 * (n - 1) → at (without v m) i j ≡ at m (past v i) (past v j)
unfolding without without_entry
at-without n v m e i j hi hj = at-table (length m - 2) (without_entry v m) i j (omega arith) (omega arith)

square-without : (v : ℕ) (m : Matrix) → IsSquare (without v m)
unfolding without
square-without v m = square-table (length m - 2) (without_entry v m)

in_range-without : (v : ℕ) (m : Matrix) → ((i j : ℕ) → InRange (at m i j)) → (i j : ℕ) → InRange (at (without v m) i j)
unfolding without without_entry
in_range-without v m h = each-table InRange tt (length m - 2) (without_entry v m) (λ i j p q. h (past v i) (past v j))

matrix-without : (n v : ℕ) (m : Matrix) → v < n → IsMatrix n m → IsMatrix (n - 1) (without v m)
matrix-without n v m hv h =
    let rows = length-without n v m h.rows in
    let entry = at-without n v m h.rows in
    let below = past_below n v in
    record {
      rows = rows;
      square = square-without v m;
      coherent = record {
        twins = λ i j p q.
            let hi : i < 2 * (n - 1) = omega arith in
            let hj : j < 2 * (n - 1) = omega arith in
            let oi : opposite i < 2 * (n - 1) = opposite_below (n - 1) i hi in
            let oj : opposite j < 2 * (n - 1) = opposite_below (n - 1) j hj in
            let size = h.rows in
            let pi = below i hv hi in
            let pj = below j hv hj in
            entry i j hi hj ∙ h.coherent.twins (past v i) (past v j) (omega arith) (omega arith)
            ∙ ap (λ t. at m t (opposite (past v i))) (sym (past_opposite v j)) ∙ ap (at m (past v (opposite j))) (sym (past_opposite v i)) ∙ sym (entry (opposite j) (opposite i) oj oi);
      };
      in_range = in_range-without v m h.in_range;
      diagonal = λ i p.
          let hi : i < 2 * (n - 1) = omega arith in
          let size = h.rows in
          let pi = below i hv hi in
          entry i i hi hi ∙ h.diagonal (past v i) (omega arith);
    }

alone_triangle : (n v : ℕ) (m : Matrix) → v < n → IsMatrix n m → tight (without v m) ≡ Some (without v m) → (i k j : ℕ) → Placed n v i → Placed n v k → Placed n v j → Below (at m i j) (clamped (plus (at m i k) (at m k j)))
alone_triangle n v m hv h e i k j (placed_at a p ea) (placed_at b q eb) (placed_at c r ec) =
    let entry = λ (x y s t : ℕ) (hx : x < 2 * (n - 1)) (hy : y < 2 * (n - 1)) (ex : past v x ≡ s) (ey : past v y ≡ t). at-without n v m h.rows x y hx hy ∙ ap (λ w. at m w (past v y)) ex ∙ ap (at m s) ey in
    Below-trans (Below-same (sym (entry a c i j p r ea ec)))
    (Below-trans (own-triangle (n - 1) (without v m) (matrix-without n v m hv h) e a b c p q r)
    (Below-same (same_sum _ _ _ _ (entry a b i k p q ea eb) (entry b c k j q r eb ec))))

others_alone : (n v : ℕ) (m : Matrix) → v < n → IsSmallMatrix n m → tight (without v m) ≡ Some (without v m) → OthersClosed v m
others_alone n v m hv h e = clamped_others n v m h (λ i k j hi hk hj p q r.
    alone_triangle n v m hv h.matrix e i k j (placed n v i hv p hi) (placed n v k hv q hk) (placed n v j hv r hj))

pub quick_alone : QuickAlone
quick_alone n v m hv h e = quick-closed n v m h hv (others_alone n v m hv h e)

pub one_pass_alone : OnePassAlone
one_pass_alone n v m hv h e = once-closed n v m h hv (others_alone n v m hv h e)
