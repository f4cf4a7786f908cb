-- Near steps are pair steps where the other variables' entries are closed: a step at w other than v changes nothing
-- outside the rows and columns of v. So the quick closure makes pair steps in an order of its own, which may be any.
use Rattle.std.proofs.Common.{◌≡◌, ◌≢◌, ℕ, ◌+◌, ◌*◌, ◌/◌, ◌<◌, ◌≤◌, ◌⊎◌, inl, inr, Bool, true, false, ◌||◌, cond, eqb, List, [], ◌∷◌, ◌++◌, length, refl, sym, ap, ◌∙◌, subst, arith, zero, suc}
use Rattle.std.proofs.lemmas.Bool.Decides.{Decides-eqb}
use Rattle.std.proofs.Common.{length-append}
use Rattle.oct_def.specs.Bound.{plus}
use Rattle.oct_def.specs.Table.{Matrix, at}
use Rattle.oct_def.specs.Tight.{pair_entry, pair_step, pair_steps, tight_closed, closure, tight}
use Rattle.oct_def.proofs.Tables.{at-table, table-same}
use Rattle.oct_def.proofs.Values.{IsShape, shape-matrix, shape-pair_step}
use Rattle.tight_laws.specs.Laws.{IsSmallMatrix}
use Rattle.tight_laws.specs.Quick.{near_entry, near_step, near_steps, quick_steps, quick}
use Rattle.tight_laws.proofs.Below.{Below, Below-refl, Below-same, Below-trans, Below-plus, Below-antisym}
use Rattle.tight_laws.proofs.Clamps.{Below-clamped}
use Rattle.tight_laws.proofs.Pairs.{pivot-old, under-pivot}
use Rattle.tight_laws.proofs.Weights.{In}
use Rattle.tight_laws.proofs.Closing.{steps_at, steps_down, down, length-down, down-inside, down-all}
use Rattle.tight_laws.proofs.Strong.{place, outside_row, outside_column}
use Rattle.tight_laws.proofs.Order.{Order, any_order}

-- closed outside the rows and columns of v
pub record OthersClosed (v : ℕ) (m : Matrix) : Type 0 where
  pub closed : (i k j : ℕ) → i / 2 ≢ v → k / 2 ≢ v → j / 2 ≢ v → Below (at m i j) (plus (at m i k) (at m k j))

-- what the near steps keep
pub record Good (n v : ℕ) (m : Matrix) : Type 0 where
  pub shape : IsShape n m
  pub others : OthersClosed v m

pub not_eqb : (a b : ℕ) → eqb a b ≡ false → a ≢ b
not_eqb a b e f = let g = (Decides-eqb a b).1 f in cc

half_even : (w : ℕ) → w ≡ (2 * w) / 2
half_even w = omega arith

half_odd : (w : ℕ) → w ≡ (2 * w + 1) / 2
half_odd w = omega arith

at-pair_entry : (size w : ℕ) (m : Matrix) → length m ≡ size → (i j : ℕ) → i < size → j < size → at (pair_step w m) i j ≡ pair_entry w m i j
unfolding pair_step
at-pair_entry size w m e i j hi hj = at-table (length m) (pair_entry w m) i j (omega arith) (omega arith)

pub steps_once : (w : ℕ) (ws : List ℕ) (m : Matrix) → pair_step w (steps_at ws m) ≡ steps_at (w ∷ ws) m
unfolding steps_at
steps_once w ws m = refl

steps_none : (m : Matrix) → m ≡ steps_at [] m
unfolding steps_at
steps_none m = refl

-- a step at another variable leaves the other variables' entries
pair_entry-others : (n v w : ℕ) (m : Matrix) → Good n v m → w ≢ v → (i j : ℕ) → i / 2 ≢ v → j / 2 ≢ v → pair_entry w m i j ≡ at m i j
unfolding pair_entry
pair_entry-others n v w m g apart i j hi hj =
    let p = 2 * w in
    let q = 2 * w + 1 in
    let hp : p / 2 ≢ v = λ e. apart (half_even w ∙ e) in
    let hq : q / 2 ≢ v = λ e. apart (half_odd w ∙ e) in
    let range = g.shape.in_range i j in
    let long = λ (x y : ℕ) (hx : x / 2 ≢ v) (hy : y / 2 ≢ v). Below-trans (g.others.closed i y j hi hy hj) (Below-plus (g.others.closed i x y hi hx hy) (Below-refl (at m y j))) in
    Below-antisym (pivot-old p q m i j)
    (under-pivot (at m i j) p q m i j (Below-refl (at m i j)) (Below-clamped range (g.others.closed i p j hi hp hj)) (Below-clamped range (g.others.closed i q j hi hq hj))
    (Below-clamped range (long p q hp hq)) (Below-clamped range (long q p hq hp)))

near_same : (n v w : ℕ) (m : Matrix) → Good n v m → w ≢ v → near_step v w m ≡ pair_step w m
unfolding near_step near_entry pair_step
near_same n v w m g apart = table-same (length m) (near_entry v w m) (pair_entry w m) (λ i j p q. by i j (eqb (i / 2) v) (eqb (j / 2) v) refl refl)
  where
    by : (i j : ℕ) (b c : Bool) → eqb (i / 2) v ≡ b → eqb (j / 2) v ≡ c → cond (b || c) (pair_entry w m i j) (at m i j) ≡ pair_entry w m i j
    by i j true c e f = refl
    by i j false true e f = refl
    by i j false false e f = sym (pair_entry-others n v w m g apart i j (not_eqb (i / 2) v e) (not_eqb (j / 2) v f))

at-others : (n v w : ℕ) (m : Matrix) → Good n v m → w < n → w ≢ v → (i j : ℕ) → i / 2 ≢ v → j / 2 ≢ v → at (pair_step w m) i j ≡ at m i j
at-others n v w m g hw apart i j hi hj = by (place (2 * n) i) (place (2 * n) j)
  where
    after : IsShape n (pair_step w m)
    after = shape-pair_step n m w hw g.shape

    by : (i < 2 * n) ⊎ (2 * n ≤ i) → (j < 2 * n) ⊎ (2 * n ≤ j) → at (pair_step w m) i j ≡ at m i j
    by (inl p) (inl q) = at-pair_entry (2 * n) w m g.shape.rows i j p q ∙ pair_entry-others n v w m g apart i j hi hj
    by (inl p) (inr q) = outside_column n (pair_step w m) after.rows after.square i j q ∙ sym (outside_column n m g.shape.rows g.shape.square i j q)
    by (inr p) q = outside_row n (pair_step w m) after.rows i j p ∙ sym (outside_row n m g.shape.rows i j p)

good-pair_step : (n v w : ℕ) (m : Matrix) → Good n v m → w < n → w ≢ v → Good n v (pair_step w m)
good-pair_step n v w m g hw apart = record {
  shape = shape-pair_step n m w hw g.shape;
  others = record {
    closed = λ i k j hi hk hj.
        let same = at-others n v w m g hw apart in
        Below-trans (Below-same (same i j hi hj)) (Below-trans (g.others.closed i k j hi hk hj) (Below-plus (Below-same (sym (same i k hi hk))) (Below-same (sym (same k j hk hj)))));
  };
}

-- the variables below k other than v, the last one first
abbrev pub others : ℕ → ℕ → List ℕ
others v zero = []
others v (suc k) = cond (eqb k v) (others v k) (k ∷ others v k)

pub data Stepped (n v : ℕ) (ws : List ℕ) (m r : Matrix) : Type 0 where
  stepped : r ≡ steps_at ws m → Good n v r → Stepped n v ws m r

near_once : (n v k : ℕ) (ws : List ℕ) (m r : Matrix) → k < n → k ≢ v → Stepped n v ws m r → Stepped n v (k ∷ ws) m (near_step v k r)
near_once n v k ws m r hk apart (stepped e g) =
    let same = near_same n v k r g apart in
    stepped (same ∙ ap (pair_step k) e ∙ steps_once k ws m) (subst (Good n v) (sym same) (good-pair_step n v k r g hk apart))

pub near-stepped : (n v k : ℕ) (m : Matrix) → Good n v m → k ≤ n → Stepped n v (others v k) m (near_steps v k m)
unfolding near_steps
near-stepped n v zero m g h = stepped (steps_none m) g
near-stepped n v (suc k) m g h = by (eqb k v) refl (near-stepped n v k m g (omega arith))
  where
    by : (b : Bool) → eqb k v ≡ b → Stepped n v (others v k) m (near_steps v k m) → Stepped n v (cond b (others v k) (k ∷ others v k)) m (cond b (near_steps v k m) (near_step v k (near_steps v k m)))
    by true e s = s
    by false e s = near_once n v k (others v k) m (near_steps v k m) (omega arith) (not_eqb k v e) s

-- ---- the order of the quick closure

pub others-length : (v k : ℕ) → length (others v k) ≤ k
others-length v zero = omega arith
others-length v (suc k) = by (eqb k v) (others-length v k)
  where
    by : (b : Bool) → length (others v k) ≤ k → length (cond b (others v k) (k ∷ others v k)) ≤ suc k
    by true h = omega arith
    by false h = let e : length (k ∷ others v k) ≡ suc (length (others v k)) = refl in omega arith

pub others-inside : (v k w : ℕ) → In w (others v k) → w < k
others-inside v zero w m = absurd m
others-inside v (suc k) w m = by (eqb k v) (λ h. others-inside v k w h) m
  where
    by : (b : Bool) → (In w (others v k) → w < k) → In w (cond b (others v k) (k ∷ others v k)) → w < suc k
    by true before h = let l = before h in omega arith
    by false before (inl e) = omega arith
    by false before (inr h) = let l = before h in omega arith

pub others-all : (v k w : ℕ) → w < k → w ≢ v → In w (others v k)
others-all v zero w h apart = absurd (omega arith)
others-all v (suc k) w h apart = by (eqb k v) refl (λ lt. others-all v k w lt apart) (grind arith)
  where
    by : (b : Bool) → eqb k v ≡ b → (w < k → In w (others v k)) → (w ≡ k) ⊎ (w < k) → In w (cond b (others v k) (k ∷ others v k))
    by true e before (inl f) = absurd (apart (f ∙ (Decides-eqb k v).0 e))
    by true e before (inr lt) = before lt
    by false e before (inl f) = inl f
    by false e before (inr lt) = inr (before lt)

in_left : (w : ℕ) (a b : List ℕ) → In w a → In w (a ++ b)
in_left w [] b m = absurd m
in_left w (x ∷ a) b (inl e) = inl e
in_left w (x ∷ a) b (inr m) = inr (in_left w a b m)

in_split : (w : ℕ) (a b : List ℕ) → In w (a ++ b) → In w a ⊎ In w b
in_split w [] b m = inr m
in_split w (x ∷ a) b (inl e) = inl (inl e)
in_split w (x ∷ a) b (inr m) = elim (in_split w a b m) [ inl k ↦ inl (inr k) | inr k ↦ inr k ]

pub quick_order : ℕ → ℕ → List ℕ
quick_order v n = v ∷ (others v n ++ others v n)

order-quick : (n v : ℕ) → v < n → Order n (quick_order v n)
unfolding quick_order
order-quick n v hv = record {
  inside = λ w m. elim m [ inl e ↦ subst (λ x. x < n) (sym e) hv | inr k ↦ elim (in_split w (others v n) (others v n) k) [ inl l ↦ others-inside v n w l | inr l ↦ others-inside v n w l ] ];
  all = λ w hw. by w hw (eqb w v) refl;
  few =
      let one = others-length v n in
      let both = length-append (others v n) (others v n) in
      let more : length (v ∷ (others v n ++ others v n)) ≡ suc (length (others v n ++ others v n)) = refl in
      omega arith;
}
  where
    by : (w : ℕ) → w < n → (b : Bool) → eqb w v ≡ b → In w (v ∷ (others v n ++ others v n))
    by w hw true e = inl ((Decides-eqb w v).0 e)
    by w hw false e = inr (in_left w (others v n) (others v n) (others-all v n w hw (not_eqb w v e)))

pub order-down : (n : ℕ) → Order n (down n)
order-down n = record { inside = down-inside n; all = down-all n; few = omega (arith, length-down n) }

steps-append : (a b : List ℕ) (m : Matrix) → steps_at a (steps_at b m) ≡ steps_at (a ++ b) m
unfolding steps_at
steps-append [] b m = refl
steps-append (w ∷ a) b m = ap (pair_step w) (steps-append a b m)

quick_steps-order : (n v : ℕ) (m : Matrix) → Good n v m → quick_steps v n m ≡ steps_at (quick_order v n) m
unfolding quick_steps quick_order
quick_steps-order n v m g = first (near-stepped n v n m g (omega arith))
  where
    second : (r : Matrix) → r ≡ steps_at (others v n) m → Stepped n v (others v n) r (near_steps v n r) → pair_step v (near_steps v n r) ≡ steps_at (v ∷ (others v n ++ others v n)) m
    second r e (stepped f g) = ap (pair_step v) (f ∙ ap (steps_at (others v n)) e ∙ steps-append (others v n) (others v n) m) ∙ steps_once v (others v n ++ others v n) m

    first : Stepped n v (others v n) m (near_steps v n m) → pair_step v (near_steps v n (near_steps v n m)) ≡ steps_at (v ∷ (others v n ++ others v n)) m
    first (stepped e h) = second (near_steps v n m) e (near-stepped n v n (near_steps v n m) h (omega arith))

pub quick-closed : (n v : ℕ) (m : Matrix) → IsSmallMatrix n m → v < n → OthersClosed v m → quick v m ≡ tight m
unfolding quick tight closure
quick-closed n v m h hv o =
    let rows = h.matrix.rows in
    let size : length m / 2 ≡ n = omega arith in
    let good : Good n v m = record { shape = shape-matrix n m h.matrix; others = o } in
    ap (λ k. tight_closed (quick_steps v k m)) size
    ∙ ap tight_closed (quick_steps-order n v m good)
    ∙ any_order n m h (quick_order v n) (down n) (order-quick n v hv) (order-down n)
    ∙ ap tight_closed (steps_down n m)
    ∙ ap (λ k. tight_closed (pair_steps k m)) (sym size)
