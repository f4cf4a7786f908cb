-- States and matrices with more variables, and with variables in the places of others.
use Rattle.std.proofs.Common.{◌≡◌, ◌≢◌, ◌⊎◌, inl, inr, ⊎_elim, ℕ, zero, suc, ◌+◌, ◌-◌, ◌*◌, ◌/◌, ◌%◌, ◌<◌, ◌≤◌, ◌++◌, ◌&&◌, Bool, true, false, cond, List, [], ◌∷◌, length, get_or, set, ℤ, pos, refl, sym, ap, subst, arith, nat_eq, nat_lt, ◌∙◌, ltb-true, lt-ltb, le-ltb, eqb-true, eq-eqb, ne_eqb, get_or-set_same, get_or-set_other, length-set, Some, None}
use Rattle.std.proofs.lemmas.Bool.{eqb-false, cases_eq, cases_order, cond-true, cond-false, and_left, and_right}
use Rattle.std.proofs.lemmas.Int.{ints}
use Rattle.std.proofs.lemmas.List.{get_or_append_left, get_or-append_right}
use Rattle.oct_def.specs.Bound.{Bound, Within, InRange, IsEven}
use Rattle.oct_def.specs.Table.{Matrix, table, at}
use Rattle.oct_def.specs.Matrix.{opposite, value_at, signed_value, IsCoherent, IsMatrix, IsEvenMatrix, Meets}
use Rattle.oct_def.specs.Octagon.{top_entry}
use Rattle.oct_def.proofs.Indices.{opposite_below, opposite_same}
use Rattle.oct_def.proofs.Tables.{length-table, at-table, square-table, at-past_row}
use Rattle.oct_def.proofs.Sound.{difference, meets-table}
use Rattle.oct_def.proofs.Coherent.{coherent-table, twin}
use Rattle.oct_def.proofs.Values.{each-table}
use Rattle.spl_core.specs.Facts.{AreDistinct}
use Rattle.spl_runs.specs.Runs.{with_values}
use Rattle.transfer_def.specs.Dimensions.{extended_entry, extended, moved_variable, moved_dimension, moved_entry, moved}
use Rattle.transfer_def.proofs.States.{signed_value-same}

-- ---- entries of no bound but on the diagonal

pub within-top_entry : (s : List ℤ) (i j : ℕ) → Within (difference s i j) (top_entry i j)
unfolding top_entry
within-top_entry s i j = by (nat_eq i j) refl
  where
    by : (b : Bool) → nat_eq i j ≡ b → Within (difference s i j) (cond b (Some (pos 0)) None)
    by true e = let same = ap (signed_value s) (eqb-true i j e) in omega (arith, ints)
    by false e = tt

pub in_range-top_entry : (i j : ℕ) → InRange (top_entry i j)
unfolding top_entry
in_range-top_entry i j = by (nat_eq i j)
  where
    by : (b : Bool) → InRange (cond b (Some (pos 0)) None)
    by true = search
    by false = tt

pub top_entry-same : (i j : ℕ) → i ≡ j → top_entry i j ≡ Some (pos 0)
unfolding top_entry
top_entry-same i j e = rw (eq-eqb i j e)

pub top_entry-other : (i j : ℕ) → i ≢ j → top_entry i j ≡ None
unfolding top_entry
top_entry-other i j e = rw (ne_eqb i j e)

pub top_entry-twin : (i j : ℕ) → top_entry i j ≡ top_entry (opposite j) (opposite i)
top_entry-twin i j = ⊎_elim
    (λ (e : i ≡ j). top_entry-same i j e ∙ sym (top_entry-same (opposite j) (opposite i) (ap opposite (sym e))))
    (λ (d : i ≢ j). top_entry-other i j d ∙ sym (top_entry-other (opposite j) (opposite i) (λ q. d (sym (opposite_same j i q)))))
    (cases_eq i j)

pub even_none : IsEven None
even_none = refl

pub even-top_entry : (i : ℕ) → IsEven (top_entry i (opposite i))
even-top_entry i = subst IsEven (sym (top_entry-other i (opposite i) (omega arith))) even_none

-- a table of even unary entries has them at each place
pub even-table : (n : ℕ) (f : ℕ → ℕ → Bound) → ((i : ℕ) → i < 2 * n → IsEven (f i (opposite i))) → (i : ℕ) → IsEven (at (table (2 * n) f) i (opposite i))
even-table n f h i = ⊎_elim
    (λ (p : i < 2 * n). subst IsEven (sym (at-table (2 * n) f i (opposite i) p (opposite_below n i p))) (h i p))
    (λ (p : 2 * n ≤ i). subst IsEven (sym (at-past_row (table (2 * n) f) i (opposite i) (omega (arith, length-table (2 * n) f)))) even_none)
    (split i)
  where
    split : (i : ℕ) → (i < 2 * n) ⊎ (2 * n ≤ i)
    split i = grind arith

-- ---- more variables

within-extended_entry : (n : ℕ) (m : Matrix) (s ys : List ℤ) (i j : ℕ) → length s ≡ n → Meets s m → Within (difference (s ++ ys) i j) (extended_entry n m i j)
unfolding extended_entry
within-extended_entry n m s ys i j e h = by (nat_lt i (2 * n)) (nat_lt j (2 * n)) refl refl
  where
    front : (k : ℕ) → k < 2 * n → signed_value (s ++ ys) k ≡ signed_value s k
    front k p = signed_value-same (s ++ ys) s k k refl (get_or_append_left s ys (pos 0) (k / 2) (omega arith))

    by : (b c : Bool) → nat_lt i (2 * n) ≡ b → nat_lt j (2 * n) ≡ c → Within (difference (s ++ ys) i j) (cond (b && c) (at m i j) (top_entry i j))
    by true true p q = rw (front i (ltb-true i (2 * n) p), front j (ltb-true j (2 * n) q)) (h.within i j)
    by true false p q = within-top_entry (s ++ ys) i j
    by false c p q = within-top_entry (s ++ ys) i j

-- the new variables may have any values
pub meets-extended : (n k : ℕ) (m : Matrix) (s ys : List ℤ) → length s ≡ n → Meets s m → Meets (s ++ ys) (extended n k m)
unfolding extended
meets-extended n k m s ys e h = meets-table (s ++ ys) (2 * (n + k)) (extended_entry n m) (λ i j p q. within-extended_entry n m s ys i j e h)

-- the entry, by cases
pub extended_entry-inner : (n : ℕ) (m : Matrix) (i j : ℕ) → i < 2 * n → j < 2 * n → extended_entry n m i j ≡ at m i j
unfolding extended_entry
extended_entry-inner n m i j p q = rw (lt-ltb i (2 * n) p, lt-ltb j (2 * n) q)

pub extended_entry-outer : (n : ℕ) (m : Matrix) (i j : ℕ) → (2 * n ≤ i) ⊎ (2 * n ≤ j) → extended_entry n m i j ≡ top_entry i j
unfolding extended_entry
extended_entry-outer n m i j (inl h) = rw (and_left (nat_lt i (2 * n)) (nat_lt j (2 * n)) (le-ltb i (2 * n) h))
extended_entry-outer n m i j (inr h) = rw (and_right (nat_lt i (2 * n)) (nat_lt j (2 * n)) (le-ltb j (2 * n) h))

inner_or_outer : (n i j : ℕ) → ((i < 2 * n) × (j < 2 * n)) ⊎ ((2 * n ≤ i) ⊎ (2 * n ≤ j))
inner_or_outer n i j = grind arith

past_opposite : (n i : ℕ) → 2 * n ≤ i → 2 * n ≤ opposite i
past_opposite n i h = omega arith

extended_entry-twin : (n : ℕ) (m : Matrix) (i j : ℕ) → length m ≡ 2 * n → IsCoherent m → extended_entry n m i j ≡ extended_entry n m (opposite j) (opposite i)
extended_entry-twin n m i j l co = by (inner_or_outer n i j)
  where
    outer : (2 * n ≤ i) ⊎ (2 * n ≤ j) → (2 * n ≤ opposite j) ⊎ (2 * n ≤ opposite i)
    outer (inl p) = inr (past_opposite n i p)
    outer (inr p) = inl (past_opposite n j p)

    by : ((i < 2 * n) × (j < 2 * n)) ⊎ ((2 * n ≤ i) ⊎ (2 * n ≤ j)) → extended_entry n m i j ≡ extended_entry n m (opposite j) (opposite i)
    by (inl p) =
        extended_entry-inner n m i j p.0 p.1 ∙ twin n m l co i j p.0 p.1
        ∙ sym (extended_entry-inner n m (opposite j) (opposite i) (opposite_below n j p.1) (opposite_below n i p.0))
    by (inr p) = extended_entry-outer n m i j p ∙ top_entry-twin i j ∙ sym (extended_entry-outer n m (opposite j) (opposite i) (outer p))

in_range-extended_entry : (n : ℕ) (m : Matrix) (i j : ℕ) → ((i j : ℕ) → InRange (at m i j)) → InRange (extended_entry n m i j)
unfolding extended_entry
in_range-extended_entry n m i j h = by (nat_lt i (2 * n) && nat_lt j (2 * n))
  where
    by : (b : Bool) → InRange (cond b (at m i j) (top_entry i j))
    by true = h i j
    by false = in_range-top_entry i j

pub matrix-extended : (n k : ℕ) (m : Matrix) → IsMatrix n m → IsMatrix (n + k) (extended n k m)
unfolding extended
matrix-extended n k m v = record {
  rows = length-table (2 * (n + k)) (extended_entry n m);
  square = square-table (2 * (n + k)) (extended_entry n m);
  coherent = coherent-table (n + k) (extended_entry n m) (λ i j p q. extended_entry-twin n m i j v.rows v.coherent);
  in_range = each-table InRange tt (2 * (n + k)) (extended_entry n m) (λ i j p q. in_range-extended_entry n m i j v.in_range);
  diagonal = λ i p.
      let l : i < 2 * (n + k) = omega (arith, length-table (2 * (n + k)) (extended_entry n m)) in
      at-table (2 * (n + k)) (extended_entry n m) i i l l ∙ diagonal i (inner_or_outer n i i);
}
  where
    diagonal : (i : ℕ) → ((i < 2 * n) × (i < 2 * n)) ⊎ ((2 * n ≤ i) ⊎ (2 * n ≤ i)) → extended_entry n m i i ≡ Some (pos 0)
    diagonal i (inl p) = let l : i < length m = omega (arith, v.rows) in extended_entry-inner n m i i p.0 p.1 ∙ v.diagonal i l
    diagonal i (inr p) = extended_entry-outer n m i i p ∙ top_entry-same i i refl

-- ---- variables in the places of others

-- a variable that is no target keeps its value
with_values-other : (targets : List ℕ) (ys s : List ℤ) (v : ℕ) → ((r : ℕ) → r < length targets → get_or targets r 0 ≢ v) → value_at (with_values s targets ys) v ≡ value_at s v
with_values-other [] ys s v h = refl
with_values-other (x ∷ targets) [] s v h = refl
with_values-other (x ∷ targets) (y ∷ ys) s v h =
    with_values-other targets ys (set s x y) v (λ r p. h (suc r) (omega arith))
    ∙ get_or-set_other s x v y (pos 0) (λ e. h 0 (omega arith) (sym e))

distinct-rest : (x : ℕ) (xs : List ℕ) → AreDistinct (x ∷ xs) → AreDistinct xs
distinct-rest x xs d i j p q = d (suc i) (suc j) (omega arith) (omega arith)

value_at-moved : (targets : List ℕ) (ys s t : List ℤ) (k v : ℕ) → length ys ≡ length targets → AreDistinct targets → v < length s
    → value_at t v ≡ value_at s v → ((r : ℕ) → r < length targets → value_at t (k + r) ≡ value_at ys r)
    → value_at t (moved_variable k targets v) ≡ value_at (with_values s targets ys) v
unfolding moved_variable
value_at-moved [] ys s t k v l d inside same added = same
value_at-moved (x ∷ targets) [] s t k v l d inside same added = absurd (no_length l)
  where
    no_length : length {A = ℤ} [] ≡ length (x ∷ targets) → ⊥
    no_length e = omega arith
value_at-moved (x ∷ targets) (y ∷ ys) s t k v l d inside same added =
    by (nat_eq v x) refl (λ (apart : v ≢ x).
    value_at-moved targets ys (set s x y) t (k + 1) v (omega arith) (distinct-rest x targets d) (omega (arith, length-set s x y))
    (same ∙ sym (get_or-set_other s x v y (pos 0) apart))
    (λ r p. ap (value_at t) (shift r) ∙ added (suc r) (omega arith)))
  where
    shift : (r : ℕ) → (k + 1) + r ≡ k + suc r
    shift r = omega arith

    by : (b : Bool) → nat_eq v x ≡ b → (v ≢ x → value_at t (moved_variable (k + 1) targets v) ≡ value_at (with_values (set s x y) targets ys) v)
        → value_at t (cond b k (moved_variable (k + 1) targets v)) ≡ value_at (with_values (set s x y) targets ys) v
    by true e rest =
        let is : v ≡ x = eqb-true v x e in
        let first : value_at t (k + 0) ≡ y = added 0 (omega arith) in
        let at_k : k + 0 ≡ k = omega arith in
        let there : x < length s = omega arith in
        sym (ap (value_at t) at_k) ∙ first
        ∙ sym (ap (λ (w : ℕ). value_at (with_values (set s x y) targets ys) w) is
        ∙ with_values-other targets ys (set s x y) x (λ r p q. d 0 (suc r) (omega arith) (omega arith) (sym q))
        ∙ get_or-set_same s x y (pos 0) there)
    by false e rest = rest (eqb-false v x e)

-- the place of the first target that is v is taken by an added variable, and any other variable keeps its place
pub data Moves (k : ℕ) (targets : List ℕ) (v : ℕ) : Type 0 where
  taken : (i : ℕ) → i < length targets → get_or targets i 0 ≡ v → ((j : ℕ) → j < i → get_or targets j 0 ≢ v) → moved_variable k targets v ≡ k + i → Moves k targets v
  still : ((i : ℕ) → i < length targets → get_or targets i 0 ≢ v) → moved_variable k targets v ≡ v → Moves k targets v

pub moves : (k : ℕ) (targets : List ℕ) (v : ℕ) → Moves k targets v
unfolding moved_variable
moves k [] v = still (λ i p e. absurd (omega arith)) refl
moves k (x ∷ targets) v = by (cases_eq v x) (moves (k + 1) targets v)
  where
    later : v ≢ x → (m : ℕ) → ((i : ℕ) → i < m → get_or targets i 0 ≢ v) → (i : ℕ) → i < m + 1 → get_or (x ∷ targets) i 0 ≢ v
    later d m g zero p e = d (sym e)
    later d m g (suc i) p e = g i (omega arith) e

    by : (v ≡ x) ⊎ (v ≢ x) → Moves (k + 1) targets v → Moves k (x ∷ targets) v
    by (inl e) _ = taken 0 (omega arith) (sym e) (λ j p f. absurd (omega arith)) (cond-true _ _ _ (eq-eqb v x e) ∙ omega arith)
    by (inr d) (taken i p e g f) = taken (suc i) (omega arith) e (λ j p. later d i g j (omega arith)) (cond-false _ _ _ (ne_eqb v x d) ∙ f ∙ omega arith)
    by (inr d) (still g f) = still (λ i p e. later d (length targets) g i (omega arith) e) (cond-false _ _ _ (ne_eqb v x d) ∙ f)

-- by the number of the first target that is v, if one is
pub moved-found : (first : ℕ) (targets : List ℕ) (v k : ℕ) → k < length targets → ((i : ℕ) → i < k → get_or targets i 0 ≢ v) → get_or targets k 0 ≡ v → moved_variable first targets v ≡ first + k
moved-found first targets v k p none e = by (moves first targets v)
  where
    same : (i : ℕ) → get_or targets i 0 ≡ v → ((j : ℕ) → j < i → get_or targets j 0 ≢ v) → (i ≡ k) ⊎ ((i < k) ⊎ (k < i)) → i ≡ k
    same i f g (inl t) = t
    same i f g (inr (inl q)) = absurd (none i q f)
    same i f g (inr (inr q)) = absurd (g k q e)

    by : Moves first targets v → moved_variable first targets v ≡ first + k
    by (taken i q f g t) = t ∙ ap (λ z. first + z) (same i f g (cases_order i k))
    by (still g t) = absurd (g k p e)

pub moved-none : (first : ℕ) (targets : List ℕ) (v : ℕ) → ((i : ℕ) → i < length targets → get_or targets i 0 ≢ v) → moved_variable first targets v ≡ v
moved-none first targets v none = by (moves first targets v)
  where
    by : Moves first targets v → moved_variable first targets v ≡ v
    by (taken i q f g t) = absurd (none i q f)
    by (still g t) = t

moved_dimension-parity : (n : ℕ) (targets : List ℕ) (i : ℕ) → moved_dimension n targets i % 2 ≡ i % 2
unfolding moved_dimension
moved_dimension-parity n targets i = omega arith

moved_dimension-half : (n : ℕ) (targets : List ℕ) (i : ℕ) → moved_dimension n targets i / 2 ≡ moved_variable n targets (i / 2)
unfolding moved_dimension
moved_dimension-half n targets i = omega arith

signed_value-moved : (n : ℕ) (targets : List ℕ) (ys s : List ℤ) (i : ℕ) → length s ≡ n → length ys ≡ length targets → AreDistinct targets → i < 2 * n
    → signed_value (s ++ ys) (moved_dimension n targets i) ≡ signed_value (with_values s targets ys) i
signed_value-moved n targets ys s i l ly d p =
    let t = s ++ ys in
    let inside : i / 2 < length s = omega arith in
    let value : value_at t (moved_dimension n targets i / 2) ≡ value_at (with_values s targets ys) (i / 2) =
    ap (value_at t) (moved_dimension-half n targets i)
    ∙ value_at-moved targets ys s t n (i / 2) ly d inside (get_or_append_left s ys (pos 0) (i / 2) inside) (λ r q. added r) in
    signed_value-same t (with_values s targets ys) (moved_dimension n targets i) i (moved_dimension-parity n targets i) value
  where
    minus : (r : ℕ) → (n + r) - n ≡ r
    minus r = omega arith

    added : (r : ℕ) → value_at (s ++ ys) (n + r) ≡ value_at ys r
    added r = get_or-append_right s ys n (n + r) (pos 0) l (omega arith) ∙ ap (value_at ys) (minus r)

-- the targets take the values of the added variables
pub meets-moved : (n : ℕ) (targets : List ℕ) (ys s : List ℤ) (m : Matrix) → length s ≡ n → length ys ≡ length targets → AreDistinct targets
    → Meets (s ++ ys) m → Meets (with_values s targets ys) (moved n targets m)
unfolding moved moved_entry
meets-moved n targets ys s m l ly d h =
    meets-table (with_values s targets ys) (2 * n) (moved_entry n targets m) (λ i j p q.
    rw (← signed_value-moved n targets ys s i l ly d p, ← signed_value-moved n targets ys s j l ly d q)
    (h.within (moved_dimension n targets i) (moved_dimension n targets j)))

pub moved_variable-below : (k v : ℕ) (targets : List ℕ) → v < k → moved_variable k targets v < k + length targets
unfolding moved_variable
moved_variable-below k v [] p = omega arith
moved_variable-below k v (t ∷ targets) p = by (nat_eq v t) (moved_variable-below (k + 1) v targets (omega arith))
  where
    by : (b : Bool) → moved_variable (k + 1) targets v < (k + 1) + length targets → cond b k (moved_variable (k + 1) targets v) < k + length (t ∷ targets)
    by true h = omega arith
    by false h = omega arith

pub moved_dimension-below : (n : ℕ) (targets : List ℕ) (i : ℕ) → i < 2 * n → moved_dimension n targets i < 2 * (n + length targets)
unfolding moved_dimension
moved_dimension-below n targets i p =
    let inside : i / 2 < n = omega arith in
    let h = moved_variable-below n (i / 2) targets inside in
    omega (arith, h)

moved_dimension-opposite : (n : ℕ) (targets : List ℕ) (i : ℕ) → moved_dimension n targets (opposite i) ≡ opposite (moved_dimension n targets i)
unfolding moved_dimension
moved_dimension-opposite n targets i =
    let half : opposite i / 2 ≡ i / 2 = omega arith in
    rw half (by (moved_variable n targets (i / 2)))
  where
    by : (a : ℕ) → 2 * a + opposite i % 2 ≡ opposite (2 * a + i % 2)
    by a = omega arith

pub value-moved : (n : ℕ) (targets : List ℕ) (m : Matrix) → IsEvenMatrix (n + length targets) m → IsEvenMatrix n (moved n targets m)
unfolding moved moved_entry
value-moved n targets m v =
    let f = moved_entry n targets m in
    record {
      matrix = record {
        rows = length-table (2 * n) f;
        square = square-table (2 * n) f;
        coherent = coherent-table n f (λ i j p q.
            twin (n + length targets) m v.matrix.rows v.matrix.coherent (moved_dimension n targets i) (moved_dimension n targets j) (moved_dimension-below n targets i p) (moved_dimension-below n targets j q)
            ∙ sym (ap (λ (k : ℕ). at m k (moved_dimension n targets (opposite i))) (moved_dimension-opposite n targets j)
            ∙ ap (λ (k : ℕ). at m (opposite (moved_dimension n targets j)) k) (moved_dimension-opposite n targets i)));
        in_range = each-table InRange tt (2 * n) f (λ i j p q. v.matrix.in_range (moved_dimension n targets i) (moved_dimension n targets j));
        diagonal = λ i p.
            let l : i < 2 * n = omega (arith, length-table (2 * n) f) in
            at-table (2 * n) f i i l l ∙ v.matrix.diagonal (moved_dimension n targets i) (omega (arith, v.matrix.rows, moved_dimension-below n targets i l));
      };
      even = even-table n f (λ i p. subst (λ (k : ℕ). IsEven (at m (moved_dimension n targets i) k)) (sym (moved_dimension-opposite n targets i)) (v.even (moved_dimension n targets i)));
    }
