-- The tight closure and the lattice give values when they are given values.
use Rattle.std.proofs.Common.{◌≡◌, ℕ, ◌+◌, ◌*◌, ◌/◌, ◌<◌, ◌≤◌, ◌⊎◌, inl, inr, Bool, true, false, cond, eqb, length, Option, Some, None, refl, sym, ap, ◌∙◌, subst, arith, zero, suc}
use Rattle.std.specs.Prelude.{ℤ, pos, ◌+ℤ◌, ◌≤ℤ◌, int_lt}
use Rattle.std.proofs.lemmas.Int.{ints, clamps}
use Rattle.std.proofs.lemmas.Bool.Decides.{Decides-eqb}
use Rattle.oct_def.specs.Bound.{Bound, plus, least, half, evened, floor_half, is_negative, IsEven, InRange}
use Rattle.oct_def.specs.Table.{Matrix, table, at}
use Rattle.oct_def.specs.Matrix.{opposite, IsSquare, IsCoherent, IsMatrix, IsEvenMatrix}
use Rattle.oct_def.specs.Tight.{path, long_path, pivot_entry, pair_entry, pair_step, pair_steps, closure, negative_cycle, has_negative_cycle, even_entry, evening, crossing, has_crossing, strong_entry, strengthening, tight_even, tight_closed, tight}
use Rattle.oct_def.specs.Octagon.{IsValueOver}
use Rattle.oct_def.proofs.Tables.{length-table, at-table, square-table, at-past_row, at-past_column}
use Rattle.oct_def.proofs.Bounds.{in_range-clamped, in_range-evened, in_range-halves, even-evened, least_is, of_choice, least_self, int_min_left}
use Rattle.oct_def.proofs.Indices.{opposite_twice, opposite_below, some_index-each}
use Rattle.oct_def.proofs.Coherent.{coherent-pair_step, coherent-evening, coherent-strengthening}

-- a coherent matrix over n variables with entries between the limits; its diagonal may be any
pub record IsShape (n : ℕ) (m : Matrix) : Type 0 where
  pub rows : length m ≡ 2 * n
  pub square : IsSquare m
  pub coherent : IsCoherent m
  pub in_range : (i j : ℕ) → InRange (at m i j)

pub shape-matrix : (n : ℕ) (m : Matrix) → IsMatrix n m → IsShape n m
shape-matrix n m v = record { rows = v.rows; square = v.square; coherent = v.coherent; in_range = v.in_range }

-- ---- entries between the limits

pub in_range-least : (a b : Bound) → InRange a → InRange b → InRange (least a b)
in_range-least a b p q = of_choice InRange a b (least a b) (least_is a b) p q

-- what holds of none and of each entry of a table holds everywhere in it
pub each-table : (P : Bound → Type 0) → P None → (n : ℕ) (f : ℕ → ℕ → Bound) → ((i j : ℕ) → i < n → j < n → P (f i j)) → (i j : ℕ) → P (at (table n f) i j)
each-table P none n f h i j = rows (place i) (place j)
  where
    place : (k : ℕ) → (k < n) ⊎ (n ≤ k)
    place k = grind arith

    rows : (i < n) ⊎ (n ≤ i) → (j < n) ⊎ (n ≤ j) → P (at (table n f) i j)
    rows (inl p) (inl q) = subst P (sym (at-table n f i j p q)) (h i j p q)
    rows (inl p) (inr q) = subst P (sym (at-past_column (table n f) (square-table n f) i j (omega (arith, length-table n f)) (omega (arith, length-table n f)))) none
    rows (inr p) q = subst P (sym (at-past_row (table n f) i j (omega (arith, length-table n f)))) none

in_range-pair_entry : (m : Matrix) → ((i j : ℕ) → InRange (at m i j)) → (k i j : ℕ) → InRange (pair_entry k m i j)
unfolding pair_entry pivot_entry path long_path
in_range-pair_entry m h k i j =
    let p = 2 * k in
    let q = 2 * k + 1 in
    in_range-least _ _ (h i j)
    (in_range-least _ _ (in_range-clamped (plus (at m i p) (at m p j)))
    (in_range-least _ _ (in_range-clamped (plus (at m i q) (at m q j)))
    (in_range-least _ _ (in_range-clamped (plus (plus (at m i p) (at m p q)) (at m q j)))
    (in_range-clamped (plus (plus (at m i q) (at m q p)) (at m p j))))))

pub shape-pair_step : (n : ℕ) (m : Matrix) (k : ℕ) → k < n → IsShape n m → IsShape n (pair_step k m)
unfolding pair_step
shape-pair_step n m k hk v = record {
  rows = length-table (length m) (pair_entry k m) ∙ v.rows;
  square = square-table (length m) (pair_entry k m);
  coherent = coherent-pair_step n m v.rows v.coherent k hk;
  in_range = each-table InRange tt (length m) (pair_entry k m) (λ i j p q. in_range-pair_entry m v.in_range k i j);
}

pub shape-pair_steps : (n : ℕ) (m : Matrix) (k : ℕ) → k ≤ n → IsShape n m → IsShape n (pair_steps k m)
unfolding pair_steps
shape-pair_steps n m zero hk v = v
shape-pair_steps n m (suc k) hk v =
    shape-pair_step n (pair_steps k m) k (omega arith) (shape-pair_steps n m k (omega arith) v)

in_range-even_entry : (m : Matrix) → ((i j : ℕ) → InRange (at m i j)) → (i j : ℕ) → InRange (even_entry m i j)
unfolding even_entry
in_range-even_entry m h i j = by (eqb j (opposite i))
  where
    by : (b : Bool) → InRange (cond b (evened (at m i j)) (at m i j))
    by true = in_range-evened (at m i j) (h i j)
    by false = h i j

pub shape-evening : (n : ℕ) (m : Matrix) → IsShape n m → IsShape n (evening m)
unfolding evening
shape-evening n m v = record {
  rows = length-table (length m) (even_entry m) ∙ v.rows;
  square = square-table (length m) (even_entry m);
  coherent = coherent-evening n m v.rows v.coherent;
  in_range = each-table InRange tt (length m) (even_entry m) (λ i j p q. in_range-even_entry m v.in_range i j);
}

in_range-strong_entry : (m : Matrix) → ((i j : ℕ) → InRange (at m i j)) → (i j : ℕ) → InRange (strong_entry m i j)
unfolding strong_entry
in_range-strong_entry m h i j =
    in_range-least _ _ (h i j) (in_range-halves (at m i (opposite i)) (at m (opposite j) j) (h i (opposite i)) (h (opposite j) j))

pub shape-strengthening : (n : ℕ) (m : Matrix) → IsShape n m → IsShape n (strengthening m)
unfolding strengthening
shape-strengthening n m v = record {
  rows = length-table (length m) (strong_entry m) ∙ v.rows;
  square = square-table (length m) (strong_entry m);
  coherent = coherent-strengthening n m v.rows v.coherent;
  in_range = each-table InRange tt (length m) (strong_entry m) (λ i j p q. in_range-strong_entry m v.in_range i j);
}

-- ---- the diagonal

-- a finite bound that is at most 0
pub data IsLow (b : Bound) : Type 0 where
  low : (x : ℤ) → b ≡ Some x → x ≤ℤ pos 0 → IsLow b

pub low-least : (a b : Bound) → IsLow a → IsLow (least a b)
low-least a b (low x e h) = subst (λ t. IsLow (least t b)) (sym e) (by b)
  where
    by : (b : Bound) → IsLow (least (Some x) b)
    by None = low x refl h
    by (Some y) = low _ refl (let l = int_min_left x y in omega (arith, ints))

unfoldable pub LowDiagonal : Matrix → Type 0
LowDiagonal m = (i : ℕ) → i < length m → IsLow (at m i i)

low_diagonal-pair_step : (k : ℕ) (m : Matrix) → LowDiagonal m → LowDiagonal (pair_step k m)
unfolding LowDiagonal pair_step pair_entry pivot_entry
low_diagonal-pair_step k m h i p =
    let q : i < length m = omega (arith, length-table (length m) (pair_entry k m)) in
    subst IsLow (sym (at-table (length m) (pair_entry k m) i i q q)) (low-least (at m i i) _ (h i q))

low_diagonal-pair_steps : (n : ℕ) (m : Matrix) → LowDiagonal m → LowDiagonal (pair_steps n m)
unfolding pair_steps
low_diagonal-pair_steps zero m h = h
low_diagonal-pair_steps (suc n) m h = low_diagonal-pair_step n (pair_steps n m) (low_diagonal-pair_steps n m h)

zero_if_low : (b : Bound) → IsLow b → is_negative b ≡ false → b ≡ Some (pos 0)
zero_if_low b (low x e h) f =
    let g : int_lt x (pos 0) ≡ false = rw e at f in
    let z : x ≡ pos 0 = omega (arith, ints) in
    e ∙ ap Some z

-- the diagonal is 0
unfoldable pub ZeroDiagonal : Matrix → Type 0
ZeroDiagonal m = (i : ℕ) → i < length m → at m i i ≡ Some (pos 0)

zero_diagonal : (m : Matrix) → LowDiagonal m → has_negative_cycle m ≡ false → ZeroDiagonal m
unfolding LowDiagonal ZeroDiagonal has_negative_cycle negative_cycle
zero_diagonal m h e i p = zero_if_low (at m i i) (h i p) (some_index-each (length m) (negative_cycle m) e i p)

not_opposite : (i : ℕ) → eqb i (opposite i) ≡ false
not_opposite i = by (eqb i (opposite i)) refl
  where
    by : (b : Bool) → eqb i (opposite i) ≡ b → b ≡ false
    by false e = refl
    by true e = absurd (let same = (Decides-eqb i (opposite i)).0 e in omega arith)

zero_diagonal-evening : (m : Matrix) → ZeroDiagonal m → ZeroDiagonal (evening m)
unfolding ZeroDiagonal evening even_entry
zero_diagonal-evening m h i p =
    let q : i < length m = omega (arith, length-table (length m) (even_entry m)) in
    at-table (length m) (even_entry m) i i q q ∙ ap (λ (b : Bool). cond b (evened (at m i i)) (at m i i)) (not_opposite i) ∙ h i q

-- ---- even unary entries

unfoldable pub EvenUnary : Matrix → Type 0
EvenUnary m = (i : ℕ) → IsEven (at m i (opposite i))

-- an entry with an even-making test that holds is even
even_if : (a : Bound) (b : Bool) → b ≡ true → IsEven (cond b (evened a) a)
even_if a b e = subst (λ t. IsEven (cond t (evened a) a)) (sym e) (even-evened a)

-- in a table over an even number of dimensions
pub even_unary-table : (n : ℕ) (f : ℕ → ℕ → Bound) → ((i : ℕ) → i < 2 * n → IsEven (f i (opposite i))) → EvenUnary (table (2 * n) f)
unfolding EvenUnary
even_unary-table n f h i = by (place i)
  where
    place : (k : ℕ) → (k < 2 * n) ⊎ (2 * n ≤ k)
    place k = grind arith

    by : (i < 2 * n) ⊎ (2 * n ≤ i) → IsEven (at (table (2 * n) f) i (opposite i))
    by (inl p) = subst IsEven (sym (at-table (2 * n) f i (opposite i) p (opposite_below n i p))) (h i p)
    by (inr p) = subst IsEven (sym (at-past_row (table (2 * n) f) i (opposite i) (omega (arith, length-table (2 * n) f)))) refl

pub even_unary-evening : (n : ℕ) (m : Matrix) → length m ≡ 2 * n → EvenUnary (evening m)
unfolding evening even_entry
even_unary-evening n m e =
    subst (λ t. EvenUnary (table t (even_entry m))) (sym e)
    (even_unary-table n (even_entry m) (λ i p. even_if (at m i (opposite i)) (eqb (opposite i) (opposite i)) ((Decides-eqb (opposite i) (opposite i)).1 refl)))

-- a unary entry that is even stays as it is in the strengthening
pub strong_unary : (m : Matrix) → EvenUnary m → (i : ℕ) → strong_entry m i (opposite i) ≡ at m i (opposite i)
unfolding EvenUnary strong_entry
strong_unary m h i =
    ap (λ t. least (at m i (opposite i)) (plus (half (at m i (opposite i))) (half (at m t (opposite i))))) (opposite_twice i)
    ∙ ap (least (at m i (opposite i))) (h i) ∙ least_self (at m i (opposite i))

even_unary-strengthening : (n : ℕ) (m : Matrix) → length m ≡ 2 * n → EvenUnary m → EvenUnary (strengthening m)
unfolding EvenUnary strengthening
even_unary-strengthening n m e h =
    subst (λ t. EvenUnary (table t (strong_entry m))) (sym e)
    (even_unary-table n (strong_entry m) (λ i p. subst IsEven (sym (strong_unary m h i)) (h i)))

-- two even bounds without a negative sum have halves without one
halves_above : (a b : Bound) → IsEven a → IsEven b → is_negative (plus a b) ≡ false → least (Some (pos 0)) (plus (half a) (half b)) ≡ Some (pos 0)
halves_above None b ea eb h = refl
halves_above (Some x) None ea eb h = refl
halves_above (Some x) (Some y) ea eb h =
    let ex : (floor_half x +ℤ floor_half x) ≡ x = cc in
    let ey : (floor_half y +ℤ floor_half y) ≡ y = cc in
    let g : int_lt (x +ℤ y) (pos 0) ≡ false = h in
    ap Some (omega (arith, ints, clamps))

zero_diagonal-strengthening : (m : Matrix) → ZeroDiagonal m → EvenUnary m → has_crossing m ≡ false → ZeroDiagonal (strengthening m)
unfolding ZeroDiagonal EvenUnary strengthening strong_entry has_crossing crossing
zero_diagonal-strengthening m z h e i p =
    let q : i < length m = omega (arith, length-table (length m) (strong_entry m)) in
    let turned : IsEven (at m (opposite i) i) = subst (λ t. IsEven (at m (opposite i) t)) (opposite_twice i) (h (opposite i)) in
    at-table (length m) (strong_entry m) i i q q
    ∙ ap (λ a. least a (plus (half (at m i (opposite i))) (half (at m (opposite i) i)))) (z i q)
    ∙ halves_above (at m i (opposite i)) (at m (opposite i) i) (h i) turned (some_index-each (length m) (crossing m) e i q)

-- ---- the tight closure gives a value

value_unless : (n : ℕ) (b : Bool) (v : Option Matrix) → (b ≡ false → IsValueOver n v) → IsValueOver n (cond b None v)
value_unless n true v h = tt
value_unless n false v h = h refl

even_matrix : (n : ℕ) (m : Matrix) → IsShape n m → ZeroDiagonal m → EvenUnary m → IsEvenMatrix n m
unfolding ZeroDiagonal EvenUnary
even_matrix n m v z e = record {
  matrix = record { rows = v.rows; square = v.square; coherent = v.coherent; in_range = v.in_range; diagonal = z };
  even = e;
}

value-tight_even : (n : ℕ) (m : Matrix) → IsShape n m → ZeroDiagonal m → EvenUnary m → IsValueOver n (tight_even m)
unfolding tight_even
value-tight_even n m v z e = value_unless n (has_crossing m) (Some (strengthening m)) (λ c.
    even_matrix n (strengthening m) (shape-strengthening n m v) (zero_diagonal-strengthening m z e c) (even_unary-strengthening n m v.rows e))

value-tight_closed : (n : ℕ) (m : Matrix) → IsShape n m → LowDiagonal m → IsValueOver n (tight_closed m)
unfolding tight_closed
value-tight_closed n m v l = value_unless n (has_negative_cycle m) (tight_even (evening m)) (λ c.
    value-tight_even n (evening m) (shape-evening n m v) (zero_diagonal-evening m (zero_diagonal m l c)) (even_unary-evening n m v.rows))

-- a coherent matrix whose diagonal is at most 0 is enough
pub value-tight_low : (n : ℕ) (m : Matrix) → IsShape n m → LowDiagonal m → IsValueOver n (tight m)
unfolding tight closure
value-tight_low n m v l =
    let k : length m / 2 ≤ n = omega (arith, v.rows) in
    value-tight_closed n (pair_steps (length m / 2) m) (shape-pair_steps n m (length m / 2) k v) (low_diagonal-pair_steps (length m / 2) m l)

low_diagonal : (n : ℕ) (m : Matrix) → IsMatrix n m → LowDiagonal m
unfolding LowDiagonal
low_diagonal n m v i p = low (pos 0) (v.diagonal i p) (omega (arith, ints))

pub value-tight : (n : ℕ) (m : Matrix) → IsMatrix n m → IsValueOver n (tight m)
value-tight n m v = value-tight_low n m (shape-matrix n m v) (low_diagonal n m v)
