-- The callee's first state meets the value at its entry, which is a value where the caller's is one.
use Rattle.std.proofs.Common.{◌≡◌, ◌≢◌, ◌⊎◌, inl, inr, ⊎_elim, ℕ, ◌+◌, ◌*◌, ◌/◌, ◌%◌, ◌<◌, ◌≤◌, ◌&&◌, Bool, true, false, cond, List, length, get_or, take, ℤ, pos, Some, None, refl, sym, ap, subst, arith, nat_eq, nat_lt, ◌∙◌, ltb-true, lt-ltb, le-ltb, eqb-true, eq-eqb, ne_eqb}
use Rattle.std.proofs.lemmas.Int.{ints}
use Rattle.std.proofs.lemmas.Bool.{cases_eq, and_left, and_right}
use Rattle.std.proofs.lemmas.List.{get_or-take, get_or-map}
use Rattle.oct_def.specs.Bound.{Bound, Within, InRange, IsEven}
use Rattle.oct_def.specs.Table.{Matrix, at}
use Rattle.oct_def.specs.Matrix.{opposite, value_at, signed_value, IsEvenMatrix, Meets}
use Rattle.oct_def.specs.Octagon.{Octagon, IsOctagon, MeetsOctagon}
use Rattle.oct_def.proofs.Indices.{opposite_below, opposite_same}
use Rattle.oct_def.proofs.Tables.{length-table, at-table, square-table, at-past_row, at-past_column}
use Rattle.oct_def.proofs.Sound.{difference, meets-table}
use Rattle.oct_def.proofs.Coherent.{coherent-table}
use Rattle.oct_def.proofs.Values.{IsShape, shape-matrix, each-table}
use Rattle.spl_core.specs.Expression.{State}
use Rattle.spl_runs.specs.Runs.{values_of}
use Rattle.transfer_def.specs.Enter.{argument_dimension, input_entry, enter_entry, enter_matrix, enter_value}
use Rattle.transfer_def.proofs.Lifts.{meets-mapped, value-mapped}
use Rattle.transfer_def.proofs.States.{signed_value-same}
use Rattle.transfer_def.proofs.Dimensions.{even_none, even-table}

-- ---- states

-- an input has the value of its argument
pub value_at-argument : (args : List ℕ) (s t : State) (v : ℕ) → v < length args → take (length args) t ≡ values_of s args → value_at t v ≡ value_at s (get_or args v 0)
value_at-argument args s t v l e =
    sym (get_or-take (length args) t v (pos 0) l) ∙ ap (λ (xs : List ℤ). get_or xs v (pos 0)) e ∙ get_or-map (value_at s) args v 0 (pos 0) l

argument_dimension-parity : (args : List ℕ) (i : ℕ) → argument_dimension args i % 2 ≡ i % 2
unfolding argument_dimension
argument_dimension-parity args i = omega arith

argument_dimension-half : (args : List ℕ) (i : ℕ) → argument_dimension args i / 2 ≡ get_or args (i / 2) 0
unfolding argument_dimension
argument_dimension-half args i = omega arith

signed_value-argument : (args : List ℕ) (s t : State) (i : ℕ) → i < 2 * length args → take (length args) t ≡ values_of s args → signed_value s (argument_dimension args i) ≡ signed_value t i
signed_value-argument args s t i l e =
    let inside : i / 2 < length args = omega arith in
    let value : value_at s (argument_dimension args i / 2) ≡ value_at t (i / 2) =
    ap (value_at s) (argument_dimension-half args i) ∙ sym (value_at-argument args s t (i / 2) inside e) in
    signed_value-same s t (argument_dimension args i) i (argument_dimension-parity args i) value

within-input_entry : (args : List ℕ) (m : Matrix) (s t : State) (i j : ℕ) → take (length args) t ≡ values_of s args → Meets s m → Within (difference t i j) (input_entry args m i j)
unfolding input_entry
within-input_entry args m s t i j e h = by (nat_lt i (2 * length args)) (nat_lt j (2 * length args)) refl refl
  where
    by : (b c : Bool) → nat_lt i (2 * length args) ≡ b → nat_lt j (2 * length args) ≡ c → Within (difference t i j) (cond (b && c) (at m (argument_dimension args i) (argument_dimension args j)) None)
    by true true p q =
        rw (← signed_value-argument args s t i (ltb-true i (2 * length args) p) e, ← signed_value-argument args s t j (ltb-true j (2 * length args) q) e)
        (h.within (argument_dimension args i) (argument_dimension args j))
    by true false p q = tt
    by false c p q = tt

within-enter_entry : (args : List ℕ) (m : Matrix) (s t : State) (i j : ℕ) → take (length args) t ≡ values_of s args → Meets s m → Within (difference t i j) (enter_entry args m i j)
unfolding enter_entry
within-enter_entry args m s t i j e h = by (nat_eq i j) refl
  where
    by : (b : Bool) → nat_eq i j ≡ b → Within (difference t i j) (cond b (Some (pos 0)) (input_entry args m i j))
    by true q = let same = ap (signed_value t) (eqb-true i j q) in omega (arith, ints)
    by false q = within-input_entry args m s t i j e h

pub meets-enter_value : (args : List ℕ) (dims : ℕ) (v : Octagon) (s t : State) → take (length args) t ≡ values_of s args → MeetsOctagon s v → MeetsOctagon t (enter_value v args dims)
unfolding enter_value enter_matrix
meets-enter_value args dims v s t e h =
    meets-mapped s t (enter_matrix args dims) v.matrix (λ m k. meets-table t (2 * dims) (enter_entry args m) (λ i j p q. within-enter_entry args m s t i j e k)) h

-- ---- values

-- in a coherent matrix an entry equals its twin at all indices: outside there are no bounds
pub twin_anywhere : (n : ℕ) (m : Matrix) → IsShape n m → (i j : ℕ) → at m i j ≡ at m (opposite j) (opposite i)
twin_anywhere n m v i j = by (split i) (split j)
  where
    split : (k : ℕ) → (k < 2 * n) ⊎ (2 * n ≤ k)
    split k = grind arith

    past_opposite : (k : ℕ) → 2 * n ≤ k → length m ≤ opposite k
    past_opposite k h = omega (arith, v.rows)

    none_past : (a b : ℕ) → (length m ≤ a) ⊎ (length m ≤ b) → at m a b ≡ None
    none_past a b (inl p) = at-past_row m a b p
    none_past a b (inr p) = by_row (grind_row a)
      where
        grind_row : (a : ℕ) → (a < length m) ⊎ (length m ≤ a)
        grind_row a = grind arith

        by_row : (a < length m) ⊎ (length m ≤ a) → at m a b ≡ None
        by_row (inl q) = at-past_column m v.square a b q p
        by_row (inr q) = at-past_row m a b q

    by : (i < 2 * n) ⊎ (2 * n ≤ i) → (j < 2 * n) ⊎ (2 * n ≤ j) → at m i j ≡ at m (opposite j) (opposite i)
    by (inl p) (inl q) = v.coherent.twins i j (omega (arith, v.rows)) (omega (arith, v.rows))
    by (inr p) q = none_past i j (inl (omega (arith, v.rows))) ∙ sym (none_past (opposite j) (opposite i) (inr (past_opposite i p)))
    by (inl p) (inr q) = none_past i j (inr (omega (arith, v.rows))) ∙ sym (none_past (opposite j) (opposite i) (inl (past_opposite j q)))

argument_dimension-opposite : (args : List ℕ) (i : ℕ) → argument_dimension args (opposite i) ≡ opposite (argument_dimension args i)
unfolding argument_dimension
argument_dimension-opposite args i =
    let half : opposite i / 2 ≡ i / 2 = omega arith in
    rw half (by (get_or args (i / 2) 0))
  where
    by : (a : ℕ) → 2 * a + opposite i % 2 ≡ opposite (2 * a + i % 2)
    by a = omega arith

input_entry-inner : (args : List ℕ) (m : Matrix) (i j : ℕ) → i < 2 * length args → j < 2 * length args → input_entry args m i j ≡ at m (argument_dimension args i) (argument_dimension args j)
unfolding input_entry
input_entry-inner args m i j p q = rw (lt-ltb i (2 * length args) p, lt-ltb j (2 * length args) q)

input_entry-outer : (args : List ℕ) (m : Matrix) (i j : ℕ) → (2 * length args ≤ i) ⊎ (2 * length args ≤ j) → input_entry args m i j ≡ None
unfolding input_entry
input_entry-outer args m i j (inl h) = rw (and_left (nat_lt i (2 * length args)) (nat_lt j (2 * length args)) (le-ltb i (2 * length args) h))
input_entry-outer args m i j (inr h) = rw (and_right (nat_lt i (2 * length args)) (nat_lt j (2 * length args)) (le-ltb j (2 * length args) h))

past_opposite : (n i : ℕ) → 2 * n ≤ i → 2 * n ≤ opposite i
past_opposite n i h = omega arith

inner_or_outer : (n i j : ℕ) → ((i < 2 * n) × (j < 2 * n)) ⊎ ((2 * n ≤ i) ⊎ (2 * n ≤ j))
inner_or_outer n i j = grind arith

input_entry-twin : (n : ℕ) (args : List ℕ) (m : Matrix) (i j : ℕ) → IsShape n m → input_entry args m i j ≡ input_entry args m (opposite j) (opposite i)
input_entry-twin n args m i j v = by (inner_or_outer (length args) i j)
  where
    by : ((i < 2 * length args) × (j < 2 * length args)) ⊎ ((2 * length args ≤ i) ⊎ (2 * length args ≤ j)) → input_entry args m i j ≡ input_entry args m (opposite j) (opposite i)
    by (inl p) =
        input_entry-inner args m i j p.0 p.1
        ∙ twin_anywhere n m v (argument_dimension args i) (argument_dimension args j)
        ∙ sym (ap (λ (k : ℕ). at m k (argument_dimension args (opposite i))) (argument_dimension-opposite args j)
        ∙ ap (λ (k : ℕ). at m (opposite (argument_dimension args j)) k) (argument_dimension-opposite args i))
        ∙ sym (input_entry-inner args m (opposite j) (opposite i) (opposite_below (length args) j p.1) (opposite_below (length args) i p.0))
    by (inr (inl p)) = input_entry-outer args m i j (inl p) ∙ sym (input_entry-outer args m (opposite j) (opposite i) (inr (past_opposite (length args) i p)))
    by (inr (inr p)) = input_entry-outer args m i j (inr p) ∙ sym (input_entry-outer args m (opposite j) (opposite i) (inl (past_opposite (length args) j p)))

-- what holds of no bound and of the caller's entry holds of an input's
input_entry-each : (P : Bound → Type 0) (args : List ℕ) (m : Matrix) (i j : ℕ) → P None → P (at m (argument_dimension args i) (argument_dimension args j)) → P (input_entry args m i j)
unfolding input_entry
input_entry-each P args m i j none held = by (nat_lt i (2 * length args) && nat_lt j (2 * length args))
  where
    by : (b : Bool) → P (cond b (at m (argument_dimension args i) (argument_dimension args j)) None)
    by true = held
    by false = none

enter_entry-same : (args : List ℕ) (m : Matrix) (i j : ℕ) → i ≡ j → enter_entry args m i j ≡ Some (pos 0)
unfolding enter_entry
enter_entry-same args m i j e = rw (eq-eqb i j e)

enter_entry-other : (args : List ℕ) (m : Matrix) (i j : ℕ) → i ≢ j → enter_entry args m i j ≡ input_entry args m i j
unfolding enter_entry
enter_entry-other args m i j d = rw (ne_eqb i j d)

enter_entry-twin : (n : ℕ) (args : List ℕ) (m : Matrix) (i j : ℕ) → IsShape n m → enter_entry args m i j ≡ enter_entry args m (opposite j) (opposite i)
enter_entry-twin n args m i j v = ⊎_elim
    (λ (e : i ≡ j). enter_entry-same args m i j e ∙ sym (enter_entry-same args m (opposite j) (opposite i) (ap opposite (sym e))))
    (λ (d : i ≢ j). enter_entry-other args m i j d ∙ input_entry-twin n args m i j v ∙ sym (enter_entry-other args m (opposite j) (opposite i) (λ q. d (sym (opposite_same j i q)))))
    (cases_eq i j)

in_range-enter_entry : (args : List ℕ) (m : Matrix) (i j : ℕ) → ((i j : ℕ) → InRange (at m i j)) → InRange (enter_entry args m i j)
unfolding enter_entry
in_range-enter_entry args m i j h = by (nat_eq i j)
  where
    by : (b : Bool) → InRange (cond b (Some (pos 0)) (input_entry args m i j))
    by true = search
    by false = input_entry-each InRange args m i j tt (h (argument_dimension args i) (argument_dimension args j))

value-enter_matrix : (n : ℕ) (args : List ℕ) (dims : ℕ) (m : Matrix) → IsEvenMatrix n m → IsEvenMatrix dims (enter_matrix args dims m)
unfolding enter_matrix
value-enter_matrix n args dims m v =
    let f = enter_entry args m in
    record {
      matrix = record {
        rows = length-table (2 * dims) f;
        square = square-table (2 * dims) f;
        coherent = coherent-table dims f (λ i j p q. enter_entry-twin n args m i j (shape-matrix n m v.matrix));
        in_range = each-table InRange tt (2 * dims) f (λ i j p q. in_range-enter_entry args m i j v.matrix.in_range);
        diagonal = λ i p.
            let l : i < 2 * dims = omega (arith, length-table (2 * dims) f) in
            at-table (2 * dims) f i i l l ∙ enter_entry-same args m i i refl;
      };
      even = even-table dims f (λ i p.
          subst IsEven (sym (enter_entry-other args m i (opposite i) (omega arith)))
          (input_entry-each IsEven args m i (opposite i) even_none
          (subst (λ (k : ℕ). IsEven (at m (argument_dimension args i) k)) (sym (argument_dimension-opposite args i)) (v.even (argument_dimension args i)))));
    }

pub value-enter_value : (v : Octagon) (args : List ℕ) (dims : ℕ) → IsOctagon v → IsOctagon (enter_value v args dims)
unfolding enter_value
value-enter_value v args dims h = value-mapped v.dims dims (enter_matrix args dims) v.matrix (λ m k. value-enter_matrix v.dims args dims m k) h
