-- The state after a call meets the value after it, which is a value where both sides are values.
use Rattle.std.proofs.Common.{◌≡◌, ◌≢◌, ◌⊎◌, inl, inr, ⊎_elim, ℕ, zero, suc, ◌+◌, ◌-◌, ◌*◌, ◌/◌, ◌%◌, ◌<◌, ◌≤◌, ◌++◌, ◌&&◌, Bool, true, false, cond, List, length, get_or, take, drop, ℤ, pos, ◌+ℤ◌, ◌≤ℤ◌, Option, Some, None, refl, sym, ap, subst, arith, nat_eq, nat_lt, ◌∙◌, ltb-true, lt-ltb, eqb-true, eq-eqb, ne_eqb}
use Rattle.std.specs.List.{All}
use Rattle.std.specs.Option.{option_and_then}
use Rattle.std.proofs.lemmas.Int.{ints}
use Rattle.std.proofs.lemmas.Bool.{cases_eq}
use Rattle.std.proofs.lemmas.List.{get_or-take, get_or-drop, get_or_append_left, get_or-append_right, length-take-le, length-drop}
use Rattle.std.proofs.lemmas.List.Elements.{All-get_or}
use Rattle.oct_def.specs.Bound.{Bound, Within, InRange}
use Rattle.oct_def.specs.Table.{Matrix, at}
use Rattle.oct_def.specs.Matrix.{opposite, value_at, signed_value, IsMatrix, IsEvenMatrix, Meets, MeetsValue}
use Rattle.oct_def.specs.Tight.{tight}
use Rattle.oct_def.specs.Octagon.{Octagon, IsOctagon, IsValueOver, MeetsOctagon, on_both}
use Rattle.oct_def.proofs.Bounds.{within-least, within-least_left, within-least_right}
use Rattle.oct_def.proofs.Indices.{opposite_below, opposite_same, opposite_twice}
use Rattle.oct_def.proofs.Tables.{length-table, square-table}
use Rattle.oct_def.proofs.Sound.{difference, meets-table, meets-tight}
use Rattle.oct_def.proofs.Coherent.{coherent-table}
use Rattle.oct_def.proofs.Values.{IsShape, low, LowDiagonal, shape-matrix, in_range-least, each-table, value-tight_low}
use Rattle.oct_def.proofs.Lattice.{meets-least_matrix, shape-least_matrix, low_diagonal-least_matrix}
use Rattle.spl_core.specs.Expression.{State}
use Rattle.spl_core.specs.Facts.{AreDistinct}
use Rattle.spl_runs.specs.Runs.{values_of, with_values}
use Rattle.transfer_def.specs.Dimensions.{extended, moved}
use Rattle.transfer_def.specs.Back.{least_below, joined_variable, joined_dimension, brought_from, brought_in_row, brought_entry, brought, joined, back_value}
use Rattle.transfer_def.proofs.Lifts.{meets-and_then, meets-mapped, value-mapped}
use Rattle.transfer_def.proofs.States.{signed_value-same}
use Rattle.transfer_def.proofs.Dimensions.{meets-extended, meets-moved, matrix-extended, value-moved}
use Rattle.transfer_def.proofs.Enter.{value_at-argument, twin_anywhere}

-- ---- the least of several bounds

within-least_below : (x : ℤ) (n : ℕ) (f : ℕ → Bound) → ((i : ℕ) → i < n → Within x (f i)) → Within x (least_below n f)
unfolding least_below
within-least_below x zero f h = tt
within-least_below x (suc n) f h = within-least x (f n) (least_below n f) (h n (omega arith)) (within-least_below x n f (λ i p. h i (omega arith)))

within-least_below_each : (x : ℤ) (n : ℕ) (f : ℕ → Bound) → Within x (least_below n f) → (i : ℕ) → i < n → Within x (f i)
unfolding least_below
within-least_below_each x zero f h i p = absurd (omega arith)
within-least_below_each x (suc n) f h i p =
    by (last i p) (λ (l : i < n). within-least_below_each x n f (within-least_right x (f n) (least_below n f) h) i l)
  where
    last : (i : ℕ) → i < suc n → (i ≡ n) ⊎ (i < n)
    last i p = grind arith

    by : (i ≡ n) ⊎ (i < n) → (i < n → Within x (f i)) → Within x (f i)
    by (inl e) more = subst (λ (k : ℕ). Within x (f k)) (sym e) (within-least_left x (f n) (least_below n f) h)
    by (inr l) more = more l

in_range-least_below : (n : ℕ) (f : ℕ → Bound) → ((i : ℕ) → i < n → InRange (f i)) → InRange (least_below n f)
unfolding least_below
in_range-least_below zero f h = tt
in_range-least_below (suc n) f h = in_range-least (f n) (least_below n f) (h n (omega arith)) (in_range-least_below n f (λ i p. h i (omega arith)))

-- ---- the joined matrix: over the caller's state with the outputs behind it

-- the outputs of an exit state
abbrev outputs_in : ℕ → ℕ → State → List ℤ
outputs_in inputs outputs e = take outputs (drop inputs e)

length-outputs : (k o : ℕ) (e : State) → k + o ≤ length e → length (outputs_in k o e) ≡ o
length-outputs k o e l = length-take-le o (drop k e) (omega (arith, length-drop k e))

joined_dimension-parity : (n : ℕ) (args : List ℕ) (i : ℕ) → joined_dimension n args i % 2 ≡ i % 2
unfolding joined_dimension
joined_dimension-parity n args i = omega arith

joined_dimension-half : (n : ℕ) (args : List ℕ) (i : ℕ) → joined_dimension n args i / 2 ≡ joined_variable n args (i / 2)
unfolding joined_dimension
joined_dimension-half n args i = omega arith

value_at-joined : (n o : ℕ) (args : List ℕ) (s e : State) (v : ℕ) → length s ≡ n → All (λ x. x < n) args → v < length args + o → take (length args) e ≡ values_of s args
    → value_at (s ++ outputs_in (length args) o e) (joined_variable n args v) ≡ value_at e v
unfolding joined_variable
value_at-joined n o args s e v l a p h = by (nat_lt v (length args)) refl
  where
    by_false : nat_lt v (length args) ≡ false → length args ≤ v
    by_false r = grind (arith, lt-ltb v (length args))

    by : (b : Bool) → nat_lt v (length args) ≡ b → value_at (s ++ outputs_in (length args) o e) (cond b (get_or args v 0) (n + (v - length args))) ≡ value_at e v
    by true q =
        let inside : v < length args = ltb-true v (length args) q in
        let low : get_or args v 0 < n = All-get_or (λ x. x < n) args v 0 inside a in
        get_or_append_left s (outputs_in (length args) o e) (pos 0) (get_or args v 0) (omega arith) ∙ sym (value_at-argument args s e v inside h)
    by false q =
        let past : length args ≤ v = by_false q in
        let back : (n + (v - length args)) - n ≡ v - length args = omega arith in
        let again : length args + (v - length args) ≡ v = omega arith in
        get_or-append_right s (outputs_in (length args) o e) n (n + (v - length args)) (pos 0) l (omega arith)
        ∙ ap (λ (k : ℕ). get_or (outputs_in (length args) o e) k (pos 0)) back
        ∙ get_or-take o (drop (length args) e) (v - length args) (pos 0) (omega arith)
        ∙ get_or-drop (length args) e (v - length args) (pos 0)
        ∙ ap (λ (k : ℕ). get_or e k (pos 0)) again

signed_value-joined : (n o : ℕ) (args : List ℕ) (s e : State) (i : ℕ) → length s ≡ n → All (λ x. x < n) args → i < 2 * (length args + o) → take (length args) e ≡ values_of s args
    → signed_value (s ++ outputs_in (length args) o e) (joined_dimension n args i) ≡ signed_value e i
signed_value-joined n o args s e i l a p h =
    let inside : i / 2 < length args + o = omega arith in
    let t = s ++ outputs_in (length args) o e in
    let value : value_at t (joined_dimension n args i / 2) ≡ value_at e (i / 2) =
    ap (value_at t) (joined_dimension-half n args i) ∙ value_at-joined n o args s e (i / 2) l a inside h in
    signed_value-same t e (joined_dimension n args i) i (joined_dimension-parity n args i) value

within-brought_from : (n o : ℕ) (args : List ℕ) (exit : Matrix) (s e : State) (p q i j : ℕ) → length s ≡ n → All (λ x. x < n) args
    → i < 2 * (length args + o) → j < 2 * (length args + o) → take (length args) e ≡ values_of s args → Meets e exit
    → Within (difference (s ++ outputs_in (length args) o e) p q) (brought_from n args exit p q i j)
unfolding brought_from
within-brought_from n o args exit s e p q i j l a bi bj h k = by (nat_eq (joined_dimension n args i) p) (nat_eq (joined_dimension n args j) q) refl refl
  where
    by : (b c : Bool) → nat_eq (joined_dimension n args i) p ≡ b → nat_eq (joined_dimension n args j) q ≡ c
        → Within (difference (s ++ outputs_in (length args) o e) p q) (cond (b && c) (at exit i j) None)
    by true true x y =
        let ep = eqb-true (joined_dimension n args i) p x in
        let eq = eqb-true (joined_dimension n args j) q y in
        rw (← ep, ← eq, signed_value-joined n o args s e i l a bi h, signed_value-joined n o args s e j l a bj h) (k.within i j)
    by true false x y = tt
    by false c x y = tt

meets-brought : (n o : ℕ) (args : List ℕ) (exit : Matrix) (s e : State) → length s ≡ n → All (λ x. x < n) args → take (length args) e ≡ values_of s args
    → Meets e exit → Meets (s ++ outputs_in (length args) o e) (brought n args o exit)
unfolding brought brought_entry brought_in_row
meets-brought n o args exit s e l a h k =
    let t = s ++ outputs_in (length args) o e in
    meets-table t (2 * (n + o)) (brought_entry n args o exit) (λ p q bp bq.
    within-least_below (difference t p q) (2 * (length args + o)) (brought_in_row n args o exit p q) (λ i bi.
    within-least_below (difference t p q) (2 * (length args + o)) (brought_from n args exit p q i) (λ j bj.
    within-brought_from n o args exit s e p q i j l a bi bj h k)))

meets-joined : (n o : ℕ) (args : List ℕ) (caller exit : Matrix) (s e : State) → length s ≡ n → All (λ x. x < n) args → take (length args) e ≡ values_of s args
    → Meets s caller → Meets e exit → Meets (s ++ outputs_in (length args) o e) (joined n args o caller exit)
unfolding joined
meets-joined n o args caller exit s e l a h kc kx =
    meets-least_matrix (extended n o caller) (brought n args o exit) (s ++ outputs_in (length args) o e)
    (meets-extended n o caller s (outputs_in (length args) o e) l kc) (meets-brought n o args exit s e l a h kx)

pub meets-back_value : (args targets : List ℕ) (outputs : ℕ) (caller exit : Octagon) (s e : State) → length s ≡ caller.dims → length args + outputs ≤ length e → length targets ≡ outputs
    → All (λ x. x < caller.dims) args → AreDistinct targets → take (length args) e ≡ values_of s args → MeetsOctagon s caller → MeetsOctagon e exit
    → MeetsOctagon (with_values s targets (take outputs (drop (length args) e))) (back_value caller exit args outputs targets)
unfolding back_value
meets-back_value args targets outputs caller exit s e l fit size a d h kc kx =
    let t = s ++ outputs_in (length args) outputs e in
    let both = on_both (joined caller.dims args outputs) caller.matrix exit.matrix in
    meets-mapped t (with_values s targets (outputs_in (length args) outputs e)) (moved caller.dims targets) (option_and_then tight both)
    (λ m k. meets-moved caller.dims targets (outputs_in (length args) outputs e) s m l (length-outputs (length args) outputs e fit ∙ sym size) d k)
    (meets-and_then t t tight both (λ m k. meets-tight t m k) (by caller.matrix exit.matrix kc kx))
  where
    by : (v w : Option Matrix) → MeetsValue s v → MeetsValue e w → MeetsValue (s ++ outputs_in (length args) outputs e) (on_both (joined caller.dims args outputs) v w)
    by None w kv kw = absurd kv
    by (Some m) None kv kw = absurd kw
    by (Some m) (Some x) kv kw = meets-joined caller.dims outputs args m x s e l a h kv kw

-- ---- values

-- bounds that bound the same integers are equal
same-bounds : (a b : Bound) → ((x : ℤ) → Within x a → Within x b) → ((x : ℤ) → Within x b → Within x a) → a ≡ b
same-bounds None None h k = refl
same-bounds None (Some y) h k = absurd (above y (h (y +ℤ pos 1) tt))
  where
    above : (y : ℤ) → (y +ℤ pos 1) ≤ℤ y → ⊥
    above y l = omega (arith, ints)
same-bounds (Some x) None h k = absurd (above x (k (x +ℤ pos 1) tt))
  where
    above : (y : ℤ) → (y +ℤ pos 1) ≤ℤ y → ⊥
    above y l = omega (arith, ints)
same-bounds (Some x) (Some y) h k =
    let low : x ≤ℤ y = h x (itself x) in
    let high : y ≤ℤ x = k y (itself y) in
    let e : x ≡ y = omega (arith, ints) in
    ap (λ (z : ℤ). Some z) e
  where
    itself : (z : ℤ) → z ≤ℤ z
    itself z = omega (arith, ints)

joined_dimension-opposite : (n : ℕ) (args : List ℕ) (i : ℕ) → joined_dimension n args (opposite i) ≡ opposite (joined_dimension n args i)
unfolding joined_dimension
joined_dimension-opposite n args i =
    let half : opposite i / 2 ≡ i / 2 = omega arith in
    rw half (by (joined_variable n args (i / 2)))
  where
    by : (a : ℕ) → 2 * a + opposite i % 2 ≡ opposite (2 * a + i % 2)
    by a = omega arith

same-test : (a p : ℕ) → nat_eq (opposite a) (opposite p) ≡ nat_eq a p
same-test a p = ⊎_elim
    (λ (e : a ≡ p). eq-eqb (opposite a) (opposite p) (ap opposite e) ∙ sym (eq-eqb a p e))
    (λ (d : a ≢ p). ne_eqb (opposite a) (opposite p) (λ e. d (opposite_same a p e)) ∙ sym (ne_eqb a p d))
    (cases_eq a p)

brought_from-twin : (n d : ℕ) (args : List ℕ) (x : Matrix) (p q i j : ℕ) → IsShape d x
    → brought_from n args x p q i j ≡ brought_from n args x (opposite q) (opposite p) (opposite j) (opposite i)
unfolding brought_from
brought_from-twin n d args x p q i j v =
    rw (joined_dimension-opposite n args i, joined_dimension-opposite n args j, same-test (joined_dimension n args j) q, same-test (joined_dimension n args i) p)
    (by (nat_eq (joined_dimension n args i) p) (nat_eq (joined_dimension n args j) q))
  where
    by : (b c : Bool) → cond (b && c) (at x i j) None ≡ cond (c && b) (at x (opposite j) (opposite i)) None
    by true true = twin_anywhere d x v i j
    by true false = refl
    by false true = refl
    by false false = refl

within-brought : (n o : ℕ) (args : List ℕ) (x : Matrix) (p q : ℕ) (z : ℤ) → Within z (brought_entry n args o x p q)
    → (i j : ℕ) → i < 2 * (length args + o) → j < 2 * (length args + o) → Within z (brought_from n args x p q i j)
unfolding brought_entry brought_in_row
within-brought n o args x p q z h i j bi bj =
    within-least_below_each z (2 * (length args + o)) (brought_from n args x p q i)
    (within-least_below_each z (2 * (length args + o)) (brought_in_row n args o x p q) h i bi) j bj

brought-turned : (n o d : ℕ) (args : List ℕ) (x : Matrix) (p q : ℕ) (z : ℤ) → IsShape d x → Within z (brought_entry n args o x p q) → Within z (brought_entry n args o x (opposite q) (opposite p))
unfolding brought_entry brought_in_row
brought-turned n o d args x p q z v h =
    within-least_below z (2 * (length args + o)) (brought_in_row n args o x (opposite q) (opposite p)) (λ i bi.
    within-least_below z (2 * (length args + o)) (brought_from n args x (opposite q) (opposite p) i) (λ j bj.
    let wi : opposite i < 2 * (length args + o) = opposite_below (length args + o) i bi in
    let wj : opposite j < 2 * (length args + o) = opposite_below (length args + o) j bj in
    let k = within-brought n o args x p q z h (opposite j) (opposite i) wj wi in
    let e = brought_from-twin n d args x p q (opposite j) (opposite i) v in
    subst (λ (t : ℕ). Within z (brought_from n args x (opposite q) (opposite p) t j)) (opposite_twice i)
    (subst (λ (t : ℕ). Within z (brought_from n args x (opposite q) (opposite p) (opposite (opposite i)) t)) (opposite_twice j)
    (subst (Within z) e k))))

brought_entry-twin : (n o d : ℕ) (args : List ℕ) (x : Matrix) (p q : ℕ) → IsShape d x → brought_entry n args o x p q ≡ brought_entry n args o x (opposite q) (opposite p)
brought_entry-twin n o d args x p q v =
    same-bounds (brought_entry n args o x p q) (brought_entry n args o x (opposite q) (opposite p))
    (λ z h. brought-turned n o d args x p q z v h)
    (λ z h. subst (λ (t : ℕ). Within z (brought_entry n args o x t q)) (opposite_twice p)
    (subst (λ (t : ℕ). Within z (brought_entry n args o x (opposite (opposite p)) t)) (opposite_twice q)
    (brought-turned n o d args x (opposite q) (opposite p) z v h)))

in_range-brought_from : (n : ℕ) (args : List ℕ) (x : Matrix) (p q i j : ℕ) → ((i j : ℕ) → InRange (at x i j)) → InRange (brought_from n args x p q i j)
unfolding brought_from
in_range-brought_from n args x p q i j h = by (nat_eq (joined_dimension n args i) p && nat_eq (joined_dimension n args j) q)
  where
    by : (b : Bool) → InRange (cond b (at x i j) None)
    by true = h i j
    by false = tt

in_range-brought_entry : (n o : ℕ) (args : List ℕ) (x : Matrix) (p q : ℕ) → ((i j : ℕ) → InRange (at x i j)) → InRange (brought_entry n args o x p q)
unfolding brought_entry brought_in_row
in_range-brought_entry n o args x p q h =
    in_range-least_below (2 * (length args + o)) (brought_in_row n args o x p q) (λ i bi.
    in_range-least_below (2 * (length args + o)) (brought_from n args x p q i) (λ j bj. in_range-brought_from n args x p q i j h))

shape-brought : (n o d : ℕ) (args : List ℕ) (x : Matrix) → IsShape d x → IsShape (n + o) (brought n args o x)
unfolding brought
shape-brought n o d args x v =
    let f = brought_entry n args o x in
    record {
      rows = length-table (2 * (n + o)) f;
      square = square-table (2 * (n + o)) f;
      coherent = coherent-table (n + o) f (λ p q bp bq. brought_entry-twin n o d args x p q v);
      in_range = each-table InRange tt (2 * (n + o)) f (λ p q bp bq. in_range-brought_entry n o args x p q v.in_range);
    }

low_diagonal-matrix : (n : ℕ) (m : Matrix) → IsMatrix n m → LowDiagonal m
unfolding LowDiagonal
low_diagonal-matrix n m v i p = low (pos 0) (v.diagonal i p) (omega (arith, ints))

value-joined : (n o d : ℕ) (args : List ℕ) (m x : Matrix) → IsEvenMatrix n m → IsEvenMatrix d x → IsValueOver (n + o) (tight (joined n args o m x))
unfolding joined
value-joined n o d args m x v w =
    let grown = extended n o m in
    let said = brought n args o x in
    let g = matrix-extended n o m v.matrix in
    value-tight_low (n + o) (joined n args o m x)
    (shape-least_matrix (n + o) grown said (shape-matrix (n + o) grown g) (shape-brought n o d args x (shape-matrix d x w.matrix)))
    (low_diagonal-least_matrix grown said (low_diagonal-matrix (n + o) grown g))

pub value-back_value : (caller exit : Octagon) (args : List ℕ) (outputs : ℕ) (targets : List ℕ) → length targets ≡ outputs → IsOctagon caller → IsOctagon exit → IsOctagon (back_value caller exit args outputs targets)
unfolding back_value
value-back_value caller exit args outputs targets e h k =
    value-mapped (caller.dims + outputs) caller.dims (moved caller.dims targets) (option_and_then tight (on_both (joined caller.dims args outputs) caller.matrix exit.matrix))
    (λ m v. value-moved caller.dims targets m (subst (λ (o : ℕ). IsEvenMatrix (caller.dims + o) m) (sym e) v))
    (by caller.matrix exit.matrix h k)
  where
    by : (v w : Option Matrix) → IsValueOver caller.dims v → IsValueOver exit.dims w → IsValueOver (caller.dims + outputs) (option_and_then tight (on_both (joined caller.dims args outputs) v w))
    by None w hv hw = tt
    by (Some m) None hv hw = tt
    by (Some m) (Some x) hv hw = value-joined caller.dims outputs exit.dims args m x hv hw
