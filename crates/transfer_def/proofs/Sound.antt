-- The successor of a state that meets a matrix meets the matrix after an assignment.
use Rattle.std.proofs.Common.{◌≡◌, ◌⊎◌, ℕ, ◌+◌, ◌*◌, ◌/◌, ◌<◌, ◌++◌, ◌∷◌, ◌||◌, Bool, true, false, cond, List, [], length, set, get_or, Some, ℤ, pos, ◌+ℤ◌, ◌-ℤ◌, ◌*ℤ◌, ◌≤ℤ◌, refl, sym, ap, subst, inl, inr, arith, nat_eq, ◌∙◌, length-append, add-one}
use Rattle.std.specs.Option.{option_and_then}
use Rattle.std.proofs.lemmas.Int.{ints}
use Rattle.std.proofs.lemmas.Bool.{eqb-false, or_parts}
use Rattle.std.proofs.lemmas.List.{get_or_append_left, get_or_at}
use Rattle.oct_def.specs.Bound.{Within}
use Rattle.oct_def.specs.Table.{Matrix, at}
use Rattle.oct_def.specs.Matrix.{value_at, Meets, MeetsValue}
use Rattle.oct_def.specs.Tight.{tight}
use Rattle.oct_def.specs.Octagon.{Octagon, MeetsOctagon, top_entry}
use Rattle.oct_def.proofs.Sound.{difference, meets-table, meets-tight}
use Rattle.spl_core.specs.Expression.{Expression, IsOver, eval}
use Rattle.interval_form.specs.Interval.{Holds, InRanges, unbounded, range_at, ranges_of}
use Rattle.interval_form.specs.Form.{Form, nothing, coefficient, Reads, weighted_sum}
use Rattle.interval_form.specs.Linear.{linear_form, variable_form, difference_form}
use Rattle.interval_form.specs.FormBounds.{bounded}
use Rattle.interval_form.proofs.Integers.{zero-*ℤ-is}
use Rattle.interval_form.proofs.Intervals.{Holds-point}
use Rattle.interval_form.proofs.Forms.{dropped, dropped-same, dropped-other, weighted_sum-same, coefficient_past}
use Rattle.interval_form.proofs.Linear.{Reads-linear_form, Reads-variable_form, Reads-difference_form, length-linear_form}
use Rattle.interval_form.proofs.Bounding.{in_ranges-ranges_of, length-ranges_of, meets-bounded}
use Rattle.spl_core.specs.Facts.{AreDistinct}
use Rattle.transfer_def.specs.Dimensions.{extended, moved}
use Rattle.transfer_def.specs.Assign.{extended_ranges, form_minus_new, new_minus_form, equated, assigned, assign_value}
use Rattle.transfer_def.specs.Forget.{forgotten_entry, forgotten, forget_value}
use Rattle.transfer_def.proofs.Lifts.{meets-and_then, meets-mapped}
use Rattle.transfer_def.proofs.Dimensions.{within-top_entry, meets-extended, meets-moved}
use Rattle.transfer_def.proofs.States.{grown, value_at-grown, value_at-grown_last, signed_value-set_other, weighted_sum-grown}

-- ---- the ranges of one more variable

pub length-extended_ranges : (n : ℕ) (m : Matrix) → length (extended_ranges n m) ≡ n + 1
unfolding extended_ranges
length-extended_ranges n m = omega (arith, length-append (ranges_of n m) (unbounded ∷ []), length-ranges_of n m)

in_ranges-extended : (n : ℕ) (m : Matrix) (s : List ℤ) (y : ℤ) → length s ≡ n → Meets s m → InRanges (extended_ranges n m) (grown s y)
unfolding extended_ranges range_at
in_ranges-extended n m s y e h = record { holds = λ v l. by v (split v (omega (arith, length-append (ranges_of n m) (unbounded ∷ []), length-ranges_of n m))) }
  where
    inner : InRanges (ranges_of n m) s
    inner = in_ranges-ranges_of n m s h

    split : (v : ℕ) → v < n + 1 → (v < n) ⊎ (v ≡ n)
    split v l = grind arith

    by : (v : ℕ) → (v < n) ⊎ (v ≡ n) → Holds (get_or (ranges_of n m ++ unbounded ∷ []) v unbounded) (value_at (grown s y) v)
    by v (inl p) =
        let q : v < length (ranges_of n m) = omega (arith, length-ranges_of n m) in
        rw (get_or_append_left (ranges_of n m) (unbounded ∷ []) unbounded v q, value_at-grown s y v (omega arith)) (inner.holds v q)
    by v (inr p) = rw (get_or_at (ranges_of n m) unbounded [] unbounded v (length-ranges_of n m ∙ sym p)) (record { beyond = tt; within = tt })

-- what a form without a term for the new dimension stands for, in the grown state
Reads-grown : (n : ℕ) (f : Form) (s : List ℤ) (x y : ℤ) → length s ≡ n → coefficient f n ≡ nothing → Reads n f s x → Reads (n + 1) f (grown s y) x
unfolding weighted_sum
Reads-grown n f s x y e none h = record {
  constant = h.constant;
  factors = dropped n h.factors;
  constant_held = h.constant_held;
  factors_held = λ v l. held v (split v l);
  total = h.total ∙ ap (λ z. h.constant +ℤ z) (sym sum);
}
  where
    sum : weighted_sum (n + 1) (dropped n h.factors) (grown s y) ≡ weighted_sum n h.factors s
    sum =
        let front = weighted_sum-same n (dropped n h.factors) h.factors (grown s y) (λ v l. dropped-other n h.factors v (omega arith)) in
        let grow = weighted_sum-grown n h.factors s y (omega arith) in
        let last : (dropped n h.factors n) *ℤ (value_at (grown s y) n) ≡ pos 0 = ap (λ z. z *ℤ value_at (grown s y) n) (dropped-same n h.factors n refl) ∙ zero-*ℤ-is (value_at (grown s y) n) in
        rw add-one (omega (arith, ints))

    split : (v : ℕ) → v < n + 1 → (v < n) ⊎ (v ≡ n)
    split v l = grind arith

    held : (v : ℕ) → (v < n) ⊎ (v ≡ n) → Holds (coefficient f v) (dropped n h.factors v)
    held v (inl p) = rw (dropped-other n h.factors v (omega arith)) (h.factors_held v p)
    held v (inr p) = rw (dropped-same n h.factors v p, p, none) (Holds-point (pos 0))

-- ---- the new dimension equals the expression

-- an integer that a form stands for, minus itself
no_difference : (x : ℤ) → (x -ℤ x) ≤ℤ pos 0
no_difference x = omega (arith, ints)

Reads-expression : (n : ℕ) (e : Expression) (m : Matrix) (s : List ℤ) (y : ℤ) → length s ≡ n → IsOver n e → eval e s ≡ Some y → Meets s m
    → Reads (length (extended_ranges n m)) (linear_form (ranges_of n m) e) (grown s y) y
Reads-expression n e m s y l o q h =
    let size = length-ranges_of n m in
    let over : IsOver (length (ranges_of n m)) e = rw size o in
    let reads = Reads-linear_form (ranges_of n m) e s y over (in_ranges-ranges_of n m s h) q in
    let reads' : Reads n (linear_form (ranges_of n m) e) s y = rw size at reads in
    let past = coefficient_past (linear_form (ranges_of n m) e) n (omega (arith, length-linear_form (ranges_of n m) e)) in
    rw (length-extended_ranges n m) (Reads-grown n (linear_form (ranges_of n m) e) s y y l past reads')

Reads-new : (n : ℕ) (m : Matrix) (s : List ℤ) (y : ℤ) → length s ≡ n → Reads (length (extended_ranges n m)) (variable_form (n + 1) n) (grown s y) y
Reads-new n m s y l =
    rw (length-extended_ranges n m)
    (subst (Reads (n + 1) (variable_form (n + 1) n) (grown s y)) (value_at-grown_last s y n l)
    (Reads-variable_form (n + 1) n (grown s y) (omega arith)))

pub meets-equated : (n : ℕ) (e : Expression) (m : Matrix) (s : List ℤ) (y : ℤ) → length s ≡ n → IsOver n e → eval e s ≡ Some y → Meets s m → MeetsValue (grown s y) (equated n e m)
unfolding equated form_minus_new new_minus_form
meets-equated n e m s y l o q h =
    let t = grown s y in
    let ranges = extended_ranges n m in
    let held = in_ranges-extended n m s y l h in
    let value = Reads-expression n e m s y l o q h in
    let new = Reads-new n m s y l in
    let form = linear_form (ranges_of n m) e in
    let var = variable_form (n + 1) n in
    let down = Reads-difference_form ranges form var t y y held value new in
    let back = Reads-difference_form ranges var form t y y held new value in
    meets-and_then t t (bounded ranges (difference_form ranges var form)) (bounded ranges (difference_form ranges form var) (extended n 1 m))
    (λ k g. meets-bounded ranges (difference_form ranges var form) k t (y -ℤ y) held back (no_difference y) g)
    (meets-bounded ranges (difference_form ranges form var) (extended n 1 m) t (y -ℤ y) held down (no_difference y) (meets-extended n 1 m s (y ∷ []) l h))

-- one target is distinct from all others
one_target : (x : ℕ) → AreDistinct (x ∷ [])
one_target x i j p q = absurd (omega arith)

pub meets-assigned : (n x : ℕ) (e : Expression) (m : Matrix) (s : List ℤ) (y : ℤ) → length s ≡ n → IsOver n e → eval e s ≡ Some y → Meets s m → MeetsValue (set s x y) (assigned n x e m)
unfolding assigned
meets-assigned n x e m s y l o q k =
    let t = grown s y in
    meets-mapped t (set s x y) (moved n (x ∷ [])) (option_and_then tight (equated n e m))
    (λ b g. meets-moved n (x ∷ []) (y ∷ []) s b l refl (one_target x) g)
    (meets-and_then t t tight (equated n e m) (λ b g. meets-tight t b g) (meets-equated n e m s y l o q k))

-- ---- the laws

pub meets-assign_value : (x : ℕ) (e : Expression) (v : Octagon) (s : List ℤ) (y : ℤ) → length s ≡ v.dims → IsOver v.dims e → eval e s ≡ Some y → MeetsOctagon s v → MeetsOctagon (set s x y) (assign_value x e v)
unfolding assign_value
meets-assign_value x e v s y l o q k =
    meets-and_then s (set s x y) (assigned v.dims x e) v.matrix (λ m h. meets-assigned v.dims x e m s y l o q h) k

within-forgotten_entry : (x : ℕ) (m : Matrix) (s : List ℤ) (y : ℤ) (i j : ℕ) → Meets s m → Within (difference (set s x y) i j) (forgotten_entry x m i j)
unfolding forgotten_entry
within-forgotten_entry x m s y i j h = by (nat_eq (i / 2) x || nat_eq (j / 2) x) refl
  where
    by : (b : Bool) → (nat_eq (i / 2) x || nat_eq (j / 2) x) ≡ b → Within (difference (set s x y) i j) (cond b (top_entry i j) (at m i j))
    by true e = within-top_entry (set s x y) i j
    by false e =
        let parts = or_parts (nat_eq (i / 2) x) (nat_eq (j / 2) x) e in
        rw (signed_value-set_other s x y i (eqb-false (i / 2) x parts.0), signed_value-set_other s x y j (eqb-false (j / 2) x parts.1)) (h.within i j)

pub meets-forget_value : (x : ℕ) (v : Octagon) (s : List ℤ) (y : ℤ) → MeetsOctagon s v → MeetsOctagon (set s x y) (forget_value x v)
unfolding forget_value forgotten
meets-forget_value x v s y h =
    meets-mapped s (set s x y) (forgotten v.dims x) v.matrix
    (λ m k. meets-table (set s x y) (2 * v.dims) (forgotten_entry x m) (λ i j p q. within-forgotten_entry x m s y i j k)) h
