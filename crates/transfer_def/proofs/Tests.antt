-- A state in which a condition may come out as wanted meets the value after the test, and a test gives a value.
use Rattle.std.proofs.Common.{◌≡◌, ◌≢◌, ℕ, Bool, true, false, List, length, ℤ, pos, ◌+ℤ◌, ◌-ℤ◌, ◌≤ℤ◌, ◌<ℤ◌, Some, refl, sym, subst, inl, inr, ⊎_elim, arith, ◌∙◌}
use Rattle.std.specs.Ordering.{int_eq}
use Rattle.std.proofs.lemmas.Int.{ints, by_lt_z}
use Rattle.std.proofs.lemmas.Bool.{not-true, not-false, true≢false}
use Rattle.std.proofs.lemmas.Bool.Decides.{Decides-int_eq}
use Rattle.oct_def.specs.Table.{Matrix}
use Rattle.oct_def.specs.Matrix.{Meets, MeetsValue, IsEvenMatrix}
use Rattle.oct_def.specs.Tight.{tight}
use Rattle.oct_def.specs.Octagon.{Octagon, MeetsOctagon, IsOctagon, IsValueOver, bottom_value, join_value}
use Rattle.oct_def.proofs.Sound.{meets-tight}
use Rattle.oct_def.proofs.Lattice.{octagon-join, meets-join}
use Rattle.spl_core.specs.declared.parts.Cmp.{Cmp}
use Rattle.spl_core.specs.declared.parts.Cmp.TheVariants as cmp
use Rattle.spl_core.specs.Expression.{Expression, IsOver, eval}
use Rattle.spl_core.proofs.Values.{of_compared}
use Rattle.spl_core.specs.Condition.{Condition, Constant, Random, Not, And, Or, Compare, compares, May, IsConditionOver}
use Rattle.interval_form.specs.Interval.{point, ranges_of}
use Rattle.interval_form.specs.Form.{Form, Reads}
use Rattle.interval_form.specs.Linear.{constant_form, linear_form}
use Rattle.interval_form.specs.FormBounds.{bounded}
use Rattle.interval_form.proofs.Intervals.{Holds-point}
use Rattle.interval_form.proofs.Linear.{Reads-linear_form, Reads-difference_form, Reads-sum_form, Reads-constant_form}
use Rattle.interval_form.proofs.Bounding.{in_ranges-ranges_of, length-ranges_of, meets-bounded}
use Rattle.transfer_def.specs.Test.{difference_in, difference_and_one, restricted, restrict_at_most, restrict_below, at_most_value, below_value, equal_value, different_value, compare_value, constant_value, test_value}
use Rattle.transfer_def.proofs.Lifts.{meets-and_then, value-and_then}
use Rattle.transfer_def.proofs.Values.{matrix-bounded_over, value-tight_over}

-- ---- comparisons

Reads-over : (n : ℕ) (m : Matrix) (e : Expression) (s : List ℤ) (x : ℤ) → IsOver n e → eval e s ≡ Some x → Meets s m → Reads (length (ranges_of n m)) (linear_form (ranges_of n m) e) s x
Reads-over n m e s x o k h =
    Reads-linear_form (ranges_of n m) e s x (subst (λ (k : ℕ). IsOver k e) (sym (length-ranges_of n m)) o) (in_ranges-ranges_of n m s h) k

-- two expressions over n dimensions with their values in a state
record Both (n : ℕ) (a b : Expression) (s : List ℤ) (x y : ℤ) : Type 0 where
  left_over : IsOver n a
  right_over : IsOver n b
  left : eval a s ≡ Some x
  right : eval b s ≡ Some y

turned : (n : ℕ) (a b : Expression) (s : List ℤ) (x y : ℤ) → Both n a b s x y → Both n b a s y x
turned n a b s x y p = record { left_over = p.right_over; right_over = p.left_over; left = p.right; right = p.left }

both_same : (n k : ℕ) (a b : Expression) (s : List ℤ) (x y : ℤ) → n ≡ k → Both k a b s x y → Both n a b s x y
both_same n k a b s x y d p = subst (λ (i : ℕ). Both i a b s x y) (sym d) p

Reads-difference_in : (n : ℕ) (m : Matrix) (a b : Expression) (s : List ℤ) (x y : ℤ) → Both n a b s x y → Meets s m → Reads (length (ranges_of n m)) (difference_in n m a b) s (x -ℤ y)
unfolding difference_in
Reads-difference_in n m a b s x y p h =
    Reads-difference_form (ranges_of n m) (linear_form (ranges_of n m) a) (linear_form (ranges_of n m) b) s x y
    (in_ranges-ranges_of n m s h) (Reads-over n m a s x p.left_over p.left h) (Reads-over n m b s y p.right_over p.right h)

Reads-one : (n : ℕ) (m : Matrix) (s : List ℤ) → Reads (length (ranges_of n m)) (constant_form n (point (pos 1))) s (pos 1)
Reads-one n m s =
    subst (λ (k : ℕ). Reads k (constant_form n (point (pos 1))) s (pos 1)) (sym (length-ranges_of n m)) (Reads-constant_form n (point (pos 1)) s (pos 1) (Holds-point (pos 1)))

Reads-difference_and_one : (n : ℕ) (m : Matrix) (a b : Expression) (s : List ℤ) (x y : ℤ) → Both n a b s x y → Meets s m → Reads (length (ranges_of n m)) (difference_and_one n m a b) s ((x -ℤ y) +ℤ pos 1)
unfolding difference_and_one
Reads-difference_and_one n m a b s x y p h =
    Reads-sum_form (ranges_of n m) (difference_in n m a b) (constant_form n (point (pos 1))) s (x -ℤ y) (pos 1)
    (in_ranges-ranges_of n m s h) (Reads-difference_in n m a b s x y p h) (Reads-one n m s)

meets-restricted : (n : ℕ) (f : Form) (m : Matrix) (s : List ℤ) (x : ℤ) → Reads (length (ranges_of n m)) f s x → x ≤ℤ pos 0 → Meets s m → MeetsValue s (restricted n f m)
unfolding restricted
meets-restricted n f m s x r k h =
    meets-and_then s s tight (bounded (ranges_of n m) f m) (λ b g. meets-tight s b g)
    (meets-bounded (ranges_of n m) f m s x (in_ranges-ranges_of n m s h) r k h)

meets-at_most : (a b : Expression) (v : Octagon) (s : List ℤ) (x y : ℤ) → Both v.dims a b s x y → x ≤ℤ y → MeetsOctagon s v → MeetsOctagon s (at_most_value a b v)
unfolding at_most_value
meets-at_most a b v s x y p k h =
    meets-and_then s s (restrict_at_most v.dims a b) v.matrix (λ m g.
    meets-restricted v.dims (difference_in v.dims m a b) m s (x -ℤ y) (Reads-difference_in v.dims m a b s x y p g) (omega (arith, ints)) g) h

meets-below : (a b : Expression) (v : Octagon) (s : List ℤ) (x y : ℤ) → Both v.dims a b s x y → x <ℤ y → MeetsOctagon s v → MeetsOctagon s (below_value a b v)
unfolding below_value
meets-below a b v s x y p k h =
    meets-and_then s s (restrict_below v.dims a b) v.matrix (λ m g.
    meets-restricted v.dims (difference_and_one v.dims m a b) m s ((x -ℤ y) +ℤ pos 1) (Reads-difference_and_one v.dims m a b s x y p g) (omega (arith, ints)) g) h

dims-at_most : (a b : Expression) (v : Octagon) → (at_most_value a b v).dims ≡ v.dims
unfolding at_most_value
dims-at_most a b v = refl

dims-below : (a b : Expression) (v : Octagon) → (below_value a b v).dims ≡ v.dims
unfolding below_value
dims-below a b v = refl

meets-equal : (a b : Expression) (v : Octagon) (s : List ℤ) (x y : ℤ) → Both v.dims a b s x y → x ≡ y → MeetsOctagon s v → MeetsOctagon s (equal_value a b v)
unfolding equal_value
meets-equal a b v s x y p e h =
    meets-at_most b a (at_most_value a b v) s y x (both_same (at_most_value a b v).dims v.dims b a s y x (dims-at_most a b v) (turned v.dims a b s x y p)) (omega (arith, ints))
    (meets-at_most a b v s x y p (omega (arith, ints)) h)

meets-different : (a b : Expression) (v : Octagon) (s : List ℤ) (x y : ℤ) → Both v.dims a b s x y → x ≢ y → MeetsOctagon s v → MeetsOctagon s (different_value a b v)
unfolding different_value
meets-different a b v s x y p d h =
    by_lt_z x y
    (λ k. meets-join (below_value a b v) (below_value b a v) s (inl (meets-below a b v s x y p k h)))
    (λ k. meets-join (below_value a b v) (below_value b a v) s (inr (meets-below b a v s y x (turned v.dims a b s x y p) (omega (arith, ints)) h)))

same_integers : (x y : ℤ) → int_eq x y ≡ true → x ≡ y
same_integers x y e = (Decides-int_eq x y).0 e

apart_integers : (x y : ℤ) → int_eq x y ≡ false → x ≢ y
apart_integers x y e d = true≢false (sym ((Decides-int_eq x y).1 d) ∙ e)

meets-compare : (r : Cmp) (wanted : Bool) (a b : Expression) (v : Octagon) (s : List ℤ) (x y : ℤ) → Both v.dims a b s x y → compares r x y ≡ wanted → MeetsOctagon s v → MeetsOctagon s (compare_value r wanted a b v)
meets-compare r wanted a b v s x y p e h = by r wanted e
  where
    q : Both v.dims b a s y x
    q = turned v.dims a b s x y p

    by : (r : Cmp) (wanted : Bool) → compares r x y ≡ wanted → MeetsOctagon s (compare_value r wanted a b v)
    by cmp.Le true e = meets-at_most a b v s x y p (omega (arith, ints)) h
    by cmp.Le false e = meets-below b a v s y x q (omega (arith, ints)) h
    by cmp.Lt true e = meets-below a b v s x y p (omega (arith, ints)) h
    by cmp.Lt false e = meets-at_most b a v s y x q (omega (arith, ints)) h
    by cmp.Ge true e = meets-at_most b a v s y x q (omega (arith, ints)) h
    by cmp.Ge false e = meets-below a b v s x y p (omega (arith, ints)) h
    by cmp.Gt true e = meets-below b a v s y x q (omega (arith, ints)) h
    by cmp.Gt false e = meets-at_most a b v s x y p (omega (arith, ints)) h
    by cmp.Eq true e = meets-equal a b v s x y p (same_integers x y e) h
    by cmp.Eq false e = meets-different a b v s x y p (apart_integers x y e) h
    by cmp.Ne true e = meets-different a b v s x y p (apart_integers x y (not-true (int_eq x y) e)) h
    by cmp.Ne false e = meets-equal a b v s x y p (same_integers x y (not-false (int_eq x y) e)) h

-- ---- the dimensions stay

dims-join : (a b : Octagon) → (join_value a b).dims ≡ a.dims
unfolding join_value
dims-join a b = refl

dims-compare : (r : Cmp) (wanted : Bool) (a b : Expression) (v : Octagon) → (compare_value r wanted a b v).dims ≡ v.dims
unfolding at_most_value below_value equal_value different_value join_value
dims-compare cmp.Le true a b v = refl
dims-compare cmp.Le false a b v = refl
dims-compare cmp.Lt true a b v = refl
dims-compare cmp.Lt false a b v = refl
dims-compare cmp.Ge true a b v = refl
dims-compare cmp.Ge false a b v = refl
dims-compare cmp.Gt true a b v = refl
dims-compare cmp.Gt false a b v = refl
dims-compare cmp.Eq true a b v = refl
dims-compare cmp.Eq false a b v = refl
dims-compare cmp.Ne true a b v = refl
dims-compare cmp.Ne false a b v = refl

dims-constant : (value wanted : Bool) (v : Octagon) → (constant_value value wanted v).dims ≡ v.dims
unfolding bottom_value
dims-constant true true v = refl
dims-constant true false v = refl
dims-constant false true v = refl
dims-constant false false v = refl

pub dims-test_value : (c : Condition) (wanted : Bool) (v : Octagon) → (test_value c wanted v).dims ≡ v.dims
unfolding test_value
dims-test_value (Constant value) wanted v = dims-constant value wanted v
dims-test_value Random wanted v = refl
dims-test_value (Not c) true v = dims-test_value c false v
dims-test_value (Not c) false v = dims-test_value c true v
dims-test_value (And c d) true v = dims-test_value d true (test_value c true v) ∙ dims-test_value c true v
dims-test_value (And c d) false v = dims-join (test_value c false v) (test_value d false v) ∙ dims-test_value c false v
dims-test_value (Or c d) true v = dims-join (test_value c true v) (test_value d true v) ∙ dims-test_value c true v
dims-test_value (Or c d) false v = dims-test_value d false (test_value c false v) ∙ dims-test_value c false v
dims-test_value (Compare r a b) wanted v = dims-compare r wanted a b v

condition_same : (n k : ℕ) (c : Condition) → n ≡ k → IsConditionOver k c → IsConditionOver n c
condition_same n k c d o = subst (λ (i : ℕ). IsConditionOver i c) (sym d) o

-- ---- the laws

meets-constant : (value wanted : Bool) (v : Octagon) (s : List ℤ) → wanted ≡ value → MeetsOctagon s v → MeetsOctagon s (constant_value value wanted v)
meets-constant true true v s e h = h
meets-constant true false v s e h = absurd (cc)
meets-constant false true v s e h = absurd (cc)
meets-constant false false v s e h = h

pub meets-test_value : (c : Condition) (wanted : Bool) (v : Octagon) (s : List ℤ) → IsConditionOver v.dims c → May c s wanted → MeetsOctagon s v → MeetsOctagon s (test_value c wanted v)
unfolding test_value
meets-test_value (Constant value) wanted v s o m h = meets-constant value wanted v s m h
meets-test_value Random wanted v s o m h = h
meets-test_value (Not c) true v s o m h = meets-test_value c false v s o m h
meets-test_value (Not c) false v s o m h = meets-test_value c true v s o m h
meets-test_value (And c d) true v s o m h =
    meets-test_value d true (test_value c true v) s (condition_same (test_value c true v).dims v.dims d (dims-test_value c true v) o.1) m.1 (meets-test_value c true v s o.0 m.0 h)
meets-test_value (And c d) false v s o m h =
    meets-join (test_value c false v) (test_value d false v) s (⊎_elim (λ p. inl (meets-test_value c false v s o.0 p h)) (λ p. inr (meets-test_value d false v s o.1 p h)) m)
meets-test_value (Or c d) true v s o m h =
    meets-join (test_value c true v) (test_value d true v) s (⊎_elim (λ p. inl (meets-test_value c true v s o.0 p h)) (λ p. inr (meets-test_value d true v s o.1 p h)) m)
meets-test_value (Or c d) false v s o m h =
    meets-test_value d false (test_value c false v) s (condition_same (test_value c false v).dims v.dims d (dims-test_value c false v) o.1) m.1 (meets-test_value c false v s o.0 m.0 h)
meets-test_value (Compare r a b) wanted v s o m h =
    let c = of_compared r (eval a s) (eval b s) wanted m in
    meets-compare r wanted a b v s c.left c.right (record { left_over = o.0; right_over = o.1; left = c.left_is; right = c.right_is }) c.comes_out h

-- ---- a test gives a value

value-restricted : (n : ℕ) (f : Form) (m : Matrix) → IsEvenMatrix n m → IsValueOver n (restricted n f m)
unfolding restricted
value-restricted n f m v = value-tight_over n (bounded (ranges_of n m) f m) (matrix-bounded_over n (ranges_of n m) f m (length-ranges_of n m) v.matrix)

value-at_most : (a b : Expression) (v : Octagon) → IsOctagon v → IsOctagon (at_most_value a b v)
unfolding at_most_value
value-at_most a b v h = value-and_then v.dims v.dims (restrict_at_most v.dims a b) v.matrix (λ m g. value-restricted v.dims (difference_in v.dims m a b) m g) h

value-below : (a b : Expression) (v : Octagon) → IsOctagon v → IsOctagon (below_value a b v)
unfolding below_value
value-below a b v h = value-and_then v.dims v.dims (restrict_below v.dims a b) v.matrix (λ m g. value-restricted v.dims (difference_and_one v.dims m a b) m g) h

value-equal : (a b : Expression) (v : Octagon) → IsOctagon v → IsOctagon (equal_value a b v)
unfolding equal_value
value-equal a b v h = value-at_most b a (at_most_value a b v) (value-at_most a b v h)

value-different : (a b : Expression) (v : Octagon) → IsOctagon v → IsOctagon (different_value a b v)
unfolding different_value
value-different a b v h =
    octagon-join (below_value a b v) (below_value b a v) (value-below a b v h) (value-below b a v h) (dims-below a b v ∙ sym (dims-below b a v))

value-compare : (r : Cmp) (wanted : Bool) (a b : Expression) (v : Octagon) → IsOctagon v → IsOctagon (compare_value r wanted a b v)
value-compare cmp.Le true a b v h = value-at_most a b v h
value-compare cmp.Le false a b v h = value-below b a v h
value-compare cmp.Lt true a b v h = value-below a b v h
value-compare cmp.Lt false a b v h = value-at_most b a v h
value-compare cmp.Ge true a b v h = value-at_most b a v h
value-compare cmp.Ge false a b v h = value-below a b v h
value-compare cmp.Gt true a b v h = value-below b a v h
value-compare cmp.Gt false a b v h = value-at_most a b v h
value-compare cmp.Eq true a b v h = value-equal a b v h
value-compare cmp.Eq false a b v h = value-different a b v h
value-compare cmp.Ne true a b v h = value-different a b v h
value-compare cmp.Ne false a b v h = value-equal a b v h

value-constant : (value wanted : Bool) (v : Octagon) → IsOctagon v → IsOctagon (constant_value value wanted v)
unfolding bottom_value
value-constant true true v h = h
value-constant true false v h = tt
value-constant false true v h = tt
value-constant false false v h = h

pub value-test_value : (c : Condition) (wanted : Bool) (v : Octagon) → IsOctagon v → IsOctagon (test_value c wanted v)
unfolding test_value
value-test_value (Constant value) wanted v h = value-constant value wanted v h
value-test_value Random wanted v h = h
value-test_value (Not c) true v h = value-test_value c false v h
value-test_value (Not c) false v h = value-test_value c true v h
value-test_value (And c d) true v h = value-test_value d true (test_value c true v) (value-test_value c true v h)
value-test_value (And c d) false v h =
    octagon-join (test_value c false v) (test_value d false v) (value-test_value c false v h) (value-test_value d false v h)
    (dims-test_value c false v ∙ sym (dims-test_value d false v))
value-test_value (Or c d) true v h =
    octagon-join (test_value c true v) (test_value d true v) (value-test_value c true v h) (value-test_value d true v h)
    (dims-test_value c true v ∙ sym (dims-test_value d true v))
value-test_value (Or c d) false v h = value-test_value d false (test_value c false v) (value-test_value c false v h)
value-test_value (Compare r a b) wanted v h = value-compare r wanted a b v h
