-- The quotient and the remainder of two integers lie in those of their intervals.
use Rattle.std.proofs.Common.{◌≡◌, ◌≢◌, ◌⊎◌, ℕ, zero, suc, ◌/◌, ◌<◌, ◌≤◌, max, Bool, true, false, cond, nat_abs, Some, None, ℤ, pos, negsuc, ◌-ℤ◌, neg_ℤ, ◌≤ℤ◌, int_lt, int_rem, refl, subst, inl, inr, ⊎_elim, arith}
use Rattle.std.proofs.lemmas.Int.{ints, clamps, rem_below}
use Rattle.std.proofs.lemmas.Nat.{le-div}
use Rattle.std.proofs.Math.Nat.{div-mul-le_self, div-le_self, mul-le-mul_left, mod-le}
use Rattle.oct_def.specs.Bound.{Bound, Within, InRange, least, greatest, top_limit, low_limit}
use Rattle.spl_core.specs.Expression.{divided, left_over}
use Rattle.spl_core.proofs.Values.{left_over-is, size-divided}
use Rattle.interval_form.specs.Interval.{Interval, Beyond, Holds, IsOutward, negated_bound, negated}
use Rattle.interval_form.specs.Form.{nothing, is_nothing}
use Rattle.interval_form.specs.Quotient.{is_above, is_below, positive_low, positive_part, negative_high, negative_part, by_end, low_quotient, high_quotient, quotient_by_positive, quotient_by_negative, lower_low, join_of, quotient_of, greatest_size, one_less, high_remainder, low_remainder, remainder_within, remainder_of}
use Rattle.interval_form.proofs.Intervals.{Holds-negated, Within-negated_bound, Beyond-negated, Holds-nothing}
use Rattle.interval_form.proofs.Exact.{outward-negated, outward-point, in_range-negated_bound}

-- ---- quotients of natural numbers

-- a greater number divided by a lesser one
pub div-rises : (m n c d : ℕ) → m ≤ n → 0 < c → c ≤ d → m / d ≤ n / c
div-rises m n c d h p k = le-div (m / d) n c p (omega (arith, div-mul-le_self m d, mul-le-mul_left (m / d) k))

-- ---- quotients of integers by a positive one

-- an integer that is at least 1
positive-is : (z : ℤ) → pos 1 ≤ℤ z → z ≡ pos (nat_abs z)
positive-is (pos n) h = refl
positive-is (negsuc n) h = absurd (omega (arith, ints))

positive-size : (z : ℤ) → pos 1 ≤ℤ z → 0 < nat_abs z
positive-size (pos n) h = omega (arith, ints)
positive-size (negsuc n) h = absurd (omega (arith, ints))

not-below : (n : ℕ) → int_lt (pos n) (pos 0) ≡ false
not-below n = by (int_lt (pos n) (pos 0)) refl
  where
    by : (t : Bool) → int_lt (pos n) (pos 0) ≡ t → t ≡ false
    by true e = absurd (omega (arith, ints))
    by false e = refl

low-is : (l x : ℤ) (c k : ℕ) (high : Bound) → l ≤ℤ x → 0 < c → c ≤ k → Within (pos k) high → Beyond (divided x (pos k)) (low_quotient (Some l) (record { low = Some (pos c); high = high }))
low-is (pos a) (pos b) c k None h p q w = rw (not-below a) (omega (arith, ints))
low-is (pos a) (pos b) c k (Some (pos e)) h p q w = rw (not-below a) (omega (arith, ints, div-rises a b k e (omega (arith, ints)) (omega arith) (omega (arith, ints))))
low-is (pos a) (pos b) c k (Some (negsuc e)) h p q w = absurd (omega (arith, ints))
low-is (pos a) (negsuc b) c k high h p q w = absurd (omega (arith, ints))
low-is (negsuc a) (pos b) c k high h p q w = omega (arith, ints)
low-is (negsuc a) (negsuc b) c k high h p q w = omega (arith, ints, div-rises (suc b) (suc a) c k (omega (arith, ints)) p q)

high-is : (l x : ℤ) (c k : ℕ) (high : Bound) → x ≤ℤ l → 0 < c → c ≤ k → Within (pos k) high → Within (divided x (pos k)) (high_quotient (Some l) (record { low = Some (pos c); high = high }))
high-is (pos a) (pos b) c k high h p q w = rw (not-below a) (omega (arith, ints, div-rises b a c k (omega (arith, ints)) p q))
high-is (pos a) (negsuc b) c k high h p q w = rw (not-below a) (omega (arith, ints))
high-is (negsuc a) (pos b) c k high h p q w = absurd (omega (arith, ints))
high-is (negsuc a) (negsuc b) c k None h p q w = omega (arith, ints)
high-is (negsuc a) (negsuc b) c k (Some (pos e)) h p q w = omega (arith, ints, div-rises (suc a) (suc b) k e (omega (arith, ints)) (omega arith) (omega (arith, ints)))
high-is (negsuc a) (negsuc b) c k (Some (negsuc e)) h p q w = absurd (omega (arith, ints))

Beyond-low_quotient : (low : Bound) (x : ℤ) (c k : ℕ) (high : Bound) → Beyond x low → 0 < c → c ≤ k → Within (pos k) high → Beyond (divided x (pos k)) (low_quotient low (record { low = Some (pos c); high = high }))
Beyond-low_quotient None x c k high h p q w = tt
Beyond-low_quotient (Some l) x c k high h p q w = low-is l x c k high h p q w

Within-high_quotient : (end : Bound) (x : ℤ) (c k : ℕ) (high : Bound) → Within x end → 0 < c → c ≤ k → Within (pos k) high → Within (divided x (pos k)) (high_quotient end (record { low = Some (pos c); high = high }))
Within-high_quotient None x c k high h p q w = tt
Within-high_quotient (Some l) x c k high h p q w = high-is l x c k high h p q w

-- by an interval from a positive integer on
Holds-by_positive : (a : Interval) (low : ℤ) (high : Bound) (x : ℤ) (k : ℕ) → Holds a x → pos 1 ≤ℤ low → low ≤ℤ pos k → Within (pos k) high
    → Holds (quotient_by_positive a (record { low = Some low; high = high })) (divided x (pos k))
unfolding quotient_by_positive
Holds-by_positive a low high x k h p q w =
    let above = positive-size low p in
    let is = positive-is low p in
    let under : nat_abs low ≤ k = let l : pos (nat_abs low) ≤ℤ pos k = subst (λ (z : ℤ). z ≤ℤ pos k) is q in omega (arith, ints) in
    rw is (record {
      beyond = Beyond-low_quotient a.low x (nat_abs low) k high h.beyond above under w;
      within = Within-high_quotient a.high x (nat_abs low) k high h.within above under w;
    })

-- ---- the parts of a divisor

positive_low-above : (b : Bound) → pos 1 ≤ℤ positive_low b
positive_low-above None = omega (arith, ints)
positive_low-above (Some x) = omega (arith, ints, clamps)

positive_low-under : (b : Bound) (y : ℤ) → pos 1 ≤ℤ y → Beyond y b → positive_low b ≤ℤ y
positive_low-under None y p h = p
positive_low-under (Some x) y p h = omega (arith, ints, clamps)

negative_high-under : (b : Bound) → pos 1 ≤ℤ neg_ℤ (negative_high b)
negative_high-under None = omega (arith, ints)
negative_high-under (Some x) = omega (arith, ints, clamps)

negative_high-above : (b : Bound) (y : ℤ) → pos 1 ≤ℤ y → Within (neg_ℤ y) b → neg_ℤ (negative_high b) ≤ℤ y
negative_high-above None y p h = p
negative_high-above (Some x) y p h = omega (arith, ints, clamps)

divided-neg : (x : ℤ) (k : ℕ) → neg_ℤ (divided x (pos (suc k))) ≡ divided x (negsuc k)
divided-neg (pos a) k = refl
divided-neg (negsuc a) k = omega (arith, ints)

Holds-positive : (a b : Interval) (x : ℤ) (k : ℕ) → Holds a x → Holds b (pos (suc k)) → Holds (quotient_by_positive a (positive_part b)) (divided x (pos (suc k)))
unfolding positive_part
Holds-positive a b x k h g =
    let p : pos 1 ≤ℤ pos (suc k) = omega (arith, ints) in
    Holds-by_positive a (positive_low b.low) b.high x (suc k) h (positive_low-above b.low) (positive_low-under b.low (pos (suc k)) p g.beyond) g.within

Holds-negative : (a b : Interval) (x : ℤ) (k : ℕ) → Holds a x → Holds b (negsuc k) → Holds (quotient_by_negative a (negative_part b)) (divided x (negsuc k))
unfolding quotient_by_negative negative_part negated
Holds-negative a b x k h g =
    let p : pos 1 ≤ℤ pos (suc k) = omega (arith, ints) in
    let turned = Holds-by_positive a (neg_ℤ (negative_high b.high)) (negated_bound b.low) x (suc k) h (negative_high-under b.high) (negative_high-above b.high (pos (suc k)) p g.within) (Within-negated_bound (negsuc k) b.low g.beyond) in
    subst (Holds (negated (quotient_by_positive a (record { low = Some (neg_ℤ (negative_high b.high)); high = negated_bound b.low })))) (divided-neg x k)
    (Holds-negated (quotient_by_positive a (record { low = Some (neg_ℤ (negative_high b.high)); high = negated_bound b.low })) (divided x (pos (suc k))) turned)

-- ---- the join

Beyond-lower_left : (x : ℤ) (a b : Bound) → Beyond x a → Beyond x (lower_low a b)
Beyond-lower_left x None b h = tt
Beyond-lower_left x (Some a) None h = tt
Beyond-lower_left x (Some a) (Some b) h = omega (arith, ints, clamps)

Beyond-lower_right : (x : ℤ) (a b : Bound) → Beyond x b → Beyond x (lower_low a b)
Beyond-lower_right x None b h = tt
Beyond-lower_right x (Some a) None h = tt
Beyond-lower_right x (Some a) (Some b) h = omega (arith, ints, clamps)

Within-greatest_left : (x : ℤ) (a b : Bound) → Within x a → Within x (greatest a b)
Within-greatest_left x None b h = tt
Within-greatest_left x (Some a) None h = tt
Within-greatest_left x (Some a) (Some b) h = omega (arith, ints, clamps)

Within-greatest_right : (x : ℤ) (a b : Bound) → Within x b → Within x (greatest a b)
Within-greatest_right x None b h = tt
Within-greatest_right x (Some a) None h = tt
Within-greatest_right x (Some a) (Some b) h = omega (arith, ints, clamps)

Holds-join_of : (a b : Interval) (x : ℤ) → Holds a x ⊎ Holds b x → Holds (join_of a b) x
unfolding join_of
Holds-join_of a b x (inl h) = record { beyond = Beyond-lower_left x a.low b.low h.beyond; within = Within-greatest_left x a.high b.high h.within }
Holds-join_of a b x (inr h) = record { beyond = Beyond-lower_right x a.low b.low h.beyond; within = Within-greatest_right x a.high b.high h.within }

-- ---- the quotient

above-is : (k : ℕ) (b : Bound) → Within (pos (suc k)) b → is_above b ≡ true
above-is k None h = refl
above-is k (Some x) h = by (int_lt (pos 0) x) refl
  where
    by : (t : Bool) → int_lt (pos 0) x ≡ t → t ≡ true
    by true e = refl
    by false e = absurd (omega (arith, ints))

below-is : (k : ℕ) (b : Bound) → Beyond (negsuc k) b → is_below b ≡ true
below-is k None h = refl
below-is k (Some (pos n)) h = absurd (omega (arith, ints))
below-is k (Some (negsuc n)) h = refl

pub Holds-quotient_of : (a b : Interval) (x y : ℤ) → Holds a x → Holds b y → y ≢ pos 0 → Holds (quotient_of a b) (divided x y)
unfolding quotient_of
Holds-quotient_of a b x (pos zero) h g n = absurd (n refl)
Holds-quotient_of a b x (pos (suc k)) h g n = rw (above-is k b.high g.within) (by (is_below b.low))
  where
    q : Holds (quotient_by_positive a (positive_part b)) (divided x (pos (suc k)))
    q = Holds-positive a b x k h g

    by : (t : Bool) → Holds (cond t (join_of (quotient_by_positive a (positive_part b)) (quotient_by_negative a (negative_part b))) (quotient_by_positive a (positive_part b))) (divided x (pos (suc k)))
    by true = Holds-join_of (quotient_by_positive a (positive_part b)) (quotient_by_negative a (negative_part b)) (divided x (pos (suc k))) (inl q)
    by false = q
Holds-quotient_of a b x (negsuc k) h g n = rw (below-is k b.low g.beyond) (by (is_above b.high))
  where
    q : Holds (quotient_by_negative a (negative_part b)) (divided x (negsuc k))
    q = Holds-negative a b x k h g

    by : (t : Bool) → Holds (cond t (join_of (quotient_by_positive a (positive_part b)) (quotient_by_negative a (negative_part b))) (quotient_by_negative a (negative_part b))) (divided x (negsuc k))
    by true = Holds-join_of (quotient_by_positive a (positive_part b)) (quotient_by_negative a (negative_part b)) (divided x (negsuc k)) (inr q)
    by false = q

-- ---- the remainder

-- what is left over has the dividend's sign, and is no greater in size
rem-above : (x y : ℤ) → pos 0 ≤ℤ x → (pos 0 ≤ℤ int_rem x y) × (int_rem x y ≤ℤ x)
rem-above (pos a) y h = (omega (arith, ints), omega (arith, ints, mod-le a (nat_abs y)))
rem-above (negsuc a) y h = absurd (omega (arith, ints))

rem-below : (x y : ℤ) → x ≤ℤ pos 0 → (int_rem x y ≤ℤ pos 0) × (x ≤ℤ int_rem x y)
rem-below (pos zero) y h = (omega (arith, ints, mod-le 0 (nat_abs y)), omega (arith, ints))
rem-below (pos (suc a)) y h = absurd (omega (arith, ints))
rem-below (negsuc a) y h = (omega (arith, ints), omega (arith, ints, mod-le (suc a) (nat_abs y)))

-- the sizes of an interval's members
size-members : (y l h : ℤ) → l ≤ℤ y → y ≤ℤ h → nat_abs y ≤ max (nat_abs l) (nat_abs h)
size-members (pos y) l (pos h) p q = omega (arith, ints)
size-members (pos y) l (negsuc h) p q = absurd (omega (arith, ints))
size-members (negsuc y) (pos l) h p q = absurd (omega (arith, ints))
size-members (negsuc y) (negsuc l) h p q = omega (arith, ints)

-- an integer of a size below that of y is within one less than the greatest size
within-size : (r : ℤ) (y : ℤ) (b : Interval) → Holds b y → nat_abs r < nat_abs y → Within r (one_less (greatest_size b.low b.high))
within-size r y b h less = by b.low b.high h.beyond h.within
  where
    small : (l h : ℤ) → l ≤ℤ y → y ≤ℤ h → r ≤ℤ (pos (max (nat_abs l) (nat_abs h)) -ℤ pos 1)
    small l h p q = let m = size-members y l h p q in bounded r (max (nat_abs l) (nat_abs h)) (omega (arith, m, less))
      where
        bounded : (r : ℤ) (g : ℕ) → nat_abs r < g → r ≤ℤ (pos g -ℤ pos 1)
        bounded (pos r) g h = omega (arith, ints)
        bounded (negsuc r) g h = omega (arith, ints)

    by : (low high : Bound) → Beyond y low → Within y high → Within r (one_less (greatest_size low high))
    by None high p q = tt
    by (Some l) None p q = tt
    by (Some l) (Some h) p q = small l h p q

within-least : (r : ℤ) (a b : Bound) → Within r a → Within r b → Within r (least a b)
within-least r None b h k = k
within-least r (Some x) None h k = h
within-least r (Some x) (Some y) h k = omega (arith, ints, clamps)

Within-high_remainder : (r x : ℤ) (high g : Bound) → (r ≤ℤ x) ⊎ (r ≤ℤ pos 0) → Within x high → Within r g → Within r (high_remainder high g)
Within-high_remainder r x None g s h k = k
Within-high_remainder r x (Some e) g s h k = by (int_lt (pos 0) e) refl
  where
    up : int_lt (pos 0) e ≡ true → r ≤ℤ e
    up q = ⊎_elim (λ p. omega (arith, ints)) (λ p. omega (arith, ints)) s

    none : int_lt (pos 0) e ≡ false → r ≤ℤ pos 0
    none q = ⊎_elim (λ p. omega (arith, ints)) (λ p. p) s

    by : (t : Bool) → int_lt (pos 0) e ≡ t → Within r (cond t (least (Some e) g) (Some (pos 0)))
    by true q = within-least r (Some e) g (up q) k
    by false q = none q

size-negated : (r : ℤ) → nat_abs (neg_ℤ r) ≡ nat_abs r
size-negated (pos zero) = refl
size-negated (pos (suc n)) = refl
size-negated (negsuc n) = refl

Beyond-low_remainder : (r x : ℤ) (low g : Bound) → (neg_ℤ r ≤ℤ neg_ℤ x) ⊎ (neg_ℤ r ≤ℤ pos 0) → Beyond x low → Within (neg_ℤ r) g → Beyond r (low_remainder low g)
Beyond-low_remainder r x low g s h k =
    Beyond-negated r (high_remainder (negated_bound low) g) (Within-high_remainder (neg_ℤ r) (neg_ℤ x) (negated_bound low) g s (Within-negated_bound x low h) k)

toward-above : (x y : ℤ) → (int_rem x y ≤ℤ x) ⊎ (int_rem x y ≤ℤ pos 0)
toward-above (pos a) y = inl (rem-above (pos a) y (omega (arith, ints))).1
toward-above (negsuc a) y = inr (rem-below (negsuc a) y (omega (arith, ints))).0

toward-below : (x y : ℤ) → (neg_ℤ (int_rem x y) ≤ℤ neg_ℤ x) ⊎ (neg_ℤ (int_rem x y) ≤ℤ pos 0)
toward-below (pos a) y = let h = (rem-above (pos a) y (omega (arith, ints))).0 in inr (omega (arith, ints))
toward-below (negsuc a) y = let h = (rem-below (negsuc a) y (omega (arith, ints))).1 in inl (omega (arith, ints))

nonzero-size : (y : ℤ) → y ≢ pos 0 → 0 < nat_abs y
nonzero-size (pos zero) h = absurd (h refl)
nonzero-size (pos (suc n)) h = omega arith
nonzero-size (negsuc n) h = omega arith

Holds-within : (a b : Interval) (x y : ℤ) → Holds a x → Holds b y → y ≢ pos 0 → Holds (remainder_within a (one_less (greatest_size b.low b.high))) (int_rem x y)
unfolding remainder_within
Holds-within a b x y h g n =
    let r = int_rem x y in
    let bound = one_less (greatest_size b.low b.high) in
    let small = rem_below x y (nonzero-size y n) in
    let turned : nat_abs (neg_ℤ r) < nat_abs y = rw (size-negated r) small in
    record {
      beyond = Beyond-low_remainder r x a.low bound (toward-below x y) h.beyond (within-size (neg_ℤ r) y b g turned);
      within = Within-high_remainder r x a.high bound (toward-above x y) h.within (within-size r y b g small);
    }

pub Holds-remainder_of : (a b : Interval) (x y : ℤ) → Holds a x → Holds b y → y ≢ pos 0 → Holds (remainder_of a b) (left_over x y)
unfolding remainder_of
Holds-remainder_of a b x y h g n = rw (left_over-is x y) (by (is_nothing b) refl)
  where
    by : (t : Bool) → is_nothing b ≡ t → Holds (cond t nothing (remainder_within a (one_less (greatest_size b.low b.high)))) (int_rem x y)
    by true e = absurd (n (Holds-nothing b y e g))
    by false e = Holds-within a b x y h g n

-- ---- quotients and remainders of outward intervals are outward

in_range-between : (x : ℤ) (low high : ℤ) → low_limit ≤ℤ low → high ≤ℤ top_limit → low ≤ℤ x → x ≤ℤ high → InRange (Some x)
in_range-between x low high p q h k = (omega (arith, ints), omega (arith, ints))

-- a quotient is no greater in size
in_range-divided : (x d : ℤ) → InRange (Some x) → InRange (Some (divided x d))
in_range-divided x d h =
    let size = size-divided x d in
    let less : nat_abs (divided x d) ≤ nat_abs x = omega (arith, size, div-le_self (nat_abs x) (nat_abs d)) in
    smaller x (divided x d) h less
  where
    smaller : (x y : ℤ) → InRange (Some x) → nat_abs y ≤ nat_abs x → InRange (Some y)
    smaller (pos x) (pos y) h k = let l = h.1 in (omega (arith, ints), omega (arith, ints))
    smaller (pos x) (negsuc y) h k = let l = h.1 in (omega (arith, ints), omega (arith, ints))
    smaller (negsuc x) (pos y) h k = let l = h.0 in (omega (arith, ints), omega (arith, ints))
    smaller (negsuc x) (negsuc y) h k = let l = h.0 in (omega (arith, ints), omega (arith, ints))

in_range-by_end : (x : ℤ) (d : Bound) → InRange (Some x) → InRange (Some (by_end x d))
in_range-by_end x None h = (omega (arith, ints), omega (arith, ints))
in_range-by_end x (Some d) h = in_range-divided x d h

pub in_range-low_quotient : (a : Bound) (b : Interval) → InRange a → InRange (low_quotient a b)
in_range-low_quotient None b h = tt
in_range-low_quotient (Some x) b h = by (int_lt x (pos 0))
  where
    by : (t : Bool) → InRange (Some (cond t (by_end x b.low) (by_end x b.high)))
    by true = in_range-by_end x b.low h
    by false = in_range-by_end x b.high h

pub in_range-high_quotient : (a : Bound) (b : Interval) → InRange a → InRange (high_quotient a b)
in_range-high_quotient None b h = tt
in_range-high_quotient (Some x) b h = by (int_lt x (pos 0))
  where
    by : (t : Bool) → InRange (Some (cond t (by_end x b.high) (by_end x b.low)))
    by true = in_range-by_end x b.high h
    by false = in_range-by_end x b.low h

pub outward-quotient_by_positive : (a b : Interval) → IsOutward a → IsOutward (quotient_by_positive a b)
unfolding quotient_by_positive
outward-quotient_by_positive a b h = record { low_in_range = in_range-low_quotient a.low b h.low_in_range; high_in_range = in_range-high_quotient a.high b h.high_in_range }

pub outward-quotient_by_negative : (a b : Interval) → IsOutward a → IsOutward (quotient_by_negative a b)
unfolding quotient_by_negative
outward-quotient_by_negative a b h = outward-negated (quotient_by_positive a (negated b)) (outward-quotient_by_positive a (negated b) h)

in_range-lower_low : (a b : Bound) → InRange a → InRange b → InRange (lower_low a b)
in_range-lower_low None b h k = tt
in_range-lower_low (Some x) None h k = tt
in_range-lower_low (Some x) (Some y) h k = by (int_lt y x)
  where
    by : (t : Bool) → InRange (Some (cond t y x))
    by true = k
    by false = h

in_range-greatest : (a b : Bound) → InRange a → InRange b → InRange (greatest a b)
in_range-greatest None b h k = tt
in_range-greatest (Some x) None h k = tt
in_range-greatest (Some x) (Some y) h k = by (int_lt y x)
  where
    by : (t : Bool) → InRange (Some (cond t x y))
    by true = h
    by false = k

outward-join_of : (a b : Interval) → IsOutward a → IsOutward b → IsOutward (join_of a b)
unfolding join_of
outward-join_of a b h k = record { low_in_range = in_range-lower_low a.low b.low h.low_in_range k.low_in_range; high_in_range = in_range-greatest a.high b.high h.high_in_range k.high_in_range }

outward-zero : IsOutward nothing
outward-zero = outward-point (pos 0) (omega (arith, ints)) (omega (arith, ints))

pub outward-quotient_of : (a b : Interval) → IsOutward a → IsOutward (quotient_of a b)
unfolding quotient_of
outward-quotient_of a b h = by (is_above b.high) (is_below b.low)
  where
    p : IsOutward (quotient_by_positive a (positive_part b))
    p = outward-quotient_by_positive a (positive_part b) h

    q : IsOutward (quotient_by_negative a (negative_part b))
    q = outward-quotient_by_negative a (negative_part b) h

    by : (s t : Bool) → IsOutward (cond s (cond t (join_of (quotient_by_positive a (positive_part b)) (quotient_by_negative a (negative_part b))) (quotient_by_positive a (positive_part b))) (cond t (quotient_by_negative a (negative_part b)) nothing))
    by true true = outward-join_of (quotient_by_positive a (positive_part b)) (quotient_by_negative a (negative_part b)) p q
    by true false = p
    by false true = q
    by false false = outward-zero

in_range-least : (a b : Bound) → InRange a → InRange b → InRange (least a b)
in_range-least None b h k = k
in_range-least (Some x) None h k = h
in_range-least (Some x) (Some y) h k = by (int_lt y x)
  where
    by : (t : Bool) → InRange (Some (cond t y x))
    by true = k
    by false = h

in_range-high_remainder : (high g : Bound) → InRange high → InRange g → InRange (high_remainder high g)
in_range-high_remainder high g h k = by (is_above high)
  where
    by : (t : Bool) → InRange (cond t (least high g) (Some (pos 0)))
    by true = in_range-least high g h k
    by false = (omega (arith, ints), omega (arith, ints))

size-in_range : (x : ℤ) → InRange (Some x) → nat_abs x ≤ 2305843009213693952
size-in_range (pos n) h = let k = h.1 in omega (arith, ints)
size-in_range (negsuc n) h = let k = h.0 in omega (arith, ints)

pub in_range-one_less : (low high : Bound) → InRange low → InRange high → InRange (one_less (greatest_size low high))
in_range-one_less None high h k = tt
in_range-one_less (Some x) None h k = tt
in_range-one_less (Some x) (Some y) h k = by (max (nat_abs x) (nat_abs y)) (let p = size-in_range x h in let q = size-in_range y k in omega arith)
  where
    by : (g : ℕ) → g ≤ 2305843009213693952 → InRange (Some (pos g -ℤ pos 1))
    by g h = (omega (arith, ints), omega (arith, ints))

pub outward-remainder_of : (a b : Interval) → IsOutward a → IsOutward b → IsOutward (remainder_of a b)
unfolding remainder_of remainder_within
outward-remainder_of a b h k = by (is_nothing b)
  where
    g : Bound
    g = one_less (greatest_size b.low b.high)

    r : InRange g
    r = in_range-one_less b.low b.high k.low_in_range k.high_in_range

    by : (t : Bool) → IsOutward (cond t nothing (record { low = low_remainder a.low g; high = high_remainder a.high g }))
    by true = outward-zero
    by false = record {
      low_in_range = in_range-negated_bound (high_remainder (negated_bound a.low) g) (in_range-high_remainder (negated_bound a.low) g (in_range-negated_bound a.low h.low_in_range) r);
      high_in_range = in_range-high_remainder a.high g h.high_in_range r;
    }
