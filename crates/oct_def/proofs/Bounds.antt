-- The order of bounds: what an integer within them is within after each operation, and that operations stay between the limits.
use Rattle.std.proofs.Common.{◌≡◌, ◌⊎◌, inl, inr, Bool, true, false, cond, Some, None, refl, sym, ap, subst, arith}
use Rattle.std.specs.Prelude.{ℤ, pos, negsuc, ◌+ℤ◌, ◌≤ℤ◌, ◌<ℤ◌, int_lt}
use Rattle.std.specs.Int.{int_min, int_max}
use Rattle.std.proofs.lemmas.Int.{ints, clamps}
use Rattle.oct_def.specs.Bound.{Bound, top_limit, low_limit, clamp, plus, clamped, least, greatest, at_most, is_negative, floor_half, half, evened, IsEven, Within, InRange}

-- ---- the lesser and the greater integer

pub int_min_left : (x y : ℤ) → int_min x y ≤ℤ x
int_min_left x y = omega (arith, ints, clamps)

pub int_min_right : (x y : ℤ) → int_min x y ≤ℤ y
int_min_right x y = omega (arith, ints, clamps)

pub under_int_min : (z x y : ℤ) → z ≤ℤ x → z ≤ℤ y → z ≤ℤ int_min x y
under_int_min z x y p q = omega (arith, ints, clamps)

pub under_int_max_left : (z x y : ℤ) → z ≤ℤ x → z ≤ℤ int_max x y
under_int_max_left z x y p = omega (arith, ints, clamps)

pub under_int_max_right : (z x y : ℤ) → z ≤ℤ y → z ≤ℤ int_max x y
under_int_max_right z x y p = omega (arith, ints, clamps)

pub int_max_under : (z x y : ℤ) → x ≤ℤ z → y ≤ℤ z → int_max x y ≤ℤ z
int_max_under z x y p q = omega (arith, ints, clamps)

-- ---- halves

pub half_low : (x : ℤ) → (floor_half x +ℤ floor_half x) ≤ℤ x
half_low (pos n) = omega (arith, ints)
half_low (negsuc n) = omega (arith, ints)

pub half_high : (x : ℤ) → x ≤ℤ ((floor_half x +ℤ floor_half x) +ℤ pos 1)
half_high (pos n) = omega (arith, ints)
half_high (negsuc n) = omega (arith, ints)

-- ---- where clamp leads

pub data Clamped (x : ℤ) (b : Bound) : Type 0 where
  above : top_limit <ℤ x → b ≡ None → Clamped x b
  below : x <ℤ low_limit → b ≡ Some low_limit → Clamped x b
  between : low_limit ≤ℤ x → x ≤ℤ top_limit → b ≡ Some x → Clamped x b

pub clamp_cases : (x : ℤ) → Clamped x (clamp x)
clamp_cases x = by (int_lt top_limit x) (int_lt x low_limit) refl refl
  where
    by : (a b : Bool) → int_lt top_limit x ≡ a → int_lt x low_limit ≡ b → Clamped x (cond a None (cond b (Some low_limit) (Some x)))
    by true b e f = above (omega (arith, ints)) refl
    by false true e f = below (omega (arith, ints)) refl
    by false false e f = between (omega (arith, ints)) (omega (arith, ints)) refl

-- ---- what an integer within bounds is within

pub within-clamped : (x : ℤ) (a : Bound) → Within x a → Within x (clamped a)
within-clamped x None h = tt
within-clamped x (Some y) h = by (clamp y) (clamp_cases y)
  where
    by : (b : Bound) → Clamped y b → Within x b
    by b (above p e) = subst (Within x) (sym e) tt
    by b (below p e) = subst (Within x) (sym e) (omega (arith, ints))
    by b (between p q e) = subst (Within x) (sym e) h

pub within-plus : (x y : ℤ) (a b : Bound) → Within x a → Within y b → Within (x +ℤ y) (plus a b)
within-plus x y None b p q = tt
within-plus x y (Some u) None p q = tt
within-plus x y (Some u) (Some v) p q = omega (arith, ints)

pub within-least : (x : ℤ) (a b : Bound) → Within x a → Within x b → Within x (least a b)
within-least x None b p q = q
within-least x (Some u) None p q = p
within-least x (Some u) (Some v) p q = under_int_min x u v p q

pub within-least_left : (x : ℤ) (a b : Bound) → Within x (least a b) → Within x a
within-least_left x None b p = tt
within-least_left x (Some u) None p = p
within-least_left x (Some u) (Some v) p = let h = int_min_left u v in omega (arith, ints)

pub within-least_right : (x : ℤ) (a b : Bound) → Within x (least a b) → Within x b
within-least_right x None b p = p
within-least_right x (Some u) None p = tt
within-least_right x (Some u) (Some v) p = let h = int_min_right u v in omega (arith, ints)

pub within-greatest_left : (x : ℤ) (a b : Bound) → Within x a → Within x (greatest a b)
within-greatest_left x None b p = tt
within-greatest_left x (Some u) None p = tt
within-greatest_left x (Some u) (Some v) p = under_int_max_left x u v p

pub within-greatest_right : (x : ℤ) (a b : Bound) → Within x b → Within x (greatest a b)
within-greatest_right x None b p = tt
within-greatest_right x (Some u) None p = tt
within-greatest_right x (Some u) (Some v) p = under_int_max_right x u v p

pub within-at_most : (x : ℤ) (a b : Bound) → at_most a b ≡ true → Within x a → Within x b
within-at_most x a None e p = tt
within-at_most x None (Some v) e p = cc
within-at_most x (Some u) (Some v) e p = let h : u ≤ℤ v = omega (arith, ints) in omega (arith, ints)

-- twice an integer is within a bound exactly where the integer is within its half
pub within-half : (x : ℤ) (a : Bound) → Within (x +ℤ x) a → Within x (half a)
within-half x None h = tt
within-half x (Some y) h = let k = half_high y in omega (arith, ints)

pub within-evened : (x : ℤ) (a : Bound) → Within (x +ℤ x) a → Within (x +ℤ x) (evened a)
within-evened x a h = within-plus x x (half a) (half a) (within-half x a h) (within-half x a h)

pub within-evened_back : (x : ℤ) (a : Bound) → Within x (evened a) → Within x a
within-evened_back x None h = tt
within-evened_back x (Some y) h = let k = half_low y in omega (arith, ints)

pub not_negative : (a : Bound) → Within (pos 0) a → is_negative a ≡ false
not_negative None h = refl
not_negative (Some x) h = grind (arith, ints)

-- ---- bounds between the limits

pub in_range-clamped : (a : Bound) → InRange (clamped a)
in_range-clamped None = tt
in_range-clamped (Some x) = by (clamp x) (clamp_cases x)
  where
    by : (b : Bound) → Clamped x b → InRange b
    by b (above p e) = subst InRange (sym e) tt
    by b (below p e) = subst InRange (sym e) (omega (arith, ints), omega (arith, ints))
    by b (between p q e) = subst InRange (sym e) (p, q)

-- a bound between the limits is its own clamp
pub clamped-in_range : (a : Bound) → InRange a → clamped a ≡ a
clamped-in_range None h = refl
clamped-in_range (Some x) h = by (clamp x) (clamp_cases x)
  where
    by : (b : Bound) → Clamped x b → b ≡ Some x
    by b (above p e) = absurd (omega (arith, ints, h.0, h.1))
    by b (below p e) = absurd (omega (arith, ints, h.0, h.1))
    by b (between p q e) = e

pub in_range-evened : (a : Bound) → InRange a → InRange (evened a)
in_range-evened None h = tt
in_range-evened (Some x) h =
    let l = half_low x in
    let g = half_high x in
    (omega (arith, ints), omega (arith, ints))

-- the sum of two halves
pub in_range-halves : (a b : Bound) → InRange a → InRange b → InRange (plus (half a) (half b))
in_range-halves None b h k = tt
in_range-halves (Some x) None h k = tt
in_range-halves (Some x) (Some y) h k =
    let lx = half_low x in
    let gx = half_high x in
    let ly = half_low y in
    let gy = half_high y in
    (omega (arith, ints), omega (arith, ints))

pub half-twice : (x : ℤ) → floor_half (x +ℤ x) ≡ x
half-twice (pos n) = ap pos (omega arith)
half-twice (negsuc n) = ap negsuc (omega arith)

pub even-evened : (a : Bound) → IsEven (evened a)
even-evened None = refl
even-evened (Some x) = ap (λ y. Some (y +ℤ y)) (half-twice (floor_half x))

-- ---- bounds that are one of two

pub least_is : (a b : Bound) → (least a b ≡ a) ⊎ (least a b ≡ b)
least_is None b = inr refl
least_is (Some x) None = inl refl
least_is (Some x) (Some y) = by (int_lt y x)
  where
    by : (t : Bool) → (Some (cond t y x) ≡ Some x) ⊎ (Some (cond t y x) ≡ Some y)
    by true = inr refl
    by false = inl refl

pub greatest_is : (a b : Bound) → (greatest a b ≡ a) ⊎ (greatest a b ≡ b)
greatest_is None b = inl refl
greatest_is (Some x) None = inr refl
greatest_is (Some x) (Some y) = by (int_lt y x)
  where
    by : (t : Bool) → (Some (cond t x y) ≡ Some x) ⊎ (Some (cond t x y) ≡ Some y)
    by true = inl refl
    by false = inr refl

-- what holds of two bounds holds of one that is one of them
pub of_choice : (P : Bound → Type 0) (a b c : Bound) → (c ≡ a) ⊎ (c ≡ b) → P a → P b → P c
of_choice P a b c h p q = elim h [ inl e ↦ subst P (sym e) p | inr e ↦ subst P (sym e) q ]

pub least_self : (a : Bound) → least a a ≡ a
least_self a = elim (least_is a a) [ inl e ↦ e | inr e ↦ e ]
