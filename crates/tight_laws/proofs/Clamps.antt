-- Clamping keeps small bounds and the order of bounds. A sum above a bound between the limits stays above it when it is
-- clamped, so a clamp is felt only where the result leaves the limits.
use Rattle.std.proofs.Common.{◌≡◌, ℕ, ◌≤◌, Some, None, sym, subst, arith, false}
use Rattle.std.specs.Prelude.{ℤ, pos, ◌≤ℤ◌}
use Rattle.std.proofs.lemmas.Int.{ints}
use Rattle.oct_def.specs.Bound.{Bound, clamp, clamped, is_negative, low_limit, Within, InRange}
use Rattle.oct_def.proofs.Bounds.{Clamped, above, below, between, clamp_cases}
use Rattle.tight_laws.proofs.Below.{Below, Below-refl, sized, Sized}

in_range_sized : (w : ℕ) (a : Bound) → w ≤ 2305843009213693952 → sized w a → InRange a
in_range_sized w None l h = tt
in_range_sized w (Some x) l h = (omega (arith, ints, h.0, h.1), omega (arith, ints, h.0, h.1))

pub in_range-Sized : {w : ℕ} {a : Bound} → w ≤ 2305843009213693952 → Sized w a → InRange a
in_range-Sized {w} {a} l h = in_range_sized w a l h.is

-- the clamp of a greater bound isn't below one between the limits
below_clamped : (a b : Bound) → InRange a → Below a b → Below a (clamped b)
below_clamped a None r h = h
below_clamped None (Some y) r h = absurd h.is
below_clamped (Some x) (Some y) r h = by (clamp y) (clamp_cases y)
  where
    by : (c : Bound) → Clamped y c → Below (Some x) c
    by c (above p e) = subst (Below (Some x)) (sym e) (record { is = tt })
    by c (below p e) = subst (Below (Some x)) (sym e) (record { is = let l = h.is in omega (arith, ints, r.0, r.1) })
    by c (between p q e) = subst (Below (Some x)) (sym e) h

pub Below-clamped : {a b : Bound} → InRange a → Below a b → Below a (clamped b)
Below-clamped {a} {b} r h = below_clamped a b r h

-- clamping keeps the order
clamps_below : (x y : ℤ) (c d : Bound) → x ≤ℤ y → Clamped x c → Clamped y d → Below c d
clamps_below x y c d l p (above q e) = subst (Below c) (sym e) (record { is = tt })
clamps_below x y c d l (above p f) (below q e) = absurd (omega (arith, ints))
clamps_below x y c d l (above p f) (between q r e) = absurd (omega (arith, ints))
clamps_below x y c d l (below p f) (below q e) = subst (λ t. Below t d) (sym f) (subst (Below (Some low_limit)) (sym e) (Below-refl (Some low_limit)))
clamps_below x y c d l (below p f) (between q r e) = subst (λ t. Below t d) (sym f) (subst (Below (Some low_limit)) (sym e) (record { is = q }))
clamps_below x y c d l (between p g f) (below q e) = absurd (omega (arith, ints))
clamps_below x y c d l (between p g f) (between q r e) = subst (λ t. Below t d) (sym f) (subst (Below (Some x)) (sym e) (record { is = l }))

clamped_below : (a b : Bound) → Below a b → Below (clamped a) (clamped b)
clamped_below a None h = record { is = tt }
clamped_below None (Some y) h = absurd h.is
clamped_below (Some x) (Some y) h = clamps_below x y (clamp x) (clamp y) h.is (clamp_cases x) (clamp_cases y)

pub clamped-Below : {a b : Bound} → Below a b → Below (clamped a) (clamped b)
clamped-Below {a} {b} h = clamped_below a b h

-- a sum whose clamp isn't negative isn't negative
pub within-clamped_back : (a : Bound) → Within (pos 0) (clamped a) → Within (pos 0) a
within-clamped_back None h = tt
within-clamped_back (Some x) h = by (clamp x) (clamp_cases x) h
  where
    by : (c : Bound) → Clamped x c → Within (pos 0) c → pos 0 ≤ℤ x
    by c (above p e) g = omega (arith, ints)
    by c (below p e) g = absurd (let k : Within (pos 0) (Some low_limit) = subst (Within (pos 0)) e g in omega (arith, ints))
    by c (between p q e) g = subst (Within (pos 0)) e g

pub not_negative_back : (a : Bound) → is_negative a ≡ false → Within (pos 0) a
not_negative_back None h = tt
not_negative_back (Some x) h = omega (arith, ints)
