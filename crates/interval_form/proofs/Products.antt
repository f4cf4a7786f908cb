-- Products of integers of 64 bits, in 128 bits.
use Rattle.std.proofs.Common.{◌≡◌, ◌≤◌, ℤ, pos, negsuc, ◌*ℤ◌, FitsSigned, to_z, of_z, ap, subst, arith}
use Rattle.std.specs.Prelude.{unsigned_abs}
use Rattle.std.specs.Int.{w128}
use Rattle.std.proofs.lemmas.Int.{ints, to_z-of_z, fits_signed_mul, fits_signed_from_abs}
use Rattle.interval_form.specs.declared.interval.End.{End as Code}
use Rattle.interval_form.specs.declared.interval.End.TheVariants as code
use Rattle.interval_form.specs.Ends.{IsWide, IsSmall, end_of}
use Rattle.interval_form.specs.Interval.{finite, times}

size-wide : (x : ℤ) → IsWide x → unsigned_abs x ≤ 9223372036854775808
size-wide (pos n) h = let k = h.1 in omega (arith, ints)
size-wide (negsuc n) h = let k = h.0 in omega (arith, ints)

fits-wide : (x : ℤ) → IsWide x → FitsSigned w128 x
fits-wide x h = fits_signed_from_abs w128 x (omega (arith, size-wide x h))

fits-product : (x y : ℤ) → IsWide x → IsWide y → FitsSigned w128 (x *ℤ y)
fits-product x y h k = fits_signed_mul w128 x y 9223372036854775808 9223372036854775808 (size-wide x h) (size-wide y k) (omega arith)

product-word : (x y : ℤ) → IsWide x → IsWide y → to_z w128 (of_z w128 (to_z w128 (of_z w128 x) *ℤ to_z w128 (of_z w128 y))) ≡ x *ℤ y
product-word x y h k = rw (to_z-of_z w128 x (fits-wide x h), to_z-of_z w128 y (fits-wide y k)) (to_z-of_z w128 (x *ℤ y) (fits-product x y h k))

-- the product of two ends of the code that are integers
pub finite_product : (a b : Code) (x y : ℤ) → a ≡ code.Finite x → b ≡ code.Finite y → IsSmall a → IsSmall b
    → finite (to_z w128 (of_z w128 (to_z w128 (of_z w128 x) *ℤ to_z w128 (of_z w128 y)))) ≡ times (end_of a) (end_of b)
unfolding times
finite_product a b x y e q h k = rw (e, q) (ap finite (product-word x y (subst IsSmall e h) (subst IsSmall q k)))
