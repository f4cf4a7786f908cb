-- The laws of the least and the greatest bound and of sums.
use Rattle.std.proofs.Common.{◌≡◌, Some, None, refl, sym, ap, ◌∙◌, arith}
use Rattle.std.specs.Prelude.{ℤ, ◌+ℤ◌}
use Rattle.std.proofs.lemmas.Int.{ints, clamps}
use Rattle.oct_def.specs.Bound.{Bound, plus, least, greatest}

pub add_comm_ℤ : (x y : ℤ) → x +ℤ y ≡ y +ℤ x
add_comm_ℤ x y = omega (arith, ints)

pub plus_comm : (a b : Bound) → plus a b ≡ plus b a
plus_comm None None = refl
plus_comm None (Some y) = refl
plus_comm (Some x) None = refl
plus_comm (Some x) (Some y) = ap Some (omega (arith, ints))

pub plus_none : (a : Bound) → plus a None ≡ None
plus_none None = refl
plus_none (Some x) = refl

pub plus_assoc : (a b c : Bound) → plus (plus a b) c ≡ plus a (plus b c)
plus_assoc None b c = refl
plus_assoc (Some x) None c = refl
plus_assoc (Some x) (Some y) None = refl
plus_assoc (Some x) (Some y) (Some z) = ap Some (omega (arith, ints))

pub least_comm : (a b : Bound) → least a b ≡ least b a
least_comm None None = refl
least_comm None (Some y) = refl
least_comm (Some x) None = refl
least_comm (Some x) (Some y) = ap Some (omega (arith, ints, clamps))

pub least_none : (a : Bound) → least a None ≡ a
least_none None = refl
least_none (Some x) = refl

pub least_assoc : (a b c : Bound) → least (least a b) c ≡ least a (least b c)
least_assoc None b c = refl
least_assoc (Some x) None c = refl
least_assoc (Some x) (Some y) None = refl
least_assoc (Some x) (Some y) (Some z) = ap Some (omega (arith, ints, clamps))

pub least_swap : (a b c : Bound) → least a (least b c) ≡ least b (least a c)
least_swap a b c = sym (least_assoc a b c) ∙ ap (λ d. least d c) (least_comm a b) ∙ least_assoc b a c

pub greatest_none : (a : Bound) → greatest a None ≡ None
greatest_none None = refl
greatest_none (Some x) = refl

pub greatest_self : (a : Bound) → greatest a a ≡ a
greatest_self None = refl
greatest_self (Some x) = ap Some (omega (arith, ints, clamps))
