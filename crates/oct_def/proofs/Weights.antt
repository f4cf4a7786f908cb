-- The step at one variable by two weights a row: a sum of two bounds and a sum of three, each clamped once, are one sum with
-- the weight of the way to the pivot, straight or over its opposite.
use Rattle.std.proofs.Common.{◌≡◌, ℕ, Some, None, refl, sym, ap, ◌∙◌, arith}
use Rattle.std.specs.Prelude.{ℤ}
use Rattle.std.specs.Int.{int_min}
use Rattle.std.proofs.lemmas.Int.{ints, clamps}
use Rattle.oct_def.specs.Bound.{Bound, clamp, plus, clamped, least}
use Rattle.oct_def.specs.Table.{Matrix, at}
use Rattle.oct_def.specs.Tight.{least_of_five, path, long_path, pivot_entry}
use Rattle.oct_def.proofs.Orders.{least_comm, least_none, least_assoc}

-- ---- clamping and adding keep the lesser bound

clamp_min : (x y : ℤ) → clamp (int_min x y) ≡ least (clamp x) (clamp y)
clamp_min x y = grind (arith, ints, clamps)

pub clamped-least : (a b : Bound) → clamped (least a b) ≡ least (clamped a) (clamped b)
clamped-least None b = refl
clamped-least (Some x) None = sym (least_none (clamp x))
clamped-least (Some x) (Some y) = clamp_min x y

pub plus-least : (a b c : Bound) → plus (least a b) c ≡ least (plus a c) (plus b c)
plus-least None b c = refl
plus-least (Some x) None None = refl
plus-least (Some x) None (Some z) = refl
plus-least (Some x) (Some y) None = refl
plus-least (Some x) (Some y) (Some z) = ap Some (omega (arith, ints, clamps))

pub clamped_plus-least : (a b c : Bound) → clamped (plus (least a b) c) ≡ least (clamped (plus a c)) (clamped (plus b c))
clamped_plus-least a b c = ap clamped (plus-least a b c) ∙ clamped-least (plus a c) (plus b c)

-- ---- two weights

-- the entry after the step, by its words: that over p with the weight least ip (iq + qp), that over q with least iq (ip + pq)
pub words_by_two_weights : (ij ip iq pq qp pj qj : Bound)
    → least_of_five ij (clamped (plus ip pj)) (clamped (plus iq qj)) (clamped (plus (plus ip pq) qj)) (clamped (plus (plus iq qp) pj))
    ≡ least ij (least (clamped (plus (least ip (plus iq qp)) pj)) (clamped (plus (least iq (plus ip pq)) qj)))
words_by_two_weights ij ip iq pq qp pj qj =
    sym (ap (least ij)
    (ap (λ t. least t (clamped (plus (least iq (plus ip pq)) qj))) (clamped_plus-least ip (plus iq qp) pj)
    ∙ ap (least (least (clamped (plus ip pj)) (clamped (plus (plus iq qp) pj)))) (clamped_plus-least iq (plus ip pq) qj)
    ∙ ordered (clamped (plus ip pj)) (clamped (plus (plus iq qp) pj)) (clamped (plus iq qj)) (clamped (plus (plus ip pq) qj))))
  where
    ordered : (a b c d : Bound) → least (least a b) (least c d) ≡ least a (least c (least d b))
    ordered a b c d = least_assoc a b (least c d) ∙ ap (least a) (least_comm b (least c d) ∙ least_assoc c d b)

-- the weight of the way from i to p, straight or over q; it isn't clamped
unfoldable pub weight : Matrix → ℕ → ℕ → ℕ → Bound
weight m i p q = least (at m i p) (plus (at m i q) (at m q p))

pub two_weights : (p q : ℕ) (m : Matrix) (i j : ℕ)
    → pivot_entry p q m i j ≡ least (at m i j) (least (clamped (plus (weight m i p q) (at m p j))) (clamped (plus (weight m i q p) (at m q j))))
unfolding pivot_entry path long_path weight
two_weights p q m i j = words_by_two_weights (at m i j) (at m i p) (at m i q) (at m p q) (at m q p) (at m p j) (at m q j)
