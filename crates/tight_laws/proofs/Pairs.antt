-- The pair step is two relaxations, and no clamp of it is felt: its entry is at most each of the four sums and is one of
-- them, so where the relaxed entry is between the limits the two are equal. The only premise is that no diagonal entry is
-- negative after the step; diagonals only fall, so "no negative diagonal at the end" gives it at every step.
use Rattle.std.proofs.Common.{◌≡◌, ℕ, ◌<◌, Some, None, sym, subst, arith}
use Rattle.std.specs.Prelude.{pos}
use Rattle.std.proofs.lemmas.Int.{ints}
use Rattle.oct_def.specs.Bound.{Bound, plus, least, clamped, Within, InRange}
use Rattle.oct_def.specs.Table.{Matrix, at}
use Rattle.oct_def.specs.Tight.{path, long_path, pivot_entry}
use Rattle.oct_def.proofs.Bounds.{clamped-in_range, least_is, of_choice}
use Rattle.oct_def.proofs.Orders.{plus_assoc}
use Rattle.tight_laws.proofs.Below.{Below, Below-same, Below-trans, Below-plus, Below-left, Below-right, Below-least, Below-antisym, four_choices, Below-longer, Below-within, within-Below, within-comm}
use Rattle.tight_laws.proofs.Clamps.{Below-clamped, clamped-Below, within-clamped_back}
use Rattle.tight_laws.proofs.Relax.{Entries, relax, NoLoss}

-- the relaxations at both dimensions of a variable
unfoldable pub relax_both : ℕ → ℕ → Entries → Entries
relax_both p q f = relax q (relax p f)

-- the parts of a pair step's entry
pub pivot-old : (p q : ℕ) (m : Matrix) (i j : ℕ) → Below (pivot_entry p q m i j) (at m i j)
unfolding pivot_entry
pivot-old p q m i j = Below-left (at m i j) _

pub pivot-first : (p q : ℕ) (m : Matrix) (i j : ℕ) → Below (pivot_entry p q m i j) (clamped (plus (at m i p) (at m p j)))
unfolding pivot_entry path
pivot-first p q m i j = Below-trans (Below-right (at m i j) _) (Below-left (path m p i j) _)

pub pivot-second : (p q : ℕ) (m : Matrix) (i j : ℕ) → Below (pivot_entry p q m i j) (clamped (plus (at m i q) (at m q j)))
unfolding pivot_entry path
pivot-second p q m i j = Below-trans (Below-right (at m i j) _) (Below-trans (Below-right (path m p i j) _) (Below-left (path m q i j) _))

pub pivot-third : (p q : ℕ) (m : Matrix) (i j : ℕ) → Below (pivot_entry p q m i j) (clamped (plus (plus (at m i p) (at m p q)) (at m q j)))
unfolding pivot_entry long_path
pivot-third p q m i j = Below-trans (Below-right (at m i j) _) (Below-trans (Below-right (path m p i j) _) (Below-trans (Below-right (path m q i j) _) (Below-left (long_path m p q i j) _)))

pub pivot-fourth : (p q : ℕ) (m : Matrix) (i j : ℕ) → Below (pivot_entry p q m i j) (clamped (plus (plus (at m i q) (at m q p)) (at m p j)))
unfolding pivot_entry long_path
pivot-fourth p q m i j = Below-trans (Below-right (at m i j) _) (Below-trans (Below-right (path m p i j) _) (Below-trans (Below-right (path m q i j) _) (Below-right (long_path m p q i j) _)))

pub under-pivot : (x : Bound) (p q : ℕ) (m : Matrix) (i j : ℕ) → Below x (at m i j) → Below x (clamped (plus (at m i p) (at m p j))) → Below x (clamped (plus (at m i q) (at m q j)))
    → Below x (clamped (plus (plus (at m i p) (at m p q)) (at m q j))) → Below x (clamped (plus (plus (at m i q) (at m q p)) (at m p j))) → Below x (pivot_entry p q m i j)
unfolding pivot_entry path long_path
under-pivot x p q m i j a b c d e = Below-least a (Below-least b (Below-least c (Below-least d e)))

-- no diagonal entry is negative after the step
pub record KeepsDiagonal (size p q : ℕ) (m : Matrix) : Type 0 where
  pub loops : (i : ℕ) → i < size → Within (pos 0) (pivot_entry p q m i i)

no_loss-via : (x y : Bound) → Within (pos 0) x → Below x (clamped y) → Within (pos 0) y
no_loss-via x y h l = within-clamped_back y (within-Below (Below-trans (Below-within h) l))

pub no_loss-first : (size p q : ℕ) (m : Matrix) → KeepsDiagonal size p q m → NoLoss size p (at m)
no_loss-first size p q m h = record { cycles = λ i hi. within-comm (at m i p) (at m p i) (no_loss-via _ _ (h.loops i hi) (pivot-first p q m i i)) }

both_positive : (a b c d : Bound) → Within (pos 0) (plus a b) → Within (pos 0) (plus c d) → Within (pos 0) (plus (plus c a) (plus b d))
both_positive None b None d g h = tt
both_positive None b (Some z) d g h = tt
both_positive (Some x) None None d g h = tt
both_positive (Some x) None (Some z) d g h = tt
both_positive (Some x) (Some y) None d g h = tt
both_positive (Some x) (Some y) (Some z) None g h = tt
both_positive (Some x) (Some y) (Some z) (Some w) g h = omega (arith, ints)

pub no_loss-second : (size p q : ℕ) (m : Matrix) → p < size → q < size → KeepsDiagonal size p q m → NoLoss size q (relax p (at m))
unfolding relax
no_loss-second size p q m hp hq h = record {
  cycles = λ i hi.
      let first = within-comm _ _ (no_loss-via _ (plus (at m i p) (at m p i)) (h.loops i hi) (pivot-first p q m i i)) in
      let second = no_loss-via _ (plus (at m i q) (at m q i)) (h.loops i hi) (pivot-second p q m i i) in
      let third = no_loss-via _ (plus (plus (at m i p) (at m p q)) (at m q i)) (h.loops i hi) (pivot-third p q m i i) in
      let fourth = no_loss-via _ (plus (plus (at m i q) (at m q p)) (at m p i)) (h.loops i hi) (pivot-fourth p q m i i) in
      let cross = no_loss-via _ (plus (at m q p) (at m p q)) (h.loops q hq) (pivot-first p q m q q) in
      four_choices (Within (pos 0)) (at m q i) (plus (at m q p) (at m p i)) (at m i q) (plus (at m i p) (at m p q))
      (within-comm (at m i q) (at m q i) second)
      (within-comm (plus (at m i p) (at m p q)) (at m q i) third)
      (within-comm (at m i q) (plus (at m q p) (at m p i)) (subst (Within (pos 0)) (plus_assoc (at m i q) (at m q p) (at m p i)) fourth))
      (both_positive (at m p i) (at m i p) (at m q p) (at m p q) first cross);
}

-- the step's entry is the relaxed one, where that is between the limits
pub pivot-relaxed : (size p q : ℕ) (m : Matrix) → p < size → q < size → KeepsDiagonal size p q m → (i j : ℕ) → i < size → j < size
    → InRange (at m i j) → InRange (relax_both p q (at m) i j) → pivot_entry p q m i j ≡ relax_both p q (at m) i j
unfolding relax_both relax
pivot-relaxed size p q m hp hq h i j hi hj old new =
    let entry = pivot_entry p q m i j in
    let first = relax p (at m) i j in
    let over = plus (relax p (at m) i q) (relax p (at m) q j) in
    let cross = no_loss-via _ (plus (at m p q) (at m q p)) (h.loops p hp) (pivot-second p q m p p) in
    let longest : Below (plus (at m i p) (at m p j)) (plus (plus (at m i p) (at m p q)) (plus (at m q p) (at m p j))) = Below-longer (at m i p) (at m p q) (at m q p) (at m p j) cross in
    let least_first : Below (least first over) (plus (at m i p) (at m p j)) = Below-trans (Below-left first over) (Below-right (at m i j) (plus (at m i p) (at m p j))) in
    let fine : Below entry (clamped (least first over)) =
    of_choice (λ t. Below entry (clamped t)) first over (least first over) (least_is first over)
    (of_choice (λ t. Below entry (clamped t)) (at m i j) (plus (at m i p) (at m p j)) first (least_is (at m i j) (plus (at m i p) (at m p j)))
    (subst (Below entry) (sym (clamped-in_range (at m i j) old)) (pivot-old p q m i j)) (pivot-first p q m i j))
    (four_choices (λ t. Below entry (clamped t)) (at m i q) (plus (at m i p) (at m p q)) (at m q j) (plus (at m q p) (at m p j))
    (pivot-second p q m i j)
    (subst (λ t. Below entry (clamped t)) (plus_assoc (at m i q) (at m q p) (at m p j)) (pivot-fourth p q m i j))
    (pivot-third p q m i j)
    (Below-trans (pivot-first p q m i j) (clamped-Below longest))) in
    let over_low : Below (least first over) over = Below-right first over in
    Below-antisym
    (subst (Below entry) (clamped-in_range (least first over) new) fine)
    (under-pivot (least first over) p q m i j
    (Below-trans (Below-left first over) (Below-left (at m i j) (plus (at m i p) (at m p j))))
    (Below-clamped new least_first)
    (Below-clamped new (Below-trans over_low (Below-plus (Below-left (at m i q) (plus (at m i p) (at m p q))) (Below-left (at m q j) (plus (at m q p) (at m p j))))))
    (Below-clamped new (Below-trans over_low (Below-plus (Below-right (at m i q) (plus (at m i p) (at m p q))) (Below-left (at m q j) (plus (at m q p) (at m p j))))))
    (Below-clamped new (Below-trans over_low (Below-trans (Below-plus (Below-left (at m i q) (plus (at m i p) (at m p q))) (Below-right (at m q j) (plus (at m q p) (at m p j)))) (Below-same (sym (plus_assoc (at m i q) (at m q p) (at m p j))))))))
