-- The first offset that passes a test.
use Rattle.std.proofs.Common.{◌≡◌, ℕ, suc, ◌+◌, ◌<◌, ◌≤◌, Bool, true, false, cond, Some, zero, arith, refl}
use Rattle.std.specs.List.{find, range_with_len}

-- what is found is in the range, and passes
pub find-range_found : (p : ℕ → Bool) (a n k : ℕ) → find p (range_with_len a n) ≡ Some k → (a ≤ k) × (k < a + n) × (p k ≡ true)
find-range_found p a zero k h = absurd cc
find-range_found p a (suc n) k h = by (λ f. find-range_found p (a + 1) n k f) (p a) refl h
  where
    by : (find p (range_with_len (a + 1) n) ≡ Some k → (a + 1 ≤ k) × (k < a + 1 + n) × (p k ≡ true)) → (b : Bool) → p a ≡ b
        → cond b (Some a) (find p (range_with_len (a + 1) n)) ≡ Some k → (a ≤ k) × (k < a + suc n) × (p k ≡ true)
    by later true e f =
        let same : a ≡ k = cc in
        (omega arith, omega arith, rw (← same) e)
    by later false e f =
        let l = later f in
        (omega (arith, l.0), omega (arith, l.1), l.2)
