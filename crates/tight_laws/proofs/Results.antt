-- The tight closure of a small matrix is strongly closed. The closure makes n steps and the quick closure at most 2n + 1,
-- which need (2n + 1) * b and (4n + 3) * b within the limit: hence the factor 4n + 4 of small entries.
use Rattle.std.proofs.Common.{◌≡◌, ℕ, ◌+◌, ◌*◌, ◌/◌, ◌<◌, ◌≤◌, inl, inr, Bool, true, false, cond, List, [], ◌∷◌, length, Option, Some, None, refl, ap, ◌∙◌, subst, arith, suc}
use Rattle.std.specs.Prelude.{pos, negsuc}
use Rattle.std.proofs.lemmas.Int.{ints}
use Rattle.std.proofs.Math.Nat.{mul-le-mul_right, mul-div-le, le-div_iff_mul-le}
use Rattle.oct_def.specs.Bound.{Bound}
use Rattle.oct_def.specs.Table.{Matrix, at}
use Rattle.oct_def.specs.Matrix.{IsCoherent, IsEvenMatrix}
use Rattle.oct_def.specs.Octagon.{IsValueOver}
use Rattle.oct_def.specs.Tight.{pair_steps, closure, negative_cycle, has_negative_cycle, evening, has_crossing, strengthening, tight_even, tight_closed, tight}
use Rattle.oct_def.proofs.Indices.{some_index-each}
use Rattle.oct_def.proofs.Coherent.{coherent-pair_step}
use Rattle.oct_def.proofs.Values.{value-tight}
use Rattle.tight_laws.specs.Laws.{IsSmall, IsSmallMatrix}
use Rattle.tight_laws.proofs.Below.{sized}
use Rattle.tight_laws.proofs.Clamps.{not_negative_back}
use Rattle.tight_laws.proofs.Closing.{FineDiagonal, steps_at, length-steps_at, square-steps_at, closed-steps_at, down, steps_down, length-down, down-inside, down-all, dims-in}
use Rattle.tight_laws.proofs.Weights.{In}
use Rattle.tight_laws.proofs.Strong.{IsClosed, IsStrong, all_twins, all_triangles, uncrossed-test, strong-result}
use Rattle.tight_laws.proofs.Again.{tight-again}

-- ---- the size of small entries

-- 2^61 / (4n + 4)
unfoldable pub most : ℕ → ℕ
most n = 2305843009213693952 / (4 * n + 4)

pub most_fits : (n k : ℕ) → 2 * k + 1 ≤ 4 * n + 4 → most n + (2 * k) * most n ≤ 2305843009213693952
unfolding most
most_fits n k h =
    let b = 2305843009213693952 / (4 * n + 4) in
    let all : (4 * n + 4) * b ≤ 2305843009213693952 = mul-div-le 2305843009213693952 (4 * n + 4) in
    let less : (2 * k + 1) * b ≤ (4 * n + 4) * b = mul-le-mul_right b h in
    let sum : (2 * k + 1) * b ≡ b + (2 * k) * b = omega arith in
    omega arith

under_most : (n a : ℕ) → (4 * n + 4) * a ≤ 2305843009213693952 → a ≤ most n
unfolding most
under_most n a h = (le-div_iff_mul-le {k = 4 * n + 4} (omega arith)).1 (omega arith)

pub small_sized : (n : ℕ) (a : Bound) → IsSmall n a → sized (most n) a
small_sized n None h = tt
small_sized n (Some (pos a)) h = let k = under_most n a (omega (arith, ints, h.0, h.1)) in (omega (arith, ints), omega (arith, ints))
small_sized n (Some (negsuc a)) h = let k = under_most n (suc a) (omega (arith, ints, h.0, h.1)) in (omega (arith, ints), omega (arith, ints))

-- ---- what an answer says

unless_some : (b : Bool) (v : Option Matrix) (r : Matrix) → cond b None v ≡ Some r → (b ≡ false) × (v ≡ Some r)
unless_some true v r e = absurd (cc)
unless_some false v r e = (refl, e)

pub data Answers (c r : Matrix) : Type 0 where
  answers : has_negative_cycle c ≡ false → has_crossing (evening c) ≡ false → r ≡ strengthening (evening c) → Answers c r

answered_even : (c e r : Matrix) → tight_even e ≡ Some r → (has_crossing e ≡ false) × (r ≡ strengthening e)
unfolding tight_even
answered_even c e r h = let k = unless_some (has_crossing e) (Some (strengthening e)) r h in (k.0, let f = k.1 in cc)

pub answered : (c r : Matrix) → tight_closed c ≡ Some r → Answers c r
unfolding tight_closed
answered c r h =
    let k = unless_some (has_negative_cycle c) (tight_even (evening c)) r h in
    let l = answered_even c (evening c) r k.1 in
    answers k.0 l.0 l.1

fine_loops : (size : ℕ) (c : Matrix) → length c ≡ size → has_negative_cycle c ≡ false → FineDiagonal size c
unfolding has_negative_cycle negative_cycle
fine_loops size c e h = record { fine = λ i hi. not_negative_back (at c i i) (some_index-each (length c) (negative_cycle c) h i (omega arith)) }

-- ---- the result

coherent-steps_at : (n : ℕ) (m : Matrix) → length m ≡ 2 * n → IsCoherent m → (ws : List ℕ) → ((w : ℕ) → In w ws → w < n) → IsCoherent (steps_at ws m)
unfolding steps_at
coherent-steps_at n m e co [] inside = co
coherent-steps_at n m e co (w ∷ ws) inside =
    coherent-pair_step n (steps_at ws m) (length-steps_at ws m ∙ e) (coherent-steps_at n m e co ws (λ v k. inside v (inr k))) w (inside w (inl refl))

pub closed-steps : (n : ℕ) (m : Matrix) → IsSmallMatrix n m → (ws : List ℕ) → ((w : ℕ) → In w ws → w < n) → ((w : ℕ) → w < n → In w ws) → 2 * length ws + 1 ≤ 4 * n + 4
    → has_negative_cycle (steps_at ws m) ≡ false → IsClosed n (steps_at ws m)
closed-steps n m h ws inside all fits e =
    let rows : length (steps_at ws m) ≡ 2 * n = length-steps_at ws m ∙ h.matrix.rows in
    let c = closed-steps_at n (most n) m h.matrix.rows
    (λ i hi. h.matrix.diagonal i (let l = h.matrix.rows in omega arith))
    (λ i j hi hj. record { is = small_sized n (at m i j) (h.small i j) })
    ws inside (most_fits n (length ws) fits) (fine_loops (2 * n) (steps_at ws m) rows e) in
    let square = square-steps_at ws m h.matrix.square in
    record {
      rows = rows;
      square = square;
      twins = all_twins n (steps_at ws m) rows square (coherent-steps_at n m h.matrix.rows h.matrix.coherent ws inside);
      zeros = c.zeros;
      triangle = all_triangles n (steps_at ws m) rows square (λ k i j hk hi hj. c.closed k i j (dims-in ws k (all (k / 2) (omega arith))) hi hj);
    }

pub closed-closure : (n : ℕ) (m : Matrix) → IsSmallMatrix n m → has_negative_cycle (pair_steps n m) ≡ false → IsClosed n (pair_steps n m)
closed-closure n m h e =
    subst (IsClosed n) (steps_down n m)
    (closed-steps n m h (down n) (down-inside n) (down-all n) (omega (arith, length-down n)) (ap has_negative_cycle (steps_down n m) ∙ e))

value_some : (n : ℕ) (v : Option Matrix) (r : Matrix) → v ≡ Some r → IsValueOver n v → IsEvenMatrix n r
value_some n v r e h = subst (IsValueOver n) e h

pub value-result : (n : ℕ) (m r : Matrix) → IsSmallMatrix n m → tight m ≡ Some r → IsEvenMatrix n r
value-result n m r h e = value_some n (tight m) r e (value-tight n m h.matrix)

pub strong-tight : (n : ℕ) (m r : Matrix) → IsSmallMatrix n m → tight m ≡ Some r → IsStrong n r
unfolding tight closure
strong-tight n m r h e =
    let rows = h.matrix.rows in
    let half : length m / 2 ≡ n = omega arith in
    by (answered (pair_steps n m) r (subst (λ k. tight_closed (pair_steps k m) ≡ Some r) half e)) (value-result n m r h e)
  where
    by : Answers (pair_steps n m) r → IsEvenMatrix n r → IsStrong n r
    by (answers a b c) v =
        let closed = closed-closure n m h a in
        strong-result n (pair_steps n m) r closed (uncrossed-test n (pair_steps n m) closed.rows closed.square b) v c

pub again : (n : ℕ) (m r : Matrix) → IsSmallMatrix n m → tight m ≡ Some r → tight r ≡ Some r
again n m r h e = let v = value-result n m r h e in tight-again n r (strong-tight n m r h e) v.matrix.in_range
