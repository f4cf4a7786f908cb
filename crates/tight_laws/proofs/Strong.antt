-- What evening and strengthening make of a closed matrix. With u i for half the entry between i and its opposite, rounded
-- down, the result is r i j = least (c i j) (u i + u j'), j' the opposite of j, and u i <= c i k + u k. From these two
-- facts each of the four cases of the triangle for r is one line: the result is strongly closed.
use Rattle.std.proofs.Common.{◌≡◌, ℕ, ◌*◌, ◌<◌, ◌≤◌, ◌⊎◌, inl, inr, Bool, true, false, cond, eqb, length, Some, None, refl, sym, ap, ◌∙◌, subst, arith}
use Rattle.std.specs.Prelude.{pos}
use Rattle.std.proofs.lemmas.Int.{ints}
use Rattle.std.proofs.lemmas.Bool.Decides.{Decides-eqb}
use Rattle.oct_def.specs.Bound.{Bound, plus, least, half, evened, floor_half, Within, IsEven}
use Rattle.oct_def.specs.Table.{Matrix, table, at}
use Rattle.oct_def.specs.Matrix.{opposite, IsSquare, IsCoherent, IsEvenMatrix}
use Rattle.oct_def.specs.Tight.{even_entry, evening, crossing, has_crossing, strong_entry, strengthening}
use Rattle.oct_def.proofs.Tables.{length-table, at-table, square-table, at-past_row, at-past_column}
use Rattle.oct_def.proofs.Bounds.{half_low, half_high, half-twice, least_self}
use Rattle.oct_def.proofs.Orders.{plus_comm, plus_assoc, plus_none}
use Rattle.oct_def.proofs.Indices.{opposite_twice, opposite_below, some_index-each}
use Rattle.tight_laws.proofs.Below.{Below, Below-refl, Below-same, Below-trans, Below-plus, Below-left, Below-right, four_choices, Below-longer, within-Below, within-comm}
use Rattle.tight_laws.proofs.Clamps.{not_negative_back}
use Rattle.tight_laws.proofs.Relax.{least_second}

-- a closed coherent matrix: these hold of all indices, since outside there is no bound
pub record IsClosed (n : ℕ) (c : Matrix) : Type 0 where
  pub rows : length c ≡ 2 * n
  pub square : IsSquare c
  pub twins : (i j : ℕ) → at c i j ≡ at c (opposite j) (opposite i)
  pub zeros : (i : ℕ) → i < 2 * n → at c i i ≡ Some (pos 0)
  pub triangle : (i k j : ℕ) → Below (at c i j) (plus (at c i k) (at c k j))

-- half of the entry between a dimension and its opposite: the bound on the opposite's value
unfoldable pub unary : Matrix → ℕ → Bound
unary c i = half (at c i (opposite i))

-- strongly closed
pub record IsStrong (n : ℕ) (r : Matrix) : Type 0 where
  pub closed : IsClosed n r
  pub even : (i : ℕ) → IsEven (at r i (opposite i))
  pub strong : (i j : ℕ) → Below (at r i j) (plus (unary r i) (unary r (opposite j)))

-- ---- what holds of all indices

pub outside_row : (n : ℕ) (c : Matrix) → length c ≡ 2 * n → (i j : ℕ) → 2 * n ≤ i → at c i j ≡ None
outside_row n c e i j h = at-past_row c i j (omega arith)

pub place : (n i : ℕ) → (i < n) ⊎ (n ≤ i)
place n i = grind arith

pub outside_column : (n : ℕ) (c : Matrix) → length c ≡ 2 * n → IsSquare c → (i j : ℕ) → 2 * n ≤ j → at c i j ≡ None
outside_column n c e sq i j h = by (place (length c) i)
  where
    by : (i < length c) ⊎ (length c ≤ i) → at c i j ≡ None
    by (inl p) = at-past_column c sq i j p (omega arith)
    by (inr p) = at-past_row c i j p

pub below_none : (a b : Bound) → b ≡ None → Below a b
below_none a b e = subst (Below a) (sym e) (record { is = tt })

pub all_twins : (n : ℕ) (c : Matrix) → length c ≡ 2 * n → IsSquare c → IsCoherent c → (i j : ℕ) → at c i j ≡ at c (opposite j) (opposite i)
all_twins n c e sq co i j = by (place (2 * n) i) (place (2 * n) j)
  where
    by : (i < 2 * n) ⊎ (2 * n ≤ i) → (j < 2 * n) ⊎ (2 * n ≤ j) → at c i j ≡ at c (opposite j) (opposite i)
    by (inl p) (inl q) = co.twins i j (omega arith) (omega arith)
    by (inl p) (inr q) = outside_column n c e sq i j q ∙ sym (outside_row n c e (opposite j) (opposite i) (omega arith))
    by (inr p) q = outside_row n c e i j p ∙ sym (outside_column n c e sq (opposite j) (opposite i) (omega arith))

pub all_triangles : (n : ℕ) (c : Matrix) → length c ≡ 2 * n → IsSquare c → ((k i j : ℕ) → k < 2 * n → i < 2 * n → j < 2 * n → Below (at c i j) (plus (at c i k) (at c k j)))
    → (i k j : ℕ) → Below (at c i j) (plus (at c i k) (at c k j))
all_triangles n c e sq h i k j = by (place (2 * n) i) (place (2 * n) k) (place (2 * n) j)
  where
    by : (i < 2 * n) ⊎ (2 * n ≤ i) → (k < 2 * n) ⊎ (2 * n ≤ k) → (j < 2 * n) ⊎ (2 * n ≤ j) → Below (at c i j) (plus (at c i k) (at c k j))
    by (inl p) (inl q) (inl r) = h k i j q p r
    by (inr p) q r = below_none _ _ (ap (λ t. plus t (at c k j)) (outside_row n c e i k p))
    by (inl p) (inr q) r = below_none _ _ (ap (λ t. plus t (at c k j)) (outside_column n c e sq i k q))
    by (inl p) (inl q) (inr r) = below_none _ _ (ap (plus (at c i k)) (outside_column n c e sq k j r) ∙ plus_none (at c i k))

-- ---- the entries after evening and strengthening

half-evened : (a : Bound) → half (evened a) ≡ half a
half-evened None = refl
half-evened (Some x) = ap Some (half-twice (floor_half x))

pub even_below : (a : Bound) → Below (plus (half a) (half a)) a
even_below None = record { is = tt }
even_below (Some x) = record { is = half_low x }

unfoldable pub strong_of : Matrix → ℕ → ℕ → Bound
strong_of c i j = least (at c i j) (plus (unary c i) (unary c (opposite j)))

even-unary : (c : Matrix) (i : ℕ) → even_entry c i (opposite i) ≡ evened (at c i (opposite i))
unfolding even_entry
even-unary c i = ap (λ (b : Bool). cond b (evened (at c i (opposite i))) (at c i (opposite i))) ((Decides-eqb (opposite i) (opposite i)).1 refl)

unary-twice : (c : Matrix) (i j : ℕ) → j ≡ opposite i → opposite j ≡ i → plus (unary c i) (unary c (opposite j)) ≡ evened (at c i j)
unfolding unary
unary-twice c i j e back = rw (back, e) refl

-- the entry (i, j) of the evened matrix is evened only where the strengthening lowers it as far
evened_or : (c : Matrix) (i j : ℕ) → least (even_entry c i j) (plus (unary c i) (unary c (opposite j))) ≡ strong_of c i j
unfolding strong_of even_entry
evened_or c i j = by (eqb j (opposite i)) refl
  where
    unary_case : j ≡ opposite i → least (evened (at c i j)) (plus (unary c i) (unary c (opposite j))) ≡ least (at c i j) (plus (unary c i) (unary c (opposite j)))
    unary_case e =
        let both = unary-twice c i j e (omega arith) in
        subst (λ t. least (evened (at c i j)) t ≡ least (at c i j) t) (sym both) (least_self (evened (at c i j)) ∙ sym (least_second (even_below (at c i j))))

    by : (b : Bool) → eqb j (opposite i) ≡ b → least (cond b (evened (at c i j)) (at c i j)) (plus (unary c i) (unary c (opposite j))) ≡ least (at c i j) (plus (unary c i) (unary c (opposite j)))
    by true e = unary_case ((Decides-eqb j (opposite i)).0 e)
    by false e = refl

pub at-evening : (n : ℕ) (c : Matrix) → length c ≡ 2 * n → (i j : ℕ) → i < 2 * n → j < 2 * n → at (evening c) i j ≡ even_entry c i j
unfolding evening
at-evening n c e i j hi hj = at-table (length c) (even_entry c) i j (omega arith) (omega arith)

unary-evening : (n : ℕ) (c : Matrix) → length c ≡ 2 * n → (i : ℕ) → i < 2 * n → unary (evening c) i ≡ unary c i
unfolding unary
unary-evening n c e i hi =
    ap half (at-evening n c e i (opposite i) hi (opposite_below n i hi) ∙ even-unary c i) ∙ half-evened (at c i (opposite i))

pub strong-unary : (c : Matrix) (i j : ℕ) → strong_entry c i j ≡ least (at c i j) (plus (unary c i) (unary c (opposite j)))
unfolding strong_entry unary
strong-unary c i j = ap (λ t. least (at c i j) (plus (half (at c i (opposite i))) (half (at c (opposite j) t)))) (sym (opposite_twice j))

strong-evening : (n : ℕ) (c : Matrix) → length c ≡ 2 * n → (i j : ℕ) → i < 2 * n → j < 2 * n → strong_entry (evening c) i j ≡ strong_of c i j
strong-evening n c e i j hi hj =
    let first = unary-evening n c e i hi in
    let second = unary-evening n c e (opposite j) (opposite_below n j hj) in
    let entry = at-evening n c e i j hi hj in
    strong-unary (evening c) i j
    ∙ ap (λ t. least t (plus (unary (evening c) i) (unary (evening c) (opposite j)))) entry
    ∙ ap (λ t. least (even_entry c i j) (plus t (unary (evening c) (opposite j)))) first
    ∙ ap (λ t. least (even_entry c i j) (plus (unary c i) t)) second
    ∙ evened_or c i j

pub length-evening : (n : ℕ) (c : Matrix) → length c ≡ 2 * n → length (evening c) ≡ 2 * n
unfolding evening
length-evening n c e = length-table (length c) (even_entry c) ∙ e

strong_none : (c : Matrix) (i j : ℕ) → at c i j ≡ None → (at c i (opposite i) ≡ None) ⊎ (at c (opposite j) (opposite (opposite j)) ≡ None) → strong_of c i j ≡ None
unfolding strong_of unary
strong_none c i j e (inl f) = rw (e, f) refl
strong_none c i j e (inr f) = rw (e, f) (plus_none (half (at c i (opposite i))))

-- the result's entries, inside and outside
pub at-result : (n : ℕ) (c : Matrix) → IsClosed n c → (i j : ℕ) → at (strengthening (evening c)) i j ≡ strong_of c i j
unfolding strengthening
at-result n c h i j = by (place (2 * n) i) (place (2 * n) j)
  where
    rows : length (evening c) ≡ 2 * n
    rows = length-evening n c h.rows

    none_row : 2 * n ≤ i → strong_of c i j ≡ None
    none_row p = strong_none c i j (outside_row n c h.rows i j p) (inl (outside_row n c h.rows i (opposite i) p))

    none_column : 2 * n ≤ j → strong_of c i j ≡ None
    none_column p = strong_none c i j (outside_column n c h.rows h.square i j p) (inr (outside_row n c h.rows (opposite j) (opposite (opposite j)) (omega arith)))

    by : (i < 2 * n) ⊎ (2 * n ≤ i) → (j < 2 * n) ⊎ (2 * n ≤ j) → at (table (length (evening c)) (strong_entry (evening c))) i j ≡ strong_of c i j
    by (inl p) (inl q) = at-table (length (evening c)) (strong_entry (evening c)) i j (omega (arith, rows)) (omega (arith, rows)) ∙ strong-evening n c h.rows i j p q
    by (inl p) (inr q) = outside_column n _ (length-table _ _ ∙ rows) (square-table _ _) i j q ∙ sym (none_column q)
    by (inr p) q = outside_row n _ (length-table _ _ ∙ rows) i j p ∙ sym (none_row p)

-- ---- the facts of the result

half_key : (a x y : Bound) → Below a (plus x (plus y x)) → Below (half a) (plus x (half y))
half_key a None y h = record { is = tt }
half_key a (Some x) None h = record { is = tt }
half_key None (Some x) (Some y) h = absurd h.is
half_key (Some a) (Some x) (Some y) h = record {
  is =
      let l = h.is in
      let g = half_high y in
      let k = half_low a in
      omega (arith, ints);
}

-- the unary bound of i isn't above the one of k and the entry from i to k
pub unary-below : (n : ℕ) (c : Matrix) → IsClosed n c → (i k : ℕ) → Below (unary c i) (plus (at c i k) (unary c k))
unfolding unary
unary-below n c h i k =
    let back : at c (opposite k) (opposite i) ≡ at c i k = sym (h.twins i k) in
    let all : Below (at c i (opposite i)) (plus (at c i k) (plus (at c k (opposite k)) (at c (opposite k) (opposite i)))) =
    Below-trans (h.triangle i k (opposite i)) (Below-plus (Below-refl (at c i k)) (h.triangle k (opposite k) (opposite i))) in
    half_key (at c i (opposite i)) (at c i k) (at c k (opposite k)) (subst (λ t. Below (at c i (opposite i)) (plus (at c i k) (plus (at c k (opposite k)) t))) back all)

pub unary-opposite : (n : ℕ) (c : Matrix) → IsClosed n c → (k j : ℕ) → Below (unary c (opposite j)) (plus (unary c (opposite k)) (at c k j))
unary-opposite n c h k j =
    Below-trans (unary-below n c h (opposite j) (opposite k))
    (Below-trans (Below-plus (Below-same (sym (h.twins k j))) (Below-refl (unary c (opposite k)))) (Below-same (plus_comm (at c k j) (unary c (opposite k)))))

-- opposite unary bounds don't cross
pub record Uncrossed (c : Matrix) : Type 0 where
  pub uncrossed : (i : ℕ) → Within (pos 0) (plus (unary c i) (unary c (opposite i)))

strong-old : (c : Matrix) (i j : ℕ) → Below (strong_of c i j) (at c i j)
unfolding strong_of
strong-old c i j = Below-left (at c i j) (plus (unary c i) (unary c (opposite j)))

strong-new : (c : Matrix) (i j : ℕ) → Below (strong_of c i j) (plus (unary c i) (unary c (opposite j)))
unfolding strong_of
strong-new c i j = Below-right (at c i j) (plus (unary c i) (unary c (opposite j)))

strong-triangle : (n : ℕ) (c : Matrix) → IsClosed n c → Uncrossed c → (i k j : ℕ) → Below (strong_of c i j) (plus (strong_of c i k) (strong_of c k j))
unfolding strong_of
strong-triangle n c h u i k j =
    let old = strong-old c i j in
    let new = strong-new c i j in
    four_choices (Below (strong_of c i j)) (at c i k) (plus (unary c i) (unary c (opposite k))) (at c k j) (plus (unary c k) (unary c (opposite j)))
    (Below-trans old (h.triangle i k j))
    (Below-trans new (Below-trans (Below-plus (unary-below n c h i k) (Below-refl (unary c (opposite j)))) (Below-same (plus_assoc (at c i k) (unary c k) (unary c (opposite j))))))
    (Below-trans new (Below-trans (Below-plus (Below-refl (unary c i)) (unary-opposite n c h k j)) (Below-same (sym (plus_assoc (unary c i) (unary c (opposite k)) (at c k j))))))
    (Below-trans new (Below-longer (unary c i) (unary c (opposite k)) (unary c k) (unary c (opposite j)) (within-comm (unary c k) (unary c (opposite k)) (u.uncrossed k))))

half-two : (a : Bound) → half (least a (plus (half a) (half a))) ≡ half a
half-two a = ap half (least_second (even_below a)) ∙ half-evened a

strong_of-unary : (c : Matrix) (i : ℕ) → half (strong_of c i (opposite i)) ≡ unary c i
unfolding strong_of unary
strong_of-unary c i = rw (opposite_twice i) (half-two (at c i (opposite i)))

-- the unary bounds of the result are those of the closed matrix
unary-result : (n : ℕ) (c r : Matrix) → IsClosed n c → r ≡ strengthening (evening c) → (i : ℕ) → unary r i ≡ unary c i
unfolding unary
unary-result n c r h e i = ap (λ t. half (at t i (opposite i))) e ∙ ap half (at-result n c h i (opposite i)) ∙ strong_of-unary c i

pub strong-result : (n : ℕ) (c r : Matrix) → IsClosed n c → Uncrossed c → IsEvenMatrix n r → r ≡ strengthening (evening c) → IsStrong n r
strong-result n c r h u v e =
    let entry = λ (i j : ℕ). ap (λ t. at t i j) e ∙ at-result n c h i j in
    record {
      closed = record {
        rows = v.matrix.rows;
        square = v.matrix.square;
        twins = all_twins n r v.matrix.rows v.matrix.square v.matrix.coherent;
        zeros = λ i hi. v.matrix.diagonal i (let rows = v.matrix.rows in omega arith);
        triangle = λ i k j. Below-trans (Below-same (entry i j)) (Below-trans (strong-triangle n c h u i k j) (Below-plus (Below-same (sym (entry i k))) (Below-same (sym (entry k j)))));
      };
      even = v.even;
      strong = λ i j. Below-trans (Below-same (entry i j)) (Below-trans (strong-new c i j)
          (Below-plus (Below-same (sym (unary-result n c r h e i))) (Below-same (sym (unary-result n c r h e (opposite j))))));
    }

-- ---- the test for crossing

halves_within : (a b : Bound) → Within (pos 0) (plus (evened a) (evened b)) → Within (pos 0) (plus (half a) (half b))
halves_within None b h = tt
halves_within (Some x) None h = tt
halves_within (Some x) (Some y) h = omega (arith, ints)

pub uncrossed-test : (n : ℕ) (c : Matrix) → length c ≡ 2 * n → IsSquare c → has_crossing (evening c) ≡ false → Uncrossed c
unfolding has_crossing crossing unary
uncrossed-test n c e sq t = record { uncrossed = λ i. by i (place (2 * n) i) }
  where
    rows : length (evening c) ≡ 2 * n
    rows = length-evening n c e

    test : (i : ℕ) → i < 2 * n → Within (pos 0) (plus (at (evening c) i (opposite i)) (at (evening c) (opposite i) i))
    test i p = not_negative_back _ (some_index-each (length (evening c)) (crossing (evening c)) t i (omega (arith, rows)))

    first : (i : ℕ) → i < 2 * n → at (evening c) i (opposite i) ≡ evened (at c i (opposite i))
    first i p = at-evening n c e i (opposite i) p (opposite_below n i p) ∙ even-unary c i

    second : (i : ℕ) → i < 2 * n → at (evening c) (opposite i) i ≡ evened (at c (opposite i) (opposite (opposite i)))
    second i p = ap (at (evening c) (opposite i)) (sym (opposite_twice i)) ∙ first (opposite i) (opposite_below n i p)

    by : (i : ℕ) → (i < 2 * n) ⊎ (2 * n ≤ i) → Within (pos 0) (plus (half (at c i (opposite i))) (half (at c (opposite i) (opposite (opposite i)))))
    by i (inl p) = halves_within (at c i (opposite i)) (at c (opposite i) (opposite (opposite i))) (rw (← second i p, ← first i p) (test i p))
    by i (inr p) = within-Below (below_none _ _ (ap (λ b. plus (half b) (half (at c (opposite i) (opposite (opposite i))))) (outside_row n c e i (opposite i) p)))
