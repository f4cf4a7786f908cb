-- States that meet a matrix meet what each step makes of it, and the other way round.
use Rattle.std.proofs.Common.{◌≡◌, ℕ, ◌+◌, ◌*◌, ◌/◌, ◌<◌, ◌≤◌, ◌⊎◌, inl, inr, Bool, true, false, cond, eqb, List, length, Option, Some, None, refl, sym, ◌∙◌, subst, arith, zero, suc}
use Rattle.std.specs.Prelude.{ℤ, pos, ◌+ℤ◌, ◌-ℤ◌}
use Rattle.std.proofs.lemmas.Int.{ints}
use Rattle.std.proofs.lemmas.Bool.Decides.{Decides-eqb}
use Rattle.oct_def.specs.Bound.{Bound, plus, half, evened, Within}
use Rattle.oct_def.specs.Table.{Matrix, table, at}
use Rattle.oct_def.specs.Matrix.{opposite, signed_value, Meets, MeetsValue, IsSquare}
use Rattle.oct_def.specs.Tight.{path, long_path, least_of_five, pivot_entry, pair_entry, pair_step, pair_steps, closure, negative_cycle, has_negative_cycle, even_entry, evening, crossing, has_crossing, strong_entry, strengthening, tight_even, tight_closed, tight}
use Rattle.oct_def.proofs.Tables.{length-table, at-table, square-table, at-past_row, at-past_column}
use Rattle.oct_def.proofs.Bounds.{within-clamped, within-plus, within-least, within-least_left, within-half, within-evened, within-evened_back, not_negative}
use Rattle.oct_def.proofs.Indices.{signed-opposite, unary_difference, some_index-none, opposite_twice}

-- the difference that the entry (i, j) bounds
abbrev pub difference : List ℤ → ℕ → ℕ → ℤ
difference s i j = signed_value s j -ℤ signed_value s i

within_at : (x y : ℤ) (b : Bound) → x ≡ y → Within x b → Within y b
within_at x y b e h = subst (λ z. Within z b) e h

within_bound : (x : ℤ) (a b : Bound) → a ≡ b → Within x a → Within x b
within_bound x a b e h = subst (Within x) e h

-- a state meets a square matrix where it meets the entries of its rows and columns
pub meets-square : (s : List ℤ) (m : Matrix) → IsSquare m → ((i j : ℕ) → i < length m → j < length m → Within (difference s i j) (at m i j)) → Meets s m
meets-square s m sq h = record { within = λ i j. rows i j (place i) (place j) }
  where
    place : (i : ℕ) → (i < length m) ⊎ (length m ≤ i)
    place i = grind arith

    rows : (i j : ℕ) → (i < length m) ⊎ (length m ≤ i) → (j < length m) ⊎ (length m ≤ j) → Within (difference s i j) (at m i j)
    rows i j (inl p) (inl q) = h i j p q
    rows i j (inl p) (inr q) = within_bound _ None (at m i j) (sym (at-past_column m sq i j p q)) tt
    rows i j (inr p) q = within_bound _ None (at m i j) (sym (at-past_row m i j p)) tt

pub meets-table : (s : List ℤ) (n : ℕ) (f : ℕ → ℕ → Bound) → ((i j : ℕ) → i < n → j < n → Within (difference s i j) (f i j)) → Meets s (table n f)
meets-table s n f h = meets-square s (table n f) (square-table n f) (λ i j p q.
    let pi : i < n = omega (arith, length-table n f) in
    let pj : j < n = omega (arith, length-table n f) in
    within_bound _ (f i j) _ (sym (at-table n f i j pi pj)) (h i j pi pj))

pub within-table : (s : List ℤ) (n : ℕ) (f : ℕ → ℕ → Bound) → Meets s (table n f) → (i j : ℕ) → i < n → j < n → Within (difference s i j) (f i j)
within-table s n f h i j p q = within_bound _ _ (f i j) (at-table n f i j p q) (h.within i j)

-- ---- the pair step

within-path : (s : List ℤ) (m : Matrix) → Meets s m → (p i j : ℕ) → Within (difference s i j) (path m p i j)
unfolding path
within-path s m h p i j = within_at _ (difference s i j) _ (omega (arith, ints))
    (within-clamped _ (plus (at m i p) (at m p j)) (within-plus (difference s i p) (difference s p j) (at m i p) (at m p j) (h.within i p) (h.within p j)))

within-long_path : (s : List ℤ) (m : Matrix) → Meets s m → (p q i j : ℕ) → Within (difference s i j) (long_path m p q i j)
unfolding long_path
within-long_path s m h p q i j = within_at ((difference s i p +ℤ difference s p q) +ℤ difference s q j) (difference s i j) _ (omega (arith, ints))
    (within-clamped _ (plus (plus (at m i p) (at m p q)) (at m q j))
    (within-plus (difference s i p +ℤ difference s p q) (difference s q j) (plus (at m i p) (at m p q)) (at m q j)
    (within-plus (difference s i p) (difference s p q) (at m i p) (at m p q) (h.within i p) (h.within p q)) (h.within q j)))

within-least_of_five : (x : ℤ) (a b c d e : Bound) → Within x a → Within x b → Within x c → Within x d → Within x e → Within x (least_of_five a b c d e)
within-least_of_five x a b c d e pa pb pc pd pe =
    within-least x a _ pa (within-least x b _ pb (within-least x c _ pc (within-least x d e pd pe)))

within-pivot_entry : (s : List ℤ) (m : Matrix) → Meets s m → (p q i j : ℕ) → Within (difference s i j) (pivot_entry p q m i j)
unfolding pivot_entry
within-pivot_entry s m h p q i j = within-least_of_five (difference s i j) (at m i j) (path m p i j) (path m q i j) (long_path m p q i j) (long_path m q p i j)
    (h.within i j) (within-path s m h p i j) (within-path s m h q i j) (within-long_path s m h p q i j) (within-long_path s m h q p i j)

pub meets-pair_step : (s : List ℤ) (m : Matrix) (k : ℕ) → Meets s m → Meets s (pair_step k m)
unfolding pair_step pair_entry
meets-pair_step s m k h = meets-table s (length m) (pair_entry k m) (λ i j p q. within-pivot_entry s m h (2 * k) (2 * k + 1) i j)

pub meets-pair_step_back : (s : List ℤ) (m : Matrix) (k : ℕ) → IsSquare m → Meets s (pair_step k m) → Meets s m
unfolding pair_step pair_entry pivot_entry
meets-pair_step_back s m k sq h = meets-square s m sq (λ i j p q.
    within-least_left (difference s i j) (at m i j) _ (within-table s (length m) (pair_entry k m) h i j p q))

pub length-pair_step : (k : ℕ) (m : Matrix) → length (pair_step k m) ≡ length m
unfolding pair_step
length-pair_step k m = length-table (length m) (pair_entry k m)

pub square-pair_step : (k : ℕ) (m : Matrix) → IsSquare (pair_step k m)
unfolding pair_step
square-pair_step k m = square-table (length m) (pair_entry k m)

pub length-pair_steps : (n : ℕ) (m : Matrix) → length (pair_steps n m) ≡ length m
unfolding pair_steps
length-pair_steps zero m = refl
length-pair_steps (suc n) m = length-pair_step n (pair_steps n m) ∙ length-pair_steps n m

pub square-pair_steps : (n : ℕ) (m : Matrix) → IsSquare m → IsSquare (pair_steps n m)
unfolding pair_steps
square-pair_steps zero m sq = sq
square-pair_steps (suc n) m sq = square-pair_step n (pair_steps n m)

pub meets-pair_steps : (s : List ℤ) (m : Matrix) (n : ℕ) → Meets s m → Meets s (pair_steps n m)
unfolding pair_steps
meets-pair_steps s m zero h = h
meets-pair_steps s m (suc n) h = meets-pair_step s (pair_steps n m) n (meets-pair_steps s m n h)

pub meets-pair_steps_back : (s : List ℤ) (m : Matrix) (n : ℕ) → IsSquare m → Meets s (pair_steps n m) → Meets s m
unfolding pair_steps
meets-pair_steps_back s m zero sq h = h
meets-pair_steps_back s m (suc n) sq h =
    meets-pair_steps_back s m n sq (meets-pair_step_back s (pair_steps n m) n (square-pair_steps n m sq) h)

-- ---- evening and strengthening

-- the difference of a unary entry is twice a value
within-unary : (s : List ℤ) (i : ℕ) (b : Bound) → Within (difference s i (opposite i)) b → Within (signed_value s (opposite i) +ℤ signed_value s (opposite i)) b
within-unary s i b h = within_at _ _ b (unary_difference s i) h

within-even_entry : (s : List ℤ) (m : Matrix) → Meets s m → (i j : ℕ) → Within (difference s i j) (even_entry m i j)
unfolding even_entry
within-even_entry s m h i j = by (eqb j (opposite i)) refl
  where
    unary : j ≡ opposite i → Within (difference s i j) (evened (at m i j))
    unary e =
        let twice = unary_difference s i in
        let k : difference s i j ≡ signed_value s j +ℤ signed_value s j = subst (λ t. difference s i t ≡ signed_value s t +ℤ signed_value s t) (sym e) twice in
        within_at _ (difference s i j) _ (sym k) (within-evened (signed_value s j) (at m i j) (within_at _ _ (at m i j) k (h.within i j)))

    by : (b : Bool) → eqb j (opposite i) ≡ b → Within (difference s i j) (cond b (evened (at m i j)) (at m i j))
    by true e = unary ((Decides-eqb j (opposite i)).0 e)
    by false e = h.within i j

pub meets-evening : (s : List ℤ) (m : Matrix) → Meets s m → Meets s (evening m)
unfolding evening
meets-evening s m h = meets-table s (length m) (even_entry m) (λ i j p q. within-even_entry s m h i j)

pub meets-evening_back : (s : List ℤ) (m : Matrix) → IsSquare m → Meets s (evening m) → Meets s m
unfolding evening even_entry
meets-evening_back s m sq h = meets-square s m sq (λ i j p q. by i j (eqb j (opposite i)) (within-table s (length m) (even_entry m) h i j p q))
  where
    by : (i j : ℕ) (b : Bool) → Within (difference s i j) (cond b (evened (at m i j)) (at m i j)) → Within (difference s i j) (at m i j)
    by i j true g = within-evened_back _ (at m i j) g
    by i j false g = g

within-strong_entry : (s : List ℤ) (m : Matrix) → Meets s m → (i j : ℕ) → Within (difference s i j) (strong_entry m i j)
unfolding strong_entry
within-strong_entry s m h i j =
    let first = within-half (signed_value s (opposite i)) (at m i (opposite i)) (within-unary s i _ (h.within i (opposite i))) in
    let back : Within (difference s (opposite j) j) (at m (opposite j) j) = h.within (opposite j) j in
    let twice : difference s (opposite j) j ≡ signed_value s j +ℤ signed_value s j =
    subst (λ t. difference s (opposite j) t ≡ signed_value s t +ℤ signed_value s t) (opposite_twice j) (unary_difference s (opposite j)) in
    let second = within-half (signed_value s j) (at m (opposite j) j) (within_at _ _ (at m (opposite j) j) twice back) in
    let negated = signed-opposite s i in
    within-least (difference s i j) (at m i j) _ (h.within i j)
    (within_at (signed_value s (opposite i) +ℤ signed_value s j) (difference s i j) _ (omega (arith, ints))
    (within-plus (signed_value s (opposite i)) (signed_value s j) (half (at m i (opposite i))) (half (at m (opposite j) j)) first second))

pub meets-strengthening : (s : List ℤ) (m : Matrix) → Meets s m → Meets s (strengthening m)
unfolding strengthening
meets-strengthening s m h = meets-table s (length m) (strong_entry m) (λ i j p q. within-strong_entry s m h i j)

pub meets-strengthening_back : (s : List ℤ) (m : Matrix) → IsSquare m → Meets s (strengthening m) → Meets s m
unfolding strengthening strong_entry
meets-strengthening_back s m sq h = meets-square s m sq (λ i j p q.
    within-least_left (difference s i j) (at m i j) _ (within-table s (length m) (strong_entry m) h i j p q))

-- ---- the tests for Bottom

pub no_negative_cycle : (s : List ℤ) (m : Matrix) → Meets s m → has_negative_cycle m ≡ false
unfolding has_negative_cycle negative_cycle
no_negative_cycle s m h = some_index-none (length m) (negative_cycle m)
    (λ i p. not_negative (at m i i) (within_at (difference s i i) (pos 0) (at m i i) (omega (arith, ints)) (h.within i i)))

pub no_crossing : (s : List ℤ) (m : Matrix) → Meets s m → has_crossing m ≡ false
unfolding has_crossing crossing
no_crossing s m h = some_index-none (length m) (crossing m)
    (λ i p. not_negative (plus (at m i (opposite i)) (at m (opposite i) i))
    (within_at (difference s i (opposite i) +ℤ difference s (opposite i) i) (pos 0) _ (omega (arith, ints))
    (within-plus (difference s i (opposite i)) (difference s (opposite i) i) (at m i (opposite i)) (at m (opposite i) i) (h.within i (opposite i)) (h.within (opposite i) i))))

-- ---- the tight closure

meets_unless : (s : List ℤ) (b : Bool) (v : Option Matrix) → b ≡ false → MeetsValue s v → MeetsValue s (cond b None v)
meets_unless s b v e h = subst (λ t. MeetsValue s (cond t None v)) (sym e) h

meets_unless_back : (s : List ℤ) (b : Bool) (v : Option Matrix) → MeetsValue s (cond b None v) → MeetsValue s v
meets_unless_back s true v h = absurd h
meets_unless_back s false v h = h

meets-tight_even : (s : List ℤ) (m : Matrix) → Meets s m → MeetsValue s (tight_even m)
unfolding tight_even
meets-tight_even s m h = meets_unless s (has_crossing m) (Some (strengthening m)) (no_crossing s m h) (meets-strengthening s m h)

meets-tight_closed : (s : List ℤ) (m : Matrix) → Meets s m → MeetsValue s (tight_closed m)
unfolding tight_closed
meets-tight_closed s m h = meets_unless s (has_negative_cycle m) (tight_even (evening m)) (no_negative_cycle s m h) (meets-tight_even s (evening m) (meets-evening s m h))

pub meets-tight : (s : List ℤ) (m : Matrix) → Meets s m → MeetsValue s (tight m)
unfolding tight closure
meets-tight s m h = meets-tight_closed s (closure m) (meets-pair_steps s m (length m / 2) h)

meets-tight_closed_back : (s : List ℤ) (m : Matrix) → IsSquare m → MeetsValue s (tight_closed m) → Meets s m
unfolding tight_closed tight_even evening
meets-tight_closed_back s m sq h =
    let even = meets_unless_back s (has_crossing (evening m)) (Some (strengthening (evening m))) (meets_unless_back s (has_negative_cycle m) (tight_even (evening m)) h) in
    meets-evening_back s m sq (meets-strengthening_back s (evening m) (square-table (length m) (even_entry m)) even)

pub meets-tight_back : (s : List ℤ) (m : Matrix) → IsSquare m → MeetsValue s (tight m) → Meets s m
unfolding tight closure
meets-tight_back s m sq h =
    meets-pair_steps_back s m (length m / 2) sq (meets-tight_closed_back s (closure m) (square-pair_steps (length m / 2) m sq) h)
