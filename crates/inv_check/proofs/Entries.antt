-- Entries by words, and values below each other by their entries.
use Rattle.std.proofs.Common.{◌≡◌, ℕ, ◌*◌, ◌<◌, ◌≤◌, ◌⊎◌, inl, inr, Bool, true, false, Option, Some, None, refl, sym, ap, ◌∙◌, subst, arith}
use Rattle.std.specs.Prelude.{ℤ, IsSome, IfSome, is_none}
use Rattle.std.proofs.lemmas.Bool.{false≢true}
use Rattle.oct_def.specs.Bound.{Bound, bound_of, at_most}
use Rattle.oct_def.specs.Table.{Matrix, at}
use Rattle.oct_def.specs.Octagon.{Octagon, IsOctagon, IsValueOver}
use Rattle.oct_def.proofs.Tables.{at-past_row, at-past_column}
use Rattle.oct_def.specs.Below.{NoneAbove, IsMatrixBelow, IsBelow}
use Rattle.inv_check.specs.Entry.{entry_in, entry_of}

pub entry_is : (x : Option Matrix) (i j : ℕ) (w : ℤ) → IsSome x → IfSome x (λ m. bound_of w ≡ at m i j) → bound_of w ≡ entry_in x i j
entry_is None i j w some e = absurd (false≢true some)
entry_is (Some m) i j w some e = e

-- what two words say of two entries
pub entries_are : (x y : Option Matrix) (i j : ℕ) (v w : ℤ) (r : Bool) → IsSome x → IsSome y
    → IfSome x (λ m. bound_of v ≡ at m i j) → IfSome y (λ m. bound_of w ≡ at m i j)
    → r ≡ at_most (bound_of v) (bound_of w) → at_most (entry_in x i j) (entry_in y i j) ≡ r
entries_are x y i j v w r sx sy ex ey e =
    ap (λ (b : Bound). at_most b (entry_in y i j)) (sym (entry_is x i j v sx ex)) ∙ ap (at_most (bound_of v)) (sym (entry_is y i j w sy ey)) ∙ sym e

-- an entry above the other's
pub not_below : (x y : Option Matrix) (i j : ℕ) → IsSome x → IsSome y → at_most (entry_in x i j) (entry_in y i j) ≡ false → IsMatrixBelow x y → ⊥
not_below None y i j sx sy e h = false≢true sx
not_below (Some a) None i j sx sy e h = h
not_below (Some a) (Some b) i j sx sy e h = false≢true (sym e ∙ h.entries i j)

below-square : (n : ℕ) (a b : Matrix) → IsValueOver n (Some a) → IsValueOver n (Some b)
    → ((i j : ℕ) → i < 2 * n → j < 2 * n → at_most (at a i j) (at b i j) ≡ true) → NoneAbove a b
below-square n a b va vb h = record { entries = λ i j. rows i j (side i) (side j) }
  where
    side : (i : ℕ) → (i < 2 * n) ⊎ (2 * n ≤ i)
    side i = grind arith

    both : (i j : ℕ) → at a i j ≡ None → at b i j ≡ None → at_most (at a i j) (at b i j) ≡ true
    both i j p q = ap (λ (z : Bound). at_most z (at b i j)) p ∙ ap (at_most None) q

    rows : (i j : ℕ) → (i < 2 * n) ⊎ (2 * n ≤ i) → (j < 2 * n) ⊎ (2 * n ≤ j) → at_most (at a i j) (at b i j) ≡ true
    rows i j (inl p) (inl q) = h i j p q
    rows i j (inl p) (inr q) = both i j
        (at-past_column a va.matrix.square i j (omega (arith, va.matrix.rows)) (omega (arith, va.matrix.rows)))
        (at-past_column b vb.matrix.square i j (omega (arith, vb.matrix.rows)) (omega (arith, vb.matrix.rows)))
    rows i j (inr p) q = both i j (at-past_row a i j (omega (arith, va.matrix.rows))) (at-past_row b i j (omega (arith, vb.matrix.rows)))

pub below_by_entries : (n : ℕ) (x y : Option Matrix) → IsValueOver n x → IsValueOver n y → IsSome y
    → ((i j : ℕ) → i < 2 * n → j < 2 * n → at_most (entry_in x i j) (entry_in y i j) ≡ true) → IsMatrixBelow x y
below_by_entries n None y vx vy sy h = tt
below_by_entries n (Some a) None vx vy sy h = absurd (false≢true sy)
below_by_entries n (Some a) (Some b) vx vy sy h = below-square n a b vx vy h

some_of : (x : Option Matrix) → false ≡ is_none x → IsSome x
some_of None e = e
some_of (Some m) e = refl

pub value_below : (n : ℕ) (v w : Octagon) → IsOctagon v → IsOctagon w → v.dims ≡ n → w.dims ≡ n → false ≡ is_none w.matrix
    → ((i j : ℕ) → i < 2 * n → j < 2 * n → at_most (entry_of v i j) (entry_of w i j) ≡ true) → IsBelow v w
value_below n v w a b d e some h =
    below_by_entries n v.matrix w.matrix (subst (λ (k : ℕ). IsValueOver k v.matrix) d a) (subst (λ (k : ℕ). IsValueOver k w.matrix) e b) (some_of w.matrix some) h
