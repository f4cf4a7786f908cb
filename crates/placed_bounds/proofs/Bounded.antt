-- A matrix that takes a bound at both of its places stays a value.
use Rattle.std.proofs.Common.{◌≡◌, ℕ, ◌*◌, ◌<◌, ◌⊎◌, inl, inr, Bool, true, false, ◌&&◌, ◌||◌, cond, eqb, List, [], ◌∷◌, Some, refl, sym, ap, ◌∙◌, subst, arith}
use Rattle.std.specs.Prelude.{pos}
use Rattle.std.specs.Bool.{Decides, one_answer}
use Rattle.std.specs.List.{All}
use Rattle.std.proofs.lemmas.Bool.{false≢true}
use Rattle.std.proofs.lemmas.Bool.Decides.{Decides-eqb, Decides-and}
use Rattle.std.proofs.lemmas.List.Elements.{All-head, All-tail}
use Rattle.oct_def.specs.Bound.{Bound, least, IsEven, InRange}
use Rattle.oct_def.specs.Table.{Matrix, table, at}
use Rattle.oct_def.specs.Matrix.{opposite, IsMatrix, IsEvenMatrix}
use Rattle.oct_def.specs.Octagon.{top_matrix, top_value}
use Rattle.oct_def.proofs.Tables.{length-table, at-table, square-table}
use Rattle.oct_def.proofs.Bounds.{least_is}
use Rattle.oct_def.proofs.Indices.{opposite_twice, opposite_same, opposite_turned}
use Rattle.oct_def.proofs.Coherent.{coherent-table}
use Rattle.oct_def.proofs.Lattice.{octagon-top}
use Rattle.oct_def.proofs.Values.{each-table, even_unary-table, EvenUnary}
use Rattle.placed_bounds.specs.Bounded.{Placed, IsPlacedIn, is_hit, bounded_entry, bounded_matrix, all_bounded, BoundsGiveValues}

-- ---- the two places

abbrev pub Hits : Placed → ℕ → ℕ → Type 0
Hits b i j = ((i ≡ b.row) × (j ≡ b.column)) ⊎ ((i ≡ opposite b.column) × (j ≡ opposite b.row))

decides-or : {P Q : Type 0} → (x y : Bool) → Decides x P → Decides y Q → Decides (x || y) (P ⊎ Q)
decides-or true y h k = (λ e. inl (h.0 refl), λ p. refl)
decides-or false y h k = (λ e. inr (k.0 e), λ p. elim p [ inl q ↦ absurd (false≢true (h.1 q)) | inr q ↦ k.1 q ])

pub hits_is : (b : Placed) (i j : ℕ) → Decides (is_hit b i j) (Hits b i j)
hits_is b i j = decides-or (eqb i b.row && eqb j b.column) (eqb i (opposite b.column) && eqb j (opposite b.row))
    (Decides-and (eqb i b.row) (eqb j b.column) (Decides-eqb i b.row) (Decides-eqb j b.column))
    (Decides-and (eqb i (opposite b.column)) (eqb j (opposite b.row)) (Decides-eqb i (opposite b.column)) (Decides-eqb j (opposite b.row)))

turn : (b : Placed) (i j : ℕ) → Hits b i j → Hits b (opposite j) (opposite i)
turn b i j h = elim h [
  | inl k ↦ inr (ap opposite k.1, ap opposite k.0)
  | inr k ↦ inl (opposite_turned b.row j k.1, opposite_turned b.column i k.0)
]

turn_back : (b : Placed) (i j : ℕ) → Hits b (opposite j) (opposite i) → Hits b i j
turn_back b i j h =
    subst (λ (k : ℕ). Hits b k j) (opposite_twice i)
    (subst (λ (k : ℕ). Hits b (opposite (opposite i)) k) (opposite_twice j) (turn b (opposite j) (opposite i) h))

hit_twin : (b : Placed) (i j : ℕ) → is_hit b i j ≡ is_hit b (opposite j) (opposite i)
hit_twin b i j =
    let d = hits_is b (opposite j) (opposite i) in
    one_answer {P = Hits b i j} (is_hit b i j) (is_hit b (opposite j) (opposite i)) (hits_is b i j)
    (λ e. turn_back b i j (d.0 e), λ h. d.1 (turn b i j h))

-- ---- the entries

entry_twin : (n : ℕ) (m : Matrix) (b : Placed) → IsMatrix n m → (i j : ℕ) → i < 2 * n → j < 2 * n → bounded_entry m b i j ≡ bounded_entry m b (opposite j) (opposite i)
unfolding bounded_entry
entry_twin n m b is i j p q =
    ap (λ (t : Bool). cond t (least (at m i j) b.bound) (at m i j)) (hit_twin b i j)
    ∙ ap (λ (x : Bound). cond (is_hit b (opposite j) (opposite i)) (least x b.bound) x) (is.coherent.twins i j (omega (arith, is.rows)) (omega (arith, is.rows)))

entry_cases : (P : Bound → Type 0) (m : Matrix) (b : Placed) (i j : ℕ) → P (at m i j) → (Hits b i j → P b.bound) → P (bounded_entry m b i j)
unfolding bounded_entry
entry_cases P m b i j old new = by (is_hit b i j) refl
  where
    by : (t : Bool) → is_hit b i j ≡ t → P (cond t (least (at m i j) b.bound) (at m i j))
    by true e = elim (least_is (at m i j) b.bound) [ inl k ↦ subst P (sym k) old | inr k ↦ subst P (sym k) (new ((hits_is b i j).0 e)) ]
    by false e = old

-- on the diagonal nothing is hit
off : (n : ℕ) (b : Placed) (i : ℕ) → IsPlacedIn n b → Hits b i i → ⊥
off n b i is h = elim h [
  | inl k ↦ is.off_diagonal (sym k.0 ∙ k.1)
  | inr k ↦ is.off_diagonal (opposite_same b.row b.column (sym k.1 ∙ k.0))
]

diagonal : (n : ℕ) (m : Matrix) (b : Placed) (i : ℕ) → IsPlacedIn n b → at m i i ≡ Some (pos 0) → bounded_entry m b i i ≡ Some (pos 0)
diagonal n m b i is e = entry_cases (λ x. x ≡ Some (pos 0)) m b i i e (λ h. absurd (off n b i is h))

-- a unary place that is hit has an even bound
even_hit : (n : ℕ) (b : Placed) (i : ℕ) → IsPlacedIn n b → Hits b i (opposite i) → IsEven b.bound
even_hit n b i is h = elim h [
  | inl k ↦ is.even (sym k.1 ∙ ap opposite k.0)
  | inr k ↦ is.even (sym (opposite_twice b.column) ∙ ap opposite (sym k.0) ∙ k.1)
]

-- ---- the matrix

pub even_matrix-bounded : (n : ℕ) (m : Matrix) (b : Placed) → IsPlacedIn n b → IsEvenMatrix n m → IsEvenMatrix n (bounded_matrix m b)
unfolding bounded_matrix EvenUnary
even_matrix-bounded n m b is v =
    subst (λ (k : ℕ). IsEvenMatrix n (table k (bounded_entry m b))) (sym v.matrix.rows)
    record {
      matrix = record {
        rows = length-table (2 * n) (bounded_entry m b);
        square = square-table (2 * n) (bounded_entry m b);
        coherent = coherent-table n (bounded_entry m b) (entry_twin n m b v.matrix);
        in_range = each-table InRange tt (2 * n) (bounded_entry m b) (λ i j p q. entry_cases InRange m b i j (v.matrix.in_range i j) (λ h. is.in_range));
        diagonal = λ i p.
            let q : i < 2 * n = omega (arith, length-table (2 * n) (bounded_entry m b)) in
            at-table (2 * n) (bounded_entry m b) i i q q ∙ diagonal n m b i is (v.matrix.diagonal i (omega (arith, v.matrix.rows)));
      };
      even = even_unary-table n (bounded_entry m b) (λ i p. entry_cases IsEven m b i (opposite i) (v.even i) (even_hit n b i is));
    }

all_even : (n : ℕ) (m : Matrix) (bs : List Placed) → All (IsPlacedIn n) bs → IsEvenMatrix n m → IsEvenMatrix n (all_bounded m bs)
all_even n m [] are v = v
all_even n m (b ∷ bs) are v =
    all_even n (bounded_matrix m b) bs (All-tail (IsPlacedIn n) b bs are) (even_matrix-bounded n m b (All-head (IsPlacedIn n) b bs are) v)

pub bounds_give_values : BoundsGiveValues
unfolding top_value
bounds_give_values n bs are = all_even n (top_matrix n) bs are (octagon-top n)
