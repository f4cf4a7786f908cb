-- An assignment and a random assignment give a value where they are given one.
use Rattle.std.proofs.Common.{◌≡◌, ◌⊎◌, ℕ, ◌+◌, ◌*◌, ◌/◌, ◌<◌, ◌||◌, Bool, true, false, cond, List, [], ◌∷◌, length, pos, Option, Some, None, refl, sym, subst, inl, inr, arith, nat_eq, ◌∙◌}
use Rattle.std.specs.Option.{option_and_then}
use Rattle.oct_def.specs.Bound.{Bound, InRange, IsEven}
use Rattle.oct_def.specs.Table.{Matrix, at}
use Rattle.oct_def.specs.Matrix.{opposite, IsCoherent, IsMatrix, IsEvenMatrix}
use Rattle.oct_def.specs.Tight.{tight}
use Rattle.oct_def.specs.Octagon.{Octagon, IsOctagon, IsValueOver, top_entry}
use Rattle.oct_def.proofs.Tables.{length-table, at-table, square-table}
use Rattle.oct_def.proofs.Coherent.{coherent-table, twin}
use Rattle.oct_def.proofs.Values.{each-table, value-tight}
use Rattle.spl_core.specs.Expression.{Expression}
use Rattle.interval_form.specs.declared.interval.Interval.{Interval}
use Rattle.interval_form.specs.Form.{Form}
use Rattle.interval_form.specs.FormBounds.{bounded}
use Rattle.interval_form.specs.Laws.{IsMatrixOver}
use Rattle.interval_form.proofs.Shapes.{matrix-bounded}
use Rattle.transfer_def.specs.Dimensions.{extended, moved}
use Rattle.transfer_def.specs.Assign.{extended_ranges, form_minus_new, new_minus_form, equated, assigned, assign_value}
use Rattle.transfer_def.specs.Forget.{forgotten_entry, forgotten, forget_value}
use Rattle.transfer_def.proofs.Lifts.{value-and_then, value-mapped}
use Rattle.transfer_def.proofs.Dimensions.{in_range-top_entry, top_entry-same, top_entry-twin, even-top_entry, even-table, matrix-extended, value-moved}
use Rattle.transfer_def.proofs.Sound.{length-extended_ranges}

-- ---- the equated matrix and its closure

matrix-and_then : (n : ℕ) (go : Matrix → Option Matrix) (v : Option Matrix) → ((m : Matrix) → IsMatrix n m → IsMatrixOver n (go m)) → IsMatrixOver n v → IsMatrixOver n (option_and_then go v)
matrix-and_then n go None f h = tt
matrix-and_then n go (Some m) f h = f m h

pub matrix-bounded_over : (n : ℕ) (ranges : List Interval) (f : Form) (m : Matrix) → length ranges ≡ n → IsMatrix n m → IsMatrixOver n (bounded ranges f m)
matrix-bounded_over n ranges f m e v = subst (λ (k : ℕ). IsMatrixOver k (bounded ranges f m)) e (matrix-bounded ranges f m (subst (λ (k : ℕ). IsMatrix k m) (sym e) v))

pub matrix-equated : (n : ℕ) (e : Expression) (m : Matrix) → IsMatrix n m → IsMatrixOver (n + 1) (equated n e m)
unfolding equated
matrix-equated n e m v =
    let ranges = extended_ranges n m in
    let size = length-extended_ranges n m in
    matrix-and_then (n + 1) (bounded ranges (new_minus_form n m e)) (bounded ranges (form_minus_new n m e) (extended n 1 m))
    (λ b w. matrix-bounded_over (n + 1) ranges (new_minus_form n m e) b size w)
    (matrix-bounded_over (n + 1) ranges (form_minus_new n m e) (extended n 1 m) size (matrix-extended n 1 m v))

pub value-tight_over : (n : ℕ) (v : Option Matrix) → IsMatrixOver n v → IsValueOver n (option_and_then tight v)
value-tight_over n None h = tt
value-tight_over n (Some m) h = value-tight n m h

pub value-assigned : (n x : ℕ) (e : Expression) (m : Matrix) → IsEvenMatrix n m → IsValueOver n (assigned n x e m)
unfolding assigned
value-assigned n x e m v =
    value-mapped (n + 1) n (moved n (x ∷ [])) (option_and_then tight (equated n e m)) (λ b h. value-moved n (x ∷ []) b h)
    (value-tight_over (n + 1) (equated n e m) (matrix-equated n e m v.matrix))

pub value-assign_value : (x : ℕ) (e : Expression) (v : Octagon) → IsOctagon v → IsOctagon (assign_value x e v)
unfolding assign_value
value-assign_value x e v h = value-and_then v.dims v.dims (assigned v.dims x e) v.matrix (λ m k. value-assigned v.dims x e m k) h

-- ---- a random assignment

-- an entry is that of no bounds, or the old one; its twin alike
forgotten_entry-cases : (x : ℕ) (m : Matrix) (i j : ℕ)
    → ((forgotten_entry x m i j ≡ top_entry i j) × (forgotten_entry x m (opposite j) (opposite i) ≡ top_entry (opposite j) (opposite i)))
    ⊎ ((forgotten_entry x m i j ≡ at m i j) × (forgotten_entry x m (opposite j) (opposite i) ≡ at m (opposite j) (opposite i)))
unfolding forgotten_entry
forgotten_entry-cases x m i j =
    let p : opposite i / 2 ≡ i / 2 = omega arith in
    let q : opposite j / 2 ≡ j / 2 = omega arith in
    rw (p, q) (by (nat_eq (i / 2) x) (nat_eq (j / 2) x))
  where
    by : (b c : Bool)
        → ((cond (b || c) (top_entry i j) (at m i j) ≡ top_entry i j) × (cond (c || b) (top_entry (opposite j) (opposite i)) (at m (opposite j) (opposite i)) ≡ top_entry (opposite j) (opposite i)))
        ⊎ ((cond (b || c) (top_entry i j) (at m i j) ≡ at m i j) × (cond (c || b) (top_entry (opposite j) (opposite i)) (at m (opposite j) (opposite i)) ≡ at m (opposite j) (opposite i)))
    by true true = inl (refl, refl)
    by true false = inl (refl, refl)
    by false true = inl (refl, refl)
    by false false = inr (refl, refl)

forgotten_entry-twin : (n x : ℕ) (m : Matrix) (i j : ℕ) → length m ≡ 2 * n → IsCoherent m → i < 2 * n → j < 2 * n → forgotten_entry x m i j ≡ forgotten_entry x m (opposite j) (opposite i)
forgotten_entry-twin n x m i j l co p q = by (forgotten_entry-cases x m i j)
  where
    by : ((forgotten_entry x m i j ≡ top_entry i j) × (forgotten_entry x m (opposite j) (opposite i) ≡ top_entry (opposite j) (opposite i)))
        ⊎ ((forgotten_entry x m i j ≡ at m i j) × (forgotten_entry x m (opposite j) (opposite i) ≡ at m (opposite j) (opposite i)))
        → forgotten_entry x m i j ≡ forgotten_entry x m (opposite j) (opposite i)
    by (inl e) = e.0 ∙ top_entry-twin i j ∙ sym e.1
    by (inr e) = e.0 ∙ twin n m l co i j p q ∙ sym e.1

-- what holds of the entries without bounds and of the old ones holds of the entries after a random assignment
forgotten_entry-each : (P : Bound → Type 0) (x : ℕ) (m : Matrix) (i j : ℕ) → P (top_entry i j) → P (at m i j) → P (forgotten_entry x m i j)
unfolding forgotten_entry
forgotten_entry-each P x m i j h k = by (nat_eq (i / 2) x || nat_eq (j / 2) x)
  where
    by : (b : Bool) → P (cond b (top_entry i j) (at m i j))
    by true = h
    by false = k

pub value-forgotten : (n x : ℕ) (m : Matrix) → IsEvenMatrix n m → IsEvenMatrix n (forgotten n x m)
unfolding forgotten
value-forgotten n x m v =
    let f = forgotten_entry x m in
    record {
      matrix = record {
        rows = length-table (2 * n) f;
        square = square-table (2 * n) f;
        coherent = coherent-table n f (λ i j p q. forgotten_entry-twin n x m i j v.matrix.rows v.matrix.coherent p q);
        in_range = each-table InRange tt (2 * n) f (λ i j p q. forgotten_entry-each InRange x m i j (in_range-top_entry i j) (v.matrix.in_range i j));
        diagonal = λ i p.
            let l : i < 2 * n = omega (arith, length-table (2 * n) f) in
            at-table (2 * n) f i i l l
            ∙ forgotten_entry-each (λ b. b ≡ Some (pos 0)) x m i i (top_entry-same i i refl) (v.matrix.diagonal i (omega (arith, v.matrix.rows)));
      };
      even = even-table n f (λ i p. forgotten_entry-each IsEven x m i (opposite i) (even-top_entry i) (v.even i));
    }

pub value-forget_value : (x : ℕ) (v : Octagon) → IsOctagon v → IsOctagon (forget_value x v)
unfolding forget_value
value-forget_value x v h = value-mapped v.dims v.dims (forgotten v.dims x) v.matrix (λ m k. value-forgotten v.dims x m k) h
