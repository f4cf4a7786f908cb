-- A half matrix rewritten row by row.
use Rattle.std.proofs.Common.{◌≡◌, ℕ, ◌+◌, ◌*◌, ◌<◌, ◌≤◌, ◌⊎◌, inl, inr, List, length, get_or, refl, sym, ap, ◌∙◌, arith}
use Rattle.std.specs.Prelude.{ℤ, pos}
use Rattle.oct_def.specs.Bound.{Bound, bound_of}
use Rattle.oct_def.specs.Table.{Matrix, at, table}
use Rattle.oct_def.specs.Matrix.{opposite, IsSquare, IsCoherent}
use Rattle.oct_def.proofs.Tables.{is-table}
use Rattle.oct_def.proofs.Indices.{opposite_below}
use Rattle.oct_def.proofs.Coherent.{twin}
use Rattle.half_matrix.specs.Place.{row_length}
use Rattle.half_matrix.specs.Lending.{with_row}
use Rattle.half_matrix.proofs.Written.{length-with_row, with_row-same, with_row-other}

-- rows made by a function of two indices: those below i are done, and the others are as they were; of each entry and its
-- twin only one is spoken of
pub record RowsDone (f : ℕ → ℕ → Bound) (m : Matrix) (i : ℕ) (now : Matrix) : Type 0 where
  pub size : length now ≡ length m
  pub done : (r c : ℕ) → r < i → r < length m → c < length m → c ≤ opposite r → at now r c ≡ f r c
  pub kept : (r c : ℕ) → i ≤ r → r < length m → c < length m → c ≤ opposite r → at now r c ≡ at m r c

pub no_rows : (f : ℕ → ℕ → Bound) (m : Matrix) → RowsDone f m 0 m
no_rows f m = record { size = refl; done = λ r c h p q o. absurd (omega arith); kept = λ r c h p q o. refl }

pub row_more : (f : ℕ → ℕ → Bound) (n i : ℕ) (m now : Matrix) (w : List ℤ) → length m ≡ 2 * n → i < 2 * n → RowsDone f m i now → length w ≡ row_length i
    → ((c : ℕ) → c < length m → c ≤ opposite i → bound_of (get_or w c (pos 0)) ≡ f i c) → RowsDone f m (i + 1) (with_row now i w)
row_more f n i m now w e hi s lw here = record {
  size = length-with_row now i w ∙ s.size;
  done = λ r c h p q o. by r c p q o (grind arith);
  kept = λ r c h p q o. with_row-other now i w r c (omega (arith, s.size)) (omega (arith, s.size)) lw o (inr (omega arith)) ∙ s.kept r c (omega arith) p q o;
}
  where
    by : (r c : ℕ) → r < length m → c < length m → c ≤ opposite r → (r ≡ i) ⊎ (r < i) → at (with_row now i w) r c ≡ f r c
    by r c p q o (inl same) =
        ap (λ t. at (with_row now i w) t c) same ∙ with_row-same now i w c (omega (arith, s.size)) (omega (arith, s.size)) lw (omega arith)
        ∙ here c q (omega arith) ∙ ap (λ t. f t c) (sym same)
    by r c p q o (inr before) = with_row-other now i w r c (omega (arith, s.size)) (omega (arith, s.size)) lw o (inl before) ∙ s.done r c before p q o

pub all_rows : (f : ℕ → ℕ → Bound) (n : ℕ) (m now : Matrix) → length m ≡ 2 * n → IsSquare now → IsCoherent now → ((i j : ℕ) → i < 2 * n → j < 2 * n → f i j ≡ f (opposite j) (opposite i)) → RowsDone f m (2 * n) now → now ≡ table (length m) f
all_rows f n m now e sq co twins s = is-table now (length m) f sq s.size (λ i j p q. by i j p q (grind arith))
  where
    by : (i j : ℕ) → i < length m → j < length m → (j ≤ opposite i) ⊎ (opposite i < j) → at now i j ≡ f i j
    by i j p q (inl own) = s.done i j (omega arith) p q own
    by i j p q (inr other) =
        let pi : opposite i < 2 * n = opposite_below n i (omega arith) in
        let pj : opposite j < 2 * n = opposite_below n j (omega arith) in
        twin n now (s.size ∙ e) co i j (omega arith) (omega arith)
        ∙ s.done (opposite j) (opposite i) (omega arith) (omega arith) (omega arith) (omega arith)
        ∙ sym (twins i j (omega arith) (omega arith))
