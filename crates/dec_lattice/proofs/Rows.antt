-- A matrix combined row by row.
use Rattle.std.proofs.Common.{◌≡◌, ℕ, ◌+◌, ◌*◌, ◌<◌, ◌≤◌, List, length, get_or, take, ap, ◌∙◌, arith}
use Rattle.std.specs.Prelude.{ℤ, pos}
use Rattle.std.proofs.lemmas.List.{get_or-take}
use Rattle.oct_def.specs.Bound.{bound_of}
use Rattle.oct_def.specs.Table.{Matrix, at}
use Rattle.oct_def.specs.Matrix.{opposite, IsSquare, IsCoherent}
use Rattle.half_matrix.specs.Place.{row_length}
use Rattle.half_matrix.specs.Lending.{with_row, IsRowOf}
use Rattle.tight_closure.proofs.Rows.{RowsDone, row_more, all_rows}
use Rattle.dec_lattice.specs.declared.operation.Operation.{Operation}
use Rattle.dec_lattice.specs.Operation.{combined, combined_entry, combined_matrix}

-- one row more
pub row-combined : (op : Operation) (n i : ℕ) (m x now : Matrix) (old w row cut : List ℤ) → length m ≡ 2 * n → length x ≡ length m → i < 2 * n
    → RowsDone (combined_entry op m x) m i now → length old ≡ row_length i → length w ≡ length old
    → ((j : ℕ) → j ≤ opposite i → bound_of (get_or old j (pos 0)) ≡ at now i j) → IsRowOf x i row → cut ≡ take (length old) row
    → ((j : ℕ) → j < length old → bound_of (get_or w j (pos 0)) ≡ combined op (bound_of (get_or old j (pos 0))) (bound_of (get_or cut j (pos 0))))
    → RowsDone (combined_entry op m x) m (i + 1) (with_row now i w)
unfolding combined_entry
row-combined op n i m x now old w row cut e f hi s lo lw held other ec each = row_more (combined_entry op m x) n i m now w e hi s (lw ∙ lo) (λ c p own.
    let first : bound_of (get_or old c (pos 0)) ≡ at m i c = held c own ∙ s.kept i c (omega arith) (omega arith) p own in
    let second : bound_of (get_or cut c (pos 0)) ≡ at x i c =
    ap (λ t. bound_of (get_or t c (pos 0))) ec ∙ ap bound_of (get_or-take (length old) row c (pos 0) (omega arith)) ∙ other.words c (omega arith) in
    each c (omega arith) ∙ ap (λ t. combined op t (bound_of (get_or cut c (pos 0)))) first ∙ ap (combined op (at m i c)) second)

-- all rows
pub all-combined : (op : Operation) (n : ℕ) (m x now : Matrix) → length m ≡ 2 * n → length x ≡ length m → IsCoherent m → IsCoherent x → IsSquare now → IsCoherent now → RowsDone (combined_entry op m x) m (2 * n) now → now ≡ combined_matrix op m x
unfolding combined_matrix combined_entry
all-combined op n m x now e f cm cx sq co s = all_rows (combined_entry op m x) n m now e sq co (λ i j p q.
    ap (λ t. combined op t (at x i j)) (cm.twins i j (omega arith) (omega arith))
    ∙ ap (combined op (at m (opposite j) (opposite i))) (cx.twins i j (omega arith) (omega arith))) s
