-- The whole matrix of blocks over more variables is the old one, extended.
use Rattle.std.proofs.Common.{◌≡◌, ℕ, ◌+◌, ◌*◌, ◌/◌, ◌<◌, ◌≤◌, ◌⊎◌, inl, inr, length, refl, sym, ◌∙◌, subst, arith}
use Rattle.std.proofs.lemmas.Bool.{cases_lt, lt-ltb, le-ltb}
use Rattle.oct_def.specs.Table.{Matrix, at}
use Rattle.oct_def.specs.Octagon.{top_entry}
use Rattle.oct_def.proofs.Tables.{is-table, square-table}
use Rattle.block_laws.specs.Assembly.{assembly_entry, assembly, IsParts}
use Rattle.block_laws.proofs.Assembly.{length-assembly, separated-assembly, joint-not}
use Rattle.transfer_def.specs.Dimensions.{extended_entry, extended}
use Rattle.dec_oct.specs.Value.{Blocks, whole}
use Rattle.dec_oct.proofs.Extended.{at-wider, placed-small}

inside : (n : ℕ) (m : Matrix) (i j : ℕ) → i < 2 * n → j < 2 * n → extended_entry n m i j ≡ at m i j
unfolding extended_entry
inside n m i j p q = rw (lt-ltb i (2 * n) p, lt-ltb j (2 * n) q) refl

past_row : (n : ℕ) (m : Matrix) (i j : ℕ) → 2 * n ≤ i → extended_entry n m i j ≡ top_entry i j
unfolding extended_entry
past_row n m i j p = rw (le-ltb i (2 * n) p) refl

past_column : (n : ℕ) (m : Matrix) (i j : ℕ) → i < 2 * n → 2 * n ≤ j → extended_entry n m i j ≡ top_entry i j
unfolding extended_entry
past_column n m i j p q = rw (lt-ltb i (2 * n) p, le-ltb j (2 * n) q) refl

pub whole-extended : (n k : ℕ) (b : Blocks) → IsParts n b.partition b.matrices → whole (n + k) b ≡ extended n k (whole n b)
unfolding extended assembly
whole-extended n k b ps = is-table (whole (n + k) b) (2 * (n + k)) (extended_entry n (whole n b)) (square-table (2 * (n + k)) (assembly_entry b.partition b.matrices)) (length-assembly (n + k) b.partition b.matrices) (λ i j p q. by i j p q (cases_lt i (2 * n)) (cases_lt j (2 * n)))
  where
    apart : (i j : ℕ) → i < 2 * (n + k) → j < 2 * (n + k) → (2 * n ≤ i) ⊎ (2 * n ≤ j) → at (whole (n + k) b) i j ≡ top_entry i j
    apart i j p q h = (separated-assembly (n + k) b.partition b.matrices).apart i j p q (joint-not b.partition i j (λ e f. far h (placed-small n b.partition (i / 2) ps.partition f) (placed-small n b.partition (j / 2) ps.partition (subst (λ t. t < length b.partition) e f))))
      where
        far : (2 * n ≤ i) ⊎ (2 * n ≤ j) → i / 2 < n → j / 2 < n → ⊥
        far (inl r) s t = absurd (omega arith)
        far (inr r) s t = absurd (omega arith)

    by : (i j : ℕ) → i < 2 * (n + k) → j < 2 * (n + k) → (i < 2 * n) ⊎ (2 * n ≤ i) → (j < 2 * n) ⊎ (2 * n ≤ j) → at (whole (n + k) b) i j ≡ extended_entry n (whole n b) i j
    by i j p q (inl r) (inl s) = at-wider n k b.partition b.matrices i j r s ∙ sym (inside n (whole n b) i j r s)
    by i j p q (inr r) _ = apart i j p q (inl r) ∙ sym (past_row n (whole n b) i j r)
    by i j p q (inl r) (inr s) = apart i j p q (inr s) ∙ sym (past_column n (whole n b) i j r s)
