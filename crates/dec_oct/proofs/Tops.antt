-- The value without bounds.
use Rattle.std.proofs.Common.{◌≡◌, ℕ, ◌*◌, Bool, List, [], Some, refl, sym, ap, ◌∙◌, subst, arith}
use Rattle.oct_def.specs.Table.{Matrix}
use Rattle.oct_def.specs.Matrix.{IsEvenMatrix}
use Rattle.oct_def.specs.Octagon.{top_value, top_matrix, top_entry}
use Rattle.oct_def.proofs.Lattice.{octagon-top}
use Rattle.oct_def.proofs.Tables.{table-same, at-table, length-table}
use Rattle.block_partition.specs.Partition.{IsPartition}
use Rattle.block_laws.specs.Assembly.{assembly}
use Rattle.block_laws.specs.Components.{Joins, Linked, One, More}
use Rattle.block_laws.proofs.Assembly.{joint-not, assembly_entry-apart, top_entry-off}
use Rattle.dec_oct.specs.Value.{blocks_of, IsDecomposition, decomposed, octagon}

pub assembly-top : (n : ℕ) → assembly n [] [] ≡ top_matrix n
unfolding assembly top_matrix
assembly-top n = table-same (2 * n) _ top_entry (λ i j p q. assembly_entry-apart [] [] i j (joint-not [] i j (λ e h. absurd (omega arith))))

even-top : (n : ℕ) → IsEvenMatrix n (top_matrix n)
unfolding top_value
even-top n = octagon-top n

joins-top : (n u w : ℕ) → Joins (top_matrix n) u w → ⊥
unfolding top_matrix
joins-top n u w k =
    let l = length-table (2 * n) top_entry in
    let p = k.row_in in
    let q = k.column_in in
    k.finite (at-table (2 * n) top_entry k.row k.column (omega arith) (omega arith) ∙ top_entry-off k.row k.column k.apart)

linked-top : (n u w : ℕ) → Linked (top_matrix n) u w → ⊥
linked-top n u w (One _ _ k) = joins-top n u w k
linked-top n u w (More _ v _ k l) = linked-top n u v k

pub top-decomposition : (n : ℕ) (bs : List (List ℕ)) (ms : List Matrix) (marks : List Bool) → bs ≡ [] → ms ≡ [] → marks ≡ [] → IsDecomposition n (blocks_of bs ms marks)
top-decomposition n bs ms marks e f g = subst (λ x. IsDecomposition n (blocks_of x ms marks)) (sym e) (subst (λ x. IsDecomposition n (blocks_of [] x marks)) (sym f) (subst (λ x. IsDecomposition n (blocks_of [] [] x)) (sym g) d))
  where
    partition : IsPartition n []
    partition = record { blocks = λ b p. absurd (omega arith); homes = λ b i p. absurd (omega arith) }

    d : IsDecomposition n (blocks_of [] [] [])
    d = record {
      parts = record { partition = partition; count = refl; square = λ b p. absurd (omega arith); size = λ b p. absurd (omega arith) };
      ordered = record { filled = λ b p. absurd (omega arith); order = λ b c p q. absurd (omega arith) };
      components = record { partition = partition; exact = λ u w p q. (λ s. absurd (let t = s.1 in omega arith), λ l. absurd (linked-top n u w (subst (λ m. Linked m u w) (assembly-top n) l))) };
      value = subst (IsEvenMatrix n) (sym (assembly-top n)) (even-top n);
      marks = refl;
      settled = record { again = λ b p. absurd (omega arith) };
    }

pub top-view : (n : ℕ) (bs : List (List ℕ)) (ms : List Matrix) (marks : List Bool) → bs ≡ [] → ms ≡ [] → octagon (decomposed n (Some (blocks_of bs ms marks))) ≡ top_value n
unfolding top_value
top-view n bs ms marks e f = ap (λ m. record { dims = n; matrix = Some m }) (ap (λ x. assembly n x ms) e ∙ ap (assembly n []) f ∙ assembly-top n)
