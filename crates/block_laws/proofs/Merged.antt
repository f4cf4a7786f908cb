-- Parts after each is closed, and blocks that stay.
use Rattle.std.proofs.Common.{◌≡◌, ℕ, ◌<◌, List, length, Some, sym, ap, ◌∙◌, subst}
use Rattle.oct_def.specs.Table.{Matrix}
use Rattle.oct_def.specs.Matrix.{IsSquare}
use Rattle.oct_def.specs.Tight.{strong_entry, strengthening, tight}
use Rattle.oct_def.proofs.Tables.{square-table}
use Rattle.block_partition.specs.Partition.{block}
use Rattle.block_laws.specs.Assembly.{restrict, matrix, assembly, IsParts}
use Rattle.block_laws.proofs.Assembly.{restrict-assembly}
use Rattle.block_laws.proofs.Closing.{evened_closure, closed-from, length-evened, length-strengthening, strengthening-closed}

length-tight : (m x : Matrix) → tight m ≡ Some x → length x ≡ length m
length-tight m x h = ap length (closed-from m x h).result ∙ length-strengthening (evened_closure m) ∙ length-evened m

square-tight : (m x : Matrix) → tight m ≡ Some x → IsSquare x
unfolding strengthening
square-tight m x h = subst IsSquare (sym (closed-from m x h).result) (square-table (length (evened_closure m)) (strong_entry (evened_closure m)))

pub parts-tight : (n : ℕ) (bs : List (List ℕ)) (ms ns : List Matrix) → IsParts n bs ms → length ns ≡ length bs → ((b : ℕ) → b < length bs → tight (matrix ms b) ≡ Some (matrix ns b)) → IsParts n bs ns
parts-tight n bs ms ns ps e each = record {
  partition = ps.partition;
  count = e;
  square = λ b h. square-tight (matrix ms b) (matrix ns b) (each b h);
  size = λ b h. length-tight (matrix ms b) (matrix ns b) (each b h) ∙ ps.size b h;
}

-- a block that stays as it was keeps its matrix
pub kept-block : (n : ℕ) (bs : List (List ℕ)) (ms ns : List Matrix) (b : ℕ) (vs : List ℕ) → IsParts n bs ms → length ns ≡ length bs → ((b : ℕ) → b < length bs → tight (matrix ms b) ≡ Some (matrix ns b)) → b < length bs → vs ≡ block bs b → strengthening (restrict vs (assembly n bs ns)) ≡ matrix ns b
kept-block n bs ms ns b vs ps e each h same =
    ap (λ t. strengthening (restrict t (assembly n bs ns))) same
    ∙ ap strengthening (restrict-assembly n bs ns b (parts-tight n bs ms ns ps e each) h)
    ∙ strengthening-closed (length (block bs b)) (matrix ms b) (matrix ns b) (ps.size b h) (each b h)
