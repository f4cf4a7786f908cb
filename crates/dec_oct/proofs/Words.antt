-- Words of the strengthened assembly.
use Rattle.std.proofs.Common.{◌≡◌, ℕ, ◌+◌, ◌*◌, ◌/◌, ◌%◌, ◌<◌, List, length, refl, sym, ap, ◌∙◌, arith}
use Rattle.oct_def.specs.Bound.{least, plus, half}
use Rattle.oct_def.specs.Table.{Matrix, at}
use Rattle.oct_def.specs.Matrix.{opposite}
use Rattle.oct_def.specs.Tight.{strong_entry, strengthening}
use Rattle.block_partition.specs.Partition.{member, block, IsBlock}
use Rattle.block_laws.specs.Assembly.{outer, matrix, restrict, assembly, assembly_entry, IsParts}
use Rattle.block_laws.proofs.Assembly.{length-assembly, at-assembly, restrict-assembly}
use Rattle.block_laws.proofs.Restrict.{restrict-strengthening}
use Rattle.block_laws.proofs.Closing.{at-strengthening}
use Rattle.dec_oct.specs.Cut.{strong_assembly_entry}

pub outer-is : (vs : List ℕ) (i : ℕ) → 2 * member vs (i / 2) + i % 2 ≡ outer vs i
unfolding outer
outer-is vs i = refl

pub strong-is : (n : ℕ) (bs : List (List ℕ)) (ms : List Matrix) (i j : ℕ) → i < 2 * n → j < 2 * n → strong_assembly_entry bs ms i j ≡ at (strengthening (assembly n bs ms)) i j
unfolding strong_entry strong_assembly_entry
strong-is n bs ms i j p q =
    ap (λ t. least t (plus (half (assembly_entry bs ms i (opposite i))) (half (assembly_entry bs ms (opposite j) j)))) (sym (at-assembly n bs ms i j p q))
    ∙ ap (λ t. least (at (assembly n bs ms) i j) (plus (half t) (half (assembly_entry bs ms (opposite j) j)))) (sym (at-assembly n bs ms i (opposite i) p (omega arith)))
    ∙ ap (λ t. least (at (assembly n bs ms) i j) (plus (half (at (assembly n bs ms) i (opposite i))) (half t))) (sym (at-assembly n bs ms (opposite j) j (omega arith) q))
    ∙ sym (at-strengthening (assembly n bs ms) i j (omega (arith, length-assembly n bs ms)) (omega (arith, length-assembly n bs ms)))

-- the part of an assembly over a block
pub shared-part : (n : ℕ) (bs : List (List ℕ)) (ms : List Matrix) (vs : List ℕ) (x y : Matrix) (b : ℕ) → IsParts n bs ms → (b < length bs) × (block bs b ≡ vs) → y ≡ matrix ms b → x ≡ y → x ≡ restrict vs (assembly n bs ms)
shared-part n bs ms vs x y b ps at e f = f ∙ e ∙ sym (restrict-assembly n bs ms b ps at.0) ∙ ap (λ t. restrict t (assembly n bs ms)) at.1

-- and of the strengthened one, where the block is strengthened already
pub shared-strong : (n : ℕ) (bs : List (List ℕ)) (ms : List Matrix) (vs : List ℕ) (x y : Matrix) (b : ℕ) → IsParts n bs ms → IsBlock n vs → ((c : ℕ) → c < length bs → strengthening (matrix ms c) ≡ matrix ms c)
    → (b < length bs) × (block bs b ≡ vs) → y ≡ matrix ms b → x ≡ y → x ≡ restrict vs (strengthening (assembly n bs ms))
shared-strong n bs ms vs x y b ps bl strong at e f =
    f ∙ e ∙ sym (strong b at.0) ∙ ap strengthening (sym (restrict-assembly n bs ms b ps at.0) ∙ ap (λ t. restrict t (assembly n bs ms)) at.1)
    ∙ sym (restrict-strengthening n vs (assembly n bs ms) (length-assembly n bs ms) bl)

-- a stored entry lies in the matrix
pub stored-below : (n i j : ℕ) → i < 2 * n → j < opposite i + 1 → j < 2 * n
stored-below n i j p q = omega arith
