-- A decomposition over more variables, which have no bounds.
use Rattle.std.proofs.Common.{◌≡◌, ℕ, ◌+◌, ◌*◌, ◌<◌, ◌≤◌, List, length, Option, Some, None, sym, ◌∙◌, subst, arith}
use Rattle.oct_def.specs.Table.{Matrix, at}
use Rattle.oct_def.specs.Matrix.{IsEvenMatrix}
use Rattle.block_partition.specs.Partition.{block, home, SameBlock, IsPartition, IsIn}
use Rattle.block_partition.proofs.Places.{home_in, member-place}
use Rattle.block_laws.specs.Assembly.{assembly, IsParts}
use Rattle.block_laws.specs.Components.{Joins, Linked, One, More, IsComponents}
use Rattle.block_laws.proofs.Assembly.{length-assembly, at-assembly, separated-assembly, restrict-assembly}
use Rattle.block_laws.proofs.Components.{linked-same}
use Rattle.dec_oct.specs.Value.{Blocks, whole, decomposed, IsDecomposition, IsKeptBlocks, IsKept}
use Rattle.dec_oct.proofs.Assembled.{even-assembly}
use Rattle.dec_oct.proofs.Givens.{even-part}

pub partition-wider : (n k : ℕ) (bs : List (List ℕ)) → IsPartition n bs → IsPartition (n + k) bs
partition-wider n k bs p = record {
  blocks = λ b q. record { below = λ i r. let z = (p.blocks b q).below i r in omega arith; rising = (p.blocks b q).rising };
  homes = p.homes;
}

parts-wider : (n k : ℕ) (bs : List (List ℕ)) (ms : List Matrix) → IsParts n bs ms → IsParts (n + k) bs ms
parts-wider n k bs ms p = record { partition = partition-wider n k bs p.partition; count = p.count; square = p.square; size = p.size }

-- the old entries stand
pub at-wider : (n k : ℕ) (bs : List (List ℕ)) (ms : List Matrix) (i j : ℕ) → i < 2 * n → j < 2 * n → at (assembly (n + k) bs ms) i j ≡ at (assembly n bs ms) i j
at-wider n k bs ms i j p q = at-assembly (n + k) bs ms i j (omega arith) (omega arith) ∙ sym (at-assembly n bs ms i j p q)

joins-wider : (n k : ℕ) (bs : List (List ℕ)) (ms : List Matrix) (u w : ℕ) → Joins (assembly n bs ms) u w → Joins (assembly (n + k) bs ms) u w
joins-wider n k bs ms u w j =
    let e = length-assembly n bs ms in
    let f = length-assembly (n + k) bs ms in
    let p = j.row_in in
    let q = j.column_in in
    record {
      row = j.row;
      column = j.column;
      row_in = omega arith;
      column_in = omega arith;
      row_is = j.row_is;
      column_is = j.column_is;
      apart = j.apart;
      finite = subst (λ t. t ≡ None → ⊥) (sym (at-wider n k bs ms j.row j.column (omega arith) (omega arith))) j.finite;
    }

linked-wider : (n k : ℕ) (bs : List (List ℕ)) (ms : List Matrix) (u w : ℕ) → Linked (assembly n bs ms) u w → Linked (assembly (n + k) bs ms) u w
linked-wider n k bs ms u w (One _ _ j) = One u w (joins-wider n k bs ms u w j)
linked-wider n k bs ms u w (More _ v _ l j) = More u v w (linked-wider n k bs ms u v l) (linked-wider n k bs ms v w j)

-- a variable in a block is one of the first ones
pub placed-small : (n : ℕ) (bs : List (List ℕ)) (v : ℕ) → IsPartition n bs → home bs v < length bs → v < n
placed-small n bs v p h =
    let i : IsIn (block bs (home bs v)) v = home_in bs v h in
    subst (λ t. t < n) (member-place (block bs (home bs v)) v i) ((p.blocks (home bs v) h).below _ i)

components-wider : (n k : ℕ) (bs : List (List ℕ)) (ms : List Matrix) → IsParts n bs ms → IsComponents n bs (assembly n bs ms) → IsComponents (n + k) bs (assembly (n + k) bs ms)
components-wider n k bs ms ps c = record {
  partition = partition-wider n k bs c.partition;
  exact = λ u w p q. (there u w, linked-same (n + k) bs (assembly (n + k) bs ms) (length-assembly (n + k) bs ms) (separated-assembly (n + k) bs ms) u w);
}
  where
    there : (u w : ℕ) → SameBlock bs u w → Linked (assembly (n + k) bs ms) u w
    there u w s =
        let p = placed-small n bs u c.partition s.1 in
        let q = placed-small n bs w c.partition (subst (λ t. t < length bs) s.0 s.1) in
        linked-wider n k bs ms u w ((c.exact u w p q).0 s)

decomposition-wider : (n k : ℕ) (b : Blocks) → IsDecomposition n b → IsDecomposition (n + k) b
decomposition-wider n k b d = record {
  parts = parts-wider n k b.partition b.matrices d.parts;
  ordered = d.ordered;
  components = components-wider n k b.partition b.matrices d.parts d.components;
  value = even-assembly (n + k) b.partition b.matrices (parts-wider n k b.partition b.matrices d.parts) (λ c p.
      subst (IsEvenMatrix (length (block b.partition c))) (restrict-assembly n b.partition b.matrices c d.parts p) (even-part n (block b.partition c) (whole n b) (d.parts.partition.blocks c p) d.value));
  marks = d.marks;
  settled = d.settled;
}

pub kept-wider : (n k : ℕ) (o : Option Blocks) → n + k ≤ 512 → IsKept (decomposed n o) → IsKept (decomposed (n + k) o)
kept-wider n k o few h = record { small = few; blocks = by o h.blocks }
  where
    by : (o : Option Blocks) → IsKeptBlocks n o → IsKeptBlocks (n + k) o
    by None t = tt
    by (Some b) d = decomposition-wider n k b d
