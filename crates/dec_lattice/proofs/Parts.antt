-- Two matrices combined, and their parts.
use Rattle.std.proofs.Common.{◌≡◌, ℕ, ◌*◌, ◌<◌, ◌⊎◌, inl, inr, Bool, true, cond, List, length, Some, None, refl, sym, ap, ◌∙◌, subst, arith}
use Rattle.std.specs.Prelude.{int_le}
use Rattle.std.proofs.lemmas.Int.{ints}
use Rattle.oct_def.specs.Bound.{Bound, greatest, IsEven}
use Rattle.oct_def.specs.Table.{Matrix, at}
use Rattle.oct_def.specs.Matrix.{opposite, IsSquare, IsEvenMatrix}
use Rattle.oct_def.specs.Octagon.{join_entry, join_matrix, join_value, widen_entry, widen_matrix, widen_value, narrow_entry, narrow_matrix, narrow_value}
use Rattle.oct_def.proofs.Bounds.{greatest_is}
use Rattle.oct_def.proofs.Tables.{length-table, square-table, is-table}
use Rattle.oct_def.proofs.Lattice.{octagon-join, octagon-widen, octagon-narrow}
use Rattle.oct_def.proofs.Values.{EvenUnary, even_unary-table}
use Rattle.block_partition.specs.Partition.{block, IsBlock, IsPartition}
use Rattle.block_laws.specs.Assembly.{outer, restrict_entry, restrict, matrix, assembly, IsParts, IsSeparated}
use Rattle.block_laws.proofs.Places.{outer-opposite}
use Rattle.block_laws.proofs.Restrict.{length-restrict}
use Rattle.block_laws.proofs.Assembly.{assembly-is}
use Rattle.block_laws.proofs.Lattice.{at_each, restrict-each}
use Rattle.dec_oct.specs.Value.{octagon_of}
use Rattle.dec_oct.proofs.Cuts.{square-part}
use Rattle.dec_lattice.specs.declared.operation.Operation.{Operation}
use Rattle.dec_lattice.specs.declared.operation.Operation.TheVariants.{Join, Widening, Narrowing}
use Rattle.dec_lattice.specs.Operation.{combined, combined_entry, combined_matrix}

pub length-combined : (op : Operation) (a b : Matrix) → length (combined_matrix op a b) ≡ length a
unfolding combined_matrix
length-combined op a b = length-table (length a) (combined_entry op a b)

square-combined : (op : Operation) (a b : Matrix) → IsSquare (combined_matrix op a b)
unfolding combined_matrix
square-combined op a b = square-table (length a) (combined_entry op a b)

-- ---- a matrix combined with itself

combined-same : (op : Operation) (b : Bound) → combined op b b ≡ b
combined-same Join b = by (greatest_is b b)
  where
    by : (greatest b b ≡ b) ⊎ (greatest b b ≡ b) → greatest b b ≡ b
    by (inl e) = e
    by (inr e) = e
combined-same Widening None = refl
combined-same Widening (Some x) = let e : int_le x x ≡ true = grind (ints, arith) in ap (λ (t : Bool). cond {A = Bound} t (Some x) None) e
combined-same Narrowing None = refl
combined-same Narrowing (Some x) = refl

pub combined-self : (op : Operation) (m : Matrix) → IsSquare m → m ≡ combined_matrix op m m
unfolding combined_matrix combined_entry
combined-self op m sq = is-table m (length m) (combined_entry op m m) sq refl (λ i j p q. sym (combined-same op (at m i j)))

pub same-part : (op : Operation) (vs : List ℕ) (a b x y : Matrix) → x ≡ restrict vs a → y ≡ restrict vs b → x ≡ y → x ≡ combined_matrix op (restrict vs a) (restrict vs b)
same-part op vs a b x y e f g = e ∙ combined-self op (restrict vs a) (square-part vs a) ∙ ap (combined_matrix op (restrict vs a)) (sym e ∙ g ∙ f)

-- ---- parts

pub restrict-combined : (op : Operation) (n : ℕ) (vs : List ℕ) (a b : Matrix) → length a ≡ 2 * n → IsBlock n vs → restrict vs (combined_matrix op a b) ≡ combined_matrix op (restrict vs a) (restrict vs b)
unfolding combined_matrix combined_entry at_each
restrict-combined op n vs a b e bl = restrict-each (combined op) n vs a b e bl

-- the combined parts over blocks that the combined matrix keeps apart make it
pub combined-parts : (op : Operation) (n : ℕ) (ds : List (List ℕ)) (a b : Matrix) (ms : List Matrix) → length a ≡ 2 * n → IsPartition n ds → IsSeparated n ds (combined_matrix op a b) → length ms ≡ length ds
    → ((c : ℕ) → c < length ds → matrix ms c ≡ combined_matrix op (restrict (block ds c) a) (restrict (block ds c) b)) → IsParts n ds ms × (assembly n ds ms ≡ combined_matrix op a b)
combined-parts op n ds a b ms e pt sep size each = (
  record {
    partition = pt;
    count = size;
    square = λ c p. subst IsSquare (sym (each c p)) (square-combined op (restrict (block ds c) a) (restrict (block ds c) b));
    size = λ c p. ap length (each c p) ∙ length-combined op (restrict (block ds c) a) (restrict (block ds c) b) ∙ length-restrict (block ds c) a;
  },
  sym (assembly-is n ds (combined_matrix op a b) ms pt (square-combined op a b) (length-combined op a b ∙ e) sep (λ c p. each c p ∙ sym (restrict-combined op n (block ds c) a b e (pt.blocks c p)))),
)

-- ---- values

combined-join : (a b : Matrix) → combined_matrix Join a b ≡ join_matrix a b
unfolding combined_matrix combined_entry join_matrix join_entry
combined-join a b = refl

combined-widen : (a b : Matrix) → combined_matrix Widening a b ≡ widen_matrix a b
unfolding combined_matrix combined_entry widen_matrix widen_entry
combined-widen a b = refl

pub combined-narrow : (a b : Matrix) → combined_matrix Narrowing a b ≡ narrow_matrix a b
unfolding combined_matrix combined_entry narrow_matrix narrow_entry
combined-narrow a b = refl

pub even-combined : (op : Operation) (n : ℕ) (a b : Matrix) → IsEvenMatrix n a → IsEvenMatrix n b → IsEvenMatrix n (combined_matrix op a b)
unfolding join_value widen_value narrow_value
even-combined Join n a b va vb = subst (IsEvenMatrix n) (sym (combined-join a b)) (octagon-join (octagon_of n (Some a)) (octagon_of n (Some b)) va vb refl)
even-combined Widening n a b va vb = subst (IsEvenMatrix n) (sym (combined-widen a b)) (octagon-widen (octagon_of n (Some a)) (octagon_of n (Some b)) va vb refl)
even-combined Narrowing n a b va vb = subst (IsEvenMatrix n) (sym (combined-narrow a b)) (octagon-narrow (octagon_of n (Some a)) (octagon_of n (Some b)) va vb refl)

-- unary entries of a part
pub even-part : (n : ℕ) (vs : List ℕ) (m : Matrix) → IsEvenMatrix n m → (i : ℕ) → IsEven (at (restrict vs m) i (opposite i))
unfolding restrict restrict_entry EvenUnary
even-part n vs m v = even_unary-table (length vs) (restrict_entry vs m) (λ i p. subst (λ t. IsEven (at m (outer vs i) t)) (sym (outer-opposite vs i)) (v.even (outer vs i)))
