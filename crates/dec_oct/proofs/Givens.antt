-- Parts of a matrix over blocks that keep it apart make it, and values are made of them.
use Rattle.std.proofs.Common.{◌≡◌, ℕ, ◌*◌, ◌<◌, Bool, true, List, length, Some, None, refl, sym, ap, ◌∙◌, subst, arith}
use Rattle.std.specs.Prelude.{pos, IfSome, Option}
use Rattle.std.proofs.lemmas.Int.{ints}
use Rattle.oct_def.specs.Bound.{Bound, InRange, IsEven, at_most}
use Rattle.oct_def.specs.Table.{Matrix, at}
use Rattle.oct_def.specs.Matrix.{opposite, IsSquare, IsCoherent, IsEvenMatrix}
use Rattle.oct_def.proofs.Coherent.{coherent-table}
use Rattle.oct_def.proofs.Values.{IsShape, LowDiagonal, IsLow, low, each-table, EvenUnary, even_unary-table}
use Rattle.block_partition.specs.Partition.{block, IsBlock, IsPartition}
use Rattle.block_laws.specs.Assembly.{outer, matrix, restrict_entry, restrict, assembly, IsParts, IsSeparated}
use Rattle.block_laws.proofs.Places.{outer_below, outer-opposite}
use Rattle.block_laws.proofs.Restrict.{length-restrict, at-restrict}
use Rattle.block_laws.proofs.Assembly.{assembly-is}
use Rattle.dec_oct.specs.Value.{Blocks, blocks_of, IsSettled}
use Rattle.dec_oct.specs.Given.{IsGiven, IsEvenGiven, IsLooseGiven}
use Rattle.dec_oct.proofs.Cuts.{square-part}

-- ---- a value that isn't Bottom

pub each-some : (o : Option Blocks) (P : Blocks → Type 0) → ((b : Blocks) → o ≡ Some b → P b) → IfSome o P
each-some None P h = tt
each-some (Some b) P h = h b refl

-- ---- the part of a value is a value

pub coherent-part : (n : ℕ) (vs : List ℕ) (m : Matrix) → IsBlock n vs → length m ≡ 2 * n → IsCoherent m → IsCoherent (restrict vs m)
unfolding restrict restrict_entry
coherent-part n vs m bl e c = coherent-table (length vs) (restrict_entry vs m) (λ i j p q.
    let x = outer_below n vs i bl p in
    let y = outer_below n vs j bl q in
    c.twins (outer vs i) (outer vs j) (omega arith) (omega arith)
    ∙ ap (λ t. at m t (opposite (outer vs i))) (sym (outer-opposite vs j))
    ∙ ap (at m (outer vs (opposite j))) (sym (outer-opposite vs i)))

pub in_range-part : (vs : List ℕ) (m : Matrix) → ((i j : ℕ) → InRange (at m i j)) → (i j : ℕ) → InRange (at (restrict vs m) i j)
unfolding restrict restrict_entry
in_range-part vs m h = each-table InRange tt (2 * length vs) (restrict_entry vs m) (λ i j p q. h (outer vs i) (outer vs j))

pub diagonal-part : (P : Bound → Type 0) (n : ℕ) (vs : List ℕ) (m : Matrix) → IsBlock n vs → length m ≡ 2 * n → ((i : ℕ) → i < length m → P (at m i i)) → (i : ℕ) → i < length (restrict vs m) → P (at (restrict vs m) i i)
diagonal-part P n vs m bl e h i p =
    let l = length-restrict vs m in
    let q : i < 2 * length vs = omega arith in
    let o = outer_below n vs i bl q in
    subst P (sym (at-restrict vs m i i q q)) (h (outer vs i) (omega arith))

pub unary-part : (vs : List ℕ) (m : Matrix) → ((i : ℕ) → IsEven (at m i (opposite i))) → (i : ℕ) → IsEven (at (restrict vs m) i (opposite i))
unfolding restrict restrict_entry EvenUnary
unary-part vs m h = even_unary-table (length vs) (restrict_entry vs m) (λ i p. subst (λ t. IsEven (at m (outer vs i) t)) (sym (outer-opposite vs i)) (h (outer vs i)))

pub even-part : (n : ℕ) (vs : List ℕ) (m : Matrix) → IsBlock n vs → IsEvenMatrix n m → IsEvenMatrix (length vs) (restrict vs m)
even-part n vs m bl v = record {
  matrix = record {
    rows = length-restrict vs m;
    square = square-part vs m;
    coherent = coherent-part n vs m bl v.matrix.rows v.matrix.coherent;
    in_range = in_range-part vs m v.matrix.in_range;
    diagonal = diagonal-part (λ t. t ≡ Some (pos 0)) n vs m bl v.matrix.rows v.matrix.diagonal;
  };
  even = unary-part vs m v.even;
}

-- ---- parts of a matrix

pub record ArePartsOf (n : ℕ) (x : Matrix) (ds : List (List ℕ)) (ms : List Matrix) : Type 0 where
  pub partition : IsPartition n ds
  pub apart : IsSeparated n ds x
  pub count : length ms ≡ length ds
  pub each : (c : ℕ) → c < length ds → matrix ms c ≡ restrict (block ds c) x

pub parts-of : (n : ℕ) (x : Matrix) (ds : List (List ℕ)) (ms : List Matrix) → ArePartsOf n x ds ms → IsParts n ds ms
parts-of n x ds ms p = record {
  partition = p.partition;
  count = p.count;
  square = λ c q. subst IsSquare (sym (p.each c q)) (square-part (block ds c) x);
  size = λ c q. ap length (p.each c q) ∙ length-restrict (block ds c) x;
}

pub whole-of : (n : ℕ) (x : Matrix) (ds : List (List ℕ)) (ms : List Matrix) → IsSquare x → length x ≡ 2 * n → ArePartsOf n x ds ms → assembly n ds ms ≡ x
whole-of n x ds ms sq e p = sym (assembly-is n ds x ms p.partition sq e p.apart p.each)

pub given-of : (n : ℕ) (x : Matrix) (ds : List (List ℕ)) (ms : List Matrix) (marks : List Bool) → ((i j : ℕ) → InRange (at x i j)) → ArePartsOf n x ds ms → length marks ≡ length ds → IsSettled ms marks → IsGiven n (blocks_of ds ms marks)
given-of n x ds ms marks h p size s = record {
  partition = p.partition;
  count = p.count;
  size = λ c q. ap length (p.each c q) ∙ length-restrict (block ds c) x;
  in_range = λ c q. subst (λ m. (i j : ℕ) → InRange (at m i j)) (sym (p.each c q)) (in_range-part (block ds c) x h);
  marks = size;
  settled = s;
}

pub even_given-of : (n : ℕ) (x : Matrix) (ds : List (List ℕ)) (ms : List Matrix) (marks : List Bool) → IsEvenMatrix n x → ArePartsOf n x ds ms → length marks ≡ length ds → IsSettled ms marks → IsEvenGiven n (blocks_of ds ms marks)
even_given-of n x ds ms marks v p size s = record {
  given = given-of n x ds ms marks v.matrix.in_range p size s;
  diagonal = λ c q. subst (λ m. (i : ℕ) → i < length m → at m i i ≡ Some (pos 0)) (sym (p.each c q)) (diagonal-part (λ t. t ≡ Some (pos 0)) n (block ds c) x (p.partition.blocks c q) v.matrix.rows v.matrix.diagonal);
  even = λ c q. subst (λ m. (i : ℕ) → IsEven (at m i (opposite i))) (sym (p.each c q)) (unary-part (block ds c) x v.even);
}

at_most-low : (b : Bound) → IsLow b → at_most b (Some (pos 0)) ≡ true
at_most-low b (low x e h) = ap (λ t. at_most t (Some (pos 0))) e ∙ grind (arith, ints, h)

pub loose_given-of : (n : ℕ) (x : Matrix) (ds : List (List ℕ)) (ms : List Matrix) (marks : List Bool) → IsShape n x → LowDiagonal x → ArePartsOf n x ds ms → length marks ≡ length ds → IsSettled ms marks → IsLooseGiven n (blocks_of ds ms marks)
unfolding LowDiagonal
loose_given-of n x ds ms marks v l p size s = record {
  given = given-of n x ds ms marks v.in_range p size s;
  diagonal = λ c q i r. at_most-low (at (matrix ms c) i i) (subst (λ m. (i : ℕ) → i < length m → IsLow (at m i i)) (sym (p.each c q)) (diagonal-part IsLow n (block ds c) x (p.partition.blocks c q) v.rows l) i r);
}
