-- The marks of what is made of two values.
use Rattle.std.proofs.Common.{◌≡◌, ℕ, ◌*◌, ◌<◌, ◌⊎◌, inl, inr, Bool, true, List, length, Some, refl, sym, ap, ◌∙◌, subst, arith}
use Rattle.std.specs.Prelude.{pos}
use Rattle.oct_def.specs.Bound.{IsEven}
use Rattle.oct_def.specs.Table.{Matrix, at}
use Rattle.oct_def.specs.Matrix.{opposite, IsEvenMatrix}
use Rattle.oct_def.specs.Tight.{tight}
use Rattle.block_partition.specs.Partition.{member, IsIn, block, home, SameBlock, IsPartition}
use Rattle.block_partition.proofs.Places.{in-member, home_in, home-in}
use Rattle.block_partition.proofs.Unique.{IsRising, IsWithin, rising-unique}
use Rattle.block_laws.specs.Assembly.{outer, restrict, matrix, assembly, IsParts}
use Rattle.block_laws.specs.Components.{IsComponents}
use Rattle.block_laws.proofs.Places.{outer_below}
use Rattle.block_laws.proofs.Assembly.{length-assembly, restrict-assembly}
use Rattle.block_laws.proofs.Components.{linked-same}
use Rattle.block_laws.proofs.Lattice.{at-block}
use Rattle.dec_oct.specs.Value.{Blocks, blocks_of, whole, marked, IsSettled, IsDecomposition}
use Rattle.dec_oct.specs.Given.{IsEvenGiven, KeepsMarks}
use Rattle.dec_oct.proofs.Flags.{marked-again}
use Rattle.dec_oct.proofs.Results.{in_range-blocks}
use Rattle.dec_lattice.specs.declared.operation.Operation.{Operation}
use Rattle.dec_lattice.specs.Operation.{combined_matrix}
use Rattle.dec_lattice.specs.Over.{IsOver}
use Rattle.dec_lattice.specs.Marks.{IsEither, TellsEither, KeepsEither}
use Rattle.dec_lattice.proofs.Parts.{length-combined, combined-self, restrict-combined, combined-parts, even-combined, even-part}

-- the marks of parts that are marked blocks of either side are true
either-settled : (a b : Blocks) (bs : List (List ℕ)) (ms : List Matrix) (xs : List Bool) → length a.matrices ≡ length a.partition → length b.matrices ≡ length b.partition → IsSettled a.matrices a.marks → IsSettled b.matrices b.marks → length ms ≡ length bs → TellsEither a b bs ms xs → IsSettled ms xs
either-settled a b bs ms xs ca cb sa sb f t = record { again = λ k p g. by k ((t.exact k (omega arith)).0 g) }
  where
    by : (k : ℕ) → IsEither a b (block bs k) (matrix ms k) → tight (matrix ms k) ≡ Some (matrix ms k)
    by k (inl r) = marked-again a (block bs k) (matrix ms k) ca sa r
    by k (inr r) = marked-again b (block bs k) (matrix ms k) cb sb r

-- ---- what the combined parts are

-- the combined parts over the blocks of a partition
pub record ArePartsOver (op : Operation) (n : ℕ) (a b : Blocks) (ds : List (List ℕ)) (ms : List Matrix) (marks : List Bool) : Type 0 where
  pub first : IsDecomposition n a
  pub second : IsDecomposition n b
  pub over : IsOver op n a b ds
  pub count : length ms ≡ length ds
  pub each : (c : ℕ) → c < length ds → matrix ms c ≡ combined_matrix op (restrict (block ds c) (whole n a)) (restrict (block ds c) (whole n b))
  pub told : TellsEither a b ds ms marks

pub parts-over : (op : Operation) (n : ℕ) (a b : Blocks) (ds : List (List ℕ)) (ms : List Matrix) (marks : List Bool) → ArePartsOver op n a b ds ms marks
    → IsParts n ds ms × (assembly n ds ms ≡ combined_matrix op (whole n a) (whole n b))
parts-over op n a b ds ms marks h = combined-parts op n ds (whole n a) (whole n b) ms (length-assembly n a.partition a.matrices) h.over.partition h.over.apart h.count h.each

-- the part of the combined matrix
part-over : (op : Operation) (n : ℕ) (a b : Blocks) (ds : List (List ℕ)) (ms : List Matrix) (marks : List Bool) → ArePartsOver op n a b ds ms marks → (c : ℕ) → c < length ds → matrix ms c ≡ restrict (block ds c) (combined_matrix op (whole n a) (whole n b))
part-over op n a b ds ms marks h c p = h.each c p ∙ sym (restrict-combined op n (block ds c) (whole n a) (whole n b) (length-assembly n a.partition a.matrices) (h.over.partition.blocks c p))

pub given-over : (op : Operation) (n : ℕ) (a b : Blocks) (ds : List (List ℕ)) (ms : List Matrix) (marks : List Bool) → ArePartsOver op n a b ds ms marks → IsEvenGiven n (blocks_of ds ms marks)
given-over op n a b ds ms marks h = record {
  given = record {
    partition = h.over.partition;
    count = h.count;
    size = r.0.size;
    in_range = λ c p. in_range-blocks n ds ms r.0 even c (omega (arith, h.count));
    marks = h.told.size;
    settled = either-settled a b ds ms marks h.first.parts.count h.second.parts.count h.first.settled h.second.settled h.count h.told;
  };
  diagonal = λ c p i q. zero c p i q;
  even = λ c p. subst (λ m. (i : ℕ) → IsEven (at m i (opposite i))) (sym (part-over op n a b ds ms marks h c p)) (even-part n (block ds c) x value);
}
  where
    x : Matrix
    x = combined_matrix op (whole n a) (whole n b)

    r : IsParts n ds ms × (assembly n ds ms ≡ x)
    r = parts-over op n a b ds ms marks h

    value : IsEvenMatrix n x
    value = even-combined op n (whole n a) (whole n b) h.first.value h.second.value

    even : IsEvenMatrix n (assembly n ds ms)
    even = subst (IsEvenMatrix n) (sym r.1) value

    zero : (c : ℕ) → c < length ds → (i : ℕ) → i < length (matrix ms c) → at (matrix ms c) i i ≡ Some (pos 0)
    zero c p i q =
        let l = r.0.size c p in
        let o = outer_below n (block ds c) i (h.over.partition.blocks c p) (omega arith) in
        let z = even.matrix.rows in
        at-block n ds ms c i i r.0 p (omega arith) (omega arith) ∙ even.matrix.diagonal (outer (block ds c) i) (omega arith)

-- ---- a block of the result that is one of a side is a block of the partition

rising-block : (n : ℕ) (bs : List (List ℕ)) (b : ℕ) → IsPartition n bs → b < length bs → IsRising (block bs b)
rising-block n bs b pt h = record { rising = (pt.blocks b h).rising }

-- two blocks with the same variables are equal
same-block : (n : ℕ) (bs cs : List (List ℕ)) (b c : ℕ) → IsPartition n bs → IsPartition n cs → b < length bs → c < length cs → ((u : ℕ) → u < n → home bs u ≡ b → home cs u ≡ c) → ((u : ℕ) → u < n → home cs u ≡ c → home bs u ≡ b) → block bs b ≡ block cs c
same-block n bs cs b c pb pc h g to from = rising-unique (block bs b) (block cs c) (rising-block n bs b pb h) (rising-block n cs c pc g) (within bs cs b c pb h g to) (within cs bs c b pc g h from)
  where
    within : (xs ys : List (List ℕ)) (x y : ℕ) → IsPartition n xs → x < length xs → y < length ys → ((u : ℕ) → u < n → home xs u ≡ x → home ys u ≡ y) → IsWithin (block xs x) (block ys y)
    within xs ys x y px p q t = record {
      within = λ i k.
          let u = member (block xs x) i in
          let e : home ys u ≡ y = t u ((px.blocks x p).below i k) (px.homes x i p k) in
          subst (λ z. IsIn (block ys z) u) e (home_in ys u (omega arith));
    }

record IsPlaceOf (ds : List (List ℕ)) (vs : List ℕ) : Type 0 where
  pub place : ℕ
  pub within : place < length ds
  pub members : block ds place ≡ vs

place-of : (op : Operation) (n : ℕ) (a b r : Blocks) (ds xs : List (List ℕ)) (p c : ℕ) → IsOver op n a b ds → IsDecomposition n r → whole n r ≡ combined_matrix op (whole n a) (whole n b) → IsPartition n xs
    → ((u w : ℕ) → SameBlock a.partition u w × SameBlock b.partition u w → SameBlock xs u w) → p < length xs → c < length r.partition → block xs p ≡ block r.partition c → IsPlaceOf ds (block r.partition c)
place-of op n a b r ds xs p c o dr e px side h g f = record {
  place = k;
  within = shared.1;
  members = same-block n ds r.partition k c o.partition dr.parts.partition shared.1 g to from;
}
  where
    x : Matrix
    x = combined_matrix op (whole n a) (whole n b)

    size : length x ≡ 2 * n
    size = length-combined op (whole n a) (whole n b) ∙ length-assembly n a.partition a.matrices

    comps : IsComponents n r.partition x
    comps = subst (IsComponents n r.partition) e dr.components

    filled : 0 < length (block r.partition c)
    filled = dr.ordered.filled c g

    u : ℕ
    u = member (block r.partition c) 0

    small : u < n
    small = (dr.parts.partition.blocks c g).below 0 filled

    at_c : home r.partition u ≡ c
    at_c = dr.parts.partition.homes c 0 g filled

    -- variables of one block of the result are of one block of the partition
    inside : (v w : ℕ) → v < n → w < n → SameBlock r.partition v w → SameBlock ds v w
    inside v w i j s = linked-same n ds x size o.apart v w ((comps.exact v w i j).0 s)

    k : ℕ
    k = home ds u

    shared : SameBlock ds u u
    shared = inside u u small small (refl, omega (arith, at_c))

    at_p : home xs u ≡ p
    at_p = home-in n xs p u px h (subst (λ t. IsIn t u) (sym f) (in-member (block r.partition c) 0 filled))

    from : (w : ℕ) → w < n → home r.partition w ≡ c → home ds w ≡ k
    from w j q = sym (inside u w small j (at_c ∙ sym q, omega (arith, at_c))).0

    to : (w : ℕ) → w < n → home ds w ≡ k → home r.partition w ≡ c
    to w j q = by (o.close r.partition comps u w small j (sym q, shared.1))
      where
        by : (SameBlock a.partition u w × SameBlock b.partition u w) ⊎ SameBlock r.partition u w → home r.partition w ≡ c
        by (inl t) =
            let s = side u w t in
            let z : home xs w ≡ p = sym s.0 ∙ at_p in
            let i : IsIn (block xs p) w = subst (λ t. IsIn (block xs t) w) z (home_in xs w (omega arith)) in
            home-in n r.partition c w dr.parts.partition g (subst (λ t. IsIn t w) f i)
        by (inr s) = sym s.0 ∙ at_c

-- ---- the marks of the result

pub keeps-either : (op : Operation) (n : ℕ) (a b r : Blocks) (ds : List (List ℕ)) (ms : List Matrix) (marks : List Bool) → ArePartsOver op n a b ds ms marks → IsDecomposition n r → whole n r ≡ combined_matrix op (whole n a) (whole n b) → KeepsMarks (blocks_of ds ms marks) r → KeepsEither a b r
keeps-either op n a b r ds ms marks h dr e kept = record {
  one = λ c p m. one c p m;
  both = λ p q c i j k f g s t. one c k (side p q c i j k f g s t);
}
  where
    x : Matrix
    x = combined_matrix op (whole n a) (whole n b)

    known : (c : ℕ) → c < length r.partition → IsPlaceOf ds (block r.partition c) → IsEither a b (block r.partition c) (matrix r.matrices c) → marked r.marks c ≡ true
    known c p at m =
        let d : block ds at.place ≡ block r.partition c = at.members in
        let words : matrix ms at.place ≡ matrix r.matrices c =
        part-over op n a b ds ms marks h at.place at.within ∙ ap (λ t. restrict t x) d ∙ ap (restrict (block r.partition c)) (sym e) ∙ restrict-assembly n r.partition r.matrices c dr.parts p in
        kept.kept at.place c at.within p d ((h.told.exact at.place at.within).1 (subst (λ t. IsEither a b t (matrix ms at.place)) (sym d) (subst (IsEither a b (block r.partition c)) (sym words) m)))

    one : (c : ℕ) → c < length r.partition → IsEither a b (block r.partition c) (matrix r.matrices c) → marked r.marks c ≡ true
    one c p (inl m) = known c p (place-of op n a b r ds a.partition m.place c h.over dr e h.first.parts.partition (λ u w t. t.0) m.within p m.members) (inl m)
    one c p (inr m) = known c p (place-of op n a b r ds b.partition m.place c h.over dr e h.second.parts.partition (λ u w t. t.1) m.within p m.members) (inr m)

    side : (p q c : ℕ) → p < length a.partition → q < length b.partition → c < length r.partition → block a.partition p ≡ block r.partition c → block b.partition q ≡ block r.partition c
        → matrix a.matrices p ≡ matrix b.matrices q → (marked a.marks p ≡ true) ⊎ (marked b.marks q ≡ true) → IsEither a b (block r.partition c) (matrix r.matrices c)
    side p q c i j k f g s t = by t
      where
        vs : List ℕ
        vs = block r.partition c

        first : restrict vs (whole n a) ≡ matrix a.matrices p
        first = ap (λ t. restrict t (whole n a)) (sym f) ∙ restrict-assembly n a.partition a.matrices p h.first.parts i

        second : restrict vs (whole n b) ≡ matrix a.matrices p
        second = ap (λ t. restrict t (whole n b)) (sym g) ∙ restrict-assembly n b.partition b.matrices q h.second.parts j ∙ sym s

        words : matrix r.matrices c ≡ matrix a.matrices p
        words =
            sym (restrict-assembly n r.partition r.matrices c dr.parts k) ∙ ap (restrict vs) e
            ∙ restrict-combined op n vs (whole n a) (whole n b) (length-assembly n a.partition a.matrices) (dr.parts.partition.blocks c k)
            ∙ ap (λ t. combined_matrix op t (restrict vs (whole n b))) first ∙ ap (combined_matrix op (matrix a.matrices p)) second
            ∙ sym (combined-self op (matrix a.matrices p) (h.first.parts.square p i))

        by : (marked a.marks p ≡ true) ⊎ (marked b.marks q ≡ true) → IsEither a b vs (matrix r.matrices c)
        by (inl y) = inl (record { place = p; within = i; members = f; words = sym words; mark = y })
        by (inr y) = inr (record { place = q; within = j; members = g; words = sym (words ∙ s); mark = y })
