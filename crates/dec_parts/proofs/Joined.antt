-- Blocks that listed bounds join keep apart what no bound joins, and are the components of the matrix that takes the bounds.
use Rattle.std.proofs.Common.{◌≡◌, ℕ, ◌+◌, ◌*◌, ◌/◌, ◌<◌, ◌≤◌, ◌⊎◌, inl, inr, Bool, true, false, List, [], ◌∷◌, length, Some, None, refl, sym, ap, ◌∙◌, subst, arith, zero, suc}
use Rattle.std.specs.Prelude.{pos}
use Rattle.std.specs.List.{All}
use Rattle.std.proofs.lemmas.Bool.{cases_eq, cases_Bool, cond-false}
use Rattle.std.proofs.lemmas.Int.{ints}
use Rattle.oct_def.specs.Bound.{Bound, InRange, least, bound_of}
use Rattle.oct_def.specs.Table.{Matrix, at}
use Rattle.oct_def.specs.Matrix.{opposite, IsCoherent, IsEvenMatrix}
use Rattle.oct_def.specs.Octagon.{top_entry}
use Rattle.oct_def.proofs.Orders.{least_none, least_comm}
use Rattle.oct_def.proofs.Tables.{length-table, at-table, square-table}
use Rattle.oct_def.proofs.Coherent.{coherent-table}
use Rattle.oct_def.proofs.Indices.{opposite_twice}
use Rattle.oct_def.proofs.Values.{IsShape, LowDiagonal, IsLow, low, low-least, each-table, in_range-least}
use Rattle.oct_def.proofs.WordBounds.{bound_of-other}
use Rattle.interval_form.specs.declared.constraints.OctBound.{OctBound}
use Rattle.interval_form.specs.Listed.{IsPlaced}
use Rattle.interval_form.specs.Listing.{is_at, listed}
use Rattle.block_partition.specs.Partition.{member, block, home, SameBlock, IsPartition}
use Rattle.block_partition.specs.Changes.{IsNear, IsMergedBy}
use Rattle.block_laws.specs.Assembly.{is_joint, matrix, assembly, IsSeparated}
use Rattle.block_laws.specs.Components.{Joins, Linked, One, More, IsComponents}
use Rattle.block_laws.proofs.Assembly.{joint-from, joint-not, separated-assembly}
use Rattle.block_laws.proofs.Components.{linked-same, same_block-sym}
use Rattle.dec_oct.specs.Value.{Blocks, blocks_of, whole, IsDecomposition, IsSettled}
use Rattle.dec_oct.proofs.Walks.{joins-at, joins-turned}
use Rattle.dec_oct.proofs.Extended.{placed-small}
use Rattle.dec_oct.proofs.Flags.{marked-again}
use Rattle.dec_oct.proofs.Givens.{ArePartsOf, parts-of, whole-of, loose_given-of}
use Rattle.dec_parts.specs.Lower.{bound_in, lowered_entry, lowered_matrix, AreOffDiagonal, IsLowered}
use Rattle.dec_parts.specs.Joined.{first_of, second_of, AreLinked, IsJoinedBy, AreLoweredParts}
use Rattle.dec_parts.proofs.Taken.{one, at-is, one-here, in_range-one, listed-more}

-- ---- links go both ways

pub linked-turned : (n : ℕ) (m : Matrix) → length m ≡ 2 * n → IsCoherent m → (u w : ℕ) → Linked m u w → Linked m w u
linked-turned n m e co u w (One _ _ j) = One w u (joins-turned n m u w e co j)
linked-turned n m e co u w (More _ v _ h k) = More w v u (linked-turned n m e co v w k) (linked-turned n m e co u v h)

-- ---- one more bound

pub joined-start : (n : ℕ) (bs cs : List (List ℕ)) (bounds : List OctBound) → IsPartition n bs → cs ≡ bs → IsJoinedBy n bs bounds 0 cs
joined-start n bs cs bounds p e = subst (IsJoinedBy n bs bounds 0) (sym e) (record {
  partition = p;
  old = λ u w s. s;
  together = λ i q. absurd (omega arith);
  close = λ x h u w s. h.old u w s;
})

fewer : (n : ℕ) (bs : List (List ℕ)) (bounds : List OctBound) (k : ℕ) (x : Matrix) → AreLinked n bs bounds (k + 1) x → AreLinked n bs bounds k x
fewer n bs bounds k x h = record { rows = h.rows; coherent = h.coherent; old = h.old; bounds_in = λ i p. h.bounds_in i (omega arith) }

joined-same : (n : ℕ) (bs cs ds : List (List ℕ)) (bounds : List OctBound) (k : ℕ) → IsJoinedBy n bs bounds k cs → ds ≡ cs → SameBlock ds (first_of bounds k) (second_of bounds k) → IsJoinedBy n bs bounds (k + 1) ds
joined-same n bs cs ds bounds k h e s = record {
  partition = subst (IsPartition n) (sym e) h.partition;
  old = λ u w t. subst (λ z. SameBlock z u w) (sym e) (h.old u w t);
  together = λ i p. by i p (cases_eq i k);
  close = λ x l u w t. h.close x (fewer n bs bounds k x l) u w (subst (λ z. SameBlock z u w) e t);
}
  where
    by : (i : ℕ) → i < k + 1 → (i ≡ k) ⊎ (i ≡ k → ⊥) → SameBlock ds (first_of bounds i) (second_of bounds i)
    by i p (inl f) = subst (λ z. SameBlock ds (first_of bounds z) (second_of bounds z)) (sym f) s
    by i p (inr d) = subst (λ z. SameBlock z (first_of bounds i) (second_of bounds i)) (sym e) (h.together i (grind (arith, d)))

-- what is near two variables
data Near (cs : List (List ℕ)) (a b v : ℕ) : Type 0 where
  is_first : a ≡ v → Near cs a b v
  is_second : b ≡ v → Near cs a b v
  with_first : SameBlock cs a v → Near cs a b v
  with_second : SameBlock cs b v → Near cs a b v

joined-merged : (n : ℕ) (bs cs ds : List (List ℕ)) (bounds : List OctBound) (k : ℕ) → n ≤ 512 → first_of bounds k < n → second_of bounds k < n → IsJoinedBy n bs bounds k cs → IsPartition 512 ds → IsMergedBy cs (first_of bounds k ∷ second_of bounds k ∷ []) ds
    → SameBlock ds (first_of bounds k) (second_of bounds k) → IsJoinedBy n bs bounds (k + 1) ds
joined-merged n bs cs ds bounds k few pa pb h pd mg s = record {
  partition = record {
    blocks = λ b q. record { below = λ i r. small (member (block ds b) i) (subst (λ t. t < length ds) (sym (pd.homes b i q r)) q) ((pd.blocks b q).below i r); rising = (pd.blocks b q).rising };
    homes = pd.homes;
  };
  old = λ u w t. kept u w (h.old u w t);
  together = λ i p. by i p (cases_eq i k);
  close = λ x l u w t. close x l u w t;
}
  where
    a : ℕ
    a = first_of bounds k

    b : ℕ
    b = second_of bounds k

    in_cs : (v w : ℕ) → SameBlock cs v w → (v < n) × (w < n)
    in_cs v w t = (placed-small n cs v h.partition t.1, placed-small n cs w h.partition (subst (λ z. z < length cs) t.0 t.1))

    near : (v : ℕ) → IsNear cs (a ∷ b ∷ []) v → Near cs a b v
    near v (zero, p, inl e) = is_first e
    near v (zero, p, inr t) = with_first t
    near v (suc zero, p, inl e) = is_second e
    near v (suc zero, p, inr t) = with_second t
    near v (suc (suc i), p, t) = absurd (omega arith)

    near-small : (v : ℕ) → Near cs a b v → v < n
    near-small v (is_first e) = subst (λ t. t < n) e pa
    near-small v (is_second e) = subst (λ t. t < n) e pb
    near-small v (with_first t) = (in_cs a v t).1
    near-small v (with_second t) = (in_cs b v t).1

    small : (v : ℕ) → home ds v < length ds → v < 512 → v < n
    small v q r = which ((mg.exact v v r r).0 (refl, q))
      where
        which : SameBlock cs v v ⊎ (IsNear cs (a ∷ b ∷ []) v × IsNear cs (a ∷ b ∷ []) v) → v < n
        which (inl t) = (in_cs v v t).0
        which (inr t) = near-small v (near v t.0)

    kept : (u w : ℕ) → SameBlock cs u w → SameBlock ds u w
    kept u w t = let r = in_cs u w t in (mg.exact u w (omega (arith, r.0)) (omega (arith, r.1))).1 (inl t)

    by : (i : ℕ) → i < k + 1 → (i ≡ k) ⊎ (i ≡ k → ⊥) → SameBlock ds (first_of bounds i) (second_of bounds i)
    by i p (inl f) = subst (λ z. SameBlock ds (first_of bounds z) (second_of bounds z)) (sym f) s
    by i p (inr d) = kept _ _ (h.together i (grind (arith, d)))

    close : (x : Matrix) → AreLinked n bs bounds (k + 1) x → (u w : ℕ) → SameBlock ds u w → Linked x u w
    close x l u w t = which ((mg.exact u w pu pw).0 t)
      where
        pu : u < 512
        pu = placed-small 512 ds u pd t.1

        pw : w < 512
        pw = placed-small 512 ds w pd (subst (λ z. z < length ds) t.0 t.1)

        before : (y z : ℕ) → SameBlock cs y z → Linked x y z
        before y z r = h.close x (fewer n bs bounds k x l) y z r

        ab : Linked x a b
        ab = l.bounds_in k (omega arith)

        ba : Linked x b a
        ba = linked-turned n x l.rows l.coherent a b ab

        to : (v : ℕ) → Near cs a b v → Linked x a v
        to v (is_first e) = subst (Linked x a) e (More a b a ab ba)
        to v (is_second e) = subst (Linked x a) e ab
        to v (with_first r) = before a v r
        to v (with_second r) = More a b v ab (before b v r)

        which : SameBlock cs u w ⊎ (IsNear cs (a ∷ b ∷ []) u × IsNear cs (a ∷ b ∷ []) w) → Linked x u w
        which (inl r) = before u w r
        which (inr r) = More u a w (linked-turned n x l.rows l.coherent a u (to u (near u r.0))) (to w (near w r.1))

pub joined-more : (n : ℕ) (bs cs ds : List (List ℕ)) (bounds : List OctBound) (k : ℕ) → n ≤ 512 → first_of bounds k < n → second_of bounds k < n → IsJoinedBy n bs bounds k cs → IsPartition 512 ds
    → SameBlock ds (first_of bounds k) (second_of bounds k) × ((ds ≡ cs) ⊎ IsMergedBy cs (first_of bounds k ∷ second_of bounds k ∷ []) ds) → IsJoinedBy n bs bounds (k + 1) ds
joined-more n bs cs ds bounds k few pa pb h pd (s, inl e) = joined-same n bs cs ds bounds k h e s
joined-more n bs cs ds bounds k few pa pb h pd (s, inr mg) = joined-merged n bs cs ds bounds k few pa pb h pd mg s

-- ---- the matrix

pub length-lowered : (n : ℕ) (bounds : List OctBound) (x : Matrix) → length (lowered_matrix n bounds x) ≡ 2 * n
unfolding lowered_matrix
length-lowered n bounds x = length-table (2 * n) (lowered_entry bounds x)

pub at-lowered : (n : ℕ) (bounds : List OctBound) (x : Matrix) (i j : ℕ) → i < 2 * n → j < 2 * n → at (lowered_matrix n bounds x) i j ≡ lowered_entry bounds x i j
unfolding lowered_matrix
at-lowered n bounds x i j p q = at-table (2 * n) (lowered_entry bounds x) i j p q

pub coherent-lowered : (n : ℕ) (bounds : List OctBound) (x : Matrix) → length x ≡ 2 * n → IsCoherent x → IsCoherent (lowered_matrix n bounds x)
unfolding lowered_matrix lowered_entry
coherent-lowered n bounds x e co = coherent-table n (lowered_entry bounds x) (λ i j p q.
    ap (λ t. least t (least (listed bounds i j) (listed bounds (opposite j) (opposite i)))) (co.twins i j (omega arith) (omega arith))
    ∙ ap (least (at x (opposite j) (opposite i))) (
    least_comm (listed bounds i j) (listed bounds (opposite j) (opposite i))
    ∙ ap (least (listed bounds (opposite j) (opposite i))) (sym (ap (λ t. listed bounds t (opposite (opposite j))) (opposite_twice i) ∙ ap (listed bounds i) (opposite_twice j)))
    ))

-- nothing is listed where no bound stands
pub listed-none : (bounds : List OctBound) (i j : ℕ) → ((k : ℕ) → k < length bounds → (bound_in bounds k).row ≡ i → (bound_in bounds k).column ≡ j → ⊥) → listed bounds i j ≡ None
unfolding one
listed-none [] i j d = refl
listed-none (b ∷ bs) i j d = listed-more b bs i j ∙ by (cases_Bool (is_at b i j)) (listed-none bs i j (λ k p e f. d (suc k) (omega arith) e f))
  where
    by : (is_at b i j ≡ true) ⊎ (is_at b i j ≡ false) → listed bs i j ≡ None → least (one b i j) (listed bs i j) ≡ None
    by (inl e) rest = let r = at-is b i j e in absurd (d 0 (omega arith) r.0 r.1)
    by (inr e) rest = ap (λ t. least t (listed bs i j)) (cond-false _ _ _ e) ∙ rest

-- ---- what is kept apart

pub separated-lowered : (n : ℕ) (a : Blocks) (bounds : List OctBound) (cs : List (List ℕ)) → IsDecomposition n a → IsJoinedBy n a.partition bounds (length bounds) cs → IsSeparated n cs (lowered_matrix n bounds (whole n a))
unfolding lowered_entry
separated-lowered n a bounds cs d h = record { apart = λ i j p q t. at-lowered n bounds (whole n a) i j p q ∙ by i j p q t }
  where
    bs : List (List ℕ)
    bs = a.partition

    not_together : (i j : ℕ) → is_joint cs i j ≡ false → SameBlock cs (i / 2) (j / 2) → ⊥
    not_together i j t s = let g = joint-from cs i j s.0 s.1 in cc

    old : (i j : ℕ) → i < 2 * n → j < 2 * n → is_joint cs i j ≡ false → at (whole n a) i j ≡ top_entry i j
    old i j p q t = (separated-assembly n bs a.matrices).apart i j p q (joint-not bs i j (λ e f. not_together i j t (h.old (i / 2) (j / 2) (e, f))))

    here : (i j : ℕ) → is_joint cs i j ≡ false → listed bounds i j ≡ None
    here i j t = listed-none bounds i j (λ k p e f. not_together i j t (subst (λ z. SameBlock cs (z / 2) (j / 2)) e (subst (λ z. SameBlock cs (first_of bounds k) (z / 2)) f (h.together k p))))

    there : (i j : ℕ) → is_joint cs i j ≡ false → listed bounds (opposite j) (opposite i) ≡ None
    there i j t = listed-none bounds (opposite j) (opposite i) (λ k p e f.
        let x : (bound_in bounds k).row / 2 ≡ j / 2 = ap (λ z. z / 2) e ∙ omega arith in
        let y : (bound_in bounds k).column / 2 ≡ i / 2 = ap (λ z. z / 2) f ∙ omega arith in
        not_together i j t (same_block-sym cs (j / 2) (i / 2) (subst (λ z. SameBlock cs z (i / 2)) x (subst (SameBlock cs (first_of bounds k)) y (h.together k p)))))

    by : (i j : ℕ) → i < 2 * n → j < 2 * n → is_joint cs i j ≡ false → lowered_entry bounds (whole n a) i j ≡ top_entry i j
    by i j p q t =
        ap (λ z. least (at (whole n a) i j) (least z (listed bounds (opposite j) (opposite i)))) (here i j t)
        ∙ ap (λ z. least (at (whole n a) i j) (least None z)) (there i j t) ∙ least_none (at (whole n a) i j) ∙ old i j p q t

-- ---- the blocks are the components

finite-left : (b c : Bound) → (b ≡ None → ⊥) → least b c ≡ None → ⊥
finite-left None c h = absurd (h refl)
finite-left (Some x) None h = h
finite-left (Some x) (Some y) h = λ e. cc

finite-right : (b c : Bound) → (c ≡ None → ⊥) → least b c ≡ None → ⊥
finite-right b c h = subst (λ t. t ≡ None → ⊥) (least_comm c b) (finite-left c b h)

-- a word between the limits is a bound
pub word-bound : (n : ℕ) (b : OctBound) → IsPlaced n b → bound_of b.word ≡ Some b.word
word-bound n b p = bound_of-other b.word (λ e. let h = p.high in omega (arith, ints))

pub placed-in : (n : ℕ) (bounds : List OctBound) (k : ℕ) → All (IsPlaced n) bounds → k < length bounds → IsPlaced n (bound_in bounds k)
placed-in n bounds k h p = h k _ p

-- a bound is listed at its place
pub listed-finite : (n : ℕ) (bounds : List OctBound) (k : ℕ) → All (IsPlaced n) bounds → k < length bounds → listed bounds (bound_in bounds k).row (bound_in bounds k).column ≡ None → ⊥
listed-finite n [] k h p = absurd (omega arith)
listed-finite n (b ∷ bs) zero h p =
    let w = word-bound n b (h 0 b p) in
    subst (λ t. t ≡ None → ⊥) (sym (listed-more b bs b.row b.column)) (finite-left (one b b.row b.column) (listed bs b.row b.column) (λ e.
    let f : Some b.word ≡ None = sym (one-here b b.row b.column refl refl ∙ w) ∙ e in cc))
listed-finite n (b ∷ bs) (suc k) h p =
    let c = bound_in bs k in
    subst (λ t. t ≡ None → ⊥) (sym (listed-more b bs c.row c.column)) (finite-right (one b c.row c.column) (listed bs c.row c.column) (listed-finite n bs k (λ i d q. h (suc i) d (omega arith)) (omega arith)))

pub components-lowered : (n : ℕ) (a : Blocks) (bounds : List OctBound) (cs : List (List ℕ)) → IsDecomposition n a → All (IsPlaced n) bounds → AreOffDiagonal bounds → IsJoinedBy n a.partition bounds (length bounds) cs → IsComponents n cs (lowered_matrix n bounds (whole n a))
unfolding lowered_entry
components-lowered n a bounds cs d placed off h = record {
  partition = h.partition;
  exact = λ u w p q. (h.close x linked u w, linked-same n cs x (length-lowered n bounds (whole n a)) (separated-lowered n a bounds cs d h) u w);
}
  where
    x : Matrix
    x = lowered_matrix n bounds (whole n a)

    rows : length x ≡ 2 * n
    rows = length-lowered n bounds (whole n a)

    -- links of the value stay
    joins : (u w : ℕ) → Joins (whole n a) u w → Joins x u w
    joins u w j =
        let r = d.value.matrix.rows in
        let p = j.row_in in
        let q = j.column_in in
        joins-at x u w j.row j.column (omega (arith, rows)) (omega (arith, rows)) j.row_is j.column_is (
          j.apart,
          subst (λ t. t ≡ None → ⊥) (sym (at-lowered n bounds (whole n a) j.row j.column (omega arith) (omega arith))) (finite-left (at (whole n a) j.row j.column) _ j.finite),
        )

    links : (u w : ℕ) → Linked (whole n a) u w → Linked x u w
    links u w (One _ _ j) = One u w (joins u w j)
    links u w (More _ v _ k l) = More u v w (links u v k) (links v w l)

    linked : AreLinked n a.partition bounds (length bounds) x
    linked = record {
      rows = rows;
      coherent = coherent-lowered n bounds (whole n a) d.value.matrix.rows d.value.matrix.coherent;
      old = λ u w s. links u w ((d.components.exact u w (placed-small n a.partition u d.parts.partition s.1) (placed-small n a.partition w d.parts.partition (subst (λ t. t < length a.partition) s.0 s.1))).0 s);
      bounds_in = λ i p.
          let b = bound_in bounds i in
          let z = placed-in n bounds i placed p in
          let r = z.row in
          let c = z.column in
          One _ _ (joins-at x (b.row / 2) (b.column / 2) b.row b.column (omega (arith, rows)) (omega (arith, rows)) refl refl (
            off i p,
            subst (λ t. t ≡ None → ⊥) (sym (at-lowered n bounds (whole n a) b.row b.column r c))
                (finite-right (at (whole n a) b.row b.column) _ (finite-left (listed bounds b.row b.column) _ (listed-finite n bounds i placed p))),
          ));
    }

-- ---- the shape of the matrix

in_range-listed : (n : ℕ) (bounds : List OctBound) (i j : ℕ) → All (IsPlaced n) bounds → InRange (listed bounds i j)
in_range-listed n [] i j h = tt
in_range-listed n (b ∷ bs) i j h = subst InRange (sym (listed-more b bs i j)) (in_range-least (one b i j) (listed bs i j) first (in_range-listed n bs i j (λ k d p. h (suc k) d (omega arith))))
  where
    first : InRange (one b i j)
    first = in_range-one n b i j (h 0 b (omega arith))

pub shape-lowered : (n : ℕ) (bounds : List OctBound) (x : Matrix) → IsEvenMatrix n x → All (IsPlaced n) bounds → IsShape n (lowered_matrix n bounds x)
unfolding lowered_matrix lowered_entry
shape-lowered n bounds x v h = record {
  rows = length-lowered n bounds x;
  square = square-table (2 * n) (lowered_entry bounds x);
  coherent = coherent-lowered n bounds x v.matrix.rows v.matrix.coherent;
  in_range = each-table InRange tt (2 * n) (lowered_entry bounds x) (λ i j p q. in_range-least (at x i j) _ (v.matrix.in_range i j) (in_range-least (listed bounds i j) (listed bounds (opposite j) (opposite i)) (in_range-listed n bounds i j h) (in_range-listed n bounds (opposite j) (opposite i) h)));
}

pub low-lowered : (n : ℕ) (bounds : List OctBound) (x : Matrix) → IsEvenMatrix n x → LowDiagonal (lowered_matrix n bounds x)
unfolding LowDiagonal lowered_entry
low-lowered n bounds x v = λ i p.
    let q : i < 2 * n = omega (arith, length-lowered n bounds x) in
    let r = v.matrix.rows in
    subst IsLow (sym (at-lowered n bounds x i i q q)) (low-least (at x i i) _ (low (pos 0) (v.matrix.diagonal i (omega arith)) (omega (arith, ints))))

-- ---- what the step gives

pub lowered-is : (n : ℕ) (a : Blocks) (bounds : List OctBound) (cs : List (List ℕ)) (ms : List Matrix) (marks : List Bool) → IsDecomposition n a → All (IsPlaced n) bounds → IsJoinedBy n a.partition bounds (length bounds) cs → AreLoweredParts n a bounds cs ms marks
    → IsLowered n a bounds (blocks_of cs ms marks)
lowered-is n a bounds cs ms marks d placed h ps = record {
  given = loose_given-of n x cs ms marks shape (low-lowered n bounds (whole n a) d.value) parts ps.size settled;
  parts = parts-of n x cs ms parts;
  same = same;
  components = λ off. subst (IsComponents n cs) (sym same) (components-lowered n a bounds cs d placed off h);
  marks = λ c p. (ps.each c p).exact;
}
  where
    x : Matrix
    x = lowered_matrix n bounds (whole n a)

    shape : IsShape n x
    shape = shape-lowered n bounds (whole n a) d.value placed

    parts : ArePartsOf n x cs ms
    parts = record { partition = h.partition; apart = separated-lowered n a bounds cs d h; count = ps.count; each = λ c p. (ps.each c p).words }

    same : assembly n cs ms ≡ x
    same = whole-of n x cs ms shape.square shape.rows parts

    settled : IsSettled ms marks
    settled = record { again = λ b p g. marked-again a (block cs b) (matrix ms b) d.parts.count d.settled (((ps.each b (let e = ps.count in omega arith)).exact.0 g).0) }
