-- The values that are made.
use Rattle.std.proofs.Common.{◌≡◌, ℕ, ◌+◌, ◌*◌, ◌<◌, ◌≤◌, Bool, true, List, length, Some, None, refl, sym, ap, ◌∙◌, subst, arith}
use Rattle.std.specs.Prelude.{pos}
use Rattle.std.proofs.lemmas.Int.{ints}
use Rattle.oct_def.specs.Bound.{Bound, InRange, at_most}
use Rattle.oct_def.specs.Table.{Matrix, at}
use Rattle.oct_def.specs.Matrix.{IsSquare, IsCoherent, IsEvenMatrix}
use Rattle.oct_def.specs.Octagon.{IsValueOver, bottom_value, tight_value}
use Rattle.oct_def.specs.Tight.{tight, strengthening}
use Rattle.oct_def.proofs.Values.{IsShape, LowDiagonal, IsLow, low, each-table, value-tight_low}
use Rattle.block_partition.specs.Partition.{block, IsPartition}
use Rattle.block_partition.specs.Changes.{IsMergedBy}
use Rattle.block_partition.proofs.Places.{block_size}
use Rattle.block_laws.specs.Assembly.{matrix, restrict, restrict_entry, outer, assembly, IsParts}
use Rattle.block_laws.specs.Components.{IsComponents, IsMerged}
use Rattle.block_laws.proofs.Places.{outer_below}
use Rattle.block_laws.proofs.Restrict.{length-restrict}
use Rattle.block_laws.proofs.Lattice.{at-block}
use Rattle.block_laws.proofs.Assembly.{length-assembly, separated-assembly, assembly-is, restrict-assembly}
use Rattle.block_laws.proofs.Closing.{tight-assembly, tight-assembly_empty, length-strengthening, strengthening-closed}
use Rattle.block_laws.proofs.Components.{separated-merged, square-strengthening}
use Rattle.block_laws.proofs.Merged.{parts-tight}
use Rattle.dec_oct.specs.Value.{Blocks, blocks_of, whole, Decomposed, decomposed, octagon, octagon_of, IsSettled, IsDecomposition}
use Rattle.dec_oct.specs.Cost.{TellsMarks, unmarked_cost, ClosesEach, TellsAgain}
use Rattle.dec_oct.specs.Given.{IsGiven, IsEvenGiven, IsLooseGiven, KeepsMarks}
use Rattle.dec_oct.specs.Cut.{IsCut, IsBounded}
use Rattle.dec_oct.specs.Closed.{IsClosedValue}
use Rattle.dec_oct.proofs.Assembled.{shape-assembly, low_diagonal-assembly, even-assembly}
use Rattle.dec_oct.proofs.Bounded.{merged-is, merged-partition}
use Rattle.dec_oct.proofs.Cuts.{square-part}

-- ---- what given parts are

abbrev pub AreShapes : List Matrix → Type 0
AreShapes ms = (b : ℕ) → b < length ms → IsSquare (matrix ms b) × IsCoherent (matrix ms b)

pub given-parts : (n : ℕ) (b : Blocks) → IsGiven n b → AreShapes b.matrices → IsParts n b.partition b.matrices
given-parts n b g s = record {
  partition = g.partition;
  count = g.count;
  square = λ c p. (s c (let e = g.count in omega arith)).0;
  size = g.size;
}

pub given-shape : (n : ℕ) (b : Blocks) → IsGiven n b → AreShapes b.matrices → IsShape n (whole n b)
given-shape n b g s = shape-assembly n b.partition b.matrices (given-parts n b g s) (λ c p. record {
  rows = g.size c p;
  square = (s c (let e = g.count in omega arith)).0;
  coherent = (s c (let e = g.count in omega arith)).1;
  in_range = g.in_range c p;
})

low-at_most : (b : Bound) → at_most b (Some (pos 0)) ≡ true → IsLow b
low-at_most None e = absurd (cc)
low-at_most (Some x) e = low x refl (omega (arith, ints, e))

pub loose-low : (n : ℕ) (b : Blocks) → IsLooseGiven n b → AreShapes b.matrices → LowDiagonal (whole n b)
unfolding LowDiagonal
loose-low n b g s = low_diagonal-assembly n b.partition b.matrices (given-parts n b g.given s) (λ c p. blocks c p)
  where
    blocks : (c : ℕ) → c < length b.partition → LowDiagonal (matrix b.matrices c)
    blocks c p i q = low-at_most (at (matrix b.matrices c) i i) (g.diagonal c p i q)

pub given-even : (n : ℕ) (b : Blocks) → IsEvenGiven n b → AreShapes b.matrices → IsEvenMatrix n (whole n b)
given-even n b g s = even-assembly n b.partition b.matrices (given-parts n b g.given s) (λ c p. record {
  matrix = record {
    rows = g.given.size c p;
    square = (s c (let e = g.given.count in omega arith)).0;
    coherent = (s c (let e = g.given.count in omega arith)).1;
    in_range = g.given.in_range c p;
    diagonal = g.diagonal c p;
  };
  even = g.even c p;
})

pub loose-kept : (n : ℕ) (b : Blocks) → IsDecomposition n b → IsLooseGiven n b
unfolding restrict restrict_entry
loose-kept n b d = record {
  given = record {
    partition = d.parts.partition;
    count = d.parts.count;
    size = d.parts.size;
    in_range = λ c p. subst (λ m. (i j : ℕ) → InRange (at m i j)) (restrict-assembly n b.partition b.matrices c d.parts p)
        (each-table InRange tt (2 * length (block b.partition c)) (restrict_entry (block b.partition c) (whole n b)) (λ i j q r. d.value.matrix.in_range (outer (block b.partition c) i) (outer (block b.partition c) j)));
    marks = d.marks;
    settled = d.settled;
  };
  diagonal = λ c p i q. ap (λ x. at_most x (Some (pos 0))) (zero c p i q);
}
  where
    zero : (c : ℕ) → c < length b.partition → (i : ℕ) → i < length (matrix b.matrices c) → at (matrix b.matrices c) i i ≡ Some (pos 0)
    zero c p i q =
        let l = d.parts.size c p in
        let o = outer_below n (block b.partition c) i (d.parts.partition.blocks c p) (omega arith) in
        let r = d.value.matrix.rows in
        at-block n b.partition b.matrices c i i d.parts p (omega arith) (omega arith) ∙ d.value.matrix.diagonal (outer (block b.partition c) i) (omega arith)

-- ---- values of cuts

pub made-is : (n : ℕ) (m : Matrix) (bs : List (List ℕ)) (ms : List Matrix) (marks : List Bool) → IsCut n m bs ms → IsEvenMatrix n m → length marks ≡ length bs → IsSettled ms marks → IsDecomposition n (blocks_of bs ms marks)
made-is n m bs ms marks c v size s = record {
  parts = c.parts;
  ordered = c.ordered;
  components = subst (IsComponents n bs) (sym c.same) c.components;
  value = subst (IsEvenMatrix n) (sym c.same) v;
  marks = size;
  settled = s;
}

pub marks-kept : (n : ℕ) (a : Blocks) (bs : List (List ℕ)) (ms : List Matrix) (known : List Bool) → IsParts n a.partition a.matrices → IsCut n (whole n a) bs ms → TellsMarks a bs ms known → KeepsMarks a (blocks_of bs ms known)
marks-kept n a bs ms known ps c t = record {
  kept = λ p k q r e f. (t.exact k r).1 (record {
    place = p;
    within = q;
    members = e;
    words = sym (restrict-assembly n a.partition a.matrices p ps q) ∙ ap (λ x. restrict x (whole n a)) e ∙ ap (restrict (block bs k)) (sym c.same) ∙ restrict-assembly n bs ms k c.parts r;
    mark = f;
  });
}

-- ---- closing

pub even-tight : (n : ℕ) (m x : Matrix) → IsShape n m → LowDiagonal m → tight m ≡ Some x → IsEvenMatrix n x
even-tight n m x v l e = subst (IsValueOver n) e (value-tight_low n m v l)

-- the strengthened assembly is the assembly of its parts over the merged blocks
pub merged-assembly : (n : ℕ) (bs cs : List (List ℕ)) (ns rs : List Matrix) → IsMerged n bs cs (assembly n bs ns) → length rs ≡ length cs → ((c : ℕ) → c < length cs → matrix rs c ≡ restrict (block cs c) (strengthening (assembly n bs ns)))
    → IsParts n cs rs × (assembly n cs rs ≡ strengthening (assembly n bs ns))
merged-assembly n bs cs ns rs mg size each = (
  record {
    partition = mg.partition;
    count = size;
    square = λ c p. subst IsSquare (sym (each c p)) (square-part (block cs c) (strengthening m));
    size = λ c p. ap length (each c p) ∙ length-restrict (block cs c) (strengthening m);
  },
  sym (assembly-is n cs (strengthening m) rs mg.partition (square-strengthening m) (length-strengthening m ∙ length-assembly n bs ns) (separated-merged n bs cs m (length-assembly n bs ns) (separated-assembly n bs ns) mg) each),
)
  where
    m : Matrix
    m = assembly n bs ns

merged-same : (bs cs ds : List (List ℕ)) (vs us : List ℕ) → ds ≡ bs → us ≡ vs → IsMergedBy ds us cs → IsMergedBy bs vs cs
merged-same bs cs ds vs us e f mg = subst (λ t. IsMergedBy t vs cs) e (subst (λ t. IsMergedBy ds t cs) f mg)

pub merged-blocks : (n : ℕ) (bs cs ds : List (List ℕ)) (ns rs : List Matrix) (vs us : List ℕ) → n ≤ 512 → IsParts n bs ns → IsPartition 512 cs → IsBounded n (assembly n bs ns) vs → ds ≡ bs → us ≡ vs → IsMergedBy ds us cs → length rs ≡ length cs
    → ((c : ℕ) → c < length cs → matrix rs c ≡ restrict (block cs c) (strengthening (assembly n bs ns))) → IsParts n cs rs × (assembly n cs rs ≡ strengthening (assembly n bs ns))
merged-blocks n bs cs ds ns rs vs us few ps pc bd e f mg size each =
    merged-assembly n bs cs ns rs (merged-is n bs cs (assembly n bs ns) vs few (length-assembly n bs ns) (separated-assembly n bs ns) ps.partition pc bd (merged-same bs cs ds vs us e f mg)) size each

pub merged-over : (n : ℕ) (bs cs ds : List (List ℕ)) (m : Matrix) (vs us : List ℕ) → n ≤ 512 → IsPartition n bs → IsPartition 512 cs → IsBounded n m vs → ds ≡ bs → us ≡ vs → IsMergedBy ds us cs → IsPartition n cs
merged-over n bs cs ds m vs us few pb pc bd e f mg = merged-partition n bs cs vs few pb pc (merged-same bs cs ds vs us e f mg) (λ k p. (bd.only k p).0)

pub closed-parts : (n : ℕ) (bs : List (List ℕ)) (ms ns : List Matrix) → IsParts n bs ms → ClosesEach ms (Some ns) → IsParts n bs ns
closed-parts n bs ms ns ps h = let size = ps.count in parts-tight n bs ms ns ps (h.0 ∙ ps.count) (λ b p. h.1 b (omega arith))

pub closed-empty : (n : ℕ) (bs : List (List ℕ)) (ms : List Matrix) → IsParts n bs ms → ClosesEach ms None → tight (assembly n bs ms) ≡ None
closed-empty n bs ms ps h = let size = ps.count in let p = h.1 in tight-assembly_empty n bs ms h.0 ps (omega arith) h.2

pub closed-strong : (n : ℕ) (bs : List (List ℕ)) (ms ns : List Matrix) → IsParts n bs ms → ClosesEach ms (Some ns) → (b : ℕ) → b < length bs → strengthening (matrix ns b) ≡ matrix ns b
closed-strong n bs ms ns ps h b p = strengthening-closed (length (block bs b)) (matrix ms b) (matrix ns b) (ps.size b p) (h.1 b (let z = ps.count in omega arith))

pub closed-even : (n : ℕ) (bs cs : List (List ℕ)) (ms ns rs : List Matrix) → IsParts n bs ms → IsShape n (assembly n bs ms) → LowDiagonal (assembly n bs ms) → ClosesEach ms (Some ns) → assembly n cs rs ≡ strengthening (assembly n bs ns)
    → (tight (assembly n bs ms) ≡ Some (assembly n cs rs)) × IsEvenMatrix n (assembly n cs rs)
closed-even n bs cs ms ns rs ps v l h e = (t, even-tight n (assembly n bs ms) (assembly n cs rs) v l t)
  where
    t : tight (assembly n bs ms) ≡ Some (assembly n cs rs)
    t = tight-assembly n bs ms ns ps (λ b p. h.1 b (let z = ps.count in omega arith)) ∙ ap Some (sym e)

pub closed-is : (n : ℕ) (a : Blocks) (m : Matrix) (ps : List (List ℕ)) (rs : List Matrix) (known again : List Bool) (old new : ℕ) (v : Decomposed) → tight (whole n a) ≡ Some m → IsCut n m ps rs → TellsMarks a ps rs known → TellsAgain rs again → new ≤ old + unmarked_cost rs known
    → v ≡ decomposed n (Some (blocks_of ps rs again)) → IsClosedValue n a v.blocks old new
closed-is n a m ps rs known again old new v t c told g bound e = subst (λ (d : Decomposed). IsClosedValue n a d.blocks old new) (sym e) (record {
  closed = t ∙ ap Some (sym c.same);
  again = g;
  second = unmarked_cost rs known;
  cost = record { known = known; told = told; sum = refl };
  bound = bound;
})

pub bottom-end : (n : ℕ) (m : Matrix) → tight m ≡ None → bottom_value n ≡ octagon_of n (tight m)
unfolding bottom_value
bottom-end n m e = ap (octagon_of n) (sym e)

pub tight-none : (d : Decomposed) (n : ℕ) → decomposed n None ≡ d → bottom_value n ≡ tight_value (octagon d)
unfolding tight_value bottom_value
tight-none d n e = ap (λ x. tight_value (octagon x)) e

pub tight-some : (d : Decomposed) (n : ℕ) (b : Blocks) → decomposed n (Some b) ≡ d → octagon_of n (tight (whole n b)) ≡ tight_value (octagon d)
unfolding tight_value
tight-some d n b e = ap (λ x. tight_value (octagon x)) e

-- ---- room for a closing

pub room-of : (n s : ℕ) (bs : List (List ℕ)) (ms : List Matrix) → IsParts n bs ms → n ≤ s → (b : ℕ) → b < length ms → length (matrix ms b) ≤ 2 * s
room-of n s bs ms ps h b p =
    let e = ps.count in
    let z = ps.size b (omega arith) in
    let r = block_size n bs b ps.partition (omega arith) in
    omega arith

pub room-for : (n : ℕ) (b : Blocks) (s : ℕ) → IsLooseGiven n b → n ≤ s → (c : ℕ) → c < length b.matrices → length (matrix b.matrices c) ≤ 2 * s
room-for n b s g h c p =
    let e = g.given.count in
    let z = g.given.size c (omega arith) in
    let r = block_size n b.partition c g.given.partition (omega arith) in
    omega arith

-- the words of the blocks of a value are matrix words
pub in_range-blocks : (n : ℕ) (bs : List (List ℕ)) (ms : List Matrix) → IsParts n bs ms → IsEvenMatrix n (assembly n bs ms) → (c : ℕ) → c < length ms → (i j : ℕ) → InRange (at (matrix ms c) i j)
unfolding restrict restrict_entry
in_range-blocks n bs ms ps v c p =
    let e = ps.count in
    subst (λ m. (i j : ℕ) → InRange (at m i j)) (restrict-assembly n bs ms c ps (omega arith))
    (each-table InRange tt (2 * length (block bs c)) (restrict_entry (block bs c) (assembly n bs ms)) (λ i j q r. v.matrix.in_range (outer (block bs c) i) (outer (block bs c) j)))
