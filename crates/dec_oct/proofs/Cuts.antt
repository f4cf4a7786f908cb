-- The cut of an assembly into its components, block after block.
use Rattle.std.proofs.Common.{◌≡◌, ℕ, ◌+◌, ◌*◌, ◌<◌, ◌≤◌, ◌⊎◌, inl, inr, List, [], length, get_or, refl, sym, ap, ◌∙◌, subst, arith}
use Rattle.std.specs.Prelude.{◌↔◌}
use Rattle.std.proofs.lemmas.Bool.{cases_eq}
use Rattle.std.proofs.lemmas.List.{get_or_default}
use Rattle.oct_def.specs.Table.{Matrix}
use Rattle.oct_def.specs.Matrix.{IsSquare, IsEvenMatrix}
use Rattle.oct_def.proofs.Tables.{square-table}
use Rattle.block_partition.specs.Partition.{member, place, IsIn, block, home, SameBlock, IsBlock, IsPartition, IsOrdered}
use Rattle.block_partition.specs.Changes.{label_of, IsSplitPair, IsSplitBy}
use Rattle.block_partition.proofs.Places.{home_in}
use Rattle.block_partition.proofs.Unique.{IsRising, rising-unique}
use Rattle.block_laws.specs.Assembly.{matrix, restrict_entry, restrict, assembly, IsParts}
use Rattle.block_laws.specs.Components.{Linked, IsComponents, IsZeroDiagonal}
use Rattle.block_laws.proofs.Restrict.{length-restrict}
use Rattle.block_laws.proofs.Assembly.{length-assembly, assembly-is, separated-assembly}
use Rattle.block_laws.proofs.Components.{linked-same}
use Rattle.block_laws.proofs.Lattice.{separated-components, links-in_block}
use Rattle.dec_oct.specs.Cut.{SameLabel, HaveOneLabel, IsLinkLabels, IsCut, IsCutUpTo}
use Rattle.dec_oct.proofs.Bounded.{placed_below}

-- what the walk of block b tells of two of its variables
pub record IsWalkOf (n : ℕ) (bs : List (List ℕ)) (ms : List Matrix) (b : ℕ) (labels : List ℕ) : Type 0 where
  pub parts : IsParts n bs ms
  pub within : b < length bs
  pub told : IsLinkLabels (length (block bs b)) (matrix ms b) labels

linked-in : (n : ℕ) (bs : List (List ℕ)) (ms : List Matrix) (b : ℕ) (labels : List ℕ) (u w : ℕ) → IsWalkOf n bs ms b labels → home bs u ≡ b → home bs w ≡ b → SameLabel labels (place (block bs b) u) (place (block bs b) w) ↔ Linked (assembly n bs ms) u w
linked-in n bs ms b labels u w k e f = (
  λ s. (links-in_block n bs ms b u w k.parts k.within iu).1 (iw, (k.told.exact (place (block bs b) u) (place (block bs b) w) iu iw).0 s),
  λ l. (k.told.exact (place (block bs b) u) (place (block bs b) w) iu iw).1 ((links-in_block n bs ms b u w k.parts k.within iu).0 l).1,
)
  where
    is_in : (v : ℕ) → home bs v ≡ b → IsIn (block bs b) v
    is_in v g = subst (λ t. IsIn (block bs t) v) g (home_in bs v (let p = k.within in omega arith))

    iu : IsIn (block bs b) u
    iu = is_in u e

    iw : IsIn (block bs b) w
    iw = is_in w f

pub cut-start : (n : ℕ) (bs cs : List (List ℕ)) (m : Matrix) → cs ≡ bs → IsCutUpTo n bs m 0 cs
cut-start n bs cs m e = subst (IsCutUpTo n bs m 0) (sym e) (record { exact = λ u w p q. (λ s. (s, λ z. absurd (omega arith)), λ s. s.0) })

-- a block that doesn't split
pub cut-whole : (n : ℕ) (bs : List (List ℕ)) (ms : List Matrix) (b : ℕ) (labels : List ℕ) (cs ds : List (List ℕ)) → IsWalkOf n bs ms b labels
    → HaveOneLabel labels → IsCutUpTo n bs (assembly n bs ms) b cs → ds ≡ cs → IsCutUpTo n bs (assembly n bs ms) (b + 1) ds
cut-whole n bs ms b labels cs ds k whole h e = subst (IsCutUpTo n bs (assembly n bs ms) (b + 1)) (sym e) (record {
  exact = λ u w p q. (λ s. let r = (h.exact u w p q).0 s in (r.0, λ z. by u w r.0 r.1 z (cases_eq (home bs u) b)), λ s. (h.exact u w p q).1 (s.0, λ z. s.1 (omega arith)));
})
  where
    small : (v : ℕ) → home bs v ≡ b → place (block bs b) v < length labels
    small v g =
        let i : IsIn (block bs b) v = subst (λ t. IsIn (block bs t) v) g (home_in bs v (let p = k.within in omega arith)) in
        let z = k.told.size in
        omega arith

    by : (u w : ℕ) → SameBlock bs u w → (home bs u < b → Linked (assembly n bs ms) u w) → home bs u < b + 1 → (home bs u ≡ b) ⊎ (home bs u ≡ b → ⊥) → Linked (assembly n bs ms) u w
    by u w s l z (inl f) = let g = sym s.0 ∙ f in (linked-in n bs ms b labels u w k f g).0 (whole (place (block bs b) u) (place (block bs b) w) (small u f) (small w g))
    by u w s l z (inr d) = l (grind (arith, d))

-- ---- a block that splits

-- its block in the cut so far is the same
pub record IsWhole (bs cs : List (List ℕ)) (b a : ℕ) : Type 0 where
  pub within : a < length cs
  pub same : block cs a ≡ block bs b
  pub there : (u : ℕ) → home bs u ≡ b → home cs u ≡ a
  pub back : (u : ℕ) → home cs u ≡ a → home bs u ≡ b

rising : (n : ℕ) (vs : List ℕ) → IsBlock n vs → IsRising vs
rising n vs bl = record { rising = bl.rising }

pub cut-block : (n : ℕ) (bs cs : List (List ℕ)) (m : Matrix) (b v : ℕ) → n ≤ 512 → IsPartition n bs → IsPartition 512 cs → b < length bs → 0 < length (block bs b) → v ≡ member (block bs b) 0 → IsCutUpTo n bs m b cs → IsWhole bs cs b (home cs v)
cut-block n bs cs m b v few pb pc p filled e h = record { within = inside; same = same; there = there; back = back }
  where
    hv : home bs v ≡ b
    hv = ap (home bs) e ∙ pb.homes b 0 p filled

    small : (u : ℕ) → home bs u < length bs → u < 512
    small u q = let r = placed_below n bs u pb q in omega arith

    sv : v < 512
    sv = small v (omega (arith, hv))

    there : (u : ℕ) → home bs u ≡ b → home cs u ≡ home cs v
    there u f = sym ((h.exact v u sv (small u (omega arith))).1 ((hv ∙ sym f, omega (arith, hv)), λ z. absurd (omega (arith, hv)))).0

    inside : home cs v < length cs
    inside = ((h.exact v v sv sv).1 ((refl, omega (arith, hv)), λ z. absurd (omega (arith, hv)))).1

    small_cut : (u : ℕ) → home cs u < length cs → u < 512
    small_cut u q = placed_below 512 cs u pc q

    back : (u : ℕ) → home cs u ≡ home cs v → home bs u ≡ b
    back u f = sym ((h.exact v u sv (small_cut u (omega (arith, inside)))).0 (sym f, inside)).0.0 ∙ hv

    same : block cs (home cs v) ≡ block bs b
    same = rising-unique (block cs (home cs v)) (block bs b) (rising 512 _ (pc.blocks (home cs v) inside)) (rising n _ (pb.blocks b p))
        (record { within = λ i q. let u = member (block cs (home cs v)) i in subst (λ t. IsIn (block bs t) u) (back u (pc.homes (home cs v) i inside q)) (home_in bs u (let z = back u (pc.homes (home cs v) i inside q) in omega arith)) })
        (record { within = λ i q. let u = member (block bs b) i in subst (λ t. IsIn (block cs t) u) (there u (pb.homes b i p q)) (home_in cs u (let z = there u (pb.homes b i p q) in omega (arith, inside))) })

pub cut-split : (n : ℕ) (bs : List (List ℕ)) (ms : List Matrix) (b : ℕ) (labels : List ℕ) (cs ds : List (List ℕ)) (a : ℕ) → IsWalkOf n bs ms b labels → IsWhole bs cs b a
    → IsCutUpTo n bs (assembly n bs ms) b cs → IsSplitBy cs a labels ds → IsCutUpTo n bs (assembly n bs ms) (b + 1) ds
cut-split n bs ms b labels cs ds a k wh h sp = record { exact = λ u w p q. (λ s. there u w p q ((sp.exact u w p q).0 s), λ s. (sp.exact u w p q).1 (back u w p q s.0 s.1 (cases_eq (home bs u) b))) }
  where
    m : Matrix
    m = assembly n bs ms

    label-is : (u : ℕ) → label_of cs a labels u ≡ member labels (place (block bs b) u)
    label-is u = ap (λ t. member labels (place t u)) wh.same

    there : (u w : ℕ) → u < 512 → w < 512 → (SameBlock cs u w × (home cs u ≡ a → ⊥)) ⊎ IsSplitPair cs a labels u w → SameBlock bs u w × (home bs u < b + 1 → Linked m u w)
    there u w p q (inl s) =
        let r = (h.exact u w p q).0 s.0 in
        (r.0, λ z. by (cases_eq (home bs u) b) r.1 z)
      where
        by : (home bs u ≡ b) ⊎ (home bs u ≡ b → ⊥) → (home bs u < b → Linked m u w) → home bs u < b + 1 → Linked m u w
        by (inl e) l z = absurd (s.1 (wh.there u e))
        by (inr d) l z = l (grind (arith, d))
    there u w p q (inr s) =
        let e = wh.back u s.first in
        let f = wh.back w s.second in
        ((e ∙ sym f, let z = k.within in omega arith), λ z. (linked-in n bs ms b labels u w k e f).0 (sym (label-is u) ∙ s.same ∙ label-is w, λ t. s.stays (label-is u ∙ t)))

    back : (u w : ℕ) → u < 512 → w < 512 → SameBlock bs u w → (home bs u < b + 1 → Linked m u w) → (home bs u ≡ b) ⊎ (home bs u ≡ b → ⊥) → (SameBlock cs u w × (home cs u ≡ a → ⊥)) ⊎ IsSplitPair cs a labels u w
    back u w p q s l (inl e) =
        let f = sym s.0 ∙ e in
        let r = (linked-in n bs ms b labels u w k e f).1 (l (omega arith)) in
        inr (record { first = wh.there u e; second = wh.there w f; same = label-is u ∙ r.0 ∙ sym (label-is w); stays = λ t. r.1 (sym (label-is u) ∙ t) })
    back u w p q s l (inr d) = inl ((h.exact u w p q).1 (s, λ z. l (omega arith)), λ t. d (wh.back u t))

-- ---- the end

pub cut-components : (n k : ℕ) (bs : List (List ℕ)) (ms : List Matrix) (cs : List (List ℕ)) → n ≤ 512 → IsParts n bs ms → IsPartition 512 cs → length bs ≤ k → IsCutUpTo n bs (assembly n bs ms) k cs → IsComponents n cs (assembly n bs ms)
cut-components n k bs ms cs few ps pc last h = record { partition = partition; exact = λ u w p q. (there u w (omega arith) (omega arith), back u w (omega arith) (omega arith)) }
  where
    m : Matrix
    m = assembly n bs ms

    partition : IsPartition n cs
    partition = record {
      blocks = λ c p. record {
        below = λ i q.
            let u = member (block cs c) i in
            let s = (pc.blocks c p).below i q in
            let e = pc.homes c i p q in
            placed_below n bs u ps.partition ((h.exact u u s s).0 (refl, omega arith)).0.1;
        rising = (pc.blocks c p).rising;
      };
      homes = pc.homes;
    }

    there : (u w : ℕ) → u < 512 → w < 512 → SameBlock cs u w → Linked m u w
    there u w p q s = let r = (h.exact u w p q).0 s in let z = r.0.1 in r.1 (omega arith)

    back : (u w : ℕ) → u < 512 → w < 512 → Linked m u w → SameBlock cs u w
    back u w p q l = (h.exact u w p q).1 (linked-same n bs m (length-assembly n bs ms) (separated-assembly n bs ms) u w l, λ z. l)

pub zero_diagonal-even : (n : ℕ) (m : Matrix) → IsEvenMatrix n m → IsZeroDiagonal n m
zero_diagonal-even n m v = record { zero = λ i p. v.matrix.diagonal i (let e = v.matrix.rows in omega arith) }

pub square-part : (vs : List ℕ) (m : Matrix) → IsSquare (restrict vs m)
unfolding restrict
square-part vs m = square-table (2 * length vs) (restrict_entry vs m)

-- a matrix cut along its components
pub cut-is : (n : ℕ) (m : Matrix) (ps : List (List ℕ)) (rs : List Matrix) → IsEvenMatrix n m → IsComponents n ps m → IsOrdered ps → length rs ≡ length ps → ((c : ℕ) → c < length ps → matrix rs c ≡ restrict (block ps c) m) → IsCut n m ps rs
cut-is n m ps rs v comps o size each = record {
  parts = record {
    partition = comps.partition;
    count = size;
    square = λ b p. subst IsSquare (sym (each b p)) (square-part (block ps b) m);
    size = λ b p. ap length (each b p) ∙ length-restrict (block ps b) m;
  };
  ordered = o;
  same = sym (assembly-is n ps m rs comps.partition v.matrix.square v.matrix.rows (separated-components n ps m v.matrix.rows (zero_diagonal-even n m v) comps) each);
  components = comps;
}

pub walk-of : (n : ℕ) (bs : List (List ℕ)) (ms : List Matrix) (b : ℕ) (labels : List ℕ) (x y : Matrix) → IsParts n bs ms → b < length bs → y ≡ x → x ≡ get_or ms b x → ((k : ℕ) → length y ≡ 2 * k → IsLinkLabels k y labels) → IsWalkOf n bs ms b labels
walk-of n bs ms b labels x y ps p e f h =
    let g : y ≡ matrix ms b = e ∙ f ∙ get_or_default ms b x [] (let z = ps.count in omega arith) in
    record { parts = ps; within = p; told = subst (λ t. IsLinkLabels (length (block bs b)) t labels) g (h (length (block bs b)) (ap length g ∙ ps.size b p)) }

pub cut-last : (n : ℕ) (bs cs : List (List ℕ)) (m : Matrix) (k : ℕ) → k ≡ length bs → IsCutUpTo n bs m k cs → IsCutUpTo n bs m (length bs) cs
cut-last n bs cs m k e h = subst (λ t. IsCutUpTo n bs m t cs) e h
