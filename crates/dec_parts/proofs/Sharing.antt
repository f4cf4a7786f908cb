-- The value under new numbers, and the marks that it keeps.
use Rattle.std.proofs.Common.{◌≡◌, ℕ, ◌+◌, ◌*◌, ◌<◌, ◌≤◌, ◌⊎◌, inl, inr, Bool, true, false, List, length, Option, Some, None, refl, sym, ap, ◌∙◌, subst, arith}
use Rattle.std.specs.Prelude.{IsSome, IfSome}
use Rattle.std.specs.Option.{option_map}
use Rattle.std.proofs.lemmas.Bool.{cases_lt}
use Rattle.oct_def.specs.Table.{Matrix, at}
use Rattle.oct_def.specs.Matrix.{opposite, IsSquare, IsCoherent, IsEvenMatrix}
use Rattle.oct_def.specs.Octagon.{bottom_value}
use Rattle.block_partition.specs.Partition.{member, block, home, IsIn, SameBlock, IsBlock, IsPartition}
use Rattle.block_partition.specs.Changes.{given_label}
use Rattle.block_partition.proofs.Places.{home_in, home-in, in-member, block_count}
use Rattle.block_partition.proofs.Unique.{IsRising, rising-unique}
use Rattle.block_laws.specs.Assembly.{outer, matrix, restrict, assembly}
use Rattle.block_laws.proofs.Assembly.{separated-assembly, restrict-assembly}
use Rattle.dec_oct.specs.Value.{Blocks, blocks_of, whole, marked, Decomposed, decomposed, octagon, octagon_of, IsDecomposition, IsKeptBlocks, IsKept}
use Rattle.dec_oct.specs.Cost.{IsMarkedBlock}
use Rattle.dec_oct.specs.Given.{IsEvenGiven, KeepsMarks, KeepsMarksOf}
use Rattle.block_laws.proofs.Places.{outer_below}
use Rattle.dec_oct.proofs.Stored.{part-is}
use Rattle.dec_oct.proofs.Words.{stored-below}
use Rattle.dec_oct.proofs.Flags.{marked-again}
use Rattle.dec_oct.proofs.Givens.{ArePartsOf, whole-of, even_given-of}
use Rattle.dec_parts.specs.Rename.{origin, renamed_entry, renamed_matrix, renamed_value, AreOrigins, KeepNumbers, AreUnmoved, KeepsOwnMarks, KeepsOwnMarksOf, IsAlone, AreRenamedBlocks, IsRenamedPart, AreRenamedParts}
use Rattle.dec_parts.proofs.Renaming.{even-renamed, at-renamed, part-kept}
use Rattle.dec_parts.proofs.Numbers.{origin-small, same-held, renamed-partition, separated-renamed}

-- ---- parts

pub part-of_kept : (n : ℕ) (origins : List (Option ℕ)) (a : Blocks) (vs : List ℕ) (m : Matrix) (mark : Bool) → IsDecomposition n a → AreOrigins n origins → IsBlock (length origins) vs → KeepNumbers origins vs → m ≡ restrict vs (whole n a)
    → (mark ≡ true → IsMarkedBlock a vs m) → (mark ≡ false → IsMarkedBlock a vs m → ⊥) → IsRenamedPart n origins a vs m mark
part-of_kept n origins a vs m mark d o bl k e y f = record {
  words = e ∙ part-kept n origins (whole n a) vs d.value o bl k;
  yes = y;
  kept = λ _ h. by mark refl h;
}
  where
    by : (b : Bool) → mark ≡ b → IsMarkedBlock a vs m → mark ≡ true
    by true g h = g
    by false g h = absurd (f g h)

pub part-of_moved : (n : ℕ) (origins : List (Option ℕ)) (a : Blocks) (vs : List ℕ) (m : Matrix) → IsDecomposition n a → AreOrigins n origins → IsBlock (length origins) vs → (KeepNumbers origins vs → ⊥) → length m ≡ 2 * length vs → IsSquare m → IsCoherent m
    → ((i j : ℕ) → i < 2 * length vs → j < opposite i + 1 → at m i j ≡ renamed_entry origins (whole n a) (outer vs i) (outer vs j)) → IsRenamedPart n origins a vs m false
part-of_moved n origins a vs m d o bl k e sq co h = record {
  words = part-is (length origins) vs (renamed_matrix origins (whole n a)) m bl v.matrix.rows v.matrix.coherent e sq co (λ i j p q.
      h i j p q ∙ sym (at-renamed origins (whole n a) (outer vs i) (outer vs j) (outer_below (length origins) vs i bl p) (outer_below (length origins) vs j bl (stored-below (length vs) i j p q))));
  yes = λ g. absurd (cc);
  kept = λ g _. absurd (k g);
}
  where
    v : IsEvenMatrix (length origins) (renamed_matrix origins (whole n a))
    v = even-renamed n origins (whole n a) o d.value

-- what the renaming of blocks gave
pub record IsRenaming (n : ℕ) (origins : List (Option ℕ)) (a : Blocks) (cs : List (List ℕ)) (ms : List Matrix) (marks : List Bool) : Type 0 where
  pub small : n ≤ 512
  pub old : IsDecomposition n a
  pub origins_in : AreOrigins n origins
  pub blocks : AreRenamedBlocks a.partition origins cs
  pub partition : IsPartition (length origins) cs
  pub parts : AreRenamedParts n origins a cs ms marks

parts-renamed : (n : ℕ) (origins : List (Option ℕ)) (a : Blocks) (cs : List (List ℕ)) (ms : List Matrix) (marks : List Bool) → IsRenaming n origins a cs ms marks → ArePartsOf (length origins) (renamed_matrix origins (whole n a)) cs ms
parts-renamed n origins a cs ms marks h = record {
  partition = h.partition;
  apart = separated-renamed n a.partition origins cs (whole n a) h.origins_in (separated-assembly n a.partition a.matrices) h.blocks;
  count = h.parts.count;
  each = λ c p. (h.parts.each c p).words;
}

given-renamed : (n : ℕ) (origins : List (Option ℕ)) (a : Blocks) (cs : List (List ℕ)) (ms : List Matrix) (marks : List Bool) → IsRenaming n origins a cs ms marks → IsEvenGiven (length origins) (blocks_of cs ms marks)
given-renamed n origins a cs ms marks h = even_given-of (length origins) (renamed_matrix origins (whole n a)) cs ms marks (even-renamed n origins (whole n a) h.origins_in h.old.value) (parts-renamed n origins a cs ms marks h) h.parts.size
    (record { again = λ b p g. marked-again a (block cs b) (matrix ms b) h.old.parts.count h.old.settled ((h.parts.each b (let e = h.parts.count in omega arith)).yes g) })

whole-renamed : (n : ℕ) (origins : List (Option ℕ)) (a : Blocks) (cs : List (List ℕ)) (ms : List Matrix) (marks : List Bool) → IsRenaming n origins a cs ms marks → assembly (length origins) cs ms ≡ renamed_matrix origins (whole n a)
whole-renamed n origins a cs ms marks h =
    let v = even-renamed n origins (whole n a) h.origins_in h.old.value in
    whole-of (length origins) (renamed_matrix origins (whole n a)) cs ms v.matrix.square v.matrix.rows (parts-renamed n origins a cs ms marks h)

-- ---- marks

rising-of : (n : ℕ) (vs : List ℕ) → IsBlock n vs → IsRising vs
rising-of n vs b = record { rising = b.rising }

keeps-own : (n : ℕ) (origins : List (Option ℕ)) (a r : Blocks) (cs : List (List ℕ)) (ms : List Matrix) (marks : List Bool) → IsRenaming n origins a cs ms marks → IsDecomposition (length origins) r → KeepsMarks (blocks_of cs ms marks) r → KeepsOwnMarks origins a r
keeps-own n origins a r cs ms marks h d k = record { kept = λ p c i j f un mark. by p c i j f un mark }
  where
    by : (p c : ℕ) → p < length a.partition → c < length r.partition → block a.partition p ≡ block r.partition c → AreUnmoved origins (block r.partition c) → marked a.marks p ≡ true → marked r.marks c ≡ true
    by p c i j f un mark = k.kept q c within j same ((h.parts.each q within).kept keep (record { place = p; within = i; members = f ∙ sym same; words = words; mark = mark }))
      where
        vs : List ℕ
        vs = block r.partition c

        filled : 0 < length vs
        filled = d.ordered.filled c j

        first : ℕ
        first = member vs 0

        q : ℕ
        q = home cs first

        few : length a.partition ≤ n
        few = block_count n a.partition h.old.parts.partition h.old.ordered

        -- a member of the block is of the old block p
        at_p : (w : ℕ) → IsIn vs w → home a.partition w ≡ p
        at_p w z = home-in n a.partition p w h.old.parts.partition i (subst (λ t. IsIn t w) (sym f) z)

        own : (x : ℕ) → x < length vs → origin origins (member vs x) ≡ Some (member vs x)
        own x z = un.keep x z

        first_at : home a.partition first ≡ p
        first_at = at_p first (in-member vs 0 filled)

        together : (x : ℕ) → x < length vs → SameBlock cs first (member vs x)
        together x z = same-held a.partition origins cs first (member vs x) first (member vs x) h.blocks (own 0 filled) (own x z)
            (first_at ∙ sym (at_p (member vs x) (in-member vs x z)), subst (λ t. t < length a.partition) (sym first_at) i)

        within : q < length cs
        within = (together 0 filled).1

        inside : (x : ℕ) → x < length vs → IsIn (block cs q) (member vs x)
        inside x z =
            let e : home cs (member vs x) ≡ q = sym (together x z).0 in
            subst (λ t. IsIn (block cs t) (member vs x)) e (home_in cs (member vs x) (subst (λ t. t < length cs) (together x z).0 within))

        number : given_label h.blocks.numbers first ≡ Some p
        number = (h.blocks.are.each first (origin-small origins first first (own 0 filled))).held first (own 0 filled) (subst (λ t. t < length a.partition) (sym first_at) i) ∙ ap Some first_at

        back : (w : ℕ) → w < length origins → home cs w ≡ q → IsIn vs w
        back w z e = which (origin origins w) refl
          where
            shown : given_label h.blocks.numbers w ≡ Some p
            shown = sym ((h.blocks.grouped.exact first w).0 (sym e, within)).0 ∙ number

            which : (o : Option ℕ) → origin origins w ≡ o → IsIn vs w
            which None g = let t : None ≡ Some p = sym ((h.blocks.are.each w z).new g) ∙ shown in absurd (cc)
            which (Some x) g = where_is (cases_lt (home a.partition x) (length a.partition))
              where
                where_is : (home a.partition x < length a.partition) ⊎ (length a.partition ≤ home a.partition x) → IsIn vs w
                where_is (inl l) =
                    let t : Some (home a.partition x) ≡ Some p = sym ((h.blocks.are.each w z).held x g l) ∙ shown in
                    let s : home a.partition x ≡ p = cc in
                    let y : IsIn vs x = subst (λ t. IsIn t x) f (subst (λ t. IsIn (block a.partition t) x) s (home_in a.partition x l)) in
                    subst (IsIn vs) (sym (un.only w x g y)) y
                where_is (inr l) = free ((h.blocks.are.each w z).free x g l)
                  where
                    free : (given_label h.blocks.numbers w ≡ Some (512 + x)) ⊎ ((given_label h.blocks.numbers w ≡ None) × IsAlone origins w x) → IsIn vs w
                    free (inl t) =
                        let s : Some (512 + x) ≡ Some p = sym t ∙ shown in
                        let y : 512 + x ≡ p = cc in
                        let m = h.small in
                        let l = few in
                        absurd (omega arith)
                    free (inr t) = let s : None ≡ Some p = sym t.0 ∙ shown in absurd (cc)

        same : block cs q ≡ vs
        same = rising-unique (block cs q) vs (rising-of (length origins) (block cs q) (h.partition.blocks q within)) (rising-of (length origins) vs (d.parts.partition.blocks c j))
            (record { within = λ x z. back (member (block cs q) x) ((h.partition.blocks q within).below x z) (h.partition.homes q x within z) })
            (record { within = λ x z. inside x z })

        keep : (x : ℕ) → x < length (block cs q) → origin origins (member (block cs q) x) ≡ Some (member (block cs q) x)
        keep = subst (λ t. (x : ℕ) → x < length t → origin origins (member t x) ≡ Some (member t x)) (sym same) un.keep

        words : matrix a.matrices p ≡ matrix ms q
        words =
            sym (restrict-assembly n a.partition a.matrices p h.old.parts i) ∙ ap (λ t. restrict t (whole n a)) (f ∙ sym same)
            ∙ part-kept n origins (whole n a) (block cs q) h.old.value h.origins_in (h.partition.blocks q within) keep
            ∙ sym (h.parts.each q within).words

-- ---- the result

-- what was made of a value that isn't Bottom
pub record IsMade (n : ℕ) (origins : List (Option ℕ)) (a : Option Blocks) (bs cs : List (List ℕ)) (k : ℕ) (ds : List (List ℕ)) (ms : List Matrix) (marks : List Bool) : Type 0 where
  pub small : n ≤ 512
  pub old : IsKeptBlocks n a
  pub some : IsSome a
  pub origins_in : AreOrigins n origins
  pub own : IfSome a (λ b. bs ≡ b.partition)
  pub blocks : AreRenamedBlocks bs origins cs
  pub partition : IsPartition 512 cs
  pub dims : k ≡ length origins
  pub same : ds ≡ cs
  pub parts : IfSome a (λ b. AreRenamedParts n origins b cs ms marks)

renaming-made : (n : ℕ) (origins : List (Option ℕ)) (a : Blocks) (bs cs : List (List ℕ)) (k : ℕ) (ds : List (List ℕ)) (ms : List Matrix) (marks : List Bool) → IsMade n origins (Some a) bs cs k ds ms marks → IsRenaming n origins a ds ms marks
renaming-made n origins a bs cs k ds ms marks h = record {
  small = h.small;
  old = h.old;
  origins_in = h.origins_in;
  blocks = subst (λ t. AreRenamedBlocks a.partition origins t) (sym h.same) (subst (λ t. AreRenamedBlocks t origins cs) h.own h.blocks);
  partition = subst (IsPartition (length origins)) (sym h.same) (renamed-partition bs origins cs h.blocks h.partition);
  parts = subst (λ t. AreRenamedParts n origins a t ms marks) (sym h.same) h.parts;
}

pub given-made : (n : ℕ) (origins : List (Option ℕ)) (a : Option Blocks) (bs cs : List (List ℕ)) (k : ℕ) (ds : List (List ℕ)) (ms : List Matrix) (marks : List Bool) → IsMade n origins a bs cs k ds ms marks → IsEvenGiven k (blocks_of ds ms marks)
given-made n origins None bs cs k ds ms marks h = absurd (let s = h.some in cc)
given-made n origins (Some a) bs cs k ds ms marks h = subst (λ t. IsEvenGiven t (blocks_of ds ms marks)) (sym h.dims) (given-renamed n origins a ds ms marks (renaming-made n origins a bs cs k ds ms marks h))

pub value-made : (n : ℕ) (origins : List (Option ℕ)) (a : Option Blocks) (bs cs : List (List ℕ)) (k : ℕ) (ds : List (List ℕ)) (ms : List Matrix) (marks : List Bool) (r : Decomposed) → IsMade n origins a bs cs k ds ms marks → octagon r ≡ octagon_of k (Some (assembly k ds ms))
    → octagon r ≡ renamed_value origins (octagon (decomposed n a))
unfolding renamed_value
value-made n origins None bs cs k ds ms marks r h e = absurd (let s = h.some in cc)
value-made n origins (Some a) bs cs k ds ms marks r h e = e ∙ ap (λ t. octagon_of t (Some (assembly t ds ms))) h.dims ∙ ap (λ m. octagon_of (length origins) (Some m)) (whole-renamed n origins a ds ms marks (renaming-made n origins a bs cs k ds ms marks h))

pub value-bottom : (n : ℕ) (origins : List (Option ℕ)) (a : Option Blocks) (r : Decomposed) → a ≡ None → octagon r ≡ bottom_value (length origins) → octagon r ≡ renamed_value origins (octagon (decomposed n a))
unfolding renamed_value bottom_value
value-bottom n origins a r z e = e ∙ sym (ap (λ t. renamed_value origins (octagon (decomposed n t))) z)

pub marks-made : (n : ℕ) (origins : List (Option ℕ)) (a : Option Blocks) (bs cs : List (List ℕ)) (k : ℕ) (ds : List (List ℕ)) (ms : List Matrix) (marks : List Bool) (r : Decomposed) → IsMade n origins a bs cs k ds ms marks → octagon r ≡ octagon_of k (Some (assembly k ds ms))
    → IsKept r → KeepsMarksOf (blocks_of ds ms marks) r.blocks → KeepsOwnMarksOf origins a r.blocks
marks-made n origins None bs cs k ds ms marks r h e kept m = absurd (let s = h.some in cc)
marks-made n origins (Some a) bs cs k ds ms marks r h e kept m = by r.dims r.blocks (ap (λ z. z.dims) e ∙ h.dims) (ap (λ z. z.matrix) e) kept.blocks m
  where
    by : (d : ℕ) (o : Option Blocks) → d ≡ length origins → option_map (whole d) o ≡ Some (assembly k ds ms) → IsKeptBlocks d o → KeepsMarksOf (blocks_of ds ms marks) o → KeepsOwnMarksOf origins (Some a) o
    by d None g j x y = absurd (cc)
    by d (Some b) g j x y = keeps-own n origins a b ds ms marks (renaming-made n origins a bs cs k ds ms marks h) (subst (λ t. IsDecomposition t b) g x) y
