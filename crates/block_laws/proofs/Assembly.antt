-- The assembly of blocks: its parts are the blocks' matrices, and a separated matrix is the assembly of its parts.
use Rattle.std.proofs.Common.{◌≡◌, ℕ, ◌*◌, ◌/◌, ◌<◌, ◌≤◌, Bool, true, false, cond, eqb, List, [], ◌∷◌, length, Some, None, refl, sym, ap, ◌∙◌, subst, arith, zero, suc}
use Rattle.std.proofs.lemmas.Bool.{ltb-true, lt-ltb, eqb-true, eq-eqb, ne_eqb, and_from, and_parts}
use Rattle.std.proofs.lemmas.Bool.Decides.{Decides-eqb, same_from_decides}
use Rattle.std.proofs.lemmas.List.{get_or-map}
use Rattle.std.specs.Prelude.{pos}
use Rattle.oct_def.specs.Table.{Matrix, table, at}
use Rattle.oct_def.specs.Matrix.{IsSquare}
use Rattle.oct_def.specs.Octagon.{top_entry}
use Rattle.oct_def.proofs.Tables.{length-table, at-table, table-same, table-at, is-table}
use Rattle.block_partition.specs.Partition.{member, place, IsIn, block, home, IsBlock, IsPartition}
use Rattle.block_laws.specs.Assembly.{outer, inner, restrict_entry, restrict, matrix, is_joint, block_entry, assembly_entry, assembly, IsParts, IsCutOff, IsSeparated, part, parts}
use Rattle.block_partition.proofs.Places.{member-place, in-member, home_in, home-in}
use Rattle.block_laws.proofs.Places.{outer_below, outer_in, inner_below, outer-inner, inner-outer}
use Rattle.block_laws.proofs.Restrict.{at-restrict, restrict-is}

-- ---- dimensions of one block

pub joint-from : (bs : List (List ℕ)) (i j : ℕ) → home bs (i / 2) ≡ home bs (j / 2) → home bs (i / 2) < length bs → is_joint bs i j ≡ true
unfolding is_joint
joint-from bs i j e h = and_from _ _ (eq-eqb _ _ e) (lt-ltb _ _ h)

pub joint-gives : (bs : List (List ℕ)) (i j : ℕ) → is_joint bs i j ≡ true → (home bs (i / 2) ≡ home bs (j / 2)) × (home bs (i / 2) < length bs)
unfolding is_joint
joint-gives bs i j h = let r = and_parts _ _ h in (eqb-true _ _ r.0, ltb-true _ _ r.1)

pub joint-not : (bs : List (List ℕ)) (i j : ℕ) → (home bs (i / 2) ≡ home bs (j / 2) → home bs (i / 2) < length bs → ⊥) → is_joint bs i j ≡ false
joint-not bs i j h = by (is_joint bs i j) refl
  where
    by : (b : Bool) → is_joint bs i j ≡ b → b ≡ false
    by true e = let r = joint-gives bs i j e in absurd (h r.0 r.1)
    by false e = refl

pub top_entry-off : (i j : ℕ) → (i ≡ j → ⊥) → top_entry i j ≡ None
unfolding top_entry
top_entry-off i j h = ap (λ (b : Bool). cond b (Some (pos 0)) None) (ne_eqb i j h)

pub top_entry-on : (i : ℕ) → top_entry i i ≡ Some (pos 0)
unfolding top_entry
top_entry-on i = ap (λ (b : Bool). cond b (Some (pos 0)) None) (eq-eqb i i refl)

-- ---- the assembly

pub length-assembly : (n : ℕ) (bs : List (List ℕ)) (ms : List Matrix) → length (assembly n bs ms) ≡ 2 * n
unfolding assembly
length-assembly n bs ms = length-table (2 * n) (assembly_entry bs ms)

pub at-assembly : (n : ℕ) (bs : List (List ℕ)) (ms : List Matrix) (i j : ℕ) → i < 2 * n → j < 2 * n → at (assembly n bs ms) i j ≡ assembly_entry bs ms i j
unfolding assembly
at-assembly n bs ms i j p q = at-table (2 * n) (assembly_entry bs ms) i j p q

pub assembly_entry-joint : (bs : List (List ℕ)) (ms : List Matrix) (b i j : ℕ) → b < length bs → home bs (i / 2) ≡ b → home bs (j / 2) ≡ b → assembly_entry bs ms i j ≡ at (matrix ms b) (inner (block bs b) i) (inner (block bs b) j)
unfolding assembly_entry block_entry
assembly_entry-joint bs ms b i j h e f =
    let t : is_joint bs i j ≡ true = joint-from bs i j (e ∙ sym f) (omega arith) in
    ap (λ (b : Bool). cond b (block_entry bs ms (home bs (i / 2)) i j) (top_entry i j)) t
    ∙ ap (λ b. block_entry bs ms b i j) e

pub assembly_entry-apart : (bs : List (List ℕ)) (ms : List Matrix) (i j : ℕ) → is_joint bs i j ≡ false → assembly_entry bs ms i j ≡ top_entry i j
unfolding assembly_entry
assembly_entry-apart bs ms i j t = ap (λ (b : Bool). cond b (block_entry bs ms (home bs (i / 2)) i j) (top_entry i j)) t

pub separated-assembly : (n : ℕ) (bs : List (List ℕ)) (ms : List Matrix) → IsSeparated n bs (assembly n bs ms)
unfolding assembly
separated-assembly n bs ms = record {
  apart = λ i j p q h. at-table (2 * n) (assembly_entry bs ms) i j p q ∙ assembly_entry-apart bs ms i j h;
}

home-outer : (n : ℕ) (bs : List (List ℕ)) (b i : ℕ) → IsPartition n bs → b < length bs → i < 2 * length (block bs b) → home bs (outer (block bs b) i / 2) ≡ b
home-outer n bs b i pt h p = home-in n bs b _ pt h (outer_in (block bs b) i p)

pub restrict-assembly : (n : ℕ) (bs : List (List ℕ)) (ms : List Matrix) (b : ℕ) → IsParts n bs ms → b < length bs → restrict (block bs b) (assembly n bs ms) ≡ matrix ms b
unfolding assembly
restrict-assembly n bs ms b ps h =
    let bl = ps.partition.blocks b h in
    restrict-is n (block bs b) (assembly_entry bs ms) (at (matrix ms b)) _ bl (ps.size b h) (λ i j p q.
    assembly_entry-joint bs ms b _ _ h (home-outer n bs b i ps.partition h p) (home-outer n bs b j ps.partition h q)
    ∙ ap (λ t. at (matrix ms b) t (inner (block bs b) (outer (block bs b) j))) (inner-outer n (block bs b) i bl p)
    ∙ ap (at (matrix ms b) i) (inner-outer n (block bs b) j bl q))
    ∙ sym (table-at (matrix ms b) (ps.square b h))

-- a separated matrix is the assembly of its parts
matrix-parts : (bs : List (List ℕ)) (m : Matrix) (b : ℕ) → b < length bs → matrix (parts bs m) b ≡ restrict (block bs b) m
unfolding parts part
matrix-parts bs m b h = get_or-map (part m) bs b [] [] h

pub assembly-is : (n : ℕ) (bs : List (List ℕ)) (m : Matrix) (rs : List Matrix) → IsPartition n bs → IsSquare m → length m ≡ 2 * n → IsSeparated n bs m → ((b : ℕ) → b < length bs → matrix rs b ≡ restrict (block bs b) m) → m ≡ assembly n bs rs
unfolding assembly
assembly-is n bs m rs pt sq e sep each = is-table m (2 * n) (assembly_entry bs rs) sq e (λ i j p q. by i j p q (is_joint bs i j) refl)
  where
    joint : (i j b : ℕ) → b < length bs → home bs (i / 2) ≡ b → home bs (j / 2) ≡ b → at m i j ≡ assembly_entry bs rs i j
    joint i j b h ei ej =
        let hi : IsIn (block bs b) (i / 2) = subst (λ t. IsIn (block bs t) (i / 2)) ei (home_in bs (i / 2) (omega arith)) in
        let hj : IsIn (block bs b) (j / 2) = subst (λ t. IsIn (block bs t) (j / 2)) ej (home_in bs (j / 2) (omega arith)) in
        sym (assembly_entry-joint bs rs b i j h ei ej
        ∙ ap (λ x. at x (inner (block bs b) i) (inner (block bs b) j)) (each b h)
        ∙ at-restrict (block bs b) m _ _ (inner_below (block bs b) i hi) (inner_below (block bs b) j hj)
        ∙ ap (λ t. at m t (outer (block bs b) (inner (block bs b) j))) (outer-inner (block bs b) i hi)
        ∙ ap (at m i) (outer-inner (block bs b) j hj))

    by : (i j : ℕ) → i < 2 * n → j < 2 * n → (b : Bool) → is_joint bs i j ≡ b → at m i j ≡ assembly_entry bs rs i j
    by i j p q true t = let r = joint-gives bs i j t in joint i j (home bs (i / 2)) r.1 refl (sym r.0)
    by i j p q false t = sep.apart i j p q t ∙ sym (assembly_entry-apart bs rs i j t)

pub assembly-parts : (n : ℕ) (bs : List (List ℕ)) (m : Matrix) → IsPartition n bs → IsSquare m → length m ≡ 2 * n → IsSeparated n bs m → m ≡ assembly n bs (parts bs m)
assembly-parts n bs m pt sq e sep = assembly-is n bs m (parts bs m) pt sq e sep (matrix-parts bs m)

-- ---- blocks, and variables in no block, are cut off in a separated matrix

pub half_apart : (vs : List ℕ) (i j : ℕ) → IsIn vs (i / 2) → (IsIn vs (j / 2) → ⊥) → i ≡ j → ⊥
half_apart vs i j h g e = g (subst (λ t. IsIn vs (t / 2)) e h)

pub cut_off-block : (n : ℕ) (bs : List (List ℕ)) (m : Matrix) (b : ℕ) → length m ≡ 2 * n → IsPartition n bs → IsSeparated n bs m → b < length bs → IsCutOff (block bs b) m
cut_off-block n bs m b e pt sep h = record {
  out = λ i j p q hi hj. sep.apart i j (omega arith) (omega arith) (joint-not bs i j (λ f g. hj (in_same i j hi f)))
      ∙ top_entry-off i j (half_apart (block bs b) i j hi hj);
  back = λ i j p q hi hj. sep.apart j i (omega arith) (omega arith) (joint-not bs j i (λ f g. hj (in_same i j hi (sym f))))
      ∙ top_entry-off j i (λ t. half_apart (block bs b) i j hi hj (sym t));
}
  where
    in_same : (i j : ℕ) → IsIn (block bs b) (i / 2) → home bs (i / 2) ≡ home bs (j / 2) → IsIn (block bs b) (j / 2)
    in_same i j hi f =
        let g : home bs (j / 2) ≡ b = sym f ∙ home-in n bs b (i / 2) pt h hi in
        subst (λ t. IsIn (block bs t) (j / 2)) g (home_in bs (j / 2) (omega arith))

-- the block of one variable
unfoldable pub single : ℕ → List ℕ
single v = v ∷ []

pub block-single : (n v : ℕ) → v < n → IsBlock n (single v)
unfolding single
block-single n v h = record { below = λ i p. by i p; rising = λ i j p q. absurd (omega arith) }
  where
    by : (i : ℕ) → i < 1 → member (v ∷ []) i < n
    by zero p = h
    by (suc i) p = absurd (omega arith)

pub in-single : (v : ℕ) → IsIn (single v) v
unfolding single
in-single v = in-member (v ∷ []) 0 (omega arith)

pub single-in : (v w : ℕ) → IsIn (single v) w → w ≡ v
unfolding single
single-in v w h = sym (member-place (v ∷ []) w h) ∙ by (place (v ∷ []) w) h
  where
    by : (i : ℕ) → i < 1 → member (v ∷ []) i ≡ v
    by zero p = refl
    by (suc i) p = absurd (omega arith)

pub cut_off-single : (n : ℕ) (bs : List (List ℕ)) (m : Matrix) (v : ℕ) → length m ≡ 2 * n → IsSeparated n bs m → v < n → length bs ≤ home bs v → IsCutOff (single v) m
cut_off-single n bs m v e sep hv h = record {
  out = λ i j p q hi hj. sep.apart i j (omega arith) (omega arith) (joint-not bs i j (λ f g. free i hi g))
      ∙ top_entry-off i j (half_apart (single v) i j hi hj);
  back = λ i j p q hi hj. sep.apart j i (omega arith) (omega arith) (joint-not bs j i (λ f g. free i hi (omega arith)))
      ∙ top_entry-off j i (λ t. half_apart (single v) i j hi hj (sym t));
}
  where
    free : (i : ℕ) → IsIn (single v) (i / 2) → home bs (i / 2) < length bs → ⊥
    free i hi g = let f : home bs (i / 2) ≡ home bs v = ap (home bs) (single-in v (i / 2) hi) in omega arith

-- two rows and columns of top
unfoldable pub top_two : Matrix
top_two = table 2 top_entry

pub restrict-single : (n : ℕ) (bs : List (List ℕ)) (m : Matrix) (v : ℕ) → length m ≡ 2 * n → IsSeparated n bs m → v < n → length bs ≤ home bs v → restrict (single v) m ≡ top_two
unfolding restrict restrict_entry single top_two top_entry
restrict-single n bs m v e sep hv h = table-same 2 _ top_entry (λ i j p q.
    let bl = block-single n v hv in
    let bi : outer (v ∷ []) i < 2 * n = outer_below n (v ∷ []) i bl p in
    let bj : outer (v ∷ []) j < 2 * n = outer_below n (v ∷ []) j bl q in
    let fi : home bs (outer (v ∷ []) i / 2) ≡ home bs v = ap (home bs) (single-in v _ (outer_in (v ∷ []) i p)) in
    sep.apart _ _ bi bj (joint-not bs (outer (v ∷ []) i) (outer (v ∷ []) j) (λ f g. omega arith))
    ∙ ap (λ (b : Bool). cond b (Some (pos 0)) None) (same i j p q bl))
  where
    same : (i j : ℕ) → i < 2 → j < 2 → IsBlock n (v ∷ []) → eqb (outer (v ∷ []) i) (outer (v ∷ []) j) ≡ eqb i j
    same i j p q bl = same_from_decides {P = i ≡ j} _ _ (
      λ t. sym (inner-outer n (v ∷ []) i bl p) ∙ ap (inner (v ∷ [])) ((Decides-eqb (outer (v ∷ []) i) (outer (v ∷ []) j)).0 t) ∙ inner-outer n (v ∷ []) j bl q,
      λ t. (Decides-eqb (outer (v ∷ []) i) (outer (v ∷ []) j)).1 (ap (outer (v ∷ [])) t),
    )
        (Decides-eqb i j)
