-- What is true of each block's matrix is true of the assembly.
use Rattle.std.proofs.Common.{◌≡◌, ℕ, ◌*◌, ◌/◌, ◌<◌, ◌⊎◌, inl, inr, Bool, true, false, cond, List, length, Some, None, refl, sym, ap, ◌∙◌, subst, arith}
use Rattle.std.specs.Prelude.{pos, nat_eq}
use Rattle.std.proofs.lemmas.Bool.{cases_Bool}
use Rattle.std.proofs.lemmas.Bool.Decides.{Decides-eqb, same_from_decides}
use Rattle.oct_def.specs.Bound.{Bound, InRange, IsEven}
use Rattle.oct_def.specs.Table.{Matrix, at}
use Rattle.oct_def.specs.Matrix.{opposite, IsSquare, IsCoherent, IsEvenMatrix}
use Rattle.oct_def.specs.Octagon.{top_entry}
use Rattle.oct_def.proofs.Values.{IsShape, IsLow, low, LowDiagonal, each-table, even_unary-table, EvenUnary}
use Rattle.oct_def.proofs.Coherent.{coherent-table}
use Rattle.oct_def.proofs.Indices.{opposite_same}
use Rattle.oct_def.proofs.Tables.{square-table}
use Rattle.std.proofs.lemmas.Int.{ints}
use Rattle.block_partition.specs.Partition.{place, IsIn, block, home}
use Rattle.block_partition.proofs.Places.{home_in}
use Rattle.block_laws.specs.Assembly.{inner, matrix, is_joint, assembly_entry, assembly, IsParts}
use Rattle.block_laws.proofs.Places.{inner_below}
use Rattle.block_laws.proofs.Assembly.{joint-gives, joint-from, assembly_entry-joint, assembly_entry-apart, length-assembly, at-assembly, top_entry-off, top_entry-on}

square-assembly : (n : ℕ) (bs : List (List ℕ)) (ms : List Matrix) → IsSquare (assembly n bs ms)
unfolding assembly
square-assembly n bs ms = square-table (2 * n) (assembly_entry bs ms)

inner-opposite : (vs : List ℕ) (i : ℕ) → inner vs (opposite i) ≡ opposite (inner vs i)
unfolding inner
inner-opposite vs i =
    let e : opposite i / 2 ≡ i / 2 = omega arith in
    let f : place vs (opposite i / 2) ≡ place vs (i / 2) = ap (place vs) e in
    omega arith

-- an entry is a block's or top's
pub data Comes (bs : List (List ℕ)) (ms : List Matrix) (i j : ℕ) : Type 0 where
  inside : (b : ℕ) → b < length bs → home bs (i / 2) ≡ b → home bs (j / 2) ≡ b → IsIn (block bs b) (i / 2) → IsIn (block bs b) (j / 2)
      → assembly_entry bs ms i j ≡ at (matrix ms b) (inner (block bs b) i) (inner (block bs b) j) → Comes bs ms i j
  outside : is_joint bs i j ≡ false → assembly_entry bs ms i j ≡ top_entry i j → Comes bs ms i j

pub comes : (bs : List (List ℕ)) (ms : List Matrix) (i j : ℕ) → Comes bs ms i j
comes bs ms i j = by (cases_Bool (is_joint bs i j))
  where
    by : (is_joint bs i j ≡ true) ⊎ (is_joint bs i j ≡ false) → Comes bs ms i j
    by (inl e) =
        let r = joint-gives bs i j e in
        let p : home bs (j / 2) < length bs = subst (λ t. t < length bs) r.0 r.1 in
        inside (home bs (i / 2)) r.1 refl (sym r.0) (home_in bs (i / 2) r.1) (subst (λ t. IsIn (block bs t) (j / 2)) (sym r.0) (home_in bs (j / 2) p))
        (assembly_entry-joint bs ms (home bs (i / 2)) i j r.1 refl (sym r.0))
    by (inr e) = outside e (assembly_entry-apart bs ms i j e)

half-opposite : (i : ℕ) → opposite i / 2 ≡ i / 2
half-opposite i = omega arith

joint-turned : (bs : List (List ℕ)) (i j : ℕ) → is_joint bs (opposite j) (opposite i) ≡ true → is_joint bs i j ≡ true
joint-turned bs i j e =
    let r = joint-gives bs (opposite j) (opposite i) e in
    let f : home bs (opposite j / 2) ≡ home bs (j / 2) = ap (home bs) (half-opposite j) in
    let g : home bs (opposite i / 2) ≡ home bs (i / 2) = ap (home bs) (half-opposite i) in
    let s : home bs (i / 2) ≡ home bs (j / 2) = sym g ∙ sym r.0 ∙ f in
    joint-from bs i j s (subst (λ t. t < length bs) (f ∙ sym s) r.1)

apart-turned : (bs : List (List ℕ)) (i j : ℕ) → is_joint bs i j ≡ false → is_joint bs (opposite j) (opposite i) ≡ false
apart-turned bs i j e = by (cases_Bool (is_joint bs (opposite j) (opposite i)))
  where
    by : (is_joint bs (opposite j) (opposite i) ≡ true) ⊎ (is_joint bs (opposite j) (opposite i) ≡ false) → is_joint bs (opposite j) (opposite i) ≡ false
    by (inl f) = absurd (let g = joint-turned bs i j f in cc)
    by (inr f) = f

top_entry-twin : (i j : ℕ) → top_entry i j ≡ top_entry (opposite j) (opposite i)
unfolding top_entry
top_entry-twin i j = ap (λ (b : Bool). cond b (Some (pos 0)) None)
    (same_from_decides {P = i ≡ j} (nat_eq i j) (nat_eq (opposite j) (opposite i)) (Decides-eqb i j)
    (λ e. sym (opposite_same j i ((Decides-eqb (opposite j) (opposite i)).0 e)), λ e. (Decides-eqb (opposite j) (opposite i)).1 (ap opposite (sym e))))

pub coherent-assembly : (n : ℕ) (bs : List (List ℕ)) (ms : List Matrix) → IsParts n bs ms → ((b : ℕ) → b < length bs → IsCoherent (matrix ms b)) → IsCoherent (assembly n bs ms)
unfolding assembly
coherent-assembly n bs ms ps h = coherent-table n (assembly_entry bs ms) (λ i j p q. by i j (comes bs ms i j))
  where
    by : (i j : ℕ) → Comes bs ms i j → assembly_entry bs ms i j ≡ assembly_entry bs ms (opposite j) (opposite i)
    by i j (outside e f) = f ∙ top_entry-twin i j ∙ sym (assembly_entry-apart bs ms (opposite j) (opposite i) (apart-turned bs i j e))
    by i j (inside b p ei ej ii ij f) =
        let s = ps.size b p in
        let x = inner_below (block bs b) i ii in
        let y = inner_below (block bs b) j ij in
        f ∙ (h b p).twins (inner (block bs b) i) (inner (block bs b) j) (omega arith) (omega arith)
        ∙ ap (λ t. at (matrix ms b) t (opposite (inner (block bs b) i))) (sym (inner-opposite (block bs b) j))
        ∙ ap (at (matrix ms b) (inner (block bs b) (opposite j))) (sym (inner-opposite (block bs b) i))
        ∙ sym (assembly_entry-joint bs ms b (opposite j) (opposite i) p (ap (home bs) (half-opposite j) ∙ ej) (ap (home bs) (half-opposite i) ∙ ei))

top-each : (P : Bound → Type 0) → P None → P (Some (pos 0)) → (i j : ℕ) → P (top_entry i j)
unfolding top_entry
top-each P none zero i j = by (nat_eq i j)
  where
    by : (b : Bool) → P (cond b (Some (pos 0)) None)
    by true = zero
    by false = none

pub in_range-assembly : (n : ℕ) (bs : List (List ℕ)) (ms : List Matrix) → ((b : ℕ) → b < length bs → (i j : ℕ) → InRange (at (matrix ms b) i j)) → (i j : ℕ) → InRange (at (assembly n bs ms) i j)
unfolding assembly
in_range-assembly n bs ms h = each-table InRange tt (2 * n) (assembly_entry bs ms) (λ i j p q. by i j (comes bs ms i j))
  where
    by : (i j : ℕ) → Comes bs ms i j → InRange (assembly_entry bs ms i j)
    by i j (outside e f) = subst InRange (sym f) (top-each InRange tt (omega (arith, ints), omega (arith, ints)) i j)
    by i j (inside b p ei ej ii ij f) = subst InRange (sym f) (h b p (inner (block bs b) i) (inner (block bs b) j))

pub shape-assembly : (n : ℕ) (bs : List (List ℕ)) (ms : List Matrix) → IsParts n bs ms → ((b : ℕ) → b < length bs → IsShape (length (block bs b)) (matrix ms b)) → IsShape n (assembly n bs ms)
shape-assembly n bs ms ps h = record {
  rows = length-assembly n bs ms;
  square = square-assembly n bs ms;
  coherent = coherent-assembly n bs ms ps (λ b p. (h b p).coherent);
  in_range = in_range-assembly n bs ms (λ b p. (h b p).in_range);
}

-- the diagonal
diagonal-each : (P : Bound → Type 0) (n : ℕ) (bs : List (List ℕ)) (ms : List Matrix) → IsParts n bs ms → P (Some (pos 0)) → ((b : ℕ) → b < length bs → (i : ℕ) → i < length (matrix ms b) → P (at (matrix ms b) i i)) → (i : ℕ) → i < length (assembly n bs ms) → P (at (assembly n bs ms) i i)
diagonal-each P n bs ms ps zero h i p = subst P (sym (at-assembly n bs ms i i q q)) (by (comes bs ms i i))
  where
    q : i < 2 * n
    q = omega (arith, p, length-assembly n bs ms)

    by : Comes bs ms i i → P (assembly_entry bs ms i i)
    by (outside e f) = subst P (sym (f ∙ top_entry-on i)) zero
    by (inside b r ei ej ii ij f) =
        let s = ps.size b r in
        let x = inner_below (block bs b) i ii in
        subst P (sym f) (h b r (inner (block bs b) i) (omega arith))

pub low_diagonal-assembly : (n : ℕ) (bs : List (List ℕ)) (ms : List Matrix) → IsParts n bs ms → ((b : ℕ) → b < length bs → LowDiagonal (matrix ms b)) → LowDiagonal (assembly n bs ms)
unfolding LowDiagonal
low_diagonal-assembly n bs ms ps h = diagonal-each IsLow n bs ms ps (low (pos 0) refl (omega (arith, ints))) h

even_of : (n : ℕ) (bs : List (List ℕ)) (ms : List Matrix) → IsParts n bs ms → ((b : ℕ) → b < length bs → IsEvenMatrix (length (block bs b)) (matrix ms b)) → (i : ℕ) → IsEven (at (assembly n bs ms) i (opposite i))
unfolding assembly EvenUnary
even_of n bs ms ps h = even_unary-table n (assembly_entry bs ms) (λ i p. by i (comes bs ms i (opposite i)))
  where
    by : (i : ℕ) → Comes bs ms i (opposite i) → IsEven (assembly_entry bs ms i (opposite i))
    by i (outside e f) = subst IsEven (sym (f ∙ top_entry-off i (opposite i) (λ t. absurd (omega arith)))) refl
    by i (inside b p ei ej ii ij f) = subst IsEven (sym (f ∙ ap (at (matrix ms b) (inner (block bs b) i)) (inner-opposite (block bs b) i))) ((h b p).even (inner (block bs b) i))

pub even-assembly : (n : ℕ) (bs : List (List ℕ)) (ms : List Matrix) → IsParts n bs ms → ((b : ℕ) → b < length bs → IsEvenMatrix (length (block bs b)) (matrix ms b)) → IsEvenMatrix n (assembly n bs ms)
even-assembly n bs ms ps h = record {
  matrix = record {
    rows = length-assembly n bs ms;
    square = square-assembly n bs ms;
    coherent = coherent-assembly n bs ms ps (λ b p. (h b p).matrix.coherent);
    in_range = in_range-assembly n bs ms (λ b p. (h b p).matrix.in_range);
    diagonal = diagonal-each (λ t. t ≡ Some (pos 0)) n bs ms ps refl (λ b p. (h b p).matrix.diagonal);
  };
  even = even_of n bs ms ps h;
}
