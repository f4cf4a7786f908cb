-- Join, widening and narrowing block by block, and the links of an assembly.
use Rattle.std.proofs.Common.{◌≡◌, ℕ, ◌+◌, ◌*◌, ◌/◌, ◌%◌, ◌<◌, ◌⊎◌, inl, inr, Bool, true, false, cond, List, length, Some, None, refl, sym, ap, ◌∙◌, subst, arith, map}
use Rattle.std.specs.Prelude.{◌↔◌, pos}
use Rattle.std.proofs.lemmas.Bool.{cases_eq, both_ways}
use Rattle.std.proofs.lemmas.List.{get_or-map, length-map}
use Rattle.oct_def.specs.Bound.{Bound, greatest, at_most}
use Rattle.oct_def.specs.Table.{Matrix, table, at}
use Rattle.oct_def.specs.Octagon.{top_entry, join_entry, join_matrix, widen_bound, widen_entry, widen_matrix, narrow_bound, narrow_entry, narrow_matrix}
use Rattle.oct_def.proofs.Tables.{at-table, table-same}
use Rattle.block_partition.specs.Partition.{member, place, block, home, IsIn, IsBlock, IsPartition, SameBlock}
use Rattle.block_laws.specs.Assembly.{matrix, is_joint, outer, inner, restrict_entry, restrict, assembly, IsParts, IsSeparated}
use Rattle.block_laws.specs.Components.{Linked, One, More, IsComponents, IsZeroDiagonal}
use Rattle.block_laws.specs.Lattice.{IsMeet, IsFiner}
use Rattle.block_partition.proofs.Places.{member-place, home_in, home-in}
use Rattle.block_laws.proofs.Places.{outer-half, outer_below, inner_below, outer-inner, inner-outer}
use Rattle.block_laws.proofs.Restrict.{length-restrict, at-restrict, restrict-is}
use Rattle.block_laws.proofs.Assembly.{joint-from, joint-gives, top_entry-off, top_entry-on, length-assembly, separated-assembly, restrict-assembly}
use Rattle.block_laws.proofs.Components.{joins-same}

-- ---- the part over a block of an operation entry by entry

unfoldable pub at_each : (Bound → Bound → Bound) → Matrix → Matrix → ℕ → ℕ → Bound
at_each op a b i j = op (at a i j) (at b i j)

pub restrict-each : (op : Bound → Bound → Bound) (n : ℕ) (vs : List ℕ) (a b : Matrix) → length a ≡ 2 * n → IsBlock n vs → restrict vs (table (length a) (at_each op a b)) ≡ table (length (restrict vs a)) (at_each op (restrict vs a) (restrict vs b))
unfolding at_each
restrict-each op n vs a b e bl =
    ap (λ t. restrict vs (table t (at_each op a b))) e
    ∙ restrict-is n vs (at_each op a b) (at_each op (restrict vs a) (restrict vs b)) _ bl (length-restrict vs a)
    (λ i j p q. ap (λ t. op t (at b (outer vs i) (outer vs j))) (sym (at-restrict vs a i j p q)) ∙ ap (op (at (restrict vs a) i j)) (sym (at-restrict vs b i j p q)))

pub restrict-join : (n : ℕ) (vs : List ℕ) (a b : Matrix) → length a ≡ 2 * n → IsBlock n vs → restrict vs (join_matrix a b) ≡ join_matrix (restrict vs a) (restrict vs b)
unfolding join_matrix join_entry at_each
restrict-join n vs a b e bl = restrict-each greatest n vs a b e bl

pub restrict-widen : (n : ℕ) (vs : List ℕ) (a b : Matrix) → length a ≡ 2 * n → IsBlock n vs → restrict vs (widen_matrix a b) ≡ widen_matrix (restrict vs a) (restrict vs b)
unfolding widen_matrix widen_entry at_each
restrict-widen n vs a b e bl = restrict-each widen_bound n vs a b e bl

pub restrict-narrow : (n : ℕ) (vs : List ℕ) (a b : Matrix) → length a ≡ 2 * n → IsBlock n vs → restrict vs (narrow_matrix a b) ≡ narrow_matrix (restrict vs a) (restrict vs b)
unfolding narrow_matrix narrow_entry at_each
restrict-narrow n vs a b e bl = restrict-each narrow_bound n vs a b e bl

-- ---- which blocks separate them

each-top : (op : Bound → Bound → Bound) (n : ℕ) (a b : Matrix) (i j : ℕ) → op (Some (pos 0)) (Some (pos 0)) ≡ Some (pos 0) → (i ≡ j → (at a i j ≡ Some (pos 0)) × (at b i j ≡ Some (pos 0))) → ((i ≡ j → ⊥) → op (at a i j) (at b i j) ≡ None) → op (at a i j) (at b i j) ≡ top_entry i j
each-top op n a b i j none same other = by (cases_eq i j)
  where
    by : (i ≡ j) ⊎ (i ≡ j → ⊥) → op (at a i j) (at b i j) ≡ top_entry i j
    by (inl e) =
        ap (λ t. op t (at b i j)) ((same e).0) ∙ ap (op (Some (pos 0))) ((same e).1) ∙ none
        ∙ sym (top_entry-on i) ∙ ap (top_entry i) e
    by (inr d) = other d ∙ sym (top_entry-off i j d)

zero_at : (n : ℕ) (m : Matrix) (i j : ℕ) → IsZeroDiagonal n m → i < 2 * n → i ≡ j → at m i j ≡ Some (pos 0)
zero_at n m i j z p e = ap (at m i) (sym e) ∙ z.zero i p

greatest-none : (a b : Bound) → (a ≡ None) ⊎ (b ≡ None) → greatest a b ≡ None
greatest-none None b h = refl
greatest-none (Some x) None h = refl
greatest-none (Some x) (Some y) (inl e) = absurd (cc)
greatest-none (Some x) (Some y) (inr e) = absurd (cc)

pub separated-join : (n : ℕ) (bs cs ds : List (List ℕ)) (a b : Matrix) → length a ≡ 2 * n → IsSeparated n bs a → IsSeparated n cs b → IsZeroDiagonal n a → IsZeroDiagonal n b → IsMeet n bs cs ds → IsSeparated n ds (join_matrix a b)
unfolding join_matrix join_entry
separated-join n bs cs ds a b e sa sb za zb mt = record {
  apart = λ i j p q h.
      at-table (length a) _ i j (omega arith) (omega arith)
      ∙ each-top greatest n a b i j refl (λ f. (zero_at n a i j za p f, zero_at n b i j zb p f))
      (λ d. greatest-none _ _ (by i j p q h d (is_joint bs i j) (is_joint cs i j) refl refl));
}
  where
    by : (i j : ℕ) → i < 2 * n → j < 2 * n → is_joint ds i j ≡ false → (i ≡ j → ⊥) → (s t : Bool) → is_joint bs i j ≡ s → is_joint cs i j ≡ t → (at a i j ≡ None) ⊎ (at b i j ≡ None)
    by i j p q h d false t f g = inl (sa.apart i j p q f ∙ top_entry-off i j d)
    by i j p q h d true false f g = inr (sb.apart i j p q g ∙ top_entry-off i j d)
    by i j p q h d true true f g =
        let r = mt.shared (i / 2) (j / 2) (omega arith) (omega arith) (joint-gives bs i j f) (joint-gives cs i j g) in
        absurd (both_ways _ h (joint-from ds i j r.0 r.1))

widen-none : (a b : Bound) → a ≡ None → widen_bound a b ≡ None
widen-none a b e = ap (λ t. widen_bound t b) e ∙ by (at_most b None)
  where
    by : (t : Bool) → cond {A = Bound} t None None ≡ None
    by true = refl
    by false = refl

pub separated-widen : (n : ℕ) (bs : List (List ℕ)) (a b : Matrix) → length a ≡ 2 * n → IsSeparated n bs a → IsZeroDiagonal n a → IsZeroDiagonal n b → IsSeparated n bs (widen_matrix a b)
unfolding widen_matrix widen_entry
separated-widen n bs a b e sa za zb = record {
  apart = λ i j p q h.
      at-table (length a) _ i j (omega arith) (omega arith)
      ∙ each-top widen_bound n a b i j refl (λ f. (zero_at n a i j za p f, zero_at n b i j zb p f))
      (λ d. widen-none _ _ (sa.apart i j p q h ∙ top_entry-off i j d));
}

pub separated-narrow : (n : ℕ) (bs cs ds : List (List ℕ)) (a b : Matrix) → length a ≡ 2 * n → IsSeparated n bs a → IsSeparated n cs b → IsFiner n bs ds → IsFiner n cs ds → IsSeparated n ds (narrow_matrix a b)
unfolding narrow_matrix narrow_entry
separated-narrow n bs cs ds a b e sa sb fb fc = record {
  apart = λ i j p q h.
      at-table (length a) _ i j (omega arith) (omega arith)
      ∙ ap (λ t. narrow_bound t (at b i j)) (sa.apart i j p q (coarser bs fb i j p q h))
      ∙ ap (narrow_bound (top_entry i j)) (sb.apart i j p q (coarser cs fc i j p q h))
      ∙ twice (top_entry i j);
}
  where
    coarser : (xs : List (List ℕ)) → IsFiner n xs ds → (i j : ℕ) → i < 2 * n → j < 2 * n → is_joint ds i j ≡ false → is_joint xs i j ≡ false
    coarser xs f i j p q h = by (is_joint xs i j) refl
      where
        by : (t : Bool) → is_joint xs i j ≡ t → t ≡ false
        by false e = refl
        by true e =
            let r = f.kept (i / 2) (j / 2) (omega arith) (omega arith) (joint-gives xs i j e) in
            absurd (both_ways _ h (joint-from ds i j r.0 r.1))

    twice : (a : Bound) → narrow_bound a a ≡ a
    twice None = refl
    twice (Some x) = refl

-- ---- components

bound_cases : (a : Bound) → (a ≡ None) ⊎ (a ≡ None → ⊥)
bound_cases None = inl refl
bound_cases (Some x) = inr (λ e. cc)

pub separated-components : (n : ℕ) (bs : List (List ℕ)) (m : Matrix) → length m ≡ 2 * n → IsZeroDiagonal n m → IsComponents n bs m → IsSeparated n bs m
separated-components n bs m e z comps = record { apart = λ i j p q h. by i j p q h (cases_eq i j) (bound_cases (at m i j)) }
  where
    by : (i j : ℕ) → i < 2 * n → j < 2 * n → is_joint bs i j ≡ false → (i ≡ j) ⊎ (i ≡ j → ⊥) → (at m i j ≡ None) ⊎ (at m i j ≡ None → ⊥) → at m i j ≡ top_entry i j
    by i j p q h (inl f) g = zero_at n m i j z p f ∙ sym (top_entry-on i) ∙ ap (top_entry i) f
    by i j p q h (inr d) (inl g) = g ∙ sym (top_entry-off i j d)
    by i j p q h (inr d) (inr g) =
        let r = (comps.exact (i / 2) (j / 2) (omega arith) (omega arith)).1 (One (i / 2) (j / 2) (record {
          row = i;
          column = j;
          row_in = omega arith;
          column_in = omega arith;
          row_is = refl;
          column_is = refl;
          apart = d;
          finite = g;
        })) in
        absurd (both_ways _ h (joint-from bs i j r.0 r.1))

-- ---- links of an assembly and of its blocks

pub at-block : (n : ℕ) (bs : List (List ℕ)) (ms : List Matrix) (b i j : ℕ) → IsParts n bs ms → b < length bs → i < 2 * length (block bs b) → j < 2 * length (block bs b) → at (matrix ms b) i j ≡ at (assembly n bs ms) (outer (block bs b) i) (outer (block bs b) j)
at-block n bs ms b i j ps h p q =
    ap (λ x. at x i j) (sym (restrict-assembly n bs ms b ps h)) ∙ at-restrict (block bs b) (assembly n bs ms) i j p q

inner-half : (vs : List ℕ) (i : ℕ) → inner vs i / 2 ≡ place vs (i / 2)
unfolding inner
inner-half vs i = omega arith

link-out : (n : ℕ) (bs : List (List ℕ)) (ms : List Matrix) (b : ℕ) → IsParts n bs ms → b < length bs → (x y : ℕ) → Linked (matrix ms b) x y → Linked (assembly n bs ms) (member (block bs b) x) (member (block bs b) y)
link-out n bs ms b ps h x y (One _ _ k) =
    let bl = ps.partition.blocks b h in
    let size = ps.size b h in
    let p : k.row < 2 * length (block bs b) = (let r = k.row_in in omega arith) in
    let q : k.column < 2 * length (block bs b) = (let r = k.column_in in omega arith) in
    let rows = length-assembly n bs ms in
    let pi = outer_below n (block bs b) k.row bl p in
    let qi = outer_below n (block bs b) k.column bl q in
    One _ _ (record {
      row = outer (block bs b) k.row;
      column = outer (block bs b) k.column;
      row_in = omega arith;
      column_in = omega arith;
      row_is = outer-half (block bs b) k.row ∙ ap (member (block bs b)) k.row_is;
      column_is = outer-half (block bs b) k.column ∙ ap (member (block bs b)) k.column_is;
      apart = λ e. k.apart (sym (inner-outer n (block bs b) k.row bl p) ∙ ap (inner (block bs b)) e ∙ inner-outer n (block bs b) k.column bl q);
      finite = λ e. k.finite (at-block n bs ms b k.row k.column ps h p q ∙ e);
    })
link-out n bs ms b ps h x y (More _ v _ k l) = More _ (member (block bs b) v) _ (link-out n bs ms b ps h x v k) (link-out n bs ms b ps h v y l)

in_same : (n : ℕ) (bs : List (List ℕ)) (b u w : ℕ) → IsPartition n bs → b < length bs → IsIn (block bs b) u → SameBlock bs u w → IsIn (block bs b) w
in_same n bs b u w pt h i s =
    let e : home bs w ≡ b = sym s.0 ∙ home-in n bs b u pt h i in
    subst (λ t. IsIn (block bs t) w) e (home_in bs w (omega arith))

link-in : (n : ℕ) (bs : List (List ℕ)) (ms : List Matrix) (b : ℕ) → IsParts n bs ms → b < length bs → (u w : ℕ) → IsIn (block bs b) u → Linked (assembly n bs ms) u w → IsIn (block bs b) w × Linked (matrix ms b) (place (block bs b) u) (place (block bs b) w)
link-in n bs ms b ps h u w iu (One _ _ k) =
    let vs = block bs b in
    let iw = in_same n bs b u w ps.partition h iu (joins-same n bs (assembly n bs ms) u w (length-assembly n bs ms) (separated-assembly n bs ms) k) in
    let ir : IsIn vs (k.row / 2) = subst (IsIn vs) (sym k.row_is) iu in
    let ic : IsIn vs (k.column / 2) = subst (IsIn vs) (sym k.column_is) iw in
    let size = ps.size b h in
    let p = inner_below vs k.row ir in
    let q = inner_below vs k.column ic in
    let back_row = outer-inner vs k.row ir in
    let back_column = outer-inner vs k.column ic in (
      iw,
      One _ _ (record {
        row = inner vs k.row;
        column = inner vs k.column;
        row_in = omega arith;
        column_in = omega arith;
        row_is = inner-half vs k.row ∙ ap (place vs) k.row_is;
        column_is = inner-half vs k.column ∙ ap (place vs) k.column_is;
        apart = λ e. k.apart (sym back_row ∙ ap (outer vs) e ∙ back_column);
        finite = λ e. k.finite (sym (at-block n bs ms b _ _ ps h p q ∙ ap (λ t. at (assembly n bs ms) t (outer vs (inner vs k.column))) back_row ∙ ap (at (assembly n bs ms) k.row) back_column) ∙ e);
      }),
    )
link-in n bs ms b ps h u w iu (More _ v _ k l) =
    let r = link-in n bs ms b ps h u v iu k in
    let s = link-in n bs ms b ps h v w r.0 l in
    (s.0, More _ (place (block bs b) v) _ r.1 s.1)

pub links-in_block : (n : ℕ) (bs : List (List ℕ)) (ms : List Matrix) (b u w : ℕ) → IsParts n bs ms → b < length bs → IsIn (block bs b) u
    → Linked (assembly n bs ms) u w ↔ (IsIn (block bs b) w × Linked (matrix ms b) (place (block bs b) u) (place (block bs b) w))
links-in_block n bs ms b u w ps h i = (
  link-in n bs ms b ps h u w i,
  λ r. subst (λ t. Linked (assembly n bs ms) t w) (member-place (block bs b) u i)
      (subst (Linked (assembly n bs ms) (member (block bs b) (place (block bs b) u))) (member-place (block bs b) w r.0) (link-out n bs ms b ps h _ _ r.1)),
)

-- ---- a part of a part

outer-outer : (vs ls : List ℕ) (i : ℕ) → i < 2 * length ls → outer vs (outer ls i) ≡ outer (map (member vs) ls) i
unfolding outer
outer-outer vs ls i p =
    let e : (2 * member ls (i / 2) + i % 2) / 2 ≡ member ls (i / 2) = omega arith in
    let f : (2 * member ls (i / 2) + i % 2) % 2 ≡ i % 2 = omega arith in
    let g : member (map (member vs) ls) (i / 2) ≡ member vs (member ls (i / 2)) = get_or-map (member vs) ls (i / 2) 0 0 (omega arith) in
    rw (e, f, g) refl

pub restrict-restrict : (k : ℕ) (vs ls : List ℕ) (m : Matrix) → IsBlock (length vs) ls → restrict ls (restrict vs m) ≡ restrict (map (member vs) ls) m
unfolding restrict restrict_entry
restrict-restrict k vs ls m bl =
    table-same (2 * length ls) _ (restrict_entry (map (member vs) ls) m) (λ i j p q.
    at-table (2 * length vs) (restrict_entry vs m) (outer ls i) (outer ls j) (outer_below (length vs) ls i bl p) (outer_below (length vs) ls j bl q)
    ∙ ap (λ t. at m t (outer vs (outer ls j))) (outer-outer vs ls i p)
    ∙ ap (at m (outer (map (member vs) ls) i)) (outer-outer vs ls j q))
    ∙ ap (λ t. table (2 * t) (restrict_entry (map (member vs) ls) m)) (sym (length-map ls (member vs)))
