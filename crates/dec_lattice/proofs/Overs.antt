-- Partitions over which values are combined.
use Rattle.std.proofs.Common.{◌≡◌, ℕ, ◌*◌, ◌/◌, ◌<◌, ◌≤◌, ◌⊎◌, inl, inr, Bool, true, false, cond, List, length, Some, None, refl, sym, ap, ◌∙◌, subst, arith}
use Rattle.std.specs.Prelude.{pos}
use Rattle.std.proofs.lemmas.Bool.{cases_eq, both_ways}
use Rattle.oct_def.specs.Bound.{Bound, at_most}
use Rattle.oct_def.specs.Table.{Matrix, at}
use Rattle.oct_def.specs.Octagon.{top_entry}
use Rattle.oct_def.proofs.Tables.{at-table}
use Rattle.block_partition.specs.Partition.{member, block, IsPartition, SameBlock}
use Rattle.block_partition.specs.Changes.{IsMeetOf}
use Rattle.block_laws.specs.Assembly.{is_joint, IsSeparated}
use Rattle.block_laws.specs.Components.{Linked, One, More, IsZeroDiagonal}
use Rattle.block_laws.proofs.Assembly.{joint-from, joint-gives, top_entry-off, top_entry-on, length-assembly, separated-assembly}
use Rattle.block_laws.proofs.Lattice.{separated-narrow}
use Rattle.dec_oct.specs.Value.{Blocks, whole, IsDecomposition}
use Rattle.dec_oct.proofs.Bounded.{placed_below}
use Rattle.dec_oct.proofs.Cuts.{zero_diagonal-even}
use Rattle.dec_lattice.specs.declared.operation.Operation.{Operation}
use Rattle.dec_lattice.specs.declared.operation.Operation.TheVariants.{Join, Widening, Narrowing}
use Rattle.dec_lattice.specs.Operation.{combined, combined_entry, combined_matrix}
use Rattle.dec_lattice.specs.Over.{IsOver}
use Rattle.dec_lattice.specs.Coarser.{IsCoarser}
use Rattle.dec_lattice.proofs.Parts.{combined-narrow, length-combined}

-- ---- a join and a widening lose each bound that one side hasn't

lost : (op : Operation) (a b : Bound) → (op ≡ Narrowing → ⊥) → (a ≡ None) ⊎ (b ≡ None) → combined op a b ≡ None
lost Join None b n h = refl
lost Join (Some x) None n h = refl
lost Join (Some x) (Some y) n (inl e) = absurd (cc)
lost Join (Some x) (Some y) n (inr e) = absurd (cc)
lost Widening None b n h = by (at_most b None)
  where
    by : (t : Bool) → cond {A = Bound} t None None ≡ None
    by true = refl
    by false = refl
lost Widening (Some x) None n h = refl
lost Widening (Some x) (Some y) n (inl e) = absurd (cc)
lost Widening (Some x) (Some y) n (inr e) = absurd (cc)
lost Narrowing a b n h = absurd (n refl)

zero : (op : Operation) → combined op (Some (pos 0)) (Some (pos 0)) ≡ Some (pos 0)
zero Join = refl
zero Widening = refl
zero Narrowing = refl

-- so that what either side keeps apart stays apart
apart-both : (op : Operation) (n : ℕ) (bs cs ds : List (List ℕ)) (a b : Matrix) → (op ≡ Narrowing → ⊥) → length a ≡ 2 * n → IsSeparated n bs a → IsSeparated n cs b → IsZeroDiagonal n a → IsZeroDiagonal n b
    → ((u w : ℕ) → u < n → w < n → SameBlock bs u w → SameBlock cs u w → SameBlock ds u w) → IsSeparated n ds (combined_matrix op a b)
unfolding combined_matrix combined_entry
apart-both op n bs cs ds a b ok e sa sb za zb shared = record {
  apart = λ i j p q h. at-table (length a) (combined_entry op a b) i j (omega arith) (omega arith) ∙ by i j p q h (cases_eq i j);
}
  where
    none : (i j : ℕ) → i < 2 * n → j < 2 * n → is_joint ds i j ≡ false → (i ≡ j → ⊥) → (s t : Bool) → is_joint bs i j ≡ s → is_joint cs i j ≡ t → (at a i j ≡ None) ⊎ (at b i j ≡ None)
    none i j p q h d false t f g = inl (sa.apart i j p q f ∙ top_entry-off i j d)
    none i j p q h d true false f g = inr (sb.apart i j p q g ∙ top_entry-off i j d)
    none i j p q h d true true f g =
        let r = shared (i / 2) (j / 2) (omega arith) (omega arith) (joint-gives bs i j f) (joint-gives cs i j g) in
        absurd (both_ways _ h (joint-from ds i j r.0 r.1))

    diagonal : (m : Matrix) (i j : ℕ) → IsZeroDiagonal n m → i < 2 * n → i ≡ j → at m i j ≡ Some (pos 0)
    diagonal m i j z p f = ap (at m i) (sym f) ∙ z.zero i p

    by : (i j : ℕ) → i < 2 * n → j < 2 * n → is_joint ds i j ≡ false → (i ≡ j) ⊎ (i ≡ j → ⊥) → combined op (at a i j) (at b i j) ≡ top_entry i j
    by i j p q h (inl f) =
        ap (λ t. combined op t (at b i j)) (diagonal a i j za p f) ∙ ap (combined op (Some (pos 0))) (diagonal b i j zb p f) ∙ zero op
        ∙ sym (top_entry-on i) ∙ ap (top_entry i) f
    by i j p q h (inr d) = lost op _ _ ok (none i j p q h d (is_joint bs i j) (is_joint cs i j) refl refl) ∙ sym (top_entry-off i j d)

meet-partition : (n : ℕ) (bs cs ds : List (List ℕ)) → n ≤ 512 → IsPartition n bs → IsPartition 512 ds → IsMeetOf bs cs ds → IsPartition n ds
meet-partition n bs cs ds few pb pd m = record {
  blocks = λ b p. record { below = λ i q. low b i p q; rising = (pd.blocks b p).rising };
  homes = pd.homes;
}
  where
    low : (b i : ℕ) → b < length ds → i < length (block ds b) → member (block ds b) i < n
    low b i p q =
        let e = pd.homes b i p q in
        let x = (pd.blocks b p).below i q in
        let s = (m.exact (member (block ds b) i) (member (block ds b) i) x x).0 (refl, omega arith) in
        placed_below n bs (member (block ds b) i) pb s.0.1

pub over-meet : (op : Operation) (n : ℕ) (a b : Blocks) (ds : List (List ℕ)) → (op ≡ Narrowing → ⊥) → n ≤ 512 → IsDecomposition n a → IsDecomposition n b → IsPartition 512 ds → IsMeetOf a.partition b.partition ds → IsOver op n a b ds
over-meet op n a b ds ok few da db pd m = record {
  partition = meet-partition n a.partition b.partition ds few da.parts.partition pd m;
  apart = apart-both op n a.partition b.partition ds (whole n a) (whole n b) ok (length-assembly n a.partition a.matrices)
      (separated-assembly n a.partition a.matrices) (separated-assembly n b.partition b.matrices) (zero_diagonal-even n (whole n a) da.value) (zero_diagonal-even n (whole n b) db.value)
      (λ u w p q s t. (m.exact u w (omega arith) (omega arith)).1 (s, t));
  close = λ rs comps u w p q s. inl ((m.exact u w (omega arith) (omega arith)).0 s);
}

-- ---- a narrowing has each bound that one side has

gained_left : (a b : Bound) → (a ≡ None → ⊥) → combined Narrowing a b ≡ None → ⊥
gained_left None b h e = h refl
gained_left (Some x) b h e = absurd (cc)

gained_right : (a b : Bound) → (b ≡ None → ⊥) → combined Narrowing a b ≡ None → ⊥
gained_right None b h e = h e
gained_right (Some x) b h e = absurd (cc)

-- links stay where finite entries do
linked-more : (m x : Matrix) → length x ≡ length m → ((i j : ℕ) → i < length m → j < length m → (at m i j ≡ None → ⊥) → at x i j ≡ None → ⊥) → (u w : ℕ) → Linked m u w → Linked x u w
linked-more m x e stays u w (One _ _ k) = One u w (record {
  row = k.row;
  column = k.column;
  row_in = let p = k.row_in in omega arith;
  column_in = let p = k.column_in in omega arith;
  row_is = k.row_is;
  column_is = k.column_is;
  apart = k.apart;
  finite = stays k.row k.column k.row_in k.column_in k.finite;
})
linked-more m x e stays u w (More _ v _ k l) = More u v w (linked-more m x e stays u v k) (linked-more m x e stays v w l)

linked-left : (n : ℕ) (a b : Matrix) → length a ≡ 2 * n → (u w : ℕ) → Linked a u w → Linked (combined_matrix Narrowing a b) u w
unfolding combined_matrix combined_entry
linked-left n a b e u w l = linked-more a _ (length-combined Narrowing a b) (λ i j p q h.
    subst (λ t. t ≡ None → ⊥) (sym (at-table (length a) (combined_entry Narrowing a b) i j p q)) (gained_left (at a i j) (at b i j) h)) u w l

linked-right : (n : ℕ) (a b : Matrix) → length a ≡ 2 * n → length b ≡ 2 * n → (u w : ℕ) → Linked b u w → Linked (combined_matrix Narrowing a b) u w
unfolding combined_matrix combined_entry
linked-right n a b e f u w l = linked-more b _ (length-combined Narrowing a b ∙ e ∙ sym f) (λ i j p q h.
    subst (λ t. t ≡ None → ⊥) (sym (at-table (length a) (combined_entry Narrowing a b) i j (omega arith) (omega arith))) (gained_right (at a i j) (at b i j) h)) u w l

pub over-coarser : (n : ℕ) (a b : Blocks) (ds : List (List ℕ)) (k : ℕ) → IsDecomposition n a → IsDecomposition n b → IsCoarser n a.partition b.partition k ds → length b.partition ≤ k → IsOver Narrowing n a b ds
over-coarser n a b ds k da db c h = record {
  partition = c.partition;
  apart = subst (IsSeparated n ds) (sym (combined-narrow (whole n a) (whole n b)))
      (separated-narrow n a.partition b.partition ds (whole n a) (whole n b) la (separated-assembly n a.partition a.matrices) (separated-assembly n b.partition b.matrices)
      (record { kept = c.first }) (record { kept = λ u w p q s. c.second u w p q s (let x = s.1 in omega arith) }));
  close = λ rs comps u w p q s. inr (c.finest rs
      (λ u w p q t. (comps.exact u w p q).1 (linked-left n (whole n a) (whole n b) la u w ((da.components.exact u w p q).0 t)))
      (λ u w p q t. (comps.exact u w p q).1 (linked-right n (whole n a) (whole n b) la lb u w ((db.components.exact u w p q).0 t)))
      u w p q s);
}
  where
    la : length (whole n a) ≡ 2 * n
    la = length-assembly n a.partition a.matrices

    lb : length (whole n b) ≡ 2 * n
    lb = length-assembly n b.partition b.matrices
