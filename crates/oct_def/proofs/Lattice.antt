-- Join, widening and narrowing give values and keep the states that they must keep.
use Rattle.std.proofs.Common.{◌≡◌, ℕ, ◌*◌, ◌<◌, ◌⊎◌, inl, inr, Bool, true, false, cond, eqb, List, length, Option, Some, None, refl, sym, ap, ◌∙◌, subst, arith}
use Rattle.std.specs.Prelude.{ℤ, pos}
use Rattle.std.specs.Option.{option_and_then}
use Rattle.std.proofs.lemmas.Int.{ints}
use Rattle.std.proofs.lemmas.Bool.Decides.{Decides-eqb, same_from_decides}
use Rattle.oct_def.specs.Bound.{Bound, least, greatest, at_most, IsEven, InRange, Within}
use Rattle.oct_def.specs.Table.{Matrix, table, at}
use Rattle.oct_def.specs.Matrix.{opposite, IsEvenMatrix, Meets, MeetsValue}
use Rattle.oct_def.specs.Tight.{tight}
use Rattle.oct_def.specs.Octagon.{Octagon, IsOctagon, IsValueOver, MeetsOctagon, top_entry, top_matrix, top_value, on_either, on_both, tight_value, least_entry, least_matrix, join_entry, join_matrix, join_value, widen_bound, widen_entry, widen_matrix, widen_value, narrow_bound, narrow_entry, narrow_matrix, narrow_value}
use Rattle.oct_def.proofs.Tables.{length-table, at-table, square-table}
use Rattle.oct_def.proofs.Bounds.{within-greatest_left, within-greatest_right, within-at_most, within-least, greatest_is}
use Rattle.oct_def.proofs.Indices.{opposite_same}
use Rattle.oct_def.proofs.Sound.{difference, meets-table}
use Rattle.oct_def.proofs.Coherent.{coherent-table, twin}
use Rattle.oct_def.proofs.Values.{IsShape, IsLow, LowDiagonal, in_range-least, low-least, each-table, even_unary-table, EvenUnary, value-tight}

-- ---- an operation that picks one of two bounds or none, entry by entry

-- a bound is none or one of two
Picks : Bound → Bound → Bound → Type 0
Picks c a b = (c ≡ None) ⊎ ((c ≡ a) ⊎ (c ≡ b))

of_pick : (P : Bound → Type 0) (a b c : Bound) → Picks c a b → P None → P a → P b → P c
unfolding Picks
of_pick P a b c h none p q = elim h [ inl e ↦ subst P (sym e) none | inr k ↦ elim k [ inl e ↦ subst P (sym e) p | inr e ↦ subst P (sym e) q ] ]

even_matrix-picked : (n : ℕ) (a b : Matrix) (op : Bound → Bound → Bound) → ((x y : Bound) → Picks (op x y) x y) → op (Some (pos 0)) (Some (pos 0)) ≡ Some (pos 0) → IsEvenMatrix n a → IsEvenMatrix n b → IsEvenMatrix n (table (length a) (λ i j. op (at a i j) (at b i j)))
unfolding EvenUnary
even_matrix-picked n a b op picks zero va vb =
    let f : ℕ → ℕ → Bound = λ i j. op (at a i j) (at b i j) in
    let ma = va.matrix in
    let mb = vb.matrix in
    subst (λ t. IsEvenMatrix n (table t f)) (sym ma.rows)
    record {
      matrix = record {
        rows = length-table (2 * n) f;
        square = square-table (2 * n) f;
        coherent = coherent-table n f (λ i j p q.
            ap (λ x. op x (at b i j)) (ma.coherent.twins i j (omega (arith, ma.rows)) (omega (arith, ma.rows)))
            ∙ ap (op (at a (opposite j) (opposite i))) (mb.coherent.twins i j (omega (arith, mb.rows)) (omega (arith, mb.rows))));
        in_range = each-table InRange tt (2 * n) f (λ i j p q. of_pick InRange (at a i j) (at b i j) (f i j) (picks (at a i j) (at b i j)) tt (ma.in_range i j) (mb.in_range i j));
        diagonal = λ i p.
            let q : i < 2 * n = omega (arith, length-table (2 * n) f) in
            at-table (2 * n) f i i q q
            ∙ ap (λ x. op x (at b i i)) (ma.diagonal i (omega (arith, ma.rows)))
            ∙ ap (op (Some (pos 0))) (mb.diagonal i (omega (arith, mb.rows)))
            ∙ zero;
      };
      even = even_unary-table n f (λ i p. of_pick IsEven (at a i (opposite i)) (at b i (opposite i)) (f i (opposite i)) (picks (at a i (opposite i)) (at b i (opposite i))) refl (va.even i) (vb.even i));
    }

picks-greatest : (x y : Bound) → Picks (greatest x y) x y
unfolding Picks
picks-greatest x y = inr (greatest_is x y)

picks-widen : (x y : Bound) → Picks (widen_bound x y) x y
unfolding Picks
picks-widen x y = by (at_most y x)
  where
    by : (t : Bool) → (cond t x None ≡ None) ⊎ ((cond t x None ≡ x) ⊎ (cond t x None ≡ y))
    by true = inr (inl refl)
    by false = inl refl

picks-narrow : (x y : Bound) → Picks (narrow_bound x y) x y
unfolding Picks
picks-narrow None y = inr (inr refl)
picks-narrow (Some x) y = inr (inl refl)

-- ---- values

value-join : (n : ℕ) (a b : Option Matrix) → IsValueOver n a → IsValueOver n b → IsValueOver n (on_either join_matrix a b)
unfolding join_matrix join_entry
value-join n None b p q = q
value-join n (Some x) None p q = p
value-join n (Some x) (Some y) p q = even_matrix-picked n x y greatest picks-greatest refl p q

value-widen : (n : ℕ) (a b : Option Matrix) → IsValueOver n a → IsValueOver n b → IsValueOver n (on_either widen_matrix a b)
unfolding widen_matrix widen_entry
value-widen n None b p q = q
value-widen n (Some x) None p q = p
value-widen n (Some x) (Some y) p q = even_matrix-picked n x y widen_bound picks-widen refl p q

value-narrow : (n : ℕ) (a b : Option Matrix) → IsValueOver n a → IsValueOver n b → IsValueOver n (on_both narrow_matrix a b)
unfolding narrow_matrix narrow_entry
value-narrow n None b p q = tt
value-narrow n (Some x) None p q = tt
value-narrow n (Some x) (Some y) p q = even_matrix-picked n x y narrow_bound picks-narrow refl p q

pub octagon-join : (a b : Octagon) → IsOctagon a → IsOctagon b → a.dims ≡ b.dims → IsOctagon (join_value a b)
unfolding join_value
octagon-join a b p q e = value-join a.dims a.matrix b.matrix p (subst (λ n. IsValueOver n b.matrix) (sym e) q)

pub octagon-widen : (a b : Octagon) → IsOctagon a → IsOctagon b → a.dims ≡ b.dims → IsOctagon (widen_value a b)
unfolding widen_value
octagon-widen a b p q e = value-widen a.dims a.matrix b.matrix p (subst (λ n. IsValueOver n b.matrix) (sym e) q)

pub octagon-narrow : (a b : Octagon) → IsOctagon a → IsOctagon b → a.dims ≡ b.dims → IsOctagon (narrow_value a b)
unfolding narrow_value
octagon-narrow a b p q e = value-narrow a.dims a.matrix b.matrix p (subst (λ n. IsValueOver n b.matrix) (sym e) q)

value-tight_each : (n : ℕ) (v : Option Matrix) → IsValueOver n v → IsValueOver n (option_and_then tight v)
value-tight_each n None h = tt
value-tight_each n (Some m) h = value-tight n m h.matrix

pub octagon-tight : (v : Octagon) → IsOctagon v → IsOctagon (tight_value v)
unfolding tight_value
octagon-tight v h = value-tight_each v.dims v.matrix h

-- ---- the top value

top_entry-twin : (i j : ℕ) → top_entry i j ≡ top_entry (opposite j) (opposite i)
unfolding top_entry
top_entry-twin i j = ap (λ (b : Bool). cond b (Some (pos 0)) None)
    (same_from_decides {P = i ≡ j} (eqb i j) (eqb (opposite j) (opposite i)) (Decides-eqb i j)
    (λ e. sym (opposite_same j i ((Decides-eqb (opposite j) (opposite i)).0 e)), λ e. (Decides-eqb (opposite j) (opposite i)).1 (ap opposite (sym e))))

top_entry-cases : (P : Bound → Type 0) → P None → P (Some (pos 0)) → (i j : ℕ) → P (top_entry i j)
unfolding top_entry
top_entry-cases P none zero i j = by (eqb i j)
  where
    by : (b : Bool) → P (cond b (Some (pos 0)) None)
    by true = zero
    by false = none

top_entry_same : (i : ℕ) → top_entry i i ≡ Some (pos 0)
unfolding top_entry
top_entry_same i = ap (λ (b : Bool). cond b (Some (pos 0)) None) ((Decides-eqb i i).1 refl)

pub octagon-top : (n : ℕ) → IsOctagon (top_value n)
unfolding top_value top_matrix EvenUnary
octagon-top n = record {
  matrix = record {
    rows = length-table (2 * n) top_entry;
    square = square-table (2 * n) top_entry;
    coherent = coherent-table n top_entry (λ i j p q. top_entry-twin i j);
    in_range = each-table InRange tt (2 * n) top_entry (λ i j p q. top_entry-cases InRange tt (omega (arith, ints), omega (arith, ints)) i j);
    diagonal = λ i p.
        let q : i < 2 * n = omega (arith, length-table (2 * n) top_entry) in
        at-table (2 * n) top_entry i i q q ∙ top_entry_same i;
  };
  even = even_unary-table n top_entry (λ i p. top_entry-cases IsEven refl refl i (opposite i));
}

-- ---- states

within_top : (s : List ℤ) (i j : ℕ) → Within (difference s i j) (top_entry i j)
unfolding top_entry
within_top s i j = by (eqb i j) refl
  where
    same : i ≡ j → Within (difference s i j) (Some (pos 0))
    same e = subst (λ k. Within (difference s i k) (Some (pos 0))) e (omega (arith, ints))

    by : (b : Bool) → eqb i j ≡ b → Within (difference s i j) (cond b (Some (pos 0)) None)
    by true e = same ((Decides-eqb i j).0 e)
    by false e = tt

pub meets-top : (n : ℕ) (s : List ℤ) → MeetsOctagon s (top_value n)
unfolding top_value top_matrix
meets-top n s = meets-table s (2 * n) top_entry (λ i j p q. within_top s i j)

meets-joined : (s : List ℤ) (a b : Option Matrix) → MeetsValue s a ⊎ MeetsValue s b → MeetsValue s (on_either join_matrix a b)
unfolding join_matrix join_entry
meets-joined s None b (inl h) = absurd h
meets-joined s None b (inr h) = h
meets-joined s (Some x) None (inl h) = h
meets-joined s (Some x) None (inr h) = absurd h
meets-joined s (Some x) (Some y) (inl h) =
    meets-table s (length x) (join_entry x y) (λ i j p q. within-greatest_left (difference s i j) (at x i j) (at y i j) (h.within i j))
meets-joined s (Some x) (Some y) (inr h) =
    meets-table s (length x) (join_entry x y) (λ i j p q. within-greatest_right (difference s i j) (at x i j) (at y i j) (h.within i j))

pub meets-join : (a b : Octagon) (s : List ℤ) → MeetsOctagon s a ⊎ MeetsOctagon s b → MeetsOctagon s (join_value a b)
unfolding join_value
meets-join a b s h = meets-joined s a.matrix b.matrix h

within-widen_left : (x : ℤ) (a b : Bound) → Within x a → Within x (widen_bound a b)
within-widen_left x a b h = by (at_most b a)
  where
    by : (t : Bool) → Within x (cond t a None)
    by true = h
    by false = tt

within-widen_right : (x : ℤ) (a b : Bound) → Within x b → Within x (widen_bound a b)
within-widen_right x a b h = by (at_most b a) refl
  where
    by : (t : Bool) → at_most b a ≡ t → Within x (cond t a None)
    by true e = within-at_most x b a e h
    by false e = tt

meets-widened : (s : List ℤ) (a b : Option Matrix) → MeetsValue s a ⊎ MeetsValue s b → MeetsValue s (on_either widen_matrix a b)
unfolding widen_matrix widen_entry
meets-widened s None b (inl h) = absurd h
meets-widened s None b (inr h) = h
meets-widened s (Some x) None (inl h) = h
meets-widened s (Some x) None (inr h) = absurd h
meets-widened s (Some x) (Some y) (inl h) =
    meets-table s (length x) (widen_entry x y) (λ i j p q. within-widen_left (difference s i j) (at x i j) (at y i j) (h.within i j))
meets-widened s (Some x) (Some y) (inr h) =
    meets-table s (length x) (widen_entry x y) (λ i j p q. within-widen_right (difference s i j) (at x i j) (at y i j) (h.within i j))

pub meets-widen : (a b : Octagon) (s : List ℤ) → MeetsOctagon s a ⊎ MeetsOctagon s b → MeetsOctagon s (widen_value a b)
unfolding widen_value
meets-widen a b s h = meets-widened s a.matrix b.matrix h

within-narrow : (x : ℤ) (a b : Bound) → Within x a → Within x b → Within x (narrow_bound a b)
within-narrow x None b p q = q
within-narrow x (Some y) b p q = p

meets-narrowed : (s : List ℤ) (a b : Option Matrix) → MeetsValue s a → MeetsValue s b → MeetsValue s (on_both narrow_matrix a b)
unfolding narrow_matrix narrow_entry
meets-narrowed s None b p q = absurd p
meets-narrowed s (Some x) None p q = absurd q
meets-narrowed s (Some x) (Some y) p q =
    meets-table s (length x) (narrow_entry x y) (λ i j hi hj. within-narrow (difference s i j) (at x i j) (at y i j) (p.within i j) (q.within i j))

pub meets-narrow : (a b : Octagon) (s : List ℤ) → MeetsOctagon s a → MeetsOctagon s b → MeetsOctagon s (narrow_value a b)
unfolding narrow_value
meets-narrow a b s p q = meets-narrowed s a.matrix b.matrix p q

-- ---- the bounds of two matrices

pub meets-least_matrix : (a b : Matrix) (s : List ℤ) → Meets s a → Meets s b → Meets s (least_matrix a b)
unfolding least_matrix least_entry
meets-least_matrix a b s h k =
    meets-table s (length a) (least_entry a b) (λ i j p q. within-least (difference s i j) (at a i j) (at b i j) (h.within i j) (k.within i j))

pub shape-least_matrix : (n : ℕ) (a b : Matrix) → IsShape n a → IsShape n b → IsShape n (least_matrix a b)
unfolding least_matrix least_entry
shape-least_matrix n a b va vb = subst (λ t. IsShape n (table t (least_entry a b))) (sym va.rows) record {
  rows = length-table (2 * n) (least_entry a b);
  square = square-table (2 * n) (least_entry a b);
  coherent = coherent-table n (least_entry a b) (λ i j p q.
      ap (λ x. least x (at b i j)) (twin n a va.rows va.coherent i j p q)
      ∙ ap (least (at a (opposite j) (opposite i))) (twin n b vb.rows vb.coherent i j p q));
  in_range = each-table InRange tt (2 * n) (least_entry a b) (λ i j p q. in_range-least (at a i j) (at b i j) (va.in_range i j) (vb.in_range i j));
}

pub low_diagonal-least_matrix : (a b : Matrix) → LowDiagonal a → LowDiagonal (least_matrix a b)
unfolding LowDiagonal least_matrix least_entry
low_diagonal-least_matrix a b h i p =
    let q : i < length a = omega (arith, length-table (length a) (least_entry a b)) in
    subst IsLow (sym (at-table (length a) (least_entry a b) i i q q)) (low-least (at a i i) (at b i i) (h i q))
