-- The components of a closed assembly.
use Rattle.std.proofs.Common.{◌≡◌, ℕ, ◌*◌, ◌/◌, ◌<◌, ◌⊎◌, inl, inr, Bool, true, false, cond, eqb, List, length, Some, None, refl, sym, ap, ◌∙◌, subst, arith, zero, suc}
use Rattle.std.proofs.lemmas.Bool.{cases_eq, both_ways}
use Rattle.oct_def.specs.Bound.{Bound, plus, least, half, evened}
use Rattle.oct_def.specs.Table.{Matrix, at}
use Rattle.oct_def.specs.Matrix.{opposite, IsSquare}
use Rattle.oct_def.specs.Octagon.{top_entry}
use Rattle.oct_def.specs.Tight.{pivot_entry, pair_entry, pair_step, pair_steps, closure, even_entry, evening, strong_entry, strengthening, tight}
use Rattle.oct_def.proofs.Tables.{at-table, square-table}
use Rattle.oct_def.proofs.Orders.{plus_none, least_none}
use Rattle.oct_def.proofs.Indices.{opposite_twice, opposite_below}
use Rattle.oct_def.proofs.Sound.{length-pair_steps}
use Rattle.block_partition.specs.Partition.{block, SameBlock}
use Rattle.block_laws.specs.Assembly.{restrict, matrix, is_joint, assembly, IsParts, IsSeparated}
use Rattle.block_laws.specs.Components.{Joins, Linked, One, More, IsComponents, HasBound, IsTouched, IsMerged}
use Rattle.block_laws.proofs.Restrict.{restrict-strengthening}
use Rattle.block_laws.proofs.Assembly.{joint-from, joint-gives, top_entry-off, length-assembly, separated-assembly, assembly-is}
use Rattle.block_laws.proofs.Closing.{evened_closure, closed-from, length-evened, length-strengthening, at-strengthening, tight-assembly}

-- ---- a finite entry stays finite

unfoldable pub Finite : Bound → Type 0
Finite b = b ≡ None → ⊥

finite-least : (a b : Bound) → Finite a → Finite (least a b)
unfolding Finite
finite-least None b h = absurd (h refl)
finite-least (Some x) None h = h
finite-least (Some x) (Some y) h = λ e. cc

finite-evened : (a : Bound) → Finite a → Finite (evened a)
unfolding Finite
finite-evened None h = absurd (h refl)
finite-evened (Some x) h = λ e. cc

finite-cond : (b : Bool) (a : Bound) → Finite a → Finite (cond b (evened a) a)
finite-cond true a h = finite-evened a h
finite-cond false a h = h

finite-pair_step : (k : ℕ) (m : Matrix) (i j : ℕ) → i < length m → j < length m → Finite (at m i j) → Finite (at (pair_step k m) i j)
unfolding pair_step pair_entry pivot_entry
finite-pair_step k m i j p q h = subst Finite (sym (at-table (length m) (pair_entry k m) i j p q)) (finite-least (at m i j) _ h)

finite-pair_steps : (k : ℕ) (m : Matrix) (i j : ℕ) → i < length m → j < length m → Finite (at m i j) → Finite (at (pair_steps k m) i j)
unfolding pair_steps
finite-pair_steps zero m i j p q h = h
finite-pair_steps (suc k) m i j p q h =
    let e = length-pair_steps k m in
    finite-pair_step k (pair_steps k m) i j (omega arith) (omega arith) (finite-pair_steps k m i j p q h)

finite-evened_closure : (m : Matrix) (i j : ℕ) → i < length m → j < length m → Finite (at m i j) → Finite (at (evened_closure m) i j)
unfolding closure evened_closure evening even_entry
finite-evened_closure m i j p q h =
    let e = length-pair_steps (length m / 2) m in
    subst Finite (sym (at-table (length (pair_steps (length m / 2) m)) (even_entry (pair_steps (length m / 2) m)) i j (omega arith) (omega arith)))
    (finite-cond (eqb j (opposite i)) _ (finite-pair_steps (length m / 2) m i j p q h))

finite-strengthening : (m : Matrix) (i j : ℕ) → i < length m → j < length m → Finite (at m i j) → Finite (at (strengthening m) i j)
unfolding strong_entry
finite-strengthening m i j p q h = subst Finite (sym (at-strengthening m i j p q)) (finite-least (at m i j) _ h)

pub finite-tight : (m x : Matrix) → tight m ≡ Some x → (i j : ℕ) → i < length m → j < length m → (at m i j ≡ None → ⊥) → at x i j ≡ None → ⊥
unfolding Finite
finite-tight m x e i j p q h =
    let l = length-evened m in
    subst (λ t. Finite (at t i j)) (sym (closed-from m x e).result)
    (finite-strengthening (evened_closure m) i j (omega arith) (omega arith) (finite-evened_closure m i j p q h))

-- ---- links

joins-tight : (m x : Matrix) (u w : ℕ) → length x ≡ length m → tight m ≡ Some x → Joins m u w → Joins x u w
joins-tight m x u w l e h = record {
  row = h.row;
  column = h.column;
  row_in = let p = h.row_in in omega arith;
  column_in = let p = h.column_in in omega arith;
  row_is = h.row_is;
  column_is = h.column_is;
  apart = h.apart;
  finite = finite-tight m x e h.row h.column h.row_in h.column_in h.finite;
}

linked-tight : (m x : Matrix) → length x ≡ length m → tight m ≡ Some x → (u w : ℕ) → Linked m u w → Linked x u w
linked-tight m x l e u w (One _ _ h) = One u w (joins-tight m x u w l e h)
linked-tight m x l e u w (More _ v _ h k) = More u v w (linked-tight m x l e u v h) (linked-tight m x l e v w k)

pub same_block-sym : (bs : List (List ℕ)) (u w : ℕ) → SameBlock bs u w → SameBlock bs w u
same_block-sym bs u w h = (sym h.0, omega (arith, h.0, h.1))

same_block-trans : (bs : List (List ℕ)) (u v w : ℕ) → SameBlock bs u v → SameBlock bs v w → SameBlock bs u w
same_block-trans bs u v w h k = (h.0 ∙ k.0, h.1)

joint-same : (bs : List (List ℕ)) (i j u w : ℕ) → i / 2 ≡ u → j / 2 ≡ w → is_joint bs i j ≡ true → SameBlock bs u w
joint-same bs i j u w e f t =
    let r = joint-gives bs i j t in
    subst (λ u. SameBlock bs u w) e (subst (λ w. SameBlock bs (i / 2) w) f r)

-- links of a separated matrix stay in a block
pub joins-same : (n : ℕ) (bs : List (List ℕ)) (m : Matrix) (u w : ℕ) → length m ≡ 2 * n → IsSeparated n bs m → Joins m u w → SameBlock bs u w
joins-same n bs m u w e sep h = by (is_joint bs h.row h.column) refl
  where
    by : (t : Bool) → is_joint bs h.row h.column ≡ t → SameBlock bs u w
    by true t = joint-same bs h.row h.column u w h.row_is h.column_is t
    by false t =
        let p = h.row_in in
        let q = h.column_in in
        absurd (h.finite (sep.apart h.row h.column (omega arith) (omega arith) t ∙ top_entry-off h.row h.column h.apart))

pub linked-same : (n : ℕ) (bs : List (List ℕ)) (m : Matrix) → length m ≡ 2 * n → IsSeparated n bs m → (u w : ℕ) → Linked m u w → SameBlock bs u w
linked-same n bs m e sep u w (One _ _ h) = joins-same n bs m u w e sep h
linked-same n bs m e sep u w (More _ v _ h k) = same_block-trans bs u v w (linked-same n bs m e sep u v h) (linked-same n bs m e sep v w k)

-- ---- strengthening a separated matrix

finite-halves : (a b : Bound) → Finite a → Finite b → Finite (plus (half a) (half b))
unfolding Finite
finite-halves None b h k = absurd (h refl)
finite-halves (Some x) None h k = absurd (k refl)
finite-halves (Some x) (Some y) h k = λ e. cc

finite-least_right : (a b : Bound) → Finite b → Finite (least a b)
unfolding Finite
finite-least_right None b h = h
finite-least_right (Some x) None h = absurd (h refl)
finite-least_right (Some x) (Some y) h = λ e. cc

-- two variables that have a bound are joined
bounds-joined : (n : ℕ) (m : Matrix) (u w : ℕ) → length m ≡ 2 * n → HasBound m u → HasBound m w → (u ≡ w → ⊥) → Joins (strengthening m) u w
unfolding Finite strong_entry
bounds-joined n m u w e h k d =
    let i = h.side in
    let j = opposite k.side in
    let p : i < length m = h.side_in in
    let q0 : k.side < length m = k.side_in in
    let q : j < length m = (let b = opposite_below n k.side (omega arith) in omega arith) in
    let l = length-strengthening m in
    record {
      row = i;
      column = j;
      row_in = omega arith;
      column_in = omega arith;
      row_is = h.side_is;
      column_is = (let r = k.side_is in omega arith);
      apart = λ f. d (let r = k.side_is in let s = h.side_is in omega arith);
      finite = subst Finite (sym (at-strengthening m i j p q)) (finite-least_right (at m i j) _ (finite-halves (at m i (opposite i)) (at m (opposite j) j)
          h.finite (subst (λ t. Finite (at m t (opposite k.side))) (sym (opposite_twice k.side)) k.finite)));
    }

pub square-strengthening : (m : Matrix) → IsSquare (strengthening m)
unfolding strengthening
square-strengthening m = square-table (length m) (strong_entry m)

bound_cases : (a : Bound) → (a ≡ None) ⊎ Finite a
unfolding Finite
bound_cases None = inl refl
bound_cases (Some x) = inr (λ e. cc)

-- a variable of a finite unary entry is touched
pub touched-bound : (n : ℕ) (bs : List (List ℕ)) (m : Matrix) (i : ℕ) → length m ≡ 2 * n → IsSeparated n bs m → i < 2 * n → Finite (at m i (opposite i)) → IsTouched bs m (i / 2)
unfolding Finite
touched-bound n bs m i e sep p h =
    let q = opposite_below n i p in
    let r : SameBlock bs (i / 2) (i / 2) = joins-same n bs m (i / 2) (i / 2) e sep (record {
      row = i;
      column = opposite i;
      row_in = omega arith;
      column_in = omega arith;
      row_is = refl;
      column_is = omega arith;
      apart = λ f. omega arith;
      finite = h;
    }) in
    (i / 2, omega arith, r, record { side = i; side_in = omega arith; side_is = refl; finite = h })

pub separated-merged : (n : ℕ) (bs cs : List (List ℕ)) (m : Matrix) → length m ≡ 2 * n → IsSeparated n bs m → IsMerged n bs cs m → IsSeparated n cs (strengthening m)
unfolding strong_entry
separated-merged n bs cs m e sep mg = record {
  apart = λ i j p q h.
      at-strengthening m i j (omega arith) (omega arith) ∙ by i j p q h (bound_cases (at m i (opposite i))) (bound_cases (at m (opposite j) j));
}
  where
    apart_before : (i j : ℕ) → i < 2 * n → j < 2 * n → is_joint cs i j ≡ false → (t : Bool) → is_joint bs i j ≡ t → at m i j ≡ top_entry i j
    apart_before i j p q h true t =
        let r = (mg.exact (i / 2) (j / 2) (omega arith) (omega arith)).1 (inl (joint-gives bs i j t)) in
        absurd (both_ways _ h (joint-from cs i j r.0 r.1))
    apart_before i j p q h false t = sep.apart i j p q t

    none_left : (i j : ℕ) (a b : Bound) → a ≡ top_entry i j → b ≡ None → least a b ≡ top_entry i j
    none_left i j a b f g = ap (least a) g ∙ least_none a ∙ f

    by : (i j : ℕ) → i < 2 * n → j < 2 * n → is_joint cs i j ≡ false → (at m i (opposite i) ≡ None) ⊎ Finite (at m i (opposite i)) → (at m (opposite j) j ≡ None) ⊎ Finite (at m (opposite j) j) → least (at m i j) (plus (half (at m i (opposite i))) (half (at m (opposite j) j))) ≡ top_entry i j
    by i j p q h (inl f) g = none_left i j _ _ (apart_before i j p q h (is_joint bs i j) refl) (ap (λ (a : Bound). plus (half a) (half (at m (opposite j) j))) f)
    by i j p q h (inr f) (inl g) = none_left i j _ _ (apart_before i j p q h (is_joint bs i j) refl) (ap (λ (a : Bound). plus (half (at m i (opposite i))) (half a)) g ∙ plus_none _)
    by i j p q h (inr f) (inr g) =
        let o = opposite_below n j q in
        let u = touched-bound n bs m i e sep p f in
        let w0 : IsTouched bs m (opposite j / 2) = touched-bound n bs m (opposite j) e sep o (subst (λ t. Finite (at m (opposite j) t)) (sym (opposite_twice j)) g) in
        let half_same : opposite j / 2 ≡ j / 2 = omega arith in
        let w : IsTouched bs m (j / 2) = subst (IsTouched bs m) half_same w0 in
        let r = (mg.exact (i / 2) (j / 2) (omega arith) (omega arith)).1 (inr (u, w)) in
        absurd (both_ways _ h (joint-from cs i j r.0 r.1))

pub closing-components : (n : ℕ) (bs cs : List (List ℕ)) (ms ns rs : List Matrix) → IsParts n bs ms → IsComponents n bs (assembly n bs ms)
    → ((b : ℕ) → b < length bs → tight (matrix ms b) ≡ Some (matrix ns b))
    → IsMerged n bs cs (assembly n bs ns)
    → ((c : ℕ) → c < length cs → matrix rs c ≡ strengthening (restrict (block cs c) (assembly n bs ns)))
    → (tight (assembly n bs ms) ≡ Some (assembly n cs rs)) × IsComponents n cs (assembly n cs rs)
closing-components n bs cs ms ns rs ps comps each mg each_r =
    (closed ∙ ap Some same, subst (IsComponents n cs) same (record { partition = mg.partition; exact = λ u w p q. (there u w p q, linked-same n cs s rows sep u w) }))
  where
    a : Matrix
    a = assembly n bs ms

    x : Matrix
    x = assembly n bs ns

    s : Matrix
    s = strengthening x

    rows_x : length x ≡ 2 * n
    rows_x = length-assembly n bs ns

    rows : length s ≡ 2 * n
    rows = length-strengthening x ∙ rows_x

    rows_same : length s ≡ length a
    rows_same = rows ∙ sym (length-assembly n bs ms)

    closed : tight a ≡ Some s
    closed = tight-assembly n bs ms ns ps each

    sep : IsSeparated n cs s
    sep = separated-merged n bs cs x rows_x (separated-assembly n bs ns) mg

    same : s ≡ assembly n cs rs
    same = assembly-is n cs s rs mg.partition (square-strengthening x) rows sep
        (λ c h. each_r c h ∙ sym (restrict-strengthening n (block cs c) x rows_x (mg.partition.blocks c h)))

    link : (u w : ℕ) → u < n → w < n → SameBlock bs u w → Linked s u w
    link u w p q h = linked-tight a s rows_same closed u w ((comps.exact u w p q).0 h)

    over : (y z : ℕ) → y < n → z < n → HasBound x y → HasBound x z → (y ≡ z) ⊎ (y ≡ z → ⊥) → (u w : ℕ) → u < n → w < n → SameBlock bs u y → SameBlock bs w z → Linked s u w
    over y z hy hz by bz (inl e) u w p q f g = More u y w (link u y p hy f) (link y w hy q (same_block-sym bs w y (subst (λ t. SameBlock bs w t) (sym e) g)))
    over y z hy hz by bz (inr e) u w p q f g =
        More u y w (link u y p hy f) (More y z w (One y z (bounds-joined n x y z rows_x by bz e)) (link z w hz q (same_block-sym bs w z g)))

    by : (u w : ℕ) → u < n → w < n → SameBlock bs u w ⊎ (IsTouched bs x u × IsTouched bs x w) → Linked s u w
    by u w p q (inl h) = link u w p q h
    by u w p q (inr (tu, tw)) = over tu.0 tw.0 (omega (arith, rows_x, tu.1)) (omega (arith, rows_x, tw.1)) tu.3 tw.3 (cases_eq tu.0 tw.0) u w p q tu.2 tw.2

    there : (u w : ℕ) → u < n → w < n → SameBlock cs u w → Linked s u w
    there u w p q h = by u w p q ((mg.exact u w p q).0 h)
