-- A bound put into a matrix that is kept by the list of its finite half entries.
use Rattle.std.proofs.Common.{◌≡◌, ℕ, ◌-◌, ◌*◌, ◌/◌, ◌<◌, ◌≤◌, ◌⊎◌, inl, inr, Bool, true, false, ◌&&◌, ◌||◌, cond, eqb, leb, List, [], ◌∷◌, ◌++◌, length, get_or, Some, None, refl, sym, ap, subst, ◌∙◌, arith}
use Rattle.std.specs.Prelude.{pos}
use Rattle.std.specs.List.{insert}
use Rattle.std.proofs.lemmas.Bool.Decides.{nat_tests}
use Rattle.oct_def.specs.Bound.{Bound, least}
use Rattle.oct_def.specs.Table.{Matrix, at}
use Rattle.oct_def.specs.Matrix.{opposite, IsMatrix, IsEvenMatrix}
use Rattle.oct_def.specs.Octagon.{top_entry, top_matrix, top_value}
use Rattle.oct_def.proofs.Tables.{length-table, at-table, table-same}
use Rattle.oct_def.proofs.Indices.{opposite_twice, opposite_same}
use Rattle.oct_def.proofs.Lattice.{octagon-top}
use Rattle.placed_bounds.specs.Bounded.{IsPlacedIn, is_hit, bounded_entry, bounded_matrix}
use Rattle.placed_bounds.proofs.Bounded.{Hits, hits_is, even_matrix-bounded}
use Rattle.inv_text.specs.declared.bound.InvBound.{InvBound}
use Rattle.inv_text.specs.CertText.{Place, place_at, columns, places, told}
use Rattle.inv_text.specs.Listed.{bound_item, half_bounds, placed_at, listed_matrix, IsListing}
use Rattle.inv_text.specs.Given.{TakesBound, with_bound}
use Rattle.inv_text.specs.Places.{order_key, is_before, stored_bound, put_in}
use Rattle.inv_text.proofs.Places.{Each, in_rows, each_rows}
use Rattle.inv_text.proofs.Values.{off}
use Rattle.inv_text.proofs.Putting.{key_at, Among, each_among, items, Agree, put_among, rising_places, InOrder, in_order-items, inserted}
use Rattle.inv_text.proofs.Halves.{length-bounded, at-bounded, listed-put_in}

-- ---- no bounds

no_items : (f : Place → Bound) (ps : List Place) → Each (λ p. f p ≡ None) ps → items f ps ≡ []
no_items f [] e = refl
no_items f (p ∷ ps) e = ap (λ (v : Bound). bound_item p v ++ items f ps) e.0 ∙ no_items f ps e.1

top_told : (n r c : ℕ) → r < 2 * n → c < 2 * n → told (top_matrix n) (place_at r c) ≡ None
unfolding told top_matrix top_entry
top_told n r c p q = by (eqb r c) refl
  where
    by : (t : Bool) → eqb r c ≡ t → cond t None (at (top_matrix n) r c) ≡ None
    by true e = refl
    by false e = at-table (2 * n) top_entry r c p q ∙ ap (λ (t : Bool). cond t (Some (pos 0)) None) e

pub top_listing : (n : ℕ) → n ≤ 256 → IsListing n []
unfolding half_bounds top_matrix top_value places
top_listing n l = record {
  small = l;
  even = octagon-top n;
  whole = sym (ap (λ (k : ℕ). items (told (top_matrix n)) (places k)) (length-table (2 * n) top_entry)
      ∙ no_items (told (top_matrix n)) (places (2 * n)) (each_rows (λ p. told (top_matrix n) p ≡ None) 0 (2 * n) (2 * n) (omega arith) (λ r c lr lc. top_told n r c lr (omega arith))));
}

-- ---- the place of the two that is stored

abbrev pub IsHalf : InvBound → Type 0
IsHalf b = b.column / 2 ≤ b.row / 2

abbrev twin : InvBound → InvBound
twin b = record { row = opposite b.column; column = opposite b.row; word = b.word }

swap_or : (s t : Bool) → (s || t) ≡ (t || s)
swap_or true true = refl
swap_or true false = refl
swap_or false true = refl
swap_or false false = refl

twin_hit : (b : InvBound) (i j : ℕ) → is_hit (placed_at (twin b)) i j ≡ is_hit (placed_at b) i j
twin_hit b i j =
    ap (λ (r : ℕ). (eqb i (opposite b.column) && eqb j (opposite b.row)) || (eqb i r && eqb j (opposite (opposite b.column)))) (opposite_twice b.row)
    ∙ ap (λ (c : ℕ). (eqb i (opposite b.column) && eqb j (opposite b.row)) || (eqb i b.row && eqb j c)) (opposite_twice b.column)
    ∙ swap_or (eqb i (opposite b.column) && eqb j (opposite b.row)) (eqb i b.row && eqb j b.column)

with_twin : (m : Matrix) (b : InvBound) → with_bound m (twin b) ≡ with_bound m b
unfolding bounded_matrix bounded_entry
with_twin m b = table-same (length m) (bounded_entry m (placed_at (twin b))) (bounded_entry m (placed_at b))
    (λ i j p q. ap (λ (t : Bool). cond t (least (at m i j) (Some b.word)) (at m i j)) (twin_hit b i j))

takes_twin : (n : ℕ) (m : Matrix) (b : InvBound) → IsMatrix n m → TakesBound m b → TakesBound m (twin b)
takes_twin n m b is t =
    let r = t.row in
    let c = t.column in
    let k = is.rows in record {
      row = omega (arith, c, k);
      column = omega (arith, r, k);
      off_diagonal = λ e. t.off_diagonal (opposite_same b.row b.column (sym e));
      free = sym (is.coherent.twins b.row b.column r c) ∙ t.free;
      in_range = t.in_range;
      even = λ e. t.even (sym (opposite_twice b.column) ∙ sym e);
    }

pub stored_half : (b : InvBound) → IsHalf (stored_bound b)
unfolding stored_bound
stored_half b = by (leb (b.column / 2) (b.row / 2)) refl
  where
    by : (t : Bool) → leb (b.column / 2) (b.row / 2) ≡ t → IsHalf (cond t b (twin b))
    by true e = grind (arith, nat_tests)
    by false e = let l : b.row / 2 < b.column / 2 = grind (arith, nat_tests) in omega (arith, l)

pub with_stored : (m : Matrix) (b : InvBound) → with_bound m (stored_bound b) ≡ with_bound m b
unfolding stored_bound
with_stored m b = by (leb (b.column / 2) (b.row / 2))
  where
    by : (t : Bool) → with_bound m (cond t b (twin b)) ≡ with_bound m b
    by true = refl
    by false = with_twin m b

pub takes_stored : (n : ℕ) (m : Matrix) (b : InvBound) → IsMatrix n m → TakesBound m b → TakesBound m (stored_bound b)
unfolding stored_bound
takes_stored n m b is h = by (leb (b.column / 2) (b.row / 2))
  where
    by : (t : Bool) → TakesBound m (cond t b (twin b))
    by true = h
    by false = takes_twin n m b is h

-- ---- a half entry more

placed_in : (n : ℕ) (m : Matrix) (b : InvBound) → length m ≡ 2 * n → TakesBound m b → IsPlacedIn n (placed_at b)
placed_in n m b l t = let r = t.row in let c = t.column in record {
  row = omega (arith, r, l);
  column = omega (arith, c, l);
  off_diagonal = t.off_diagonal;
  in_range = t.in_range;
  even = t.even;
}

pub even-with_bound : (n : ℕ) (m : Matrix) (b : InvBound) → IsEvenMatrix n m → TakesBound m b → IsEvenMatrix n (with_bound m b)
even-with_bound n m b is t = even_matrix-bounded n m (placed_at b) (placed_in n m b is.matrix.rows t) is

-- a place of a half matrix that the bound hits is its own
own_place : (b : InvBound) (r c : ℕ) → IsHalf b → (b.row ≡ b.column → ⊥) → c < columns r → Hits (placed_at b) r c → key_at (place_at r c) ≡ order_key b
own_place b r c half ne l (inl h) = let x = h.0 in let y = h.1 in omega (arith, x, y)
own_place b r c half ne l (inr h) =
    let x : r ≡ opposite b.column = h.0 in
    let y : c ≡ opposite b.row = h.1 in
    let s : r ≡ b.row = split (grind arith) in
    let t : c ≡ b.column = split2 (grind arith) in
    omega (arith, s, t)
  where
    split : (r ≡ b.row) ⊎ (r ≡ b.row → ⊥) → r ≡ b.row
    split (inl e) = e
    split (inr n) = absurd (ne (omega (arith, h.0, h.1, half, l)))

    split2 : (c ≡ b.column) ⊎ (c ≡ b.column → ⊥) → c ≡ b.column
    split2 (inl e) = e
    split2 (inr n) = absurd (ne (omega (arith, h.0, h.1, half, l)))

agree : (n : ℕ) (m : Matrix) (b : InvBound) → length m ≡ 2 * n → IsHalf b → TakesBound m b → (r c : ℕ) → r < 2 * n → c < columns r → Agree (told m) (told (with_bound m b)) (order_key b) (place_at r c)
unfolding told
agree n m b l half t r c lr lc ne = by (eqb r c)
  where
    hit : (s : Bool) → is_hit (placed_at b) r c ≡ s → cond s (least (at m r c) (Some b.word)) (at m r c) ≡ at m r c
    hit true e = absurd (ne (own_place b r c half t.off_diagonal lc ((hits_is (placed_at b) r c).0 e)))
    hit false e = refl

    by : (d : Bool) → cond d None (at (with_bound m b) r c) ≡ cond d None (at m r c)
    by true = refl
    by false = at-bounded m (placed_at b) r c (omega (arith, l)) (omega (arith, l)) ∙ hit (is_hit (placed_at b) r c) refl

own_bound : (m : Matrix) (b : InvBound) → TakesBound m b → told (with_bound m b) (place_at b.row b.column) ≡ Some b.word
own_bound m b t =
    let h : is_hit (placed_at b) b.row b.column ≡ true = (hits_is (placed_at b) b.row b.column).1 (inl (refl, refl)) in
    off (with_bound m b) b.row b.column t.off_diagonal
    ∙ at-bounded m (placed_at b) b.row b.column t.row t.column
    ∙ ap (λ (s : Bool). cond s (least (at m b.row b.column) (Some b.word)) (at m b.row b.column)) h
    ∙ ap (λ (x : Bound). least x (Some b.word)) t.free

pub half-with_bound : (n : ℕ) (m : Matrix) (b : InvBound) → n ≤ 256 → IsMatrix n m → IsHalf b → TakesBound m b → put_in b (half_bounds m) ≡ half_bounds (with_bound m b)
unfolding half_bounds places
half-with_bound n m b small is half t =
    let r = t.row in
    let c = t.column in
    ap (λ (k : ℕ). put_in b (items (told m) (places k))) is.rows
    ∙ put_among (told m) (told (with_bound m b)) b (places (2 * n)) 0 (rising_places n small)
    (in_rows (λ q. Among q (places (2 * n))) 0 (2 * n) b.row b.column (each_among (places (2 * n))) (omega arith) (omega (arith, r, is.rows)) (omega arith))
    (off m b.row b.column t.off_diagonal ∙ t.free) (own_bound m b t)
    (each_rows (Agree (told m) (told (with_bound m b)) (order_key b)) 0 (2 * n) (2 * n) (omega arith) (agree n m b is.rows half t))
    ∙ sym (ap (λ (k : ℕ). items (told (with_bound m b)) (places k)) (length-bounded m (placed_at b) ∙ is.rows))

pub in_order-half : (n : ℕ) (m : Matrix) → n ≤ 256 → length m ≡ 2 * n → InOrder 0 (half_bounds m)
unfolding half_bounds
in_order-half n m small l =
    subst (λ (k : ℕ). InOrder 0 (items (told m) (places k))) (sym l) (in_order-items (told m) (places (2 * n)) 0 (rising_places n small))

-- the list with the bound in its place
pub kept_listing : (n : ℕ) (bs cs : List InvBound) (b : InvBound) → IsListing n bs → IsHalf b → TakesBound (listed_matrix n bs) b → cs ≡ put_in b bs
    → (listed_matrix n cs ≡ with_bound (listed_matrix n bs) b) × IsListing n cs
kept_listing n bs cs b is half t e =
    let same : listed_matrix n cs ≡ with_bound (listed_matrix n bs) b = ap (listed_matrix n) e ∙ listed-put_in (top_matrix n) b bs in (
      same,
      record {
        small = is.small;
        even = subst (IsEvenMatrix n) (sym same) (even-with_bound n (listed_matrix n bs) b is.even t);
        whole = e ∙ ap (put_in b) is.whole ∙ half-with_bound n (listed_matrix n bs) b is.small is.even.matrix half t ∙ ap half_bounds (sym same);
      },
    )

-- what the code inserts
pub inserted_listing : (n : ℕ) (bs cs : List InvBound) (a b : InvBound) (k : ℕ) → IsListing n bs → TakesBound (listed_matrix n bs) a → b ≡ stored_bound a → k ≤ length bs
    → (0 < k → is_before b (get_or bs (k - 1) b) ≡ false) → (k < length bs → is_before b (get_or bs k b) ≡ true) → cs ≡ insert bs k b
    → (listed_matrix n cs ≡ with_bound (listed_matrix n bs) a) × IsListing n cs
inserted_listing n bs cs a b k is t eb l before after e =
    let m : Matrix = listed_matrix n bs in
    let half : IsHalf b = subst IsHalf (sym eb) (stored_half a) in
    let takes : TakesBound m b = subst (TakesBound m) (sym eb) (takes_stored n m a is.even.matrix t) in
    let order : InOrder 0 bs = subst (InOrder 0) (sym is.whole) (in_order-half n m is.small is.even.matrix.rows) in
    let put : cs ≡ put_in b bs = e ∙ inserted b bs k b order l (λ p. let f = before p in grind (arith, nat_tests)) (λ p. let f = after p in grind (arith, nat_tests)) in
    let both = kept_listing n bs cs b is half takes put in
    (both.0 ∙ ap (with_bound m) eb ∙ with_stored m a, both.1)
