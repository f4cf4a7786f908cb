-- Words written over a row, however many.
use Rattle.std.proofs.Common.{◌≡◌, ℕ, ◌+◌, ◌-◌, ◌*◌, ◌<◌, ◌≤◌, ◌⊎◌, inl, inr, Bool, true, false, cond, List, length, get_or, take, drop, ◌++◌, refl, sym, ap, ◌∙◌, subst, arith, length-append, length-drop}
use Rattle.std.specs.Prelude.{ℤ, pos, nat_le, nat_lt, nat_eq, ◌&&◌}
use Rattle.std.proofs.lemmas.List.{get_or-take, get_or-drop, get_or_append_left, length-take, get_or-append_right}
use Rattle.std.proofs.lemmas.Bool.Decides.{nat_tests, Decides-eqb}
use Rattle.oct_def.specs.Bound.{Bound, bound_of}
use Rattle.oct_def.specs.Table.{Matrix, table, at}
use Rattle.oct_def.proofs.Tables.{table-same, length-table, at-table}
use Rattle.half_matrix.specs.Place.{start, place, row_length}
use Rattle.oct_def.specs.Matrix.{opposite}
use Rattle.half_matrix.specs.Half.{half_entry, matrix_of, IsHalf}
use Rattle.half_matrix.specs.Lending.{written_entry, with_row, row_entry, RowIsWritten}
use Rattle.half_matrix.proofs.Places.{place_within, own_place, twin_place, rows_apart}
use Rattle.half_matrix.proofs.Views.{rows_of, at-matrix_of}

-- w written over xs from place a on
abbrev pub over : List ℤ → ℕ → List ℤ → List ℤ
over xs a w = take a xs ++ (w ++ drop (length w) (drop a xs))

-- the same, cut to the length of xs
abbrev pub refilled : ℕ → List ℤ → ℕ → List ℤ → List ℤ
refilled n xs a w = take n (over xs a w ++ drop (length (over xs a w)) xs)

pub over-at : (xs w : List ℤ) (n a k : ℕ) → length xs ≡ n → a ≤ n → k < n → get_or (refilled n xs a w) k (pos 0) ≡ cond (nat_le a k && nat_lt k (a + length w)) (get_or w (k - a) (pos 0)) (get_or xs k (pos 0))
over-at xs w n a k e le lt =
    get_or-take n (over xs a w ++ drop (length (over xs a w)) xs) k (pos 0) lt
    ∙ get_or_append_left (over xs a w) (drop (length (over xs a w)) xs) (pos 0) k long
    ∙ by (nat_le a k) refl
  where
    front : length (take a xs) ≡ a
    front = length-take a xs ∙ omega (arith, e)

    long : k < length (over xs a w)
    long = simp (length-append, length-drop) (omega (arith, front, e))

    last : nat_le a k ≡ true → (b : Bool) → nat_lt k (a + length w) ≡ b → get_or (w ++ drop (length w) (drop a xs)) (k - a) (pos 0) ≡ cond b (get_or w (k - a) (pos 0)) (get_or xs k (pos 0))
    last f true g = get_or_append_left w (drop (length w) (drop a xs)) (pos 0) (k - a) (grind (arith, nat_tests))
    last f false g =
        let h : a + length w ≤ k = grind (arith, nat_tests) in
        get_or-append_right w (drop (length w) (drop a xs)) (length w) (k - a) (pos 0) refl (omega arith)
        ∙ get_or-drop (length w) (drop a xs) (k - a - length w) (pos 0)
        ∙ get_or-drop a xs (length w + (k - a - length w)) (pos 0)
        ∙ ap (λ t. get_or xs t (pos 0)) (omega arith)

    by : (b : Bool) → nat_le a k ≡ b → get_or (over xs a w) k (pos 0) ≡ cond (b && nat_lt k (a + length w)) (get_or w (k - a) (pos 0)) (get_or xs k (pos 0))
    by true f =
        get_or-append_right (take a xs) (w ++ drop (length w) (drop a xs)) a k (pos 0) front (grind (arith, nat_tests))
        ∙ last f (nat_lt k (a + length w)) refl
    by false f =
        let h : k < a = grind (arith, nat_tests) in
        get_or_append_left (take a xs) (w ++ drop (length w) (drop a xs)) (pos 0) k (omega (arith, front))
        ∙ get_or-take a xs k (pos 0) h

pub row-written : (vars : ℕ) (words : List ℤ) (m : Matrix) (i n a : ℕ) (w : List ℤ) → matrix_of vars words ≡ m → IsHalf vars words → length words ≡ n → a ≡ start i → a ≤ n → matrix_of vars (refilled n words a w) ≡ with_row m i w
unfolding matrix_of half_entry with_row written_entry
row-written vars words m i n a w e f ln ea le =
    table-same (2 * vars) (half_entry (refilled n words a w)) (written_entry m i w) (λ r c p q.
    let k : place r c < n = omega (arith, place_within vars r c p q, f.filled) in
    ap bound_of (over-at words w n a (place r c) ln le k)
    ∙ ap (λ t. bound_of (cond (nat_le t (place r c) && nat_lt (place r c) (t + length w)) (get_or w (place r c - t) (pos 0)) (get_or words (place r c) (pos 0)))) ea
    ∙ by (nat_le (start i) (place r c) && nat_lt (place r c) (start i + length w)) r c (sym (at-matrix_of vars words r c p q) ∙ ap (λ t. at t r c) e))
    ∙ ap (λ t. table t (written_entry m i w)) (rows_of vars words m e)
  where
    by : (b : Bool) (r c : ℕ) → bound_of (get_or words (place r c) (pos 0)) ≡ at m r c → bound_of (cond b (get_or w (place r c - start i) (pos 0)) (get_or words (place r c) (pos 0))) ≡ cond b (bound_of (get_or w (place r c - start i) (pos 0))) (at m r c)
    by true r c h = refl
    by false r c h = h

-- ---- what a row of its length makes of the entries that are read from their own place

pub length-with_row : (m : Matrix) (i : ℕ) (w : List ℤ) → length (with_row m i w) ≡ length m
unfolding with_row
length-with_row m i w = length-table (length m) (written_entry m i w)

pub with_row-same : (m : Matrix) (i : ℕ) (w : List ℤ) (c : ℕ) → i < length m → c < length m → length w ≡ row_length i → c ≤ opposite i → at (with_row m i w) i c ≡ bound_of (get_or w c (pos 0))
unfolding with_row written_entry
with_row-same m i w c p q e h =
    at-table (length m) (written_entry m i w) i c p q
    ∙ by (place i c) (own_place i c h) (nat_le (start i) (place i c)) (nat_lt (place i c) (start i + length w)) refl refl
  where
    by : (k : ℕ) → k ≡ start i + c → (a b : Bool) → nat_le (start i) k ≡ a → nat_lt k (start i + length w) ≡ b → cond (a && b) (bound_of (get_or w (k - start i) (pos 0))) (at m i c) ≡ bound_of (get_or w c (pos 0))
    by k s true true f g = ap (λ t. bound_of (get_or w t (pos 0))) (omega arith)
    by k s true false f g = let x : start i + length w ≤ k = grind (arith, nat_tests) in absurd (omega arith)
    by k s false b f g = let x : k < start i = grind (arith, nat_tests) in absurd (omega arith)

pub with_row-other : (m : Matrix) (i : ℕ) (w : List ℤ) (r c : ℕ) → r < length m → c < length m → length w ≡ row_length i → c ≤ opposite r → (r < i) ⊎ (i < r) → at (with_row m i w) r c ≡ at m r c
unfolding with_row written_entry
with_row-other m i w r c p q e h d =
    at-table (length m) (written_entry m i w) r c p q
    ∙ by (place r c) (own_place r c h) (nat_le (start i) (place r c)) (nat_lt (place r c) (start i + length w)) refl refl (rows_apart i r c (omega arith) d)
  where
    by : (k : ℕ) → k ≡ start r + c → (a b : Bool) → nat_le (start i) k ≡ a → nat_lt k (start i + length w) ≡ b → (start r + c < start i) ⊎ (start i + row_length i ≤ start r + c) → cond (a && b) (bound_of (get_or w (k - start i) (pos 0))) (at m r c) ≡ at m r c
    by k s false b f g o = refl
    by k s true false f g o = refl
    by k s true true f g (inl o) = let x : start i ≤ k = grind (arith, nat_tests) in absurd (omega arith)
    by k s true true f g (inr o) = let x : k < start i + length w = grind (arith, nat_tests) in absurd (omega arith)

-- ---- what a row of its length makes of all entries

within_run : (s l k : ℕ) (a b : Bound) → s ≤ k → k < s + l → cond (nat_le s k && nat_lt k (s + l)) a b ≡ a
within_run s l k a b p q = by (nat_le s k) (nat_lt k (s + l)) refl refl
  where
    by : (x y : Bool) → nat_le s k ≡ x → nat_lt k (s + l) ≡ y → cond (x && y) a b ≡ a
    by true true f g = refl
    by true false f g = let h : s + l ≤ k = grind (arith, nat_tests) in absurd (omega arith)
    by false y f g = let h : k < s = grind (arith, nat_tests) in absurd (omega arith)

beyond_run : (s l k : ℕ) (a b : Bound) → (k < s) ⊎ (s + l ≤ k) → cond (nat_le s k && nat_lt k (s + l)) a b ≡ b
beyond_run s l k a b o = by (nat_le s k) (nat_lt k (s + l)) refl refl o
  where
    by : (x y : Bool) → nat_le s k ≡ x → nat_lt k (s + l) ≡ y → (k < s) ⊎ (s + l ≤ k) → cond (x && y) a b ≡ b
    by false y f g o = refl
    by true false f g o = refl
    by true true f g (inl h) = let x : s ≤ k = grind (arith, nat_tests) in absurd (omega arith)
    by true true f g (inr h) = let x : k < s + l = grind (arith, nat_tests) in absurd (omega arith)

in_columns : (r i c o : ℕ) (a b : Bound) → r ≡ i → c ≤ o → cond (nat_eq r i && nat_le c o) a b ≡ a
in_columns r i c o a b p q = by (nat_eq r i) (nat_le c o) refl refl
  where
    by : (x y : Bool) → nat_eq r i ≡ x → nat_le c o ≡ y → cond (x && y) a b ≡ a
    by true true f g = refl
    by true false f g = let h : o < c = grind (arith, nat_tests) in absurd (omega arith)
    by false y f g = let t = (Decides-eqb r i).1 p in cc

off_columns : (r i c o : ℕ) (a b : Bound) → (r ≡ i → c ≤ o → ⊥) → cond (nat_eq r i && nat_le c o) a b ≡ b
off_columns r i c o a b n = by (nat_eq r i) (nat_le c o) refl refl
  where
    by : (x y : Bool) → nat_eq r i ≡ x → nat_le c o ≡ y → cond (x && y) a b ≡ b
    by false y f g = refl
    by true false f g = refl
    by true true f g =
        let p : r ≡ i = (Decides-eqb r i).0 f in
        let q : c ≤ o = grind (arith, nat_tests) in
        absurd (n p q)

-- an entry that is read from row i at column y
written_own : (m : Matrix) (i : ℕ) (w : List ℤ) (r c x y : ℕ) → length w ≡ row_length i → place r c ≡ start x + y → y ≤ opposite x → x ≡ i → written_entry m i w r c ≡ bound_of (get_or w y (pos 0))
unfolding written_entry
written_own m i w r c x y e k h same =
    let here : place r c ≡ start i + y = k ∙ ap (λ t. start t + y) same in
    within_run (start i) (length w) (place r c) (bound_of (get_or w (place r c - start i) (pos 0))) (at m r c) (omega (arith, here)) (omega (arith, here, e, same))
    ∙ ap (λ t. bound_of (get_or w t (pos 0))) (omega (arith, here))

-- one that is read from another row
written_off : (m : Matrix) (i : ℕ) (w : List ℤ) (r c x y : ℕ) → length w ≡ row_length i → place r c ≡ start x + y → y ≤ opposite x → (x < i) ⊎ (i < x) → written_entry m i w r c ≡ at m r c
unfolding written_entry
written_off m i w r c x y e k h d =
    beyond_run (start i) (length w) (place r c) (bound_of (get_or w (place r c - start i) (pos 0))) (at m r c)
    (subst (λ t. (t < start i) ⊎ (start i + length w ≤ t)) (sym k) (subst (λ t. (start x + y < start i) ⊎ (start i + t ≤ start x + y)) (sym e) (rows_apart i x y (omega arith) d)))

written_same : (m : Matrix) (i : ℕ) (w : List ℤ) (r c : ℕ) → length w ≡ row_length i → written_entry m i w r c ≡ row_entry m i w r c
unfolding row_entry
written_same m i w r c e = by (grind arith)
  where
    word : ℕ → Bound
    word k = bound_of (get_or w k (pos 0))

    twins : Bound
    twins = cond (nat_eq (opposite c) i && nat_le (opposite r) (opposite i)) (word (opposite r)) (at m r c)

    row : Bound
    row = cond (nat_eq r i && nat_le c (opposite i)) (word c) twins

    own : c ≤ opposite r → (r ≡ i) ⊎ ((r < i) ⊎ (i < r)) → written_entry m i w r c ≡ row
    own h (inl same) = written_own m i w r c r c e (own_place r c h) h same ∙ sym (in_columns r i c (opposite i) (word c) twins same (omega (arith, same)))
    own h (inr other) =
        let n : r ≡ i → ⊥ = λ p. grind arith in
        written_off m i w r c r c e (own_place r c h) h other
        ∙ sym (off_columns (opposite c) i (opposite r) (opposite i) (word (opposite r)) (at m r c) (λ p q. n (omega arith)))
        ∙ sym (off_columns r i c (opposite i) (word c) twins (λ p q. n p))

    twin : opposite r < c → (opposite c ≡ i) ⊎ ((opposite c < i) ⊎ (i < opposite c)) → written_entry m i w r c ≡ row
    twin h (inl same) =
        written_own m i w r c (opposite c) (opposite r) e (twin_place r c h) (omega arith) same
        ∙ sym (in_columns (opposite c) i (opposite r) (opposite i) (word (opposite r)) (at m r c) same (omega (arith, same)))
        ∙ sym (off_columns r i c (opposite i) (word c) twins (λ p q. omega arith))
    twin h (inr other) =
        let n : opposite c ≡ i → ⊥ = λ p. grind arith in
        written_off m i w r c (opposite c) (opposite r) e (twin_place r c h) (omega arith) other
        ∙ sym (off_columns (opposite c) i (opposite r) (opposite i) (word (opposite r)) (at m r c) (λ p q. n p))
        ∙ sym (off_columns r i c (opposite i) (word c) twins (λ p q. omega arith))

    by : (c ≤ opposite r) ⊎ (opposite r < c) → written_entry m i w r c ≡ row
    by (inl h) = own h (grind arith)
    by (inr h) = twin h (grind arith)

pub row_is_written : RowIsWritten
unfolding with_row
row_is_written i m w e = table-same (length m) (written_entry m i w) (row_entry m i w) (λ r c p q. written_same m i w r c e)
