-- A matrix that is written word by word, in one row after the other.
use Rattle.std.proofs.Common.{◌≡◌, ℕ, ◌+◌, ◌*◌, ◌/◌, ◌%◌, ◌<◌, ◌≤◌, ◌⊎◌, inl, inr, ◌&&◌, Bool, true, false, cond, eqb, List, [], ◌∷◌, ◌++◌, length, length-append, get_or, refl, sym, ap, subst, ◌∙◌, arith}
use Rattle.std.specs.Prelude.{ℤ, pos}
use Rattle.std.proofs.Math.ListN.{set}
use Rattle.std.proofs.lemmas.List.{get_or-set_same, get_or-set_other, get_or_push, get_or_append_left}
use Rattle.std.proofs.lemmas.Nat.{div-mul-add, mod-mul-add}
use Rattle.std.proofs.lemmas.Bool.Decides.{Decides-eqb}
use Rattle.oct_def.specs.Bound.{Bound, bound_of, clamped, plus}
use Rattle.oct_def.specs.Table.{Matrix, table, at}
use Rattle.oct_def.specs.Matrix.{IsSquare}
use Rattle.oct_def.specs.Tight.{path, long_path, least_of_five, pivot_entry}
use Rattle.oct_def.proofs.Tables.{table-same, length-table, at-table, square-table, is-table}
use Rattle.full_oct.specs.Words.{word_entry, matrix_of, IsFull, replaced_entry, replaced}
use Rattle.full_oct.proofs.Places.{place_within, at-matrix_of, rows_of}

-- two places of a matrix are the same only in the same row and column
pub same_place : (size i j r c : ℕ) → j < size → c < size → i * size + j ≡ r * size + c → (i ≡ r) × (j ≡ c)
same_place size i j r c p q e = (
  sym (div-mul-add i size j p) ∙ ap (λ n. n / size) e ∙ div-mul-add r size c q,
  sym (mod-mul-add i size j p) ∙ ap (λ n. n % size) e ∙ mod-mul-add r size c q,
)

-- whether (r, c) is (i, j)
both-true : (i j r c : ℕ) → (eqb r i && eqb c j) ≡ true → (r ≡ i) × (c ≡ j)
both-true i j r c e = by (eqb r i) (eqb c j) refl refl e
  where
    by : (a b : Bool) → eqb r i ≡ a → eqb c j ≡ b → (a && b) ≡ true → (r ≡ i) × (c ≡ j)
    by true true f g h = ((Decides-eqb r i).0 f, (Decides-eqb c j).0 g)
    by true false f g h = cc
    by false b f g h = cc

both-same : (i j : ℕ) → (eqb i i && eqb j j) ≡ true
both-same i j = ap (λ a. a && eqb j j) ((Decides-eqb i i).1 refl) ∙ (Decides-eqb j j).1 refl

-- one word written
pub word-written : (size : ℕ) (words : List ℤ) (m : Matrix) (i j : ℕ) (w : ℤ) → matrix_of size words ≡ m → IsFull size words → i < size → j < size → matrix_of size (set words (i * size + j) w) ≡ replaced m i j (bound_of w)
unfolding matrix_of word_entry replaced replaced_entry
word-written size words m i j w e f p q =
    table-same size (word_entry size (set words (i * size + j) w)) (replaced_entry m i j (bound_of w)) (λ r c h k. by r c h k (eqb r i && eqb c j) refl)
    ∙ ap (λ t. table t (replaced_entry m i j (bound_of w))) (rows_of size words m e)
  where
    by : (r c : ℕ) → r < size → c < size → (b : Bool) → (eqb r i && eqb c j) ≡ b → bound_of (get_or (set words (i * size + j) w) (r * size + c) (pos 0)) ≡ cond b (bound_of w) (at m r c)
    by r c h k true g =
        let here = both-true i j r c g in
        ap bound_of (ap (λ t. get_or (set words (i * size + j) w) t (pos 0)) (ap (λ x. x * size + c) here.0 ∙ ap (λ y. i * size + y) here.1)
        ∙ get_or-set_same words (i * size + j) w (pos 0) (place_within size words i j f p q))
    by r c h k false g =
        ap bound_of (get_or-set_other words (i * size + j) (r * size + c) w (pos 0) (λ s.
        let here = same_place size r c i j k q s in
        let there = ap (λ x. eqb x i && eqb c j) here.0 ∙ ap (λ y. eqb i i && eqb y j) here.1 ∙ both-same i j in
        cc))
        ∙ sym (at-matrix_of size words r c h k) ∙ ap (λ t. at t r c) e

pub length-replaced : (m : Matrix) (i j : ℕ) (b : Bound) → length (replaced m i j b) ≡ length m
unfolding replaced
length-replaced m i j b = length-table (length m) (replaced_entry m i j b)

pub square-replaced : (m : Matrix) (i j : ℕ) (b : Bound) → IsSquare (replaced m i j b)
unfolding replaced
square-replaced m i j b = square-table (length m) (replaced_entry m i j b)

pub replaced-there : (m : Matrix) (i j : ℕ) (b : Bound) → i < length m → j < length m → at (replaced m i j b) i j ≡ b
unfolding replaced replaced_entry
replaced-there m i j b p q = at-table (length m) (replaced_entry m i j b) i j p q ∙ ap (λ t. cond t b (at m i j)) (both-same i j)

pub replaced-else : (m : Matrix) (i j : ℕ) (b : Bound) (r c : ℕ) → r < length m → c < length m → ((r ≡ i) × (c ≡ j) → ⊥) → at (replaced m i j b) r c ≡ at m r c
unfolding replaced replaced_entry
replaced-else m i j b r c p q h = at-table (length m) (replaced_entry m i j b) r c p q ∙ by (eqb r i && eqb c j) refl
  where
    by : (t : Bool) → (eqb r i && eqb c j) ≡ t → cond t b (at m r c) ≡ at m r c
    by true g = absurd (h (both-true i j r c g))
    by false g = refl

-- ---- one row

-- row i of the old matrix is rewritten up to column j, by what P says of column, old word and new word
pub record Rewritten (P : ℕ → ℤ → ℤ → Type 0) (old now : Matrix) (i j : ℕ) : Type 0 where
  pub rows : length now ≡ length old
  pub square : IsSquare now
  pub others : (r c : ℕ) → r < length old → c < length old → (r ≡ i → ⊥) → at now r c ≡ at old r c
  pub left : (c : ℕ) → j ≤ c → c < length old → at now i c ≡ at old i c
  pub done : (c : ℕ) → c < j → (v w : ℤ) × (bound_of v ≡ at old i c) × P c v w × (bound_of w ≡ at now i c)

pub rewritten-none : (P : ℕ → ℤ → ℤ → Type 0) (m : Matrix) (i : ℕ) → IsSquare m → Rewritten P m m i 0
rewritten-none P m i sq = record {
  rows = refl;
  square = sq;
  others = λ r c p q h. refl;
  left = λ c h p. refl;
  done = λ c h. absurd (omega (arith, h));
}

pub rewritten-more : (P : ℕ → ℤ → ℤ → Type 0) (old now next : Matrix) (i j : ℕ) (v w : ℤ) → Rewritten P old now i j → i < length old → j < length old → bound_of v ≡ at now i j → P j v w → next ≡ replaced now i j (bound_of w) → Rewritten P old next i (j + 1)
rewritten-more P old now next i j v w f p q ev e en = record {
  rows = ap length en ∙ length-replaced now i j (bound_of w) ∙ f.rows;
  square = subst IsSquare (sym en) (square-replaced now i j (bound_of w));
  others = λ r c hr hc h. same r c hr hc (λ k. h k.0) ∙ f.others r c hr hc h;
  left = λ c h k. same i c p k (λ t. omega (arith, t.1)) ∙ f.left c (omega arith) k;
  done = λ c h. by c (grind arith);
}
  where
    same : (r c : ℕ) → r < length old → c < length old → ((r ≡ i) × (c ≡ j) → ⊥) → at next r c ≡ at now r c
    same r c hr hc h = ap (λ t. at t r c) en ∙ replaced-else now i j (bound_of w) r c (omega (arith, f.rows)) (omega (arith, f.rows)) h

    by : (c : ℕ) → (c ≡ j) ⊎ (c < j) → (v w : ℤ) × (bound_of v ≡ at old i c) × P c v w × (bound_of w ≡ at next i c)
    by c (inl s) = rw s (v, w, ev ∙ f.left j (omega arith) q, e, sym (ap (λ t. at t i j) en ∙ replaced-there now i j (bound_of w) (omega (arith, f.rows)) (omega (arith, f.rows))))
    by c (inr s) =
        let d = f.done c s in
        (d.0, d.1, d.2, d.3, d.4 ∙ sym (same i c p (omega arith) (λ t. omega (arith, t.1))))

-- ---- one row after the other

-- the first i rows hold the entries of E, the others are old
pub record Stepped (E : ℕ → ℕ → Bound) (old now : Matrix) (i : ℕ) : Type 0 where
  pub rows : length now ≡ length old
  pub square : IsSquare now
  pub done : (r c : ℕ) → r < i → c < length old → at now r c ≡ E r c
  pub left : (r c : ℕ) → i ≤ r → r < length old → c < length old → at now r c ≡ at old r c

pub stepped-more : (E : ℕ → ℕ → Bound) (old now next : Matrix) (i : ℕ) → Stepped E old now i → i < length old → length next ≡ length now → IsSquare next → ((r c : ℕ) → r < length now → c < length now → (r ≡ i → ⊥) → at next r c ≡ at now r c) → ((c : ℕ) → c < length old → at next i c ≡ E i c) → Stepped E old next (i + 1)
stepped-more E old now next i f p e sq others row = record {
  rows = e ∙ f.rows;
  square = sq;
  done = λ r c h q. by r c q (grind arith);
  left = λ r c h hr hc. others r c (omega (arith, f.rows)) (omega (arith, f.rows)) (λ s. omega (arith, s)) ∙ f.left r c (omega arith) hr hc;
}
  where
    by : (r c : ℕ) → c < length old → (r ≡ i) ⊎ (r < i) → at next r c ≡ E r c
    by r c q (inl s) = rw s (row c q)
    by r c q (inr s) = others r c (omega (arith, f.rows)) (omega (arith, f.rows)) (λ t. omega (arith, t, s)) ∙ f.done r c s q

-- ---- a copy of one row

pub row_more : (m : Matrix) (i : ℕ) (words next : List ℤ) (w : ℤ) → ((c : ℕ) → c < length words → bound_of (get_or words c (pos 0)) ≡ at m i c) → bound_of w ≡ at m i (length words) → next ≡ words ++ w ∷ [] → (c : ℕ) → c < length next → bound_of (get_or next c (pos 0)) ≡ at m i c
row_more m i words next w h e en c lt = rw en (by (cases))
  where
    cases : (c < length words) ⊎ (c ≡ length words)
    cases = let l = ap length en ∙ length-append words (w ∷ []) in grind (arith, l)

    by : (c < length words) ⊎ (c ≡ length words) → bound_of (get_or (words ++ w ∷ []) c (pos 0)) ≡ at m i c
    by (inl p) = ap bound_of (get_or_append_left words (w ∷ []) (pos 0) c p) ∙ h c p
    by (inr p) = ap bound_of (get_or_push words w (pos 0) c (sym p)) ∙ e ∙ ap (at m i) (sym p)

-- ---- the step at one variable

-- the entry after the step, from the words that the code reads
pub pivot_of : (m : Matrix) (p q i j : ℕ) (old a b x y s t : Bound) → old ≡ at m i j → a ≡ at m i p → b ≡ at m i q → x ≡ at m p j → y ≡ at m q j → s ≡ at m p q → t ≡ at m q p → least_of_five old (clamped (plus a x)) (clamped (plus b y)) (clamped (plus (plus a s) y)) (clamped (plus (plus b t) x)) ≡ pivot_entry p q m i j
unfolding pivot_entry path long_path
pivot_of m p q i j old a b x y s t eo ea eb ex ey es et =
    ap (λ k. least_of_five k (clamped (plus a x)) (clamped (plus b y)) (clamped (plus (plus a s) y)) (clamped (plus (plus b t) x))) eo
    ∙ ap (λ k. least_of_five (at m i j) (clamped (plus k x)) (clamped (plus b y)) (clamped (plus (plus k s) y)) (clamped (plus (plus b t) x))) ea
    ∙ ap (λ k. least_of_five (at m i j) (clamped (plus (at m i p) x)) (clamped (plus k y)) (clamped (plus (plus (at m i p) s) y)) (clamped (plus (plus k t) x))) eb
    ∙ ap (λ k. least_of_five (at m i j) (clamped (plus (at m i p) k)) (clamped (plus (at m i q) y)) (clamped (plus (plus (at m i p) s) y)) (clamped (plus (plus (at m i q) t) k))) ex
    ∙ ap (λ k. least_of_five (at m i j) (clamped (plus (at m i p) (at m p j))) (clamped (plus (at m i q) k)) (clamped (plus (plus (at m i p) s) k)) (clamped (plus (plus (at m i q) t) (at m p j)))) ey
    ∙ ap (λ k. least_of_five (at m i j) (clamped (plus (at m i p) (at m p j))) (clamped (plus (at m i q) (at m q j))) (clamped (plus (plus (at m i p) k) (at m q j))) (clamped (plus (plus (at m i q) t) (at m p j)))) es
    ∙ ap (λ k. least_of_five (at m i j) (clamped (plus (at m i p) (at m p j))) (clamped (plus (at m i q) (at m q j))) (clamped (plus (plus (at m i p) (at m p q)) (at m q j))) (clamped (plus (plus (at m i q) k) (at m p j)))) et

-- all rows are stepped
pub stepped-all : (E : ℕ → ℕ → Bound) (old now : Matrix) → Stepped E old now (length old) → now ≡ table (length old) E
stepped-all E old now f = is-table now (length old) E f.square f.rows f.done
