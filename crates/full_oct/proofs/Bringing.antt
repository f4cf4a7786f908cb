-- What an exit says, brought to a caller's matrix entry by entry.
use Rattle.std.proofs.Common.{◌≡◌, ◌⊎◌, inl, inr, ℕ, ◌+◌, ◌-◌, ◌*◌, ◌/◌, ◌%◌, ◌<◌, ◌≤◌, ◌&&◌, Bool, true, false, cond, None, List, length, get_or, refl, sym, ap, subst, ◌∙◌, arith, add-one, nat_eq, nat_lt, lt-ltb, le-ltb, eq-eqb, ne_eqb}
use Rattle.std.specs.List.{All}
use Rattle.std.proofs.lemmas.Bool.{cases_eq}
use Rattle.oct_def.specs.Bound.{Bound, least}
use Rattle.oct_def.specs.Table.{Matrix, table, at}
use Rattle.oct_def.specs.Matrix.{IsSquare}
use Rattle.oct_def.specs.Octagon.{least_entry, least_matrix}
use Rattle.oct_def.proofs.Orders.{least_comm, least_none, least_assoc}
use Rattle.oct_def.proofs.Tables.{length-table, at-table, square-table, is-table}
use Rattle.transfer_def.specs.Dimensions.{extended_entry, extended}
use Rattle.transfer_def.specs.Back.{least_below, joined_variable, joined_dimension, brought_from, brought_in_row, brought_entry, brought, joined}
use Rattle.full_oct.specs.Words.{replaced, lowered}
use Rattle.full_oct.proofs.Rows.{length-replaced, square-replaced, replaced-there, replaced-else}

-- by minimum, the entries of a matrix are those of an old one and the bounds of L
pub record Brought (L : ℕ → ℕ → Bound) (old now : Matrix) : Type 0 where
  pub rows : length now ≡ length old
  pub square : IsSquare now
  pub entries : (p q : ℕ) → p < length old → q < length old → at now p q ≡ least (at old p q) (L p q)

pub brought-nothing : (m : Matrix) → IsSquare m → Brought (λ p q. None) m m
brought-nothing m sq = record { rows = refl; square = sq; entries = λ p q hp hq. sym (least_none (at m p q)) }

-- the bounds of L and one more, b at (i, j)
abbrev pub one_more : (ℕ → ℕ → Bound) → ℕ → ℕ → Bound → ℕ → ℕ → Bound
one_more L i j b p q = least (cond (nat_eq i p && nat_eq j q) b None) (L p q)

last_first : (a b c : Bound) → least (least a b) c ≡ least a (least c b)
last_first a b c = least_assoc a b c ∙ ap (least a) (least_comm b c)

other_right : (s t : Bool) → t ≡ false → (s && t) ≡ false
other_right true t e = e
other_right false t e = refl

pub brought-lowered : (L : ℕ → ℕ → Bound) (old now next : Matrix) (i j : ℕ) (b : Bound) → Brought L old now → i < length old → j < length old → next ≡ lowered now i j b → Brought (one_more L i j b) old next
unfolding lowered
brought-lowered L old now next i j b f hi hj e = record {
  rows = ap length e ∙ length-replaced now i j (least (at now i j) b) ∙ f.rows;
  square = subst IsSquare (sym e) (square-replaced now i j (least (at now i j) b));
  entries = λ p q hp hq. ap (λ m. at m p q) e ∙ by p q hp hq (cases_eq i p) (cases_eq j q);
}
  where
    else_at : (p q : ℕ) → p < length old → q < length old → ((p ≡ i) × (q ≡ j) → ⊥) → (t : Bool) → (nat_eq i p && nat_eq j q) ≡ false → at (replaced now i j (least (at now i j) b)) p q ≡ least (at old p q) (one_more L i j b p q)
    else_at p q hp hq d t g =
        replaced-else now i j (least (at now i j) b) p q (omega (arith, f.rows)) (omega (arith, f.rows)) d
        ∙ f.entries p q hp hq ∙ sym (ap (λ s. least (at old p q) (least (cond s b None) (L p q))) g)

    by : (p q : ℕ) → p < length old → q < length old → (i ≡ p) ⊎ (i ≡ p → ⊥) → (j ≡ q) ⊎ (j ≡ q → ⊥) → at (replaced now i j (least (at now i j) b)) p q ≡ least (at old p q) (one_more L i j b p q)
    by p q hp hq (inl ei) (inl ej) =
        subst (λ t. at (replaced now i j (least (at now i j) b)) t q ≡ least (at old t q) (one_more L i j b t q)) ei
        (subst (λ t. at (replaced now i j (least (at now i j) b)) i t ≡ least (at old i t) (one_more L i j b i t)) ej
        (replaced-there now i j (least (at now i j) b) (omega (arith, f.rows)) (omega (arith, f.rows))
        ∙ ap (λ t. least t b) (f.entries i j hi hj) ∙ last_first (at old i j) (L i j) b
        ∙ sym (ap (λ s. least (at old i j) (least (cond s b None) (L i j))) (ap (λ s. s && nat_eq j j) (eq-eqb i i refl) ∙ eq-eqb j j refl))))
    by p q hp hq (inl ei) (inr dj) = else_at p q hp hq (λ h. dj (sym h.1)) false (other_right (nat_eq i p) (nat_eq j q) (ne_eqb j q dj))
    by p q hp hq (inr di) r = else_at p q hp hq (λ h. di (sym h.0)) false (ap (λ s. s && nat_eq j q) (ne_eqb i p di))

-- one row's bounds behind those of the rows before it
pub brought-row : (L R : ℕ → ℕ → Bound) (old now next : Matrix) → Brought L old now → length next ≡ length now → IsSquare next → ((p q : ℕ) → p < length now → q < length now → at next p q ≡ least (at now p q) (R p q)) → Brought (λ p q. least (R p q) (L p q)) old next
brought-row L R old now next f e sq h = record {
  rows = e ∙ f.rows;
  square = sq;
  entries = λ p q hp hq.
      h p q (omega (arith, f.rows)) (omega (arith, f.rows)) ∙ ap (λ t. least t (R p q)) (f.entries p q hp hq)
      ∙ last_first (at old p q) (L p q) (R p q);
}

-- bounds that are the same
pub brought-same : (L R : ℕ → ℕ → Bound) (old now : Matrix) → ((p q : ℕ) → L p q ≡ R p q) → Brought L old now → Brought R old now
brought-same L R old now h f = record { rows = f.rows; square = f.square; entries = λ p q hp hq. f.entries p q hp hq ∙ ap (least (at old p q)) (h p q) }

pub length-extended : (n k : ℕ) (m : Matrix) → length (extended n k m) ≡ 2 * (n + k)
unfolding extended
length-extended n k m = length-table (2 * (n + k)) (extended_entry n m)

pub square-extended : (n k : ℕ) (m : Matrix) → IsSquare (extended n k m)
unfolding extended
square-extended n k m = square-table (2 * (n + k)) (extended_entry n m)

-- ---- the bounds of an exit, in the order in which the code takes them

pub columns-more : (n : ℕ) (args : List ℕ) (exit : Matrix) (i j p q a c : ℕ) (b : Bound) → a ≡ joined_dimension n args i → c ≡ joined_dimension n args j → b ≡ at exit i j
    → one_more (λ p q. least_below j (brought_from n args exit p q i)) a c b p q ≡ least_below (j + 1) (brought_from n args exit p q i)
unfolding least_below brought_from
columns-more n args exit i j p q a c b ea ec eb =
    rw add-one (ap (λ x. least (cond (nat_eq x p && nat_eq c q) b None) (least_below j (brought_from n args exit p q i))) ea
    ∙ ap (λ x. least (cond (nat_eq (joined_dimension n args i) p && nat_eq x q) b None) (least_below j (brought_from n args exit p q i))) ec
    ∙ ap (λ x. least (cond (nat_eq (joined_dimension n args i) p && nat_eq (joined_dimension n args j) q) x None) (least_below j (brought_from n args exit p q i))) eb)

pub rows-more : (n : ℕ) (args : List ℕ) (outputs : ℕ) (exit : Matrix) (i p q : ℕ) → least (brought_in_row n args outputs exit p q i) (least_below i (brought_in_row n args outputs exit p q)) ≡ least_below (i + 1) (brought_in_row n args outputs exit p q)
unfolding least_below
rows-more n args outputs exit i p q = rw add-one refl

pub joined_dimension-below : (n : ℕ) (args : List ℕ) (outputs i : ℕ) → All (λ x. x < n) args → i < 2 * (length args + outputs) → joined_dimension n args i < 2 * (n + outputs)
unfolding joined_dimension joined_variable
joined_dimension-below n args outputs i h p = by (cases (i / 2))
  where
    cases : (v : ℕ) → (v < length args) ⊎ (length args ≤ v)
    cases v = grind arith

    by : (i / 2 < length args) ⊎ (length args ≤ i / 2) → 2 * cond (nat_lt (i / 2) (length args)) (get_or args (i / 2) 0) (n + (i / 2 - length args)) + i % 2 < 2 * (n + outputs)
    by (inl l) = let arg = h (i / 2) 0 l in rw (lt-ltb (i / 2) (length args) l) (omega (arith, arg))
    by (inr l) = rw (le-ltb (i / 2) (length args) l) (omega (arith, p))

-- all rows brought to the extended matrix
pub joined-all : (n : ℕ) (args : List ℕ) (outputs : ℕ) (caller exit start now : Matrix) → start ≡ extended n outputs caller → Brought (λ p q. least_below (2 * (length args + outputs)) (brought_in_row n args outputs exit p q)) start now → now ≡ joined n args outputs caller exit
unfolding joined least_matrix least_entry extended brought brought_entry
joined-all n args outputs caller exit start now e f =
    let size = 2 * (n + outputs) in
    let ext = table size (extended_entry n caller) in
    let said = table size (λ p q. least_below (2 * (length args + outputs)) (brought_in_row n args outputs exit p q)) in
    let rows : length start ≡ length ext = ap length e in
    let wide : length ext ≡ size = length-table size (extended_entry n caller) in
    is-table now (length ext) (λ i j. least (at ext i j) (at said i j)) f.square (f.rows ∙ rows) (λ i j p q.
    f.entries i j (omega (arith, rows)) (omega (arith, rows)) ∙ ap (λ m. least (at m i j) (least_below (2 * (length args + outputs)) (brought_in_row n args outputs exit i j))) e
    ∙ ap (least (at ext i j)) (sym (at-table size (λ p q. least_below (2 * (length args + outputs)) (brought_in_row n args outputs exit p q)) i j (omega (arith, wide)) (omega (arith, wide)))))
