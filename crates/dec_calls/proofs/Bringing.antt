-- The caller's matrix that takes the exit's entries but for the diagonal is the joined matrix.
use Rattle.std.proofs.Common.{◌≡◌, ◌⊎◌, inl, inr, ℕ, zero, suc, ◌+◌, ◌*◌, ◌/◌, ◌%◌, ◌<◌, ◌≤◌, ◌&&◌, Bool, true, false, cond, List, length, pos, Some, None, refl, sym, ap, subst, ◌∙◌, arith, nat_eq}
use Rattle.std.proofs.lemmas.Bool.{cases_eq, eq-eqb, eqb-true}
use Rattle.oct_def.specs.Bound.{Bound, least}
use Rattle.oct_def.specs.Table.{Matrix, table, at}
use Rattle.oct_def.specs.Matrix.{opposite, IsMatrix, IsEvenMatrix}
use Rattle.oct_def.specs.Octagon.{least_entry, least_matrix}
use Rattle.oct_def.proofs.Bounds.{least_self}
use Rattle.oct_def.proofs.Orders.{least_comm, least_none, least_assoc}
use Rattle.oct_def.proofs.Tables.{at-table, table-same}
use Rattle.oct_def.proofs.Indices.{opposite_below}
use Rattle.interval_form.specs.declared.constraints.OctBound.{OctBound}
use Rattle.interval_form.specs.Listing.{listed}
use Rattle.transfer_def.specs.Dimensions.{extended}
use Rattle.transfer_def.specs.Back.{least_below, joined_variable, joined_dimension, brought_from, brought_in_row, brought_entry, brought, joined}
use Rattle.transfer_def.proofs.Dimensions.{matrix-extended}
use Rattle.dec_parts.specs.Lower.{lowered_entry, lowered_matrix}
use Rattle.dec_calls.specs.Brought.{without_diagonal, AreBrought}
use Rattle.dec_calls.proofs.Listings.{diagonal-same, diagonal-other, at-without}

-- ---- bounds that are at most others

-- the first bound is at most the second
abbrev Covers : Bound → Bound → Type 0
Covers a b = least a b ≡ a

covers-trans : (a b c : Bound) → Covers a b → Covers b c → Covers a c
covers-trans a b c h k = ap (λ t. least t c) (sym h) ∙ least_assoc a b c ∙ ap (least a) k ∙ h

covers-both : (a b c : Bound) → Covers a b → Covers a c → Covers a (least b c)
covers-both a b c h k = sym (least_assoc a b c) ∙ ap (λ t. least t c) h ∙ k

covers-first : (a b : Bound) → Covers (least a b) a
covers-first a b = least_assoc a b a ∙ ap (least a) (least_comm b a) ∙ sym (least_assoc a a b) ∙ ap (λ t. least t b) (least_self a)

covers-second : (a b : Bound) → Covers (least a b) b
covers-second a b = least_assoc a b b ∙ ap (least a) (least_self b)

covers-same : (a b : Bound) → Covers a b → Covers b a → a ≡ b
covers-same a b h k = sym h ∙ least_comm a b ∙ k

covers-least_below : (a : Bound) (n : ℕ) (f : ℕ → Bound) → ((i : ℕ) → i < n → Covers a (f i)) → Covers a (least_below n f)
unfolding least_below
covers-least_below a zero f h = least_none a
covers-least_below a (suc n) f h = covers-both a (f n) (least_below n f) (h n (omega arith)) (covers-least_below a n f (λ i p. h i (omega arith)))

least_below-covers : (n : ℕ) (f : ℕ → Bound) (i : ℕ) → i < n → Covers (least_below n f) (f i)
unfolding least_below
least_below-covers zero f i p = absurd (omega arith)
least_below-covers (suc n) f i p = by (cases_eq i n) (λ (q : i < n). least_below-covers n f i q)
  where
    by : (i ≡ n) ⊎ (i ≡ n → ⊥) → (i < n → Covers (least_below n f) (f i)) → Covers (least (f n) (least_below n f)) (f i)
    by (inl e) more = subst (λ k. Covers (least (f n) (least_below n f)) (f k)) (sym e) (covers-first (f n) (least_below n f))
    by (inr d) more =
        let q : i < n = grind (arith, d) in
        covers-trans (least (f n) (least_below n f)) (least_below n f) (f i) (covers-second (f n) (least_below n f)) (more q)

-- ---- what a matrix says of inputs and outputs

covers-brought : (a : Bound) (n : ℕ) (args : List ℕ) (outputs : ℕ) (x : Matrix) (p q : ℕ)
    → ((i j : ℕ) → i < 2 * (length args + outputs) → j < 2 * (length args + outputs) → joined_dimension n args i ≡ p → joined_dimension n args j ≡ q → Covers a (at x i j)) → Covers a (brought_entry n args outputs x p q)
unfolding brought_entry brought_in_row brought_from
covers-brought a n args outputs x p q h =
    covers-least_below a size _ (λ i si. covers-least_below a size _ (λ j sj. by i j si sj (nat_eq (joined_dimension n args i) p) (nat_eq (joined_dimension n args j) q) refl refl))
  where
    size : ℕ
    size = 2 * (length args + outputs)

    by : (i j : ℕ) → i < size → j < size → (s t : Bool) → nat_eq (joined_dimension n args i) p ≡ s → nat_eq (joined_dimension n args j) q ≡ t → Covers a (cond (s && t) (at x i j) None)
    by i j si sj true true e f = h i j si sj (eqb-true _ _ e) (eqb-true _ _ f)
    by i j si sj true false e f = least_none a
    by i j si sj false t e f = least_none a

brought-covers : (n : ℕ) (args : List ℕ) (outputs : ℕ) (x : Matrix) (p q i j : ℕ) → i < 2 * (length args + outputs) → j < 2 * (length args + outputs) → joined_dimension n args i ≡ p → joined_dimension n args j ≡ q
    → Covers (brought_entry n args outputs x p q) (at x i j)
unfolding brought_entry brought_in_row brought_from
brought-covers n args outputs x p q i j si sj e f =
    covers-trans (brought_entry n args outputs x p q) (brought_in_row n args outputs x p q i) (at x i j)
    (least_below-covers (2 * (length args + outputs)) (brought_in_row n args outputs x p q) i si)
    (subst (Covers (brought_in_row n args outputs x p q i)) here (least_below-covers (2 * (length args + outputs)) (brought_from n args x p q i) j sj))
  where
    here : brought_from n args x p q i j ≡ at x i j
    here = ap (λ s. cond (s && nat_eq (joined_dimension n args j) q) (at x i j) None) (eq-eqb _ _ e) ∙ ap (λ s. cond s (at x i j) None) (eq-eqb _ _ f)

joined-turned : (n : ℕ) (args : List ℕ) (i p : ℕ) → joined_dimension n args i ≡ opposite p → joined_dimension n args (opposite i) ≡ p
unfolding joined_dimension
joined-turned n args i p e =
    let half : opposite i / 2 ≡ i / 2 = omega arith in
    ap (λ v. 2 * joined_variable n args v + opposite i % 2) half ∙ turned (joined_variable n args (i / 2)) e
  where
    turned : (v : ℕ) → 2 * v + i % 2 ≡ opposite p → 2 * v + opposite i % 2 ≡ p
    turned v f = omega arith

-- the exit's diagonal adds nothing to a matrix with 0 on its own, and of two twins either says what the other does
same-entry : (n d : ℕ) (args : List ℕ) (outputs : ℕ) (e : Matrix) (b : Bound) (p q : ℕ) → IsMatrix d e → length args + outputs ≤ d → (p ≡ q → b ≡ Some (pos 0))
    → least b (least (brought_entry n args outputs (without_diagonal e) p q) (brought_entry n args outputs (without_diagonal e) (opposite q) (opposite p))) ≡ least b (brought_entry n args outputs e p q)
same-entry n d args outputs e b p q v fit zero_there = covers-same left right there back
  where
    size : ℕ
    size = 2 * (length args + outputs)

    first : Bound
    first = brought_entry n args outputs (without_diagonal e) p q

    second : Bound
    second = brought_entry n args outputs (without_diagonal e) (opposite q) (opposite p)

    whole : Bound
    whole = brought_entry n args outputs e p q

    left : Bound
    left = least b (least first second)

    right : Bound
    right = least b whole

    inside : (i : ℕ) → i < size → i < length e
    inside i s = let r = v.rows in omega arith

    off : (i j : ℕ) → i < size → j < size → (i ≡ j → ⊥) → at (without_diagonal e) i j ≡ at e i j
    off i j s t g = at-without e i j (inside i s) (inside j t) ∙ diagonal-other e i j g

    on : (i j : ℕ) → i < size → j < size → i ≡ j → at (without_diagonal e) i j ≡ None
    on i j s t g = at-without e i j (inside i s) (inside j t) ∙ diagonal-same e i j g

    there : Covers left right
    there = covers-both left b whole (covers-first b (least first second)) (covers-brought left n args outputs e p q (λ i j s t f g. by i j s t f g (cases_eq i j)))
      where
        by : (i j : ℕ) → i < size → j < size → joined_dimension n args i ≡ p → joined_dimension n args j ≡ q → (i ≡ j) ⊎ (i ≡ j → ⊥) → Covers left (at e i j)
        by i j s t f g (inl h) =
            let same : p ≡ q = sym f ∙ ap (joined_dimension n args) h ∙ g in
            let zero_here : at e i j ≡ Some (pos 0) = ap (at e i) (sym h) ∙ v.diagonal i (inside i s) in
            subst (Covers left) (zero_there same ∙ sym zero_here) (covers-first b (least first second))
        by i j s t f g (inr h) =
            covers-trans left first (at e i j) (covers-trans left (least first second) first (covers-second b (least first second)) (covers-first first second))
            (subst (Covers first) (off i j s t h) (brought-covers n args outputs (without_diagonal e) p q i j s t f g))

    back : Covers right left
    back = covers-both right b (least first second) (covers-first b whole) (covers-both right first second
        (covers-brought right n args outputs (without_diagonal e) p q (λ i j s t f g. direct i j s t f g (cases_eq i j)))
        (covers-brought right n args outputs (without_diagonal e) (opposite q) (opposite p) (λ i j s t f g. turned i j s t f g (cases_eq i j))))
      where
        direct : (i j : ℕ) → i < size → j < size → joined_dimension n args i ≡ p → joined_dimension n args j ≡ q → (i ≡ j) ⊎ (i ≡ j → ⊥) → Covers right (at (without_diagonal e) i j)
        direct i j s t f g (inl h) = subst (Covers right) (sym (on i j s t h)) (least_none right)
        direct i j s t f g (inr h) = covers-trans right whole _ (covers-second b whole) (subst (Covers whole) (sym (off i j s t h)) (brought-covers n args outputs e p q i j s t f g))

        turned : (i j : ℕ) → i < size → j < size → joined_dimension n args i ≡ opposite q → joined_dimension n args j ≡ opposite p → (i ≡ j) ⊎ (i ≡ j → ⊥) → Covers right (at (without_diagonal e) i j)
        turned i j s t f g (inl h) = subst (Covers right) (sym (on i j s t h)) (least_none right)
        turned i j s t f g (inr h) =
            covers-trans right whole _ (covers-second b whole) (subst (Covers whole) (sym (off i j s t h ∙ v.coherent.twins i j (inside i s) (inside j t)))
            (brought-covers n args outputs e p q (opposite j) (opposite i) (opposite_below (length args + outputs) j t) (opposite_below (length args + outputs) i s) (joined-turned n args j p g) (joined-turned n args i q f)))

-- the extended matrix with the listed bounds taken is the joined one
pub taken-is : (n d : ℕ) (args : List ℕ) (outputs : ℕ) (a e : Matrix) (bounds : List OctBound) → IsEvenMatrix n a → IsEvenMatrix d e → length args + outputs ≤ d → AreBrought n args outputs e bounds
    → lowered_matrix (n + outputs) bounds (extended n outputs a) ≡ joined n args outputs a e
unfolding lowered_matrix lowered_entry joined least_matrix least_entry brought
taken-is n d args outputs a e bounds v w fit h = table-same size _ _ each ∙ ap (λ k. table k (least_entry wide (brought n args outputs e))) (sym g.rows)
  where
    size : ℕ
    size = 2 * (n + outputs)

    wide : Matrix
    wide = extended n outputs a

    g : IsMatrix (n + outputs) wide
    g = matrix-extended n outputs a v.matrix

    each : (p q : ℕ) → p < size → q < size → lowered_entry bounds wide p q ≡ least_entry wide (brought n args outputs e) p q
    each p q s t =
        ap (λ x. least (at wide p q) (least x (listed bounds (opposite q) (opposite p)))) (h.entries p q)
        ∙ ap (λ x. least (at wide p q) (least (brought_entry n args outputs (without_diagonal e) p q) x)) (h.entries (opposite q) (opposite p))
        ∙ same-entry n d args outputs e (at wide p q) p q w.matrix fit (λ f. ap (at wide p) (sym f) ∙ g.diagonal p (let r = g.rows in omega arith))
        ∙ ap (least (at wide p q)) (sym (at-table size (brought_entry n args outputs e) p q s t))
