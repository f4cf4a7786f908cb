-- A round that passes over the points that are settled gives what a whole round gives.
use Rattle.std.proofs.Common.{◌≡◌, ◌≢◌, ◌⊎◌, inl, inr, ℕ, zero, suc, ◌-◌, ◌<◌, Bool, true, false, cond, ◌&&◌, eqb, Option, Some, None, List, [], ◌∷◌, length, get_or, refl, sym, ap, subst, ◌∙◌, arith}
use Rattle.std.specs.List.{Contains}
use Rattle.std.proofs.lemmas.List.{get_or-set_same, get_or-set_other}
use Rattle.std.proofs.Math.ListN.{length-set}
use Rattle.std.proofs.lemmas.Bool.{cases_eq}
use Rattle.std.proofs.lemmas.Bool.Decides.{nat_tests, Decides-eqb, Decides-int_eq}
use Rattle.oct_def.specs.Bound.{Bound}
use Rattle.oct_def.specs.Table.{Matrix}
use Rattle.oct_def.specs.Octagon.{Octagon, IsOctagon, join_value}
use Rattle.rounds.specs.Widening.{IsWidening}
use Rattle.rounds.specs.Rounds.{same_list, same_bound, same_option, same_value, Cell, cell_at, no_cell, risen, left_after, counted, ascended, descended, stepped, next_by, visit, visits, IsSettled}
use Rattle.rounds.proofs.Again.{join_again, narrow_again}

-- ---- a value is equal to itself

same_list-itself : {X : Type 0} → (same : X → X → Bool) → ((x : X) → same x x ≡ true) → (xs : List X) → same_list same xs xs ≡ true
same_list-itself same h [] = refl
same_list-itself same h (x ∷ xs) = ap (λ (b : Bool). b && same_list same xs xs) (h x) ∙ same_list-itself same h xs

same_bound-itself : (a : Bound) → same_bound a a ≡ true
same_bound-itself None = refl
same_bound-itself (Some x) = (Decides-int_eq x x).1 refl

same_option-itself : (a : Option Matrix) → same_option a a ≡ true
same_option-itself None = refl
same_option-itself (Some m) = same_list-itself (same_list same_bound) (same_list-itself same_bound same_bound-itself) m

pub same_value-itself : (a : Octagon) → same_value a a ≡ true
unfolding same_value
same_value-itself a = ap (λ (b : Bool). b && same_option a.matrix a.matrix) ((Decides-eqb a.dims a.dims).1 refl) ∙ same_option-itself a.matrix

-- ---- a visit done again with the same source changes nothing

not_zero : (n : ℕ) → eqb (suc n) 0 ≡ false
not_zero n = grind (arith, nat_tests)

pub risen-join : (widen : Octagon → Octagon → Octagon) (x : Octagon) (left : ℕ) (v : Octagon) → risen widen x (suc left) v ≡ join_value x v
risen-join widen x left v = ap (λ (b : Bool). cond b (widen x v) (join_value x v)) (not_zero left)

risen-again : (widen : Octagon → Octagon → Octagon) (x v : Octagon) (left after : ℕ) → IsWidening widen → (left ≡ 0 → after ≡ 0) → IsOctagon v → risen widen (risen widen x left v) after v ≡ risen widen x left v
risen-again widen x v zero after is none h = ap (λ (n : ℕ). risen widen (widen x v) n v) (none refl) ∙ is.again x v h
risen-again widen x v (suc left) zero is none h =
    ap (λ (z : Octagon). widen z v) (risen-join widen x left v) ∙ is.joined x v h ∙ sym (risen-join widen x left v)
risen-again widen x v (suc left) (suc after) is none h =
    risen-join widen (risen widen x (suc left) v) after v ∙ ap (λ (z : Octagon). join_value z v) (risen-join widen x left v) ∙ join_again x v h ∙ sym (risen-join widen x left v)

pub left-kept : (w x : Octagon) (left : ℕ) → left ≡ 0 → left_after w x left ≡ 0
left-kept w x left e = by (same_value w x)
  where
    by : (b : Bool) → cond b left (left - 1) ≡ 0
    by true = e
    by false = omega (arith, e)

pub counted-itself : (w : Octagon) (cell : Cell) → w ≡ cell.value → counted w cell ≡ cell
counted-itself w cell e =
    ap (λ (z : Octagon). counted z cell) e
    ∙ ap (λ (b : Bool). record { value = cell.value; left = cond b cell.left (cell.left - 1) }) (same_value-itself cell.value)

ascended-again : (widen : Octagon → Octagon → Octagon) (cut : Bool) (cell : Cell) (v : Octagon) → IsWidening widen → IsOctagon v → ascended widen cut (ascended widen cut cell v) v ≡ ascended widen cut cell v
unfolding ascended
ascended-again widen true cell v is h =
    let w = risen widen cell.value cell.left v in
    counted-itself (risen widen w (left_after w cell.value cell.left) v) (counted w cell)
    (risen-again widen cell.value v cell.left (left_after w cell.value cell.left) is (left-kept w cell.value cell.left) h)
ascended-again widen false cell v is h = refl

descended-again : (cut : Bool) (cell : Cell) (v : Octagon) → descended cut (descended cut cell v) v ≡ descended cut cell v
unfolding descended
descended-again true cell v = ap (λ (z : Octagon). record { value = z; left = cell.left }) (narrow_again cell.value v)
descended-again false cell v = refl

pub stepped-again : (widen : Octagon → Octagon → Octagon) (down cut : Bool) (cell : Cell) (v : Octagon) → IsWidening widen → IsOctagon v → stepped widen down cut (stepped widen down cut cell v) v ≡ stepped widen down cut cell v
stepped-again widen true cut cell v is h = descended-again cut cell v
stepped-again widen false cut cell v is h = ascended-again widen cut cell v is h

-- ---- visits

-- after a visit of p: a point that isn't marked now reads nothing that changed, and wasn't marked before or is p itself
pub settled-visit : (step : Bool → Cell → Octagon → Cell) (cut : ℕ → Bool) (source : ℕ → List Cell → Octagon) (p : ℕ) (cells after : List Cell) (marks marked : List Bool)
    → p < length cells
    → ((cell : Cell) → step (cut p) (step (cut p) cell (source p cells)) (source p cells) ≡ step (cut p) cell (source p cells))
    → after ≡ visit (next_by step cut source) p cells
    → IsSettled (next_by step cut source) cells marks
    → ((q : ℕ) → q < length cells → get_or marked q false ≡ false → (source q after ≡ source q cells) × ((q ≡ p) ⊎ (get_or marks q false ≡ false)))
    → IsSettled (next_by step cut source) after marked
settled-visit step cut source p cells after marks marked within again is settled reads q lt none = by (cases_eq q p) (reads q inside none)
  where
    inside : q < length cells
    inside = omega (arith, lt, ap length is, length-set cells p (step (cut p) (cell_at cells p) (source p cells)))

    here : cell_at after p ≡ step (cut p) (cell_at cells p) (source p cells)
    here = ap (λ (l : List Cell). cell_at l p) is ∙ get_or-set_same cells p (step (cut p) (cell_at cells p) (source p cells)) no_cell within

    elsewhere : q ≢ p → cell_at after q ≡ cell_at cells q
    elsewhere apart = ap (λ (l : List Cell). cell_at l q) is ∙ get_or-set_other cells p q (step (cut p) (cell_at cells p) (source p cells)) no_cell apart

    at_p : source p after ≡ source p cells → step (cut p) (cell_at after p) (source p after) ≡ cell_at after p
    at_p same =
        ap (λ (c : Cell). step (cut p) c (source p after)) here
        ∙ ap (step (cut p) (step (cut p) (cell_at cells p) (source p cells))) same ∙ again (cell_at cells p) ∙ sym here

    by : (q ≡ p) ⊎ (q ≢ p) → (source q after ≡ source q cells) × ((q ≡ p) ⊎ (get_or marks q false ≡ false)) → step (cut q) (cell_at after q) (source q after) ≡ cell_at after q
    by (inl e) (same, old) = subst (λ z. step (cut z) (cell_at after z) (source z after) ≡ cell_at after z) (sym e) (at_p (subst (λ z. source z after ≡ source z cells) e same))
    by (inr apart) (same, inl e) = absurd (apart e)
    by (inr apart) (same, inr old) =
        ap (λ (c : Cell). step (cut q) c (source q after)) (elsewhere apart) ∙ ap (step (cut q) (cell_at cells q)) same ∙ settled q inside old ∙ sym (elsewhere apart)

pub untouched : (next : ℕ → List Cell → Cell) (order : List ℕ) (p : ℕ) (cells : List Cell) → (Contains order p → ⊥) → cell_at (visits next order cells) p ≡ cell_at cells p
untouched next [] p cells absent = refl
untouched next (q ∷ order) p cells absent =
    untouched next order p (visit next q cells) (λ h. absent (suc h.0, omega (arith, h.1), h.2))
    ∙ get_or-set_other cells q p (next q cells) no_cell (λ e. absent (0, omega arith, sym e))

-- ---- from the ascent to the descent

-- a point that is no cut point and is quiet in the ascent is quiet in the descent
pub quiet-descends : (widen : Octagon → Octagon → Octagon) (cut : ℕ → Bool) (source : ℕ → List Cell → Octagon) (p : ℕ) (cells : List Cell) → cut p ≡ false → next_by (ascended widen) cut source p cells ≡ cell_at cells p → next_by descended cut source p cells ≡ cell_at cells p
unfolding ascended descended
quiet-descends widen cut source p cells none quiet =
    ap (λ (b : Bool). descended b (cell_at cells p) (source p cells)) none
    ∙ sym (ap (λ (b : Bool). ascended widen b (cell_at cells p) (source p cells)) none) ∙ quiet
