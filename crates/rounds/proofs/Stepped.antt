-- What a visit leaves of a cell, in the ascent and in the descent.
use Rattle.std.proofs.Common.{◌≡◌, ◌≢◌, ℕ, ◌-◌, Bool, true, false, cond, eqb, List, set, refl, sym, ap, ◌∙◌, arith}
use Rattle.std.specs.Bool.{Decides}
use Rattle.std.proofs.lemmas.Bool.{false≢true}
use Rattle.std.proofs.lemmas.Bool.Decides.{nat_tests, Decides-eqb}
use Rattle.std.proofs.lemmas.List.{set-get_or}
use Rattle.oct_def.specs.Octagon.{Octagon, join_value, narrow_value}
use Rattle.rounds.specs.Rounds.{same_value, Cell, cell_at, no_cell, ascended, descended, stepped, visit}
use Rattle.rounds.proofs.Exact.{exact_value, ascended-same}
use Rattle.rounds.proofs.Skipping.{same_value-itself}

pub visit-settled : (next : ℕ → List Cell → Cell) (p : ℕ) (cells : List Cell) → next p cells ≡ cell_at cells p → visit next p cells ≡ cells
visit-settled next p cells e = ap (set cells p) e ∙ set-get_or cells p no_cell

-- where it changes, a cut point has one join less
pub ascended-changed : (widen : Octagon → Octagon → Octagon) (cut : Bool) (cell : Cell) (v : Octagon) → same_value (ascended widen cut cell v).value cell.value ≡ false → (ascended widen cut cell v).left ≡ cond cut (cell.left - 1) cell.left
unfolding ascended
ascended-changed widen true cell v e = ap (λ (b : Bool). cond b cell.left (cell.left - 1)) e
ascended-changed widen false cell v e = refl

-- the new value by cases
pub value-taken : (widen : Octagon → Octagon → Octagon) (cut : Bool) (cell : Cell) (v : Octagon) → cut ≡ false → v ≡ (ascended widen cut cell v).value
unfolding ascended
value-taken widen cut cell v e = sym (ap (λ (b : Bool). (ascended widen b cell v).value) e)

pub value-widened : (widen : Octagon → Octagon → Octagon) (cut : Bool) (cell : Cell) (v w : Octagon) → cut ≡ true → cell.left ≡ 0 → w ≡ widen cell.value v → w ≡ (ascended widen cut cell v).value
unfolding ascended
value-widened widen cut cell v w e none is = is ∙ sym (ap (λ (b : Bool). (ascended widen b cell v).value) e ∙ ap (λ (b : Bool). cond b (widen cell.value v) (join_value cell.value v)) ((Decides-eqb cell.left 0).1 none))

pub value-joined : (widen : Octagon → Octagon → Octagon) (cut : Bool) (cell : Cell) (v w : Octagon) → cut ≡ true → eqb cell.left 0 ≡ false → w ≡ join_value cell.value v → w ≡ (ascended widen cut cell v).value
unfolding ascended
value-joined widen cut cell v w e more is = is ∙ sym (ap (λ (b : Bool). (ascended widen b cell v).value) e ∙ ap (λ (b : Bool). cond b (widen cell.value v) (join_value cell.value v)) more)

pub not-zero : (n : ℕ) → n ≢ 0 → eqb n 0 ≡ false
not-zero n h = grind (arith, nat_tests)

-- ---- both phases

descended-same : (cut : Bool) (cell : Cell) (v : Octagon) → same_value (descended cut cell v).value cell.value ≡ true → descended cut cell v ≡ cell
unfolding descended
descended-same true cell v e = ap (λ (w : Octagon). record { value = w; left = cell.left }) (exact_value (narrow_value cell.value v) cell.value e)
descended-same false cell v e = ap (λ (w : Octagon). record { value = w; left = cell.left }) (exact_value v cell.value e)

pub stepped-same : (widen : Octagon → Octagon → Octagon) (down cut : Bool) (cell : Cell) (v : Octagon) → same_value (stepped widen down cut cell v).value cell.value ≡ true → stepped widen down cut cell v ≡ cell
stepped-same widen true cut cell v e = descended-same cut cell v e
stepped-same widen false cut cell v e = ascended-same widen cut cell v e

descended-left : (cut : Bool) (cell : Cell) (v : Octagon) → (descended cut cell v).left ≡ cell.left
unfolding descended
descended-left true cell v = refl
descended-left false cell v = refl

pub stepped-changed : (widen : Octagon → Octagon → Octagon) (down cut : Bool) (cell : Cell) (v : Octagon) → same_value (stepped widen down cut cell v).value cell.value ≡ false → (stepped widen down cut cell v).left ≡ cond down cell.left (cond cut (cell.left - 1) cell.left)
stepped-changed widen true cut cell v e = descended-left cut cell v
stepped-changed widen false cut cell v e = ascended-changed widen cut cell v e

-- the new value by cases of the phase
pub value-narrowed : (cut : Bool) (cell : Cell) (v w : Octagon) → cut ≡ true → w ≡ narrow_value cell.value v → w ≡ (descended cut cell v).value
unfolding descended
value-narrowed cut cell v w e is = is ∙ sym (ap (λ (b : Bool). (descended b cell v).value) e)

pub value-taken_down : (cut : Bool) (cell : Cell) (v : Octagon) → cut ≡ false → v ≡ (descended cut cell v).value
unfolding descended
value-taken_down cut cell v e = sym (ap (λ (b : Bool). (descended b cell v).value) e)

-- in either phase
pub by-phase : (widen : Octagon → Octagon → Octagon) (down cut : Bool) (cell : Cell) (v w : Octagon) (t : Bool) → down ≡ t → w ≡ (stepped widen t cut cell v).value → w ≡ (stepped widen down cut cell v).value
by-phase widen down cut cell v w t e is = is ∙ sym (ap (λ (b : Bool). (stepped widen b cut cell v).value) e)

pub taken-either : (widen : Octagon → Octagon → Octagon) (down cut : Bool) (cell : Cell) (v : Octagon) → cut ≡ false → v ≡ (stepped widen down cut cell v).value
taken-either widen true cut cell v e = value-taken_down cut cell v e
taken-either widen false cut cell v e = value-taken widen cut cell v e

-- the test of a domain is that of the definition
pub decided : (a b : Octagon) (t : Bool) → Decides t (a ≡ b) → same_value a b ≡ t
decided a b true h = ap (λ (x : Octagon). same_value a x) (sym (h.0 refl)) ∙ same_value-itself a
decided a b false h = by (same_value a b) refl
  where
    by : (s : Bool) → same_value a b ≡ s → same_value a b ≡ false
    by true e = absurd (false≢true (h.1 (exact_value a b e)))
    by false e = e
