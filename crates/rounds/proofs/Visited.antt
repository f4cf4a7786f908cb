-- What a visit in the code leaves, over plain variables.
use Rattle.std.proofs.Common.{◌≡◌, ℕ, ◌-◌, ◌<◌, ◌≤◌, inl, inr, Bool, true, false, cond, List, length, get_or, set, sym, ap, ◌∙◌, arith}
use Rattle.std.proofs.lemmas.List.{get_or-map, get_or_past, length-map}
use Rattle.std.proofs.lemmas.Bool.{cases_lt}
use Rattle.oct_def.specs.Octagon.{Octagon, bottom_value, tight_value}
use Rattle.rounds.specs.declared.slot.Slot.{Slot}
use Rattle.rounds.specs.System.{System, IsEquation, AreRead, value_at}
use Rattle.rounds.specs.Rounds.{Cell, cell_at, no_cell, same_value, stepped, visit}
use Rattle.rounds.specs.Solved.{reading, source_in, moving}
use Rattle.rounds.specs.Ends.{AreCells}
use Rattle.rounds.specs.Marks.{AreSeen}
use Rattle.rounds.specs.Slots.{cell_of, cells_of}
use Rattle.rounds.proofs.Sized.{read-dims}
use Rattle.rounds.proofs.Stepped.{stepped-same, stepped-changed, visit-settled}

-- ---- what is read

-- the values that are kept to be read have their points' dimensions
pub seens-read : (s : System) (cells : List Cell) (seens : List Octagon) → AreCells s cells → AreSeen s cells seens → AreRead s seens
seens-read s cells seens sized seen = record {
  points = seen.points;
  sized = λ q lt. ap (λ (o : Octagon). o.dims) (seen.read q lt) ∙ read-dims s cells sized q lt;
}

-- outside the points both readings are Bottom over no variable
read-past : (s : System) (cells : List Cell) (q : ℕ) → length cells ≤ q → reading s cells q ≡ bottom_value 0
unfolding tight_value bottom_value
read-past s cells q past = by (s.cut q) (get_or_past cells q no_cell past)
  where
    by : (b : Bool) → cell_at cells q ≡ no_cell → cond b (tight_value (cell_at cells q).value) (cell_at cells q).value ≡ bottom_value 0
    by true e = ap (λ (d : Cell). tight_value d.value) e
    by false e = ap (λ (d : Cell). d.value) e

pub seens-are : (s : System) (cells : List Cell) (seens : List Octagon) (q : ℕ) → AreCells s cells → AreSeen s cells seens → value_at seens q ≡ reading s cells q
seens-are s cells seens q sized seen = elim (cases_lt q s.points) [
  | inl lt ↦ seen.read q lt
  | inr past ↦ get_or_past seens q (bottom_value 0) (omega (arith, past, seen.points)) ∙ sym (read-past s cells q (omega (arith, past, sized.points)))
]

-- F of the values that are kept to be read is F of what is stored
pub from-is : (s : System) (p : ℕ) (cells : List Cell) (seens slice : List Octagon) (from : Octagon) → IsEquation s → p < s.points → AreCells s cells → AreSeen s cells seens → slice ≡ seens
    → from ≡ s.equation (value_at slice) p → from ≡ source_in s p cells
unfolding source_in
from-is s p cells seens slice from is lt sized seen e h =
    h ∙ ap (λ (os : List Octagon). s.equation (value_at os) p) e
    ∙ is.alike (value_at seens) (reading s cells) p lt (λ k d l. seens-are s cells seens (get_or (s.reads p) k d) sized seen)

-- ---- the slot of a point

pub slot-cell : {V : Type 0} → (m : V → Octagon) (slots : List (Slot V)) (p : ℕ) (slot : Slot V) → p < length slots → slot ≡ get_or slots p slot → cell_at (cells_of m slots) p ≡ cell_of m slot
slot-cell m slots p slot lt read =
    get_or-map (cell_of m) slots p slot no_cell lt ∙ ap (cell_of m) (sym read)

pub within-slots : {V : Type 0} → (m : V → Octagon) (s : System) (slots : List (Slot V)) (p : ℕ) → AreCells s (cells_of m slots) → p < s.points → p < length slots
within-slots m s slots p sized lt = omega (arith, lt, sized.points, length-map slots (cell_of m))

pub slot-dims : {V : Type 0} → (m : V → Octagon) (s : System) (slots : List (Slot V)) (p : ℕ) (slot : Slot V) → AreCells s (cells_of m slots) → p < s.points → slot ≡ get_or slots p slot → (m slot.value).dims ≡ s.dims p
slot-dims m s slots p slot sized lt read = sym (ap (λ (c : Cell). c.value.dims) (slot-cell m slots p slot (within-slots m s slots p sized lt) read)) ∙ sized.dims p lt

pub value-is : {V : Type 0} → (m : V → Octagon) (s : System) (down : Bool) (slots : List (Slot V)) (p : ℕ) (slot : Slot V) (cut : Bool) (from value : Octagon) → AreCells s (cells_of m slots) → p < s.points → slot ≡ get_or slots p slot
    → from ≡ source_in s p (cells_of m slots) → cut ≡ s.cut p → value ≡ (stepped s.widening down cut (cell_of m slot) from).value → value ≡ (moving s down p (cells_of m slots)).value
value-is m s down slots p slot cut from value sized lt read a b v =
    v
    ∙ ap (λ (t : Bool). (stepped s.widening down t (cell_of m slot) from).value) b
    ∙ ap (λ (o : Octagon). (stepped s.widening down (s.cut p) (cell_of m slot) o).value) a
    ∙ ap (λ (c : Cell). (stepped s.widening down (s.cut p) c (source_in s p (cells_of m slots))).value) (sym (slot-cell m slots p slot (within-slots m s slots p sized lt) read))

-- the test of the code, on the definition's values
pub test-is : {V : Type 0} → (m : V → Octagon) (s : System) (down : Bool) (slots : List (Slot V)) (p : ℕ) (slot : Slot V) (value : Octagon) (t : Bool) → AreCells s (cells_of m slots) → p < s.points → slot ≡ get_or slots p slot
    → value ≡ (moving s down p (cells_of m slots)).value → same_value value (m slot.value) ≡ t → same_value (moving s down p (cells_of m slots)).value (cell_at (cells_of m slots) p).value ≡ t
test-is m s down slots p slot value t sized lt read v e =
    ap (λ (c : Cell). same_value (moving s down p (cells_of m slots)).value c.value) (slot-cell m slots p slot (within-slots m s slots p sized lt) read)
    ∙ ap (λ (o : Octagon). same_value o (m slot.value)) (sym v) ∙ e

pub cell-same : (s : System) (down : Bool) (cells : List Cell) (p : ℕ) → same_value (moving s down p cells).value (cell_at cells p).value ≡ true → moving s down p cells ≡ cell_at cells p
cell-same s down cells p e = stepped-same s.widening down (s.cut p) (cell_at cells p) (source_in s p cells) e

pub cells-same : (s : System) (down : Bool) (cells : List Cell) (p : ℕ) → same_value (moving s down p cells).value (cell_at cells p).value ≡ true → cells ≡ visit (moving s down) p cells
cells-same s down cells p e = sym (visit-settled (moving s down) p cells (cell-same s down cells p e))

pub cells-changed : {V : Type 0} → (m : V → Octagon) (s : System) (down : Bool) (slots : List (Slot V)) (p : ℕ) (slot : Slot V) (cut : Bool) (value : Octagon) (left : ℕ) (new : List Cell) → AreCells s (cells_of m slots) → p < s.points → slot ≡ get_or slots p slot
    → cut ≡ s.cut p → value ≡ (moving s down p (cells_of m slots)).value → same_value (moving s down p (cells_of m slots)).value (cell_at (cells_of m slots) p).value ≡ false → left ≡ cond down slot.left (cond cut (slot.left - 1) slot.left)
    → new ≡ set (cells_of m slots) p (record { value = value; left = left }) → new ≡ visit (moving s down) p (cells_of m slots)
cells-changed m s down slots p slot cut value left new sized lt read b v e l is =
    is
    ∙ ap (λ (c : Cell). set (cells_of m slots) p c)
    (ap (λ (o : Octagon). record { value = o; left = left }) v ∙ ap (λ (n : ℕ). record { value = (moving s down p (cells_of m slots)).value; left = n })
    (l ∙ ap (λ (t : Bool). cond down slot.left (cond t (slot.left - 1) slot.left)) b
    ∙ ap (λ (c : Cell). cond down c.left (cond (s.cut p) (c.left - 1) c.left)) (sym (slot-cell m slots p slot (within-slots m s slots p sized lt) read))
    ∙ sym (stepped-changed s.widening down (s.cut p) (cell_at (cells_of m slots) p) (source_in s p (cells_of m slots)) e)))
