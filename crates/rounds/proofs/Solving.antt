-- The loops around the rounds, and that what they leave is the solution.
use Rattle.std.proofs.Common.{◌≡◌, ℕ, ◌+◌, ◌<◌, ◌≤◌, Bool, true, cond, List, [], ◌∷◌, ◌++◌, length, get_or, map, take, sym, ap, ◌∙◌, arith}
use Rattle.std.specs.List.{range_with_len}
use Rattle.std.proofs.Math.Seq.{take_all}
use Rattle.std.proofs.lemmas.List.{take_more, map-append, length-map, get_or-map}
use Rattle.std.proofs.lemmas.List.FromFn.{map-range_with_len_more}
use Rattle.oct_def.specs.Octagon.{Octagon, bottom_value, tight_value}
use Rattle.rounds.specs.declared.slot.Slot.{Slot}
use Rattle.rounds.specs.System.{System, IsSystem, most_delay}
use Rattle.rounds.specs.Rounds.{Cell, no_cell, Ascended, ascended_in, ascent, repeated}
use Rattle.rounds.specs.Solved.{values_in, rising, falling, start_cell, start, ascent_of, solved}
use Rattle.rounds.specs.Slots.{cell_of, cells_of}
use Rattle.rounds.specs.Marks.{IsKept}
use Rattle.rounds.specs.Outcome.{value_of, IsOutcome}
use Rattle.rounds.proofs.Capacity.{fuel_is_enough}

-- one more item of a list that a function of the index gives
pub map-more : {X : Type 0} → (f : ℕ → X) (i : ℕ) (x : X) (old new : List X) → old ≡ map f (range_with_len 0 i) → new ≡ old ++ x ∷ [] → x ≡ f i → new ≡ map f (range_with_len 0 (i + 1))
map-more {X = X} f i x old new a b e = b ∙ ap (λ (l : List X). l ++ x ∷ []) a ∙ ap (λ (y : X). map f (range_with_len 0 i) ++ y ∷ []) e ∙ sym (map-range_with_len_more f 0 i i (omega arith))

-- ---- the first cells

pub start_more : {V : Type 0} → (m : V → Octagon) (s : System) (delay p : ℕ) (old new : List (Slot V)) (slot : Slot V) → cells_of m old ≡ map (start_cell s delay) (range_with_len 0 p) → new ≡ old ++ slot ∷ []
    → m slot.value ≡ bottom_value (s.dims p) → slot.left ≡ delay
    → cells_of m new ≡ map (start_cell s delay) (range_with_len 0 (p + 1))
start_more {V = V} m s delay p old new slot e n v d =
    map-more (start_cell s delay) p (cell_of m slot) (cells_of m old) (cells_of m new) e
    (ap (λ (xs : List (Slot V)). cells_of m xs) n ∙ map-append (cell_of m) old (slot ∷ []))
    (ap (λ (o : Octagon). record { value = o; left = slot.left }) v ∙ ap (λ (k : ℕ). record { value = bottom_value (s.dims p); left = k }) d)

pub start_done : (s : System) (delay p : ℕ) (cells : List Cell) → p ≡ s.points → cells ≡ map (start_cell s delay) (range_with_len 0 p) → cells ≡ start s delay
unfolding start
start_done s delay p cells l e = e ∙ ap (λ (n : ℕ). map (start_cell s delay) (range_with_len 0 n)) l

-- ---- the values

pub values_more : {V : Type 0} → (m : V → Octagon) (slots : List (Slot V)) (k : ℕ) (slot : Slot V) (old new : List V) (v : V) → k < length slots → slot ≡ get_or slots k slot
    → map m old ≡ map value_of (cells_of m (take k slots)) → new ≡ old ++ v ∷ [] → m v ≡ m slot.value
    → map m new ≡ map value_of (cells_of m (take (k + 1) slots))
values_more {V = V} m slots k slot old new v l at e n same =
    ap (map m) n ∙ map-append m old (v ∷ [])
    ∙ ap (λ (os : List Octagon). os ++ m v ∷ []) e
    ∙ ap (λ (o : Octagon). map value_of (cells_of m (take k slots)) ++ o ∷ []) (same ∙ ap (λ (s : Slot V). m s.value) at)
    ∙ sym (map-append value_of (cells_of m (take k slots)) (cell_of m (get_or slots k slot) ∷ []))
    ∙ ap (map value_of) (sym (map-append (cell_of m) (take k slots) (get_or slots k slot ∷ [])))
    ∙ ap (λ (xs : List (Slot V)). map value_of (cells_of m xs)) (sym (take_more slots k slot l))

pub values_done : {V : Type 0} → (m : V → Octagon) (slots : List (Slot V)) (k : ℕ) (vs : List V) → length slots ≤ k → map m vs ≡ map value_of (cells_of m (take k slots)) → map m vs ≡ map value_of (cells_of m slots)
values_done {V = V} m slots k vs l e = e ∙ ap (λ (xs : List (Slot V)). map value_of (cells_of m xs)) (take_all k slots l)

-- ---- the solution

pub ascent_is : (s : System) (delay n : ℕ) (first cells : List Cell) → IsSystem s → delay ≤ most_delay → first ≡ start s delay
    → ascended_in cells n ≡ ascent (rising s) s.order 18446744073709551615 0 first
    → ascended_in cells n ≡ ascent_of s delay
ascent_is s delay n first cells is small f e = e ∙ ap (ascent (rising s) s.order 18446744073709551615 0) f ∙ fuel_is_enough s delay is small

solved_is : (s : System) (delay descend n : ℕ) (cells last : List Cell) → ascended_in cells n ≡ ascent_of s delay → last ≡ repeated (falling s) s.order descend cells → last ≡ solved s delay descend
unfolding solved
solved_is s delay descend n cells last a e = e ∙ ap (λ (x : Ascended). repeated (falling s) s.order descend x.cells) a

pub is_outcome : (s : System) (delay descend n : ℕ) (cells last : List Cell) (stored seens : List Octagon) (marks : List Bool) → ascended_in cells n ≡ ascent_of s delay → last ≡ repeated (falling s) s.order descend cells
    → IsKept s true last seens marks → stored ≡ map value_of last → IsOutcome s delay descend stored seens n
is_outcome s delay descend n cells last stored seens marks a l kept v = record {
  points = ap length v ∙ length-map last value_of ∙ kept.sized.points;
  as_many = kept.seen.points;
  stored = λ p lt.
      ap (λ (os : List Octagon). get_or os p (bottom_value 0)) v
      ∙ get_or-map value_of last p no_cell (bottom_value 0) (omega (arith, lt, kept.sized.points))
      ∙ ap (λ (cs : List Cell). values_in cs p) is;
  read = λ p lt. kept.seen.read p lt ∙ ap (λ (cs : List Cell). cond (s.cut p) (tight_value (values_in cs p)) (values_in cs p)) is;
  rounds = ap (λ (x : Ascended). x.rounds) a;
}
  where
    is : last ≡ solved s delay descend
    is = solved_is s delay descend n cells last a l
