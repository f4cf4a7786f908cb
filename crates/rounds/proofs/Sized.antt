-- Every value has its point's number of dimensions, and a visit keeps this.
use Rattle.std.proofs.Common.{◌≡◌, ◌≢◌, ◌⊎◌, inl, inr, ℕ, ◌<◌, Bool, true, false, cond, eqb, List, set, refl, sym, ap, ◌∙◌, subst, arith}
use Rattle.std.proofs.lemmas.List.{get_or-set_same, get_or-set_other}
use Rattle.std.proofs.lemmas.List.FromFn.{length-map-range_with_len, get_or-map-range_with_len}
use Rattle.std.proofs.lemmas.Bool.{cases_eq}
use Rattle.std.proofs.Math.ListN.{length-set}
use Rattle.oct_def.specs.Octagon.{Octagon, bottom_value, tight_value, join_value, narrow_value}
use Rattle.rounds.specs.System.{System, AreSized, KeepsSizes, most_rounds}
use Rattle.rounds.specs.Rounds.{Cell, cell_at, no_cell, ascended, descended, stepped, visit}
use Rattle.rounds.specs.Solved.{reading, source_in, rising, falling, moving, start_cell, start, ascent_of, solved}
use Rattle.rounds.specs.Ends.{AreCells, AreSolved}
use Rattle.rounds.proofs.Keeping.{kept-ascent, kept-repeated}

-- ---- what is read

pub tight-dims : (v : Octagon) → (tight_value v).dims ≡ v.dims
unfolding tight_value
tight-dims v = refl

pub read-dims : (s : System) (cells : List Cell) → AreCells s cells → AreSized s (reading s cells)
read-dims s cells sized q lt = by (s.cut q)
  where
    by : (b : Bool) → (cond b (tight_value (cell_at cells q).value) (cell_at cells q).value).dims ≡ s.dims q
    by true = tight-dims (cell_at cells q).value ∙ sized.dims q lt
    by false = sized.dims q lt

pub source-dims : (s : System) (p : ℕ) (cells : List Cell) → KeepsSizes s → AreCells s cells → p < s.points → (source_in s p cells).dims ≡ s.dims p
unfolding source_in
source-dims s p cells keeps sized lt = keeps.dims (reading s cells) p lt (read-dims s cells sized)

-- ---- a visit

pub ascended-dims : (widen : Octagon → Octagon → Octagon) (cut : Bool) (cell : Cell) (v : Octagon) → ((x w : Octagon) → (widen x w).dims ≡ x.dims) → v.dims ≡ cell.value.dims → (ascended widen cut cell v).value.dims ≡ cell.value.dims
unfolding ascended join_value
ascended-dims widen true cell v keeps e = by (eqb cell.left 0)
  where
    by : (b : Bool) → (cond b (widen cell.value v) (join_value cell.value v)).dims ≡ cell.value.dims
    by true = keeps cell.value v
    by false = refl
ascended-dims widen false cell v keeps e = e

descended-dims : (cut : Bool) (cell : Cell) (v : Octagon) → v.dims ≡ cell.value.dims → (descended cut cell v).value.dims ≡ cell.value.dims
unfolding descended narrow_value
descended-dims true cell v e = refl
descended-dims false cell v e = e

stepped-dims : (widen : Octagon → Octagon → Octagon) (down cut : Bool) (cell : Cell) (v : Octagon) → ((x w : Octagon) → (widen x w).dims ≡ x.dims) → v.dims ≡ cell.value.dims → (stepped widen down cut cell v).value.dims ≡ cell.value.dims
stepped-dims widen true cut cell v keeps e = descended-dims cut cell v e
stepped-dims widen false cut cell v keeps e = ascended-dims widen cut cell v keeps e

pub moving-dims : (s : System) (down : Bool) (cells : List Cell) (p : ℕ) → KeepsSizes s → AreCells s cells → p < s.points → (moving s down p cells).value.dims ≡ s.dims p
moving-dims s down cells p keeps sized lt =
    stepped-dims s.widening down (s.cut p) (cell_at cells p) (source_in s p cells) keeps.widened (source-dims s p cells keeps sized lt ∙ sym (sized.dims p lt)) ∙ sized.dims p lt

-- a point that is none changes nothing
pub sized-move : (s : System) (down : Bool) (p : ℕ) (cells : List Cell) → KeepsSizes s → AreCells s cells → AreCells s (visit (moving s down) p cells)
sized-move s down p cells keeps sized = record {
  points = length-set cells p (moving s down p cells) ∙ sized.points;
  dims = λ q within. by q within (cases_eq q p);
}
  where
    by : (q : ℕ) → q < s.points → (q ≡ p) ⊎ (q ≢ p) → (cell_at (set cells p (moving s down p cells)) q).value.dims ≡ s.dims q
    by q within (inl e) =
        let lt : p < s.points = omega (arith, within, e) in
        subst (λ z. (cell_at (set cells p (moving s down p cells)) z).value.dims ≡ s.dims z) (sym e)
        (ap (λ (d : Cell). d.value.dims) (get_or-set_same cells p (moving s down p cells) no_cell (omega (arith, lt, sized.points))) ∙ moving-dims s down cells p keeps sized lt)
    by q within (inr e) = ap (λ (d : Cell). d.value.dims) (get_or-set_other cells p q (moving s down p cells) no_cell e) ∙ sized.dims q within

-- ---- rounds

pub start-at : (s : System) (delay p : ℕ) → p < s.points → cell_at (start s delay) p ≡ start_cell s delay p
unfolding start
start-at s delay p lt = get_or-map-range_with_len (start_cell s delay) 0 s.points p p no_cell lt (omega arith)

pub sized-start : (s : System) (delay : ℕ) → AreCells s (start s delay)
unfolding start bottom_value
sized-start s delay = record {
  points = length-map-range_with_len (start_cell s delay) 0 s.points;
  dims = λ p lt. ap (λ (d : Cell). d.value.dims) (get_or-map-range_with_len (start_cell s delay) 0 s.points p p no_cell lt (omega arith));
}

sized-ascended : (s : System) (delay : ℕ) → KeepsSizes s → AreCells s (ascent_of s delay).cells
sized-ascended s delay keeps =
    kept-ascent (AreCells s) (rising s) (λ p. Unit {0}) (λ p a any sized. sized-move s false p a keeps sized) s.order (λ k d lt. tt) (most_rounds s delay) 0 (start s delay) (sized-start s delay)

sized-solved : (s : System) (delay descend : ℕ) → KeepsSizes s → AreCells s (solved s delay descend)
unfolding solved
sized-solved s delay descend keeps =
    kept-repeated (AreCells s) (falling s) (λ p. Unit {0}) (λ p a any sized. sized-move s true p a keeps sized) s.order (λ k d lt. tt) descend (ascent_of s delay).cells (sized-ascended s delay keeps)

pub are_solved : (s : System) (delay descend : ℕ) → KeepsSizes s → AreSolved s delay descend
are_solved s delay descend keeps =
    let sized = sized-solved s delay descend keeps in
    record { cells = sized; dims = read-dims s (solved s delay descend) sized }
