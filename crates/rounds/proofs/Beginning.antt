-- What stands before the first round of the ascent, and before that of the descent.
use Rattle.std.proofs.Common.{◌≡◌, ℕ, ◌<◌, Bool, true, false, cond, eqb, List, length, get_or, map, refl, sym, ap, ◌∙◌, subst, arith}
use Rattle.std.proofs.lemmas.List.{get_or-map, length-map}
use Rattle.std.proofs.lemmas.List.FromFn.{length-map-range_with_len, get_or-map-range_with_len}
use Rattle.oct_def.specs.Octagon.{Octagon, IsOctagon, bottom_value, tight_value, join_value}
use Rattle.rounds.specs.Widening.{IsWidening}
use Rattle.rounds.specs.System.{System, IsSystem, StaysBottom, value_at}
use Rattle.rounds.specs.Rounds.{Cell, cell_at, no_cell, risen, ascended, changing, Ascended, ascended_in}
use Rattle.rounds.specs.Solved.{reading, source_in, start_cell, start, rising, moving, ascent_of}
use Rattle.rounds.specs.Ends.{AreCells}
use Rattle.rounds.specs.Outcome.{value_of}
use Rattle.rounds.specs.Marks.{IsKept, AreFirst, cut_marks}
use Rattle.rounds.proofs.Sized.{start-at, sized-start}
use Rattle.rounds.proofs.Skipping.{counted-itself, quiet-descends}
use Rattle.rounds.proofs.Solved.{all-quiet, ascent_ends}

-- ---- before the ascent

tight-bottom : (n : ℕ) → tight_value (bottom_value n) ≡ bottom_value n
unfolding tight_value bottom_value
tight-bottom n = refl

read-start : (s : System) (delay q : ℕ) → q < s.points → reading s (start s delay) q ≡ bottom_value (s.dims q)
read-start s delay q l = by (s.cut q)
  where
    by : (b : Bool) → cond b (tight_value (cell_at (start s delay) q).value) (cell_at (start s delay) q).value ≡ bottom_value (s.dims q)
    by true = ap (λ (d : Cell). tight_value d.value) (start-at s delay q l) ∙ tight-bottom (s.dims q)
    by false = ap (λ (d : Cell). d.value) (start-at s delay q l)

join-bottom : (n : ℕ) → join_value (bottom_value n) (bottom_value n) ≡ bottom_value n
unfolding join_value bottom_value
join-bottom n = refl

bottom-octagon : (n : ℕ) → IsOctagon (bottom_value n)
unfolding bottom_value
bottom-octagon n = tt

-- Bottom joined to itself is Bottom, so widened by itself too
widen-bottom : (widen : Octagon → Octagon → Octagon) → IsWidening widen → (n : ℕ) → widen (bottom_value n) (bottom_value n) ≡ bottom_value n
widen-bottom widen is n =
    ap (λ (o : Octagon). widen o (bottom_value n)) (sym (join-bottom n)) ∙ is.joined (bottom_value n) (bottom_value n) (bottom-octagon n) ∙ join-bottom n

ascended-bottom : (widen : Octagon → Octagon → Octagon) → IsWidening widen → (cut : Bool) (delay n : ℕ) → ascended widen cut (record { value = bottom_value n; left = delay }) (bottom_value n) ≡ record { value = bottom_value n; left = delay }
unfolding ascended
ascended-bottom widen is true delay n = counted-itself (risen widen (bottom_value n) delay (bottom_value n)) (record { value = bottom_value n; left = delay }) (by (eqb delay 0))
  where
    by : (b : Bool) → cond b (widen (bottom_value n) (bottom_value n)) (join_value (bottom_value n) (bottom_value n)) ≡ bottom_value n
    by true = widen-bottom widen is n
    by false = join-bottom n
ascended-bottom widen is false delay n = refl

-- a point without a mark stays at its first visit
start-stays : (s : System) (delay p : ℕ) → IsWidening s.widening → p < s.points → StaysBottom s p → rising s p (start s delay) ≡ cell_at (start s delay) p
unfolding source_in
start-stays s delay p is lt stays =
    ap (λ (d : Cell). ascended s.widening (s.cut p) d (s.equation (reading s (start s delay)) p)) (start-at s delay p lt)
    ∙ ap (ascended s.widening (s.cut p) (start_cell s delay p)) (stays (reading s (start s delay)) (read-start s delay))
    ∙ ascended-bottom s.widening is (s.cut p) delay (s.dims p)
    ∙ sym (start-at s delay p lt)

-- before the first round
pub kept-start : (c : System) (delay : ℕ) (cells : List Cell) (seens : List Octagon) (marks : List Bool) → IsSystem c → cells ≡ start c delay → seens ≡ map value_of cells → AreFirst c c.points marks → IsKept c false cells seens marks
kept-start c delay cells seens marks is e v m = record {
  system = is;
  sized = subst (AreCells c) (sym e) first;
  seen = record {
    points = ap length v ∙ length-map cells value_of ∙ ap length e ∙ first.points;
    read = seen;
  };
  marked = m.points;
  settled = λ p l none.
      let lt : p < c.points = omega (arith, l, ap length e, first.points) in
      subst (λ (d : List Cell). moving c false p d ≡ cell_at d p) (sym e) (start-stays c delay p is.widening lt (m.stays p lt none));
}
  where
    first : AreCells c (start c delay)
    first = sized-start c delay

    seen : (p : ℕ) → p < c.points → value_at seens p ≡ reading c cells p
    seen p lt =
        let inside : p < length (start c delay) = omega (arith, lt, first.points) in
        ap (λ (os : List Octagon). get_or os p (bottom_value 0)) (v ∙ ap (map value_of) e)
        ∙ get_or-map value_of (start c delay) p no_cell (bottom_value 0) inside
        ∙ ap (λ (d : Cell). d.value) (start-at c delay p lt)
        ∙ sym (read-start c delay p lt)
        ∙ sym (ap (λ (d : List Cell). reading c d p) e)

-- ---- before the descent

cut-marks : (c : System) (p : ℕ) → p < c.points → get_or (cut_marks c) p false ≡ c.cut p
unfolding cut_marks
cut-marks c p lt = get_or-map-range_with_len c.cut 0 c.points p p false lt (omega arith)

long-cuts : (c : System) → length (cut_marks c) ≡ c.points
unfolding cut_marks
long-cuts c = length-map-range_with_len c.cut 0 c.points

-- after the ascent, with the cut points marked
pub kept-descent : (c : System) (delay n : ℕ) (cells : List Cell) (seens : List Octagon) (old marks : List Bool) → IsKept c false cells seens old → ascended_in cells n ≡ ascent_of c delay → marks ≡ cut_marks c
    → IsKept c true cells seens marks
kept-descent c delay n cells seens old marks kept is m = record {
  system = kept.system;
  sized = kept.sized;
  seen = kept.seen;
  marked = ap length m ∙ long-cuts c;
  settled = λ p l none.
      let lt : p < c.points = omega (arith, l, kept.sized.points) in
      quiet-descends c.widening c.cut (source_in c) p cells
      (sym (cut-marks c p lt) ∙ sym (ap (λ (bs : List Bool). get_or bs p false) m) ∙ none)
      (all-quiet c c.order cells quiet p (kept.system.ordered.all p lt));
}
  where
    quiet : changing (rising c) c.order cells ≡ false
    quiet = ap (λ (a : Ascended). changing (rising c) c.order a.cells) is ∙ (ascent_ends c delay kept.system).quiet
