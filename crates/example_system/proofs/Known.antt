-- The equations of the five points are a system for the rounds.
use Rattle.std.proofs.Common.{◌≡◌, ◌⊎◌, inl, inr, ℕ, zero, suc, ◌-◌, ◌<◌, ◌≤◌, true, false, List, [], ◌∷◌, get_or, map, refl, sym, ap, ◌∙◌, arith}
use Rattle.std.specs.List.{All}
use Rattle.std.proofs.lemmas.List.{get_or-map, length-map}
use Rattle.oct_def.specs.Octagon.{Octagon, IsOctagon, bottom_value, top_value, join_value}
use Rattle.oct_def.proofs.Lattice.{octagon-join, octagon-top}
use Rattle.rounds.specs.System.{AreSized, AreRead, IsEquation, IsOrdered, IsSystem, AreReaders, value_at}
use Rattle.rounds.proofs.Counted.{counts_fit}
use Rattle.rounds.proofs.Layers.{ordered-by_number}
use Rattle.rounds.proofs.Widened.{is_widening, rank-bottom}
use Rattle.example_system.specs.Ways.{reached, read_by, is_last, ways}

dims : (r : ℕ → Octagon) (p : ℕ) → p < 5 → AreSized ways r → (reached r p).dims ≡ 1
unfolding reached top_value join_value
dims r zero lt sized = refl
dims r (suc zero) lt sized = sized 4 (omega arith)
dims r (suc (suc p)) lt sized = sized 0 (omega arith)

octagons : (r : ℕ → Octagon) (p : ℕ) → p < 5 → AreSized ways r → ((q : ℕ) → q < 5 → IsOctagon (r q)) → IsOctagon (reached r p)
unfolding reached
octagons r zero lt sized all = octagon-top 1
octagons r (suc zero) lt sized all = all 4 (omega arith)
octagons r (suc (suc p)) lt sized all =
    octagon-join (r 0) (r (suc p)) (all 0 (omega arith)) (all (suc p) (omega arith)) (sized 0 (omega arith) ∙ sym (sized (suc p) (omega arith)))

alike : (r t : ℕ → Octagon) (p : ℕ) → p < 5 → All (λ (i : ℕ). r i ≡ t i) (read_by p) → reached r p ≡ reached t p
unfolding reached
alike r t zero lt same = refl
alike r t (suc zero) lt same = same 0 0 (omega arith)
alike r t (suc (suc p)) lt same = ap (λ (v : Octagon). join_value v (r (suc p))) (same 0 0 (omega arith)) ∙ ap (join_value (t 0)) (same 1 0 (omega arith))

is_equation : IsEquation ways
is_equation = record { sizes = record { dims = dims; widened = is_widening.dims }; octagons = octagons; alike = alike }

-- 1 reads 4, which is cut, and the others read points before them
before : (p : ℕ) → p < 5 → is_last p ≡ false → All (λ (i : ℕ). (is_last i ≡ true) ⊎ (i < p)) (read_by p)
before zero lt none k d l = absurd (omega (arith, l))
before (suc zero) lt none zero d l = inl refl
before (suc zero) lt none (suc k) d l = absurd (omega (arith, l))
before (suc (suc p)) lt none zero d l = inr (omega arith)
before (suc (suc p)) lt none (suc zero) d l = inr (omega arith)
before (suc (suc p)) lt none (suc (suc k)) d l = absurd (omega (arith, l))

is_ordered : IsOrdered ways
is_ordered = ordered-by_number ways refl before

pub is_system : IsSystem ways
is_system = record {
  small = λ p lt. omega arith;
  equation = is_equation;
  ordered = is_ordered;
  widening = is_widening;
  heights = λ p lt cut. rank-bottom 1;
  counted = λ delay small. counts_fit ways delay is_ordered (omega arith) (λ p lt. omega arith) small;
}

-- every point is among the five
pub all_read : (p : ℕ) → AreReaders ways p (0 ∷ 1 ∷ 2 ∷ 3 ∷ 4 ∷ [])
all_read p = record { only = is_ordered.only; all = λ q lt reads. is_ordered.all q lt }

-- ---- for the code of F

-- a value in its list is what is read at the point
pub told : {V : Type 0} → (m : V → Octagon) (values : List V) (p : ℕ) (v : V) → AreRead ways (map m values) → p < 5 → v ≡ get_or values p v → m v ≡ value_at (map m values) p
told m values p v read lt at = ap m at ∙ sym (get_or-map m values p v (bottom_value 0) (omega (arith, lt, read.points, length-map values m)))

pub told_dims : {V : Type 0} → (m : V → Octagon) (values : List V) (p : ℕ) (v : V) → AreRead ways (map m values) → p < 5 → v ≡ get_or values p v → (m v).dims ≡ 1
told_dims m values p v read lt at = ap (λ (o : Octagon). o.dims) (told m values p v read lt at) ∙ read.sized p lt

pub on_cycle : (r : ℕ → Octagon) (p : ℕ) → 2 ≤ p → join_value (r 0) (r (p - 1)) ≡ reached r p
unfolding reached
on_cycle r zero h = absurd (omega arith)
on_cycle r (suc zero) h = absurd (omega arith)
on_cycle r (suc (suc p)) h = let e : suc (suc p) - 1 ≡ suc p = omega arith in ap (λ (k : ℕ). join_value (r 0) (r k)) e
