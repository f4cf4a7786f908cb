-- What the ascent leaves solves the equations.
use Rattle.std.proofs.Common.{◌≡◌, ℕ, zero, suc, ◌<◌, Bool, true, false, not, cond, eqb, List, [], ◌∷◌, length, get_or, ℤ, refl, sym, ap, subst, arith, ◌∙◌}
use Rattle.std.specs.List.{Contains}
use Rattle.std.proofs.lemmas.Bool.{false≢true, or_parts}
use Rattle.oct_def.specs.Octagon.{Octagon, IsOctagon, MeetsOctagon, join_value}
use Rattle.oct_def.specs.Below.{IsBelow}
use Rattle.oct_def.proofs.Lattice.{meets-narrow}
use Rattle.oct_def.proofs.Below.{below-same, below-join, meets-below}
use Rattle.rounds.specs.Widening.{IsWidening}
use Rattle.rounds.specs.System.{System, IsSystem}
use Rattle.rounds.specs.Rounds.{Cell, cell_at, same_value, ascended, descended, visit, changing}
use Rattle.rounds.specs.Solved.{values_in, source_in, rising, ascent_of}
use Rattle.rounds.specs.Ends.{AreGood, AscentEnds}
use Rattle.rounds.proofs.Exact.{ascended-same}
use Rattle.rounds.proofs.Sized.{source-dims}
use Rattle.rounds.proofs.Sources.{source-octagon}
use Rattle.rounds.proofs.Stepped.{visit-settled}
use Rattle.rounds.proofs.Starting.{Ended, ended}
use Rattle.rounds.proofs.Reached.{good-ascended}

-- after a round that changes no value, a visit of any of its points changes nothing
pub all-quiet : (s : System) (rest : List ℕ) (a : List Cell) → changing (rising s) rest a ≡ false → (p : ℕ) → Contains rest p → rising s p a ≡ cell_at a p
all-quiet s [] a e p h = absurd (omega (arith, h.1))
all-quiet s (q ∷ rest) a e p h = by h.0 h.1 h.2 (all-quiet s rest a later p)
  where
    here : (t : Bool) → same_value (rising s q a).value (cell_at a q).value ≡ t → not t ≡ false → rising s q a ≡ cell_at a q
    here true t n = ascended-same s.widening (s.cut q) (cell_at a q) (source_in s q a) t
    here false t n = absurd (false≢true (sym n))

    first : rising s q a ≡ cell_at a q
    first = here (same_value (rising s q a).value (cell_at a q).value) refl (or_parts (not (same_value (rising s q a).value (cell_at a q).value)) (changing (rising s) rest (visit (rising s) q a)) e).0

    later : changing (rising s) rest a ≡ false
    later = sym (ap (changing (rising s) rest) (visit-settled (rising s) q a first)) ∙ (or_parts (not (same_value (rising s q a).value (cell_at a q).value)) (changing (rising s) rest (visit (rising s) q a)) e).1

    by : (k : ℕ) → k < length (q ∷ rest) → get_or (q ∷ rest) k p ≡ p → (Contains rest p → rising s p a ≡ cell_at a p) → rising s p a ≡ cell_at a p
    by zero lt same more = subst (λ z. rising s z a ≡ cell_at a z) same first
    by (suc k) lt same more = more (k, omega arith, same)

-- what a cell was left by a visit of is below its value
below-ascended : (widen : Octagon → Octagon → Octagon) (is : IsWidening widen) (cut : Bool) (cell : Cell) (v : Octagon) → IsOctagon cell.value → IsOctagon v → cell.value.dims ≡ v.dims → ascended widen cut cell v ≡ cell → IsBelow v cell.value
unfolding ascended
below-ascended widen is true cell v a b e same = subst (λ (c : Cell). IsBelow v c.value) same (by (eqb cell.left 0))
  where
    by : (t : Bool) → IsBelow v (cond t (widen cell.value v) (join_value cell.value v))
    by true = is.right cell.value v a b e
    by false = below-join cell.value v a b (sym e)
below-ascended widen is false cell v a b e same = subst (λ (c : Cell). IsBelow v c.value) same (below-same v.matrix)

-- a state that meets both the stored value and what it is computed from meets what a round of the descent leaves
pub meets-descended : (st : List ℤ) (cut : Bool) (cell : Cell) (v : Octagon) → MeetsOctagon st cell.value → MeetsOctagon st v → MeetsOctagon st (descended cut cell v).value
unfolding descended
meets-descended st true cell v h k = meets-narrow cell.value v st h k
meets-descended st false cell v h k = k

pub ascent_ends : (s : System) (delay : ℕ) → IsSystem s → AscentEnds s delay
ascent_ends s delay is = record {
  ends = e.ends;
  quiet = e.quiet;
  rounds = e.rounds;
  good = good;
  below = below;
  meets = λ p st lt h. meets-below st (source_in s p (ascent_of s delay).cells) (values_in (ascent_of s delay).cells p) (below p lt) h;
}
  where
    e : Ended s delay
    e = ended s delay is

    good : AreGood s (ascent_of s delay).cells
    good = good-ascended s delay is

    below : (p : ℕ) → p < s.points → IsBelow (source_in s p (ascent_of s delay).cells) (values_in (ascent_of s delay).cells p)
    below p lt =
        below-ascended s.widening is.widening (s.cut p) (cell_at (ascent_of s delay).cells p) (source_in s p (ascent_of s delay).cells)
        (good.octagons p lt) (source-octagon s p (ascent_of s delay).cells is.equation good lt)
        (good.sized.dims p lt ∙ sym (source-dims s p (ascent_of s delay).cells is.equation.sizes good.sized lt))
        (all-quiet s s.order (ascent_of s delay).cells (ended s delay is).quiet p (is.ordered.all p lt))
