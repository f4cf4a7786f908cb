-- A property of the cells that each single replacement keeps holds at the end of the ascent, and of the descent.
use Rattle.std.proofs.Common.{◌≡◌, ◌≢◌, ◌⊎◌, inl, inr, ℕ, ◌<◌, Bool, true, false, List, set, sym, ◌∙◌, subst, arith}
use Rattle.std.proofs.lemmas.Bool.{cases_eq}
use Rattle.std.proofs.lemmas.List.{get_or-set_same, get_or-set_other}
use Rattle.oct_def.specs.Octagon.{Octagon, IsOctagon}
use Rattle.oct_def.proofs.Lattice.{octagon-narrow}
use Rattle.rounds.specs.System.{System, IsSystem, most_rounds}
use Rattle.rounds.specs.Rounds.{Cell, cell_at, no_cell, descended, visit}
use Rattle.rounds.specs.Solved.{source_in, rising, falling, start, ascent_of, solved}
use Rattle.rounds.specs.Ends.{AreGood}
use Rattle.rounds.proofs.Keeping.{kept-ascent, kept-repeated}
use Rattle.rounds.proofs.Sized.{source-dims, sized-move}
use Rattle.rounds.proofs.Sources.{source-octagon}
use Rattle.rounds.proofs.Ends.{keeps}
use Rattle.rounds.proofs.Starting.{start-good}

-- ---- values

descended-octagon : (cut : Bool) (cell : Cell) (v : Octagon) → IsOctagon cell.value → IsOctagon v → cell.value.dims ≡ v.dims → IsOctagon (descended cut cell v).value
unfolding descended
descended-octagon true cell v a b e = octagon-narrow cell.value v a b e
descended-octagon false cell v a b e = b

keeps-falling : (s : System) → IsSystem s → (p : ℕ) (cells : List Cell) → p < s.points → AreGood s cells → AreGood s (visit (falling s) p cells)
keeps-falling s is p cells lt good = record {
  sized = sized-move s true p cells is.equation.sizes good.sized;
  octagons = λ q within. by q within (cases_eq q p);
}
  where
    by : (q : ℕ) → q < s.points → (q ≡ p) ⊎ (q ≢ p) → IsOctagon (cell_at (set cells p (falling s p cells)) q).value
    by q within (inl e) = subst (λ z. IsOctagon (cell_at (set cells p (falling s p cells)) z).value) (sym e)
        (subst (λ (c : Cell). IsOctagon c.value) (sym (get_or-set_same cells p (falling s p cells) no_cell (omega (arith, lt, good.sized.points))))
        (descended-octagon (s.cut p) (cell_at cells p) (source_in s p cells) (good.octagons p lt) (source-octagon s p cells is.equation good lt)
        (good.sized.dims p lt ∙ sym (source-dims s p cells is.equation.sizes good.sized lt))))
    by q within (inr e) = subst (λ (c : Cell). IsOctagon c.value) (sym (get_or-set_other cells p q (falling s p cells) no_cell e)) (good.octagons q within)

-- ---- any property

-- values, with the property
record Both (s : System) (P : List Cell → Type 0) (cells : List Cell) : Type 0 where
  good : AreGood s cells
  here : P cells

both-ascended : (s : System) (delay : ℕ) (P : List Cell → Type 0) → IsSystem s → ((p : ℕ) (a : List Cell) → p < s.points → AreGood s a → P a → P (visit (rising s) p a)) → P (start s delay) → Both s P (ascent_of s delay).cells
both-ascended s delay P is step first =
    kept-ascent (Both s P) (rising s) (λ p. p < s.points) (λ p a lt b. record { good = keeps s is.equation is.widening p a lt b.good; here = step p a lt b.good b.here })
    s.order is.ordered.only (most_rounds s delay) 0 (start s delay) (record { good = start-good s delay; here = first })

-- what holds of Bottom at every point, and each replacement of the ascent keeps, holds at its end
pub holds-ascended : (s : System) (delay : ℕ) (P : List Cell → Type 0) → IsSystem s → ((p : ℕ) (a : List Cell) → p < s.points → AreGood s a → P a → P (visit (rising s) p a)) → P (start s delay) → P (ascent_of s delay).cells
holds-ascended s delay P is step first = (both-ascended s delay P is step first).here

pub good-ascended : (s : System) (delay : ℕ) → IsSystem s → AreGood s (ascent_of s delay).cells
good-ascended s delay is =
    kept-ascent (AreGood s) (rising s) (λ p. p < s.points) (keeps s is.equation is.widening) s.order is.ordered.only (most_rounds s delay) 0 (start s delay) (start-good s delay)

both-solved : (s : System) (delay descend : ℕ) (P : List Cell → Type 0) → IsSystem s → ((p : ℕ) (a : List Cell) → p < s.points → AreGood s a → P a → P (visit (falling s) p a)) → P (ascent_of s delay).cells → Both s P (solved s delay descend)
unfolding solved
both-solved s delay descend P is step first =
    kept-repeated (Both s P) (falling s) (λ p. p < s.points) (λ p a lt b. record { good = keeps-falling s is p a lt b.good; here = step p a lt b.good b.here })
    s.order is.ordered.only descend (ascent_of s delay).cells (record { good = good-ascended s delay is; here = first })

-- what holds at the end of the ascent, and each replacement of the descent keeps, holds at its end, after any number of rounds
pub holds-solved : (s : System) (delay descend : ℕ) (P : List Cell → Type 0) → IsSystem s → ((p : ℕ) (a : List Cell) → p < s.points → AreGood s a → P a → P (visit (falling s) p a)) → P (ascent_of s delay).cells → P (solved s delay descend)
holds-solved s delay descend P is step first = (both-solved s delay descend P is step first).here

pub good-solved : (s : System) (delay descend : ℕ) → IsSystem s → AreGood s (solved s delay descend)
unfolding solved
good-solved s delay descend is =
    kept-repeated (AreGood s) (falling s) (λ p. p < s.points) (keeps-falling s is) s.order is.ordered.only descend (ascent_of s delay).cells (good-ascended s delay is)
