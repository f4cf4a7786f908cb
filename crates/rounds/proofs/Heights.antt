-- Each change of a cut point lowers its height.
use Rattle.std.proofs.Common.{◌≡◌, ℕ, zero, suc, ◌+◌, ◌-◌, ◌<◌, ◌≤◌, ◌⊎◌, inl, inr, Bool, true, false, cond, List, refl, sym, ap, ◌∙◌, subst, arith}
use Rattle.std.specs.List.{sum_by}
use Rattle.std.proofs.lemmas.Bool.{false≢true}
use Rattle.oct_def.specs.Octagon.{Octagon, IsOctagon}
use Rattle.rounds.specs.Widening.{IsWidening}
use Rattle.rounds.specs.Rounds.{Cell, cell_at, same_value, risen, left_after, ascended}
use Rattle.rounds.proofs.Exact.{ascended-same}
use Rattle.rounds.proofs.Skipping.{same_value-itself, risen-join, left-kept}

-- how often a cell can still change: the joins that are left to it, and then the rank of its value
unfoldable pub height : (Octagon → ℕ) → Cell → ℕ
height rank c = c.left + rank c.value

abbrev pub height_at : (Octagon → ℕ) → (ℕ → Bool) → List Cell → ℕ → ℕ
height_at rank cut cells p = cond (cut p) (height rank (cell_at cells p)) 0

-- the heights of the cut points
unfoldable pub total : (Octagon → ℕ) → (ℕ → Bool) → List ℕ → List Cell → ℕ
total rank cut order cells = sum_by (height_at rank cut cells) order

lower-widened : (widen : Octagon → Octagon → Octagon) (is : IsWidening widen) (x v : Octagon) → IsOctagon x → IsOctagon v → x.dims ≡ v.dims → same_value (widen x v) x ≡ false → is.rank (widen x v) < is.rank x
lower-widened widen is x v here from same t = by (is.falls x v here from same)
  where
    by : (widen x v ≡ x) ⊎ (is.rank (widen x v) < is.rank x) → is.rank (widen x v) < is.rank x
    by (inl e) = absurd (false≢true (sym t ∙ ap (λ (o : Octagon). same_value o x) e ∙ same_value-itself x))
    by (inr less) = less

lower : (widen : Octagon → Octagon → Octagon) (is : IsWidening widen) (x : Octagon) (left : ℕ) (v : Octagon) → IsOctagon x → IsOctagon v → x.dims ≡ v.dims → same_value (risen widen x left v) x ≡ false
    → left_after (risen widen x left v) x left + is.rank (risen widen x left v) < left + is.rank x
lower widen is x zero v here from same t = omega (arith, left-kept (widen x v) x 0 refl, lower-widened widen is x v here from same t)
lower widen is x (suc left) v here from same t =
    let w : Octagon = risen widen x (suc left) v in
    let a : left_after w x (suc left) ≡ suc left - 1 = ap (λ (b : Bool). cond b (suc left) (suc left - 1)) t in
    let b : is.rank w ≤ is.rank x = subst (λ (o : Octagon). is.rank o ≤ is.rank x) (sym (risen-join widen x left v)) (is.unraised x v here from same) in
    omega (arith, a, b)

-- a visit of a cut point leaves its cell, or lowers its height
pub falls-visit : (widen : Octagon → Octagon → Octagon) (is : IsWidening widen) (cell : Cell) (v : Octagon) → IsOctagon cell.value → IsOctagon v → cell.value.dims ≡ v.dims
    → (ascended widen true cell v ≡ cell) ⊎ (height is.rank (ascended widen true cell v) < height is.rank cell)
unfolding height ascended
falls-visit widen is cell v here from same = by (same_value (risen widen cell.value cell.left v) cell.value) refl
  where
    by : (t : Bool) → same_value (risen widen cell.value cell.left v) cell.value ≡ t → (ascended widen true cell v ≡ cell) ⊎ (height is.rank (ascended widen true cell v) < height is.rank cell)
    by true t = inl (ascended-same widen true cell v t)
    by false t = inr (lower widen is cell.value cell.left v here from same t)
