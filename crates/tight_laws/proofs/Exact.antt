-- The laws of the tight closure of small matrices: it is met where it isn't Bottom, by extending the empty state, and each
-- of its finite entries is attained.
use Rattle.std.proofs.Common.{◌≡◌, ℕ, List, [], Option, Some, None, refl, sym, subst, arith, zero, suc}
use Rattle.std.specs.Prelude.{ℤ, pos, ◌-ℤ◌}
use Rattle.oct_def.specs.Table.{Matrix}
use Rattle.oct_def.specs.Matrix.{Meets, MeetsValue, signed_value}
use Rattle.oct_def.specs.Tight.{tight}
use Rattle.oct_def.proofs.Sound.{meets-square, meets-tight, meets-tight_back}
use Rattle.tight_laws.specs.Laws.{TightIsExact, TightIsAttained}
use Rattle.tight_laws.proofs.Strong.{IsStrong}
use Rattle.tight_laws.proofs.Attained.{Attained, attained, attained-strong}
use Rattle.tight_laws.proofs.Results.{strong-tight}

-- some state meets a strongly closed matrix
pub data Met (r : Matrix) : Type 0 where
  met : (s : List ℤ) → Meets s r → Met r

pub met-strong : (n : ℕ) (r : Matrix) → IsStrong n r → Met r
met-strong zero r h = met [] (meets-square [] r h.closed.square (λ i j p q. absurd (let e = h.closed.rows in omega arith)))
met-strong (suc n) r h = by (attained-strong (suc n) r h 0 0 (pos 0) (h.closed.zeros 0 (omega arith)))
  where
    by : Attained r 0 0 (pos 0) → Met r
    by (attained s m e) = met s m

pub all_attained : TightIsAttained
all_attained n m r h e i j x f = by (attained-strong n r (strong-tight n m r h e) i j x f)
  where
    by : Attained r i j x → (s : List ℤ) × (Meets s r) × (signed_value s j -ℤ signed_value s i ≡ x)
    by (attained s a b) = (s, a, b)

pub exact : TightIsExact
exact n m h = (λ e s a. subst (MeetsValue s) e (meets-tight s m a), λ none. by none (tight m) refl)
  where
    by : ((s : List ℤ) → Meets s m → ⊥) → (v : Option Matrix) → tight m ≡ v → v ≡ None
    by none None e = refl
    by none (Some r) e = absurd (some none r e (met-strong n r (strong-tight n m r h e)))
      where
        some : ((s : List ℤ) → Meets s m → ⊥) → (r : Matrix) → tight m ≡ Some r → Met r → ⊥
        some none r e (met s a) = none s (meets-tight_back s m h.matrix.square (subst (MeetsValue s) (sym e) a))
