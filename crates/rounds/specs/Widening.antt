-- What the rounds ask of a widening.
use Rattle.std.specs.Prelude.{◌≡◌, ℕ, ◌<◌, ◌≤◌, ◌⊎◌}
use Rattle.oct_def.specs.Octagon.{Octagon, IsOctagon, join_value}
use Rattle.oct_def.specs.Below.{IsBelow}

-- of two values over as many variables: a value over as many, not below either side; done again with the same right side, or
-- after a join with it, it changes nothing; and each change by it lowers a rank, which no join raises
pub record IsWidening (widen : Octagon → Octagon → Octagon) : Type 0 where
  pub dims : (x v : Octagon) → (widen x v).dims ≡ x.dims
  pub octagon : (x v : Octagon) → IsOctagon x → IsOctagon v → x.dims ≡ v.dims → IsOctagon (widen x v)
  pub left : (x v : Octagon) → IsOctagon x → IsOctagon v → x.dims ≡ v.dims → IsBelow x (widen x v)
  pub right : (x v : Octagon) → IsOctagon x → IsOctagon v → x.dims ≡ v.dims → IsBelow v (widen x v)
  pub again : (x v : Octagon) → IsOctagon v → widen (widen x v) v ≡ widen x v
  pub joined : (x v : Octagon) → IsOctagon v → widen (join_value x v) v ≡ join_value x v
  pub rank : Octagon → ℕ
  pub falls : (x v : Octagon) → IsOctagon x → IsOctagon v → x.dims ≡ v.dims → (widen x v ≡ x) ⊎ (rank (widen x v) < rank x)
  pub unraised : (x v : Octagon) → IsOctagon x → IsOctagon v → x.dims ≡ v.dims → rank (join_value x v) ≤ rank x
