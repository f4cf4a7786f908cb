-- How many variables values in blocks have.
use Rattle.std.proofs.Common.{◌≡◌, ℕ, ◌≤◌, sym, ap, subst}
use Rattle.oct_def.specs.Octagon.{Octagon}
use Rattle.dec_oct.specs.Value.{Decomposed, octagon}

-- as many as the value that is meant
pub kept-size : (w : Decomposed) (v : Octagon) → octagon w ≡ v → v.dims ≤ 256 → w.dims ≤ 256
kept-size w v same small = subst (λ n. n ≤ 256) (sym (ap (λ (o : Octagon). o.dims) same)) small
