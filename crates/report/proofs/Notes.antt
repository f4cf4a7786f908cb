-- What is said of a value.
use Rattle.std.proofs.Common.{◌≡◌, ℕ, Bool, List, Option, None, Some, refl, ap, ◌∙◌}
use Rattle.std.specs.Option.{option_map}
use Rattle.std.specs.List.{flat_map, range_with_len}
use Rattle.oct_def.specs.Octagon.{Octagon}
use Rattle.oct_def.specs.Table.{Matrix}
use Rattle.report.specs.Listed.{listed, listed_variable, matrix_at, note_of}
use Rattle.report.specs.declared.constraint.Constraint.{Constraint}

-- the constraints of all variables are what is said of a value that isn't Bottom
pub note_of-some : (full : Bool) (v : Octagon) (n : ℕ) (constraints : List Constraint) → (v.matrix ≡ None → ⊥) → n ≡ v.dims
    → constraints ≡ flat_map (listed_variable full (matrix_at v)) (range_with_len 0 n) → Some constraints ≡ note_of full v
unfolding listed
note_of-some full v n constraints some dims e = by v.matrix refl
  where
    by : (m : Option Matrix) → v.matrix ≡ m → Some constraints ≡ option_map (listed full v.dims) m
    by None none = absurd (some none)
    by (Some m) is =
        ap Some (e ∙ ap (λ k. flat_map (listed_variable full (matrix_at v)) (range_with_len 0 k)) dims
        ∙ ap (λ (o : Option Matrix). flat_map (listed_variable full (matrix_at (record { dims = v.dims; matrix = o }))) (range_with_len 0 v.dims)) is)
