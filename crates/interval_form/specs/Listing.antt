-- The bounds of `form <= 0` as the code lists them.
use Rattle.std.specs.Prelude.{ℕ, zero, suc, ◌+◌, ◌*◌, ◌<◌, ◌++◌, nat_eq, Bool, true, false, not, List, [], ◌∷◌, Some, None, ℤ, if◌then◌else◌}
use Rattle.oct_def.specs.Bound.{Bound, least, bound_of}
use Rattle.oct_def.specs.Matrix.{opposite}
use Rattle.interval_form.specs.declared.form.Term.{Term}
use Rattle.interval_form.specs.declared.constraints.Sized.{Sized}
use Rattle.interval_form.specs.declared.constraints.OctBound.{OctBound}
use Rattle.interval_form.specs.Interval.{Interval, negated}
use Rattle.interval_form.specs.Form.{Form}
use Rattle.interval_form.specs.FormBounds.{point_size, sum_bound, unary_bound, pair_bound}

-- the terms without those of two dimensions
abbrev pub is_kept : ℕ → ℕ → ℕ → Bool
is_kept u w v = if nat_eq v u then false else not (nat_eq v w)

abbrev pub without_terms : ℕ → ℕ → List Term → List Term
without_terms u w [] = []
without_terms u w (t ∷ ts) = if is_kept u w t.dimension then t ∷ without_terms u w ts else without_terms u w ts

-- a signed dimension with the size of its point coefficient
abbrev pub with_sized : ℕ → ℕ → List Sized → List Sized
with_sized i zero xs = xs
with_sized i (suc a) xs = record { dim = i; size = suc a } ∷ xs

-- the signed dimensions with point coefficients of a size above 0
abbrev pub sized_terms : List Term → List Sized
sized_terms [] = []
sized_terms (t ∷ ts) =
    with_sized (2 * t.dimension) (point_size t.coefficient) (with_sized (2 * t.dimension + 1) (point_size (negated t.coefficient)) (sized_terms ts))

-- each size is above 0
abbrev pub AreSized : List Sized → Type 0
AreSized [] = Unit {0}
AreSized (x ∷ xs) = (0 < x.size) × AreSized xs

-- ---- the least word that is listed at a place

abbrev pub is_at : OctBound → ℕ → ℕ → Bool
is_at b i j = if nat_eq b.row i then nat_eq b.column j else false

abbrev pub listed : List OctBound → ℕ → ℕ → Bound
listed [] i j = None
listed (b ∷ bs) i j = if is_at b i j then least (bound_of b.word) (listed bs i j) else listed bs i j

-- ---- the list

-- the bound on the sum of two signed dimensions, by the bound on their terms
abbrev pub word_bound : Bool → ℕ → Bound → Bound
word_bound true a b = unary_bound a b
word_bound false a b = pair_bound a b

-- the same by the form; none where their coefficients have different sizes
abbrev pub size_bound : List Interval → Form → Sized → Sized → Bound
size_bound ranges f x y = if nat_eq x.size y.size then sum_bound ranges f y.size x.dim y.dim else None

-- a bound on the sum of x and y stands at (opposite x, y), and at its coherent twin where that is another place
abbrev pub twins : ℕ → ℕ → ℤ → List OctBound
twins x y w =
    record { row = opposite x; column = y; word = w }
    ∷ (if nat_eq x y then [] else record { row = opposite y; column = x; word = w } ∷ [])

abbrev pub with_twins : ℕ → ℕ → Bound → List OctBound
with_twins x y None = []
with_twins x y (Some w) = twins x y w

-- what is listed for a signed dimension and each of a list
abbrev pub row_list : List Interval → Form → Sized → List Sized → List OctBound
row_list ranges f x [] = []
row_list ranges f x (y ∷ ys) = with_twins x.dim y.dim (size_bound ranges f x y) ++ row_list ranges f x ys

-- what is listed for each of a list with itself and with those after it
abbrev pub rows_list : List Interval → Form → List Sized → List OctBound
rows_list ranges f [] = []
rows_list ranges f (x ∷ xs) = row_list ranges f x (x ∷ xs) ++ rows_list ranges f xs
