-- The dimensions of a procedure by their names: inputs, outputs, locals, then a working copy of each input that some
-- statement has as a target.
use Rattle.std.specs.Prelude.{ℕ, if◌then◌else◌, List, [], ◌∷◌, ◌++◌, map, filter, codes, slice_index_or}
use Rattle.spl_tree.specs.Program.{Program}
use Rattle.spl_types.specs.Checks.{is_among, declared_names, Procedure, procedure_of, main_procedure, met_by_end}

-- the targets of all statements of a procedure
abbrev pub targets_in : Procedure → List (List ℕ)
targets_in u = (met_by_end 0 u).targets

-- an input that is a target has its value at the entry under this name
abbrev pub input_name : List (List ℕ) → List ℕ → List ℕ
input_name targets x = if is_among x targets then x ++ codes "@" else x

-- the inputs that are targets
abbrev pub copied : Procedure → List (List ℕ)
copied u = filter (λ x. is_among x (targets_in u)) (declared_names u.inputs)

unfoldable pub dimensions_of : Procedure → List (List ℕ)
dimensions_of u = map (input_name (targets_in u)) (declared_names u.inputs) ++ (declared_names u.outputs ++ (declared_names u.locals ++ copied u))

-- the procedures, main last
abbrev pub procedures : Program → List Procedure
procedures p = map procedure_of p.procs ++ main_procedure p ∷ []

-- the dimensions of the procedure with this number
unfoldable pub dimensions : Program → ℕ → List (List ℕ)
dimensions p k = dimensions_of (slice_index_or (procedures p) k (main_procedure p))
