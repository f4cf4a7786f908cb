-- Tables from names to numbers.
use Rattle.std.specs.Prelude.{◌≡◌, ℕ, if◌then◌else◌, ◌<◌, false, length, slice_index_or, List, [], ◌∷◌, ◌++◌, map, Option, Some, None, is_some, position, Result}
use Rattle.std.specs.Str.{bytes_eq}
use Rattle.spl_tree.specs.Program.{Declared, ProcMeaning}
use Rattle.spl_types.specs.declared.fault.CheckFault.{CheckFault}
use Rattle.spl_types.specs.declared.fault.CheckRule.TheVariants.{UnknownVariable}
use Rattle.spl_types.specs.Checks.{check, is_among, decl_checks}
use Rattle.spl_types.specs.Faults.{AnswersWith}

-- the number of a name in a table
abbrev pub number_in : List ℕ → List (List ℕ × ℕ) → Option ℕ
number_in name [] = None
number_in name (e ∷ es) = if bytes_eq name e.0 then Some e.1 else number_in name es

-- a table gives each name its first place in a list
abbrev pub Numbers : List (List ℕ × ℕ) → List (List ℕ) → Type 0
Numbers table names = (name : List ℕ) → number_in name table ≡ position (bytes_eq name) names

-- a table after a name is given a number, if it has none
abbrev pub with_number : List (List ℕ × ℕ) → List ℕ → ℕ → List (List ℕ × ℕ)
with_number table name number = if is_some (number_in name table) then table else table ++ (name, number) ∷ []

-- the names of procedures
abbrev pub proc_names : List ProcMeaning → List (List ℕ)
proc_names procs = map (λ (p : ProcMeaning). p.name.name) procs

-- no name stands twice in a list
abbrev pub Distinct : List (List ℕ) → Type 0
Distinct names = (i j : ℕ) → i < j → j < length names → bytes_eq (slice_index_or names i []) (slice_index_or names j []) ≡ false

-- the declaration with this number is checked after those with these names, and its name joins them
abbrev pub NextDecl : List (List ℕ) → List (List ℕ) → List Declared → ℕ → Result (Unit {0}) CheckFault → Type 0
NextDecl old new ds i result = (d : Declared) → AnswersWith result (decl_checks old (slice_index_or ds i d ∷ [])) (λ _. new ≡ old ++ (slice_index_or ds i d).name.name ∷ [])

-- the number of a variable is found among the declared names, no two of which are the same; or it isn't there
abbrev pub FindsVariable : List (List ℕ) → List ℕ → ℕ → Result ℕ CheckFault → Type 0
FindsVariable declared x at result =
    AnswersWith result (check UnknownVariable at (is_among x declared) ∷ []) (λ number. (position (bytes_eq x) declared ≡ Some number) × Distinct declared)
