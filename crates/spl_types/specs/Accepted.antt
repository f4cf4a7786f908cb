-- Programs that keep all checks, and what is known of them.
use Rattle.std.specs.Prelude.{◌≡◌, ℕ, ◌≤◌, Bool, List, length, map, Some, None}
use Rattle.spl_tree.specs.Lists.{Lists}
use Rattle.spl_tree.specs.Facts.{IsTree}
use Rattle.spl_tree.specs.Program.{Program, ProcMeaning}
use Rattle.spl_tree.specs.Meaning.{program_of}
use Rattle.spl_types.specs.declared.fault.CheckFault.{CheckFault}
use Rattle.spl_types.specs.declared.fault.CheckFault.TheVariants.{Broken, NoMemory}
use Rattle.spl_types.specs.declared.scope.Copies.{Copies}
use Rattle.spl_types.specs.Checks.{is_among, declared_names, Procedure, main_procedure, procedure_of, met_by_end, points_after, broken_rule, most_procedures, most_dimensions, most_points}
use Rattle.spl_types.specs.Dimensions.{targets_in, dimensions_of, procedures, dimensions}

-- a fault is the first broken rule of a program, or memory was wanting
abbrev pub IsCheckFaultOf : Program → CheckFault → Type 0
IsCheckFaultOf p (Broken rule at) = broken_rule p ≡ Some (rule, at)
IsCheckFaultOf p NoMemory = Unit {0}

-- the points of a program
abbrev pub point_count : Program → ℕ
point_count p = (met_by_end (points_after 0 p.procs) (main_procedure p)).points

-- a program that breaks no rule, and so is within the limits
pub record KeepsRules (p : Program) : Type 0 where
  pub unbroken : broken_rule p ≡ None
  pub procs : length p.procs ≤ most_procedures
  pub points : point_count p ≤ most_points
  pub dims : (k : ℕ) → k ≤ length p.procs → length (dimensions p k) ≤ most_dimensions

-- which inputs of a procedure are targets, and how many dimensions it has
abbrev pub copies_of : Procedure → List Bool × ℕ
copies_of u = (map (λ x. is_among x (targets_in u)) (declared_names u.inputs), length (dimensions_of u))

abbrev pub copies_in : List Copies → List (List Bool × ℕ)
copies_in cs = map (λ (c : Copies). (c.assigned.items, c.dims)) cs

-- what is known after the checks of the procedures besides main: their points, which are few, as they are, and their copies
pub record HavePassed (procs : List ProcMeaning) (count : ℕ) (stored : List Copies) : Type 0 where
  pub points : count ≡ points_after 0 procs
  pub few_points : count ≤ most_points
  pub few_procs : length procs ≤ most_procedures
  pub copies : copies_in stored ≡ map copies_of (map procedure_of procs)

-- what a checked tree keeps
pub record IsChecked (t : Lists) (cs : List Copies) : Type 0 where
  pub tree : IsTree t
  pub accepted : KeepsRules (program_of t)
  pub copies : copies_in cs ≡ map copies_of (procedures (program_of t))
