-- What the walk knows on its way, and what its steps answer.
use Rattle.std.specs.Prelude.{◌≡◌, ℕ, List, [], ◌∷◌, ◌++◌, map, take, slice_index_or, Some, position, Result}
use Rattle.std.specs.Str.{bytes_eq}
use Rattle.spl_tree.specs.Program.{Named, ExprTree, StmtTree, BlockTree, places_of}
use Rattle.spl_tree.specs.Laws.{procs_in}
use Rattle.spl_types.specs.declared.fault.CheckFault.{CheckFault}
use Rattle.spl_types.specs.declared.fault.CheckRule.TheVariants.{TooManyVariables}
use Rattle.spl_types.specs.declared.scope.Scope.{Scope as CodeScope}
use Rattle.spl_types.specs.declared.scope.Walk.{Walk}
use Rattle.spl_types.specs.Checks.{Check, check, Scope, Met, with_point, with_targets, is_among, dimension_count, has_room, point_check, target_checks, targets_checks, call_checks, assigned_checks, stmt_checks, block_checks, met_in, met_by, plain_names}
use Rattle.spl_types.specs.Faults.{AnswersWith}
use Rattle.spl_types.specs.Tables.{Numbers, proc_names}

-- what names stand for within a procedure
abbrev pub scope_in : CodeScope → Scope
scope_in s = record { procs = procs_in s.tree.now; inputs = take s.inputs s.declared; declared = s.declared }

-- the table of procedures is that of the tree
abbrev pub KnowsProcs : CodeScope → Type 0
KnowsProcs s = Numbers s.procs.now (proc_names (procs_in s.tree.now))

-- a walk has met these points and targets
pub record HasMet (c : Scope) (m : Met) (w : Walk) : Type 0 where
  pub points : w.points ≡ m.points
  pub assigned : w.copies.assigned.items ≡ map (λ x. is_among x m.targets) c.inputs
  pub dims : w.copies.dims ≡ dimension_count c m.targets

-- a step of the walk makes these checks, and then has met this more
abbrev pub Steps : Scope → (Met → List Check) → (Met → Met) → Walk → Walk → Result (Unit {0}) CheckFault → Type 0
Steps c cs after old new result = (m : Met) → HasMet c m old → AnswersWith result (cs m) (λ _. HasMet c (after m) new)

-- a point is met
abbrev pub StepsToPoint : Scope → ℕ → Walk → Walk → Result (Unit {0}) CheckFault → Type 0
StepsToPoint c at old new result = Steps c (λ m. point_check m at ∷ []) with_point old new result

-- a target is met, the variable with this number
abbrev pub StepsToTarget : Scope → ℕ → ℕ → Walk → Walk → Result (Unit {0}) CheckFault → Type 0
StepsToTarget c number at old new result = (x : List ℕ) → position (bytes_eq x) c.declared ≡ Some number
    → Steps c (λ m. check TooManyVariables at (has_room c m.targets x) ∷ []) (λ m. with_targets m (x ∷ [])) old new result

-- the one target of an assignment is met
abbrev pub StepsToOneTarget : Scope → Named → Walk → Walk → Result (Unit {0}) CheckFault → Type 0
StepsToOneTarget c x old new result = Steps c (λ m. target_checks c m.targets [] x) (λ m. with_targets m (x.name ∷ [])) old new result

-- the targets of a call are met
abbrev pub StepsToTargets : Scope → List Named → Walk → Walk → Result (Unit {0}) CheckFault → Type 0
StepsToTargets c xs old new result = Steps c (λ m. targets_checks c m.targets [] xs) (λ m. with_targets m (plain_names xs)) old new result

-- the target with this number is met, after the targets of earlier statements and those that are listed
abbrev pub StepsToNext : Scope → List Named → ℕ → List (List ℕ) → List (List ℕ) → Walk → Walk → Result (Unit {0}) CheckFault → Type 0
StepsToNext c named k listed listed' old new result = (m : Met) (targets : List (List ℕ)) (d : Named) → m.targets ≡ targets ++ listed → HasMet c m old
    → AnswersWith result (target_checks c targets listed (slice_index_or named k d)) (λ _. HasMet c (with_targets m ((slice_index_or named k d).name ∷ [])) new × (listed' ≡ listed ++ (slice_index_or named k d).name ∷ []))

-- a call is met
abbrev pub StepsToCall : Scope → List Named → List ℕ → List Named → ℕ → Walk → Walk → Result (Unit {0}) CheckFault → Type 0
StepsToCall c targets called args at old new result =
    Steps c (λ m. targets_checks c m.targets [] targets ++ call_checks c targets called args at) (λ m. with_targets m (plain_names targets)) old new result

-- an assignment is met
abbrev pub StepsToAssign : Scope → Named → ExprTree → Walk → Walk → Result (Unit {0}) CheckFault → Type 0
StepsToAssign c x e old new result =
    Steps c (λ m. target_checks c m.targets [] x ++ assigned_checks c.declared e) (λ m. with_targets m (x.name ∷ [])) old new result

-- a statement is met, without the point after it
abbrev pub StepsInStmt : Scope → StmtTree → Walk → Walk → Result (Unit {0}) CheckFault → Type 0
StepsInStmt c s old new result = Steps c (λ m. stmt_checks c m s) (λ m. met_in m s) old new result

-- a statement is met, with the point after it
abbrev pub StepsToStmt : Scope → StmtTree → Walk → Walk → Result (Unit {0}) CheckFault → Type 0
StepsToStmt c s old new result =
    Steps c (λ m. stmt_checks c m s ++ point_check (met_in m s) (places_of s).end ∷ []) (λ m. with_point (met_in m s)) old new result

-- a block is met, whose first point has this place
abbrev pub StepsToBlock : Scope → ℕ → BlockTree → Walk → Walk → Result (Unit {0}) CheckFault → Type 0
StepsToBlock c start b old new result = Steps c (λ m. block_checks c m start b) (λ m. met_by m b) old new result
