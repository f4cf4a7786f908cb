-- What statements and blocks add to a core that is being built.
use Rattle.std.specs.Prelude.{◌≡◌, ℕ, ◌+◌, ◌≤◌, List, length, map}
use Rattle.spl_tree.specs.Program.{StmtTree, skip, halt, fail, assume, assign, call, if_then, if_else, while_do, BlockTree, empty, more}
use Rattle.spl_tree.specs.Meaning.{exprs_in}
use Rattle.spl_types.specs.Checks.{Met, met_in, met_by, met_before, with_point, Procedure}
use Rattle.spl_core.specs.Graph.{Copy}
use Rattle.control_points.specs.declared.edges.Scope.{Scope}
use Rattle.control_points.specs.CoreOf.{Spoken, Naming, place_in, dimension_in, stmt_arcs, block_arcs, stmt_fails, block_fails, points_by, procedure_arcs}
use Rattle.control_points.specs.Building.{Building, Adds, CanMake, MakesMore}

-- each call names no more dimensions than a procedure has
abbrev mutual
  pub CallIsSmall : StmtTree → Type 0
  CallIsSmall (skip at) = Unit {0}
  CallIsSmall (halt at) = Unit {0}
  CallIsSmall (fail at) = Unit {0}
  CallIsSmall (assume e at) = Unit {0}
  CallIsSmall (assign x e at) = Unit {0}
  CallIsSmall (call targets called args at) = length args + length targets ≤ 128
  CallIsSmall (if_then e a at) = CallsAreSmall a
  CallIsSmall (if_else e a b at) = CallsAreSmall a × CallsAreSmall b
  CallIsSmall (while_do e a at) = CallsAreSmall a

  pub CallsAreSmall : BlockTree → Type 0
  CallsAreSmall empty = Unit {0}
  CallsAreSmall (more b s) = CallsAreSmall b × CallIsSmall s

abbrev pub naming_in : Scope → Naming
naming_in s = record { dims = s.source.names.now; procs = s.procs.now }

-- of the expressions that a scope has
abbrev pub CanMakeIn : Scope → Building → Type 0
CanMakeIn s b = CanMake s.source.names.now (exprs_in s.source.tree.now) b

abbrev pub MakesMoreIn : Scope → Building → Building → Type 0
MakesMoreIn s a b = MakesMore s.source.names.now (exprs_in s.source.tree.now) a b

-- whatever targets were met before
abbrev pub EmitsBlock : Naming → BlockTree → Building → Building → Type 0
EmitsBlock c b old new = (m : Met) → m.points ≡ old.points → Adds (block_arcs c m b) (block_fails m b) (met_by m b).points old new

abbrev pub EmitsStmt : Naming → StmtTree → Building → Building → Type 0
EmitsStmt c s old new = (m : Met) → m.points ≡ old.points → Adds (stmt_arcs c m s) (stmt_fails m s) (met_in m s).points old new

-- the copies of a start: what each of these names stands for takes the value of what is declared
abbrev pub copy_named : Spoken → List ℕ → Copy
copy_named names x = record { target = dimension_in names x; origin = place_in names.declared x }

abbrev pub copies_named : Spoken → List (List ℕ) → List Copy
copies_named names xs = map (copy_named names) xs

-- the edges and fails of a procedure
abbrev pub AddsProcedure : List (List ℕ) → Procedure → Building → Building → Type 0
AddsProcedure procs u old new = Adds (procedure_arcs procs old.points u) (block_fails (with_point (met_before old.points)) u.body) (points_by old.points u) old new
