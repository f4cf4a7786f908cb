-- The dimensions of procedures have names, and fails are at points.
use Rattle.std.proofs.Common.{◌≡◌, ℕ, zero, suc, ◌+◌, ◌<◌, ◌≤◌, List, [], ◌∷◌, length, map, get_or, refl, ap, arith, length-append}
use Rattle.std.specs.List.{All, flat_map}
use Rattle.std.proofs.lemmas.List.Elements.{All-nil, All-cons, All-head, All-tail, All-append}
use Rattle.std.proofs.lemmas.List.{length-map}
use Rattle.spl_tree.specs.Program.{StmtTree, skip, halt, fail, assume, assign, call, if_then, if_else, while_do, BlockTree, empty, more, Program}
use Rattle.spl_types.specs.Checks.{Met, met_before, with_point, met_in, met_by, Procedure, procedure_of, main_procedure}
use Rattle.spl_types.specs.Dimensions.{procedures, dimensions_of, dimensions}
use Rattle.spl_core.specs.Parts.{no_proc}
use Rattle.control_points.specs.declared.built.Fail.{Fail}
use Rattle.control_points.specs.CoreOf.{stmt_fails, block_fails, fails_after, fails_of, points_by, procs_after, procedure_points, offsets_of, core_of}
use Rattle.control_points.proofs.Counting.{rises_in, rises_by}
use Rattle.control_points.proofs.Owning.{counted, places}
use Rattle.report.specs.Points.{DimensionsHaveNames, FailsAreAtPoints}

-- ---- dimensions

dims_after : (points : ℕ) (us : List Procedure) (d : Procedure) (k : ℕ) → k < length us → (get_or (procs_after points us) k no_proc).dims ≡ length (dimensions_of (get_or us k d))
dims_after points [] d k l = absurd (omega arith)
dims_after points (u ∷ us) d zero l = refl
dims_after points (u ∷ us) d (suc k) l = dims_after (points_by points u) us d k (omega arith)

length-procs_after : (points : ℕ) (us : List Procedure) → length (procs_after points us) ≡ length us
length-procs_after points [] = refl
length-procs_after points (u ∷ us) = ap suc (length-procs_after (points_by points u) us)

pub dimensions_have_names : DimensionsHaveNames
unfolding core_of dimensions
dimensions_have_names p k l = dims_after 0 (procedures p) (main_procedure p) k (omega (arith, l, length-procs_after 0 (procedures p)))

-- the procedures of the core are as many as those of the program, and main
pub procs_count : (p : Program) → length (core_of p).procs ≡ length p.procs + 1
unfolding core_of
procs_count p = omega (arith, length-procs_after 0 (procedures p), length-append (map procedure_of p.procs) (main_procedure p ∷ []), length-map p.procs procedure_of)

-- ---- fails

abbrev AllBelow : ℕ → List Fail → Type 0
AllBelow n fails = All (λ (f : Fail). f.point < n) fails

raised : (m n : ℕ) (fails : List Fail) → m ≤ n → AllBelow m fails → AllBelow n fails
raised m n [] l h = All-nil (λ (f : Fail). f.point < n)
raised m n (f ∷ fails) l h =
    let here = All-head (λ (x : Fail). x.point < m) f fails h in
    All-cons (λ (x : Fail). x.point < n) f fails (omega (arith, here, l)) (raised m n fails l (All-tail (λ (x : Fail). x.point < m) f fails h))

mutual
  below_in : (m : Met) (s : StmtTree) → 0 < m.points → AllBelow (met_in m s).points (stmt_fails m s)
  below_in m (skip at) l = All-nil (λ (f : Fail). f.point < m.points)
  below_in m (halt at) l = All-nil (λ (f : Fail). f.point < m.points)
  below_in m (fail at) l = All-cons (λ (f : Fail). f.point < m.points) _ [] (omega (arith, l)) (All-nil (λ (f : Fail). f.point < m.points))
  below_in m (assume e at) l = All-nil (λ (f : Fail). f.point < m.points)
  below_in m (assign x e at) l = All-nil (λ (f : Fail). f.point < m.points)
  below_in m (call targets called args at) l = All-nil (λ (f : Fail). f.point < m.points)
  below_in m (if_then e a at) l = below_by m a
  below_in m (if_else e a b at) l =
      let second = rises_by (met_by m a) b in
      All-append (λ (f : Fail). f.point < (met_by (met_by m a) b).points) (block_fails m a) (block_fails (met_by m a) b)
      (raised (met_by m a).points (met_by (met_by m a) b).points (block_fails m a) (omega (arith, second)) (below_by m a)) (below_by (met_by m a) b)
  below_in m (while_do e a at) l = below_by m a

  below_by : (m : Met) (b : BlockTree) → AllBelow (met_by m b).points (block_fails m b)
  below_by m empty = All-nil (λ (f : Fail). f.point < m.points + 1)
  below_by m (more b s) =
      let before = rises_by m b in
      let within = rises_in (met_by m b) s in
      let n = (met_in (met_by m b) s).points + 1 in
      All-append (λ (f : Fail). f.point < n) (block_fails m b) (stmt_fails (met_by m b) s)
      (raised (met_by m b).points n (block_fails m b) (omega (arith, within)) (below_by m b))
      (raised (met_in (met_by m b) s).points n (stmt_fails (met_by m b) s) (omega arith) (below_in (met_by m b) s (omega (arith, before))))

below_after : (points : ℕ) (us : List Procedure) → AllBelow (points + length (flat_map procedure_points us)) (fails_after points us)
below_after points [] = All-nil (λ (f : Fail). f.point < points + 0)
below_after points (u ∷ us) =
    let n = points + length (flat_map procedure_points (u ∷ us)) in
    let next = counted points u in
    let all = length-append (procedure_points u) (flat_map procedure_points us) in
    All-append (λ (f : Fail). f.point < n) (block_fails (with_point (met_before points)) u.body) (fails_after (points_by points u) us)
    (raised (points_by points u) n (block_fails (with_point (met_before points)) u.body) (omega (arith, next, all)) (below_by (with_point (met_before points)) u.body))
    (raised (points_by points u + length (flat_map procedure_points us)) n (fails_after (points_by points u) us) (omega (arith, next, all)) (below_after (points_by points u) us))

below_all : (p : Program) → AllBelow (0 + length (offsets_of p)) (fails_of p)
unfolding fails_of offsets_of
below_all p = below_after 0 (procedures p)

pub fails_are_at_points : FailsAreAtPoints
fails_are_at_points p = raised (0 + length (offsets_of p)) (length (core_of p).owners) (fails_of p) (omega (arith, places p)) (below_all p)
