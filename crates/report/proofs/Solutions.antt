-- The values of a solution as they are read, and what is made of them.
use Rattle.std.proofs.Common.{◌≡◌, ℕ, ◌<◌, Bool, List, [], ◌∷◌, length, map, refl, sym, ap, ◌∙◌, subst, arith}
use Rattle.std.specs.List.{All, list_all, range_with_len}
use Rattle.std.proofs.lemmas.List.Elements.{All-head, All-tail}
use Rattle.std.proofs.lemmas.List.FromFn.{get_or-map-range_with_len, length-map-range_with_len}
use Rattle.oct_def.specs.Octagon.{Octagon, bottom_value}
use Rattle.spl_tree.specs.Program.{Program}
use Rattle.spl_core.specs.Parts.{Parts}
use Rattle.spl_core.specs.Graph.{Graph, graph_of}
use Rattle.control_points.specs.declared.built.Fail.{Fail}
use Rattle.control_points.specs.CoreOf.{core_of, fails_of}
use Rattle.iteration.specs.Solved.{read_of, rounds_of}
use Rattle.iteration.specs.Solution.{Solution, read_in, IsSolution}
use Rattle.iteration.specs.Ends.{SolutionsAreSized}
use Rattle.report.specs.Report.{is_bottom, report, all_unreachable}
use Rattle.report.specs.Solved.{IsSolvedFor}
use Rattle.report.specs.Values.{value_in, AreSized, IsBuiltOf}
use Rattle.report.proofs.Alike.{same_report}
use Rattle.report.proofs.Shapes.{fails_are_at_points}

-- the values at the first points, as they are read
abbrev pub AreRead : Solution → ℕ → List Octagon → Type 0
AreRead s n values = values ≡ map (read_in s) (range_with_len 0 n)

-- a core that was built has as many points as a solution has values
pub points_built : (p : Program) (c : Parts) (fails : List Fail) (s : Solution) → IsBuiltOf p c fails → IsSolvedFor (core_of p) s → length c.owners ≡ length s.values
unfolding graph_of
points_built p c fails s built solved = ap (λ (g : Graph). length g.owners) built.core ∙ sym solved.solution.points

pub read_at : (s : Solution) (n k : ℕ) (values : List Octagon) → AreRead s n values → k < n → value_in values k ≡ read_in s k
read_at s n k values e l =
    ap (λ (xs : List Octagon). value_in xs k) e ∙ get_or-map-range_with_len (read_in s) 0 n k k (bottom_value 0) l (omega arith)

pub as_many_read : (s : Solution) (n : ℕ) (values : List Octagon) → AreRead s n values → length values ≡ n
as_many_read s n values e = ap length e ∙ length-map-range_with_len (read_in s) 0 n

pub read_sized : (g : Graph) (s : Solution) (n : ℕ) (values : List Octagon) → SolutionsAreSized → IsSolvedFor g s → n ≡ length s.values → AreRead s n values → AreSized g values
read_sized g s n values sizes solved count e =
    let points : n ≡ length g.owners = count ∙ solved.solution.points in
    record {
      points = as_many_read s n values e ∙ points;
      dims = λ k l.
          ap (λ (v : Octagon). v.dims) (read_at s n k values e (omega (arith, points, l)) ∙ solved.solution.read k l)
          ∙ (sizes g solved.delay solved.descend).dims k l;
    }

-- the report on these values is that on the solution
pub report_solved : (bytes text : List ℕ) (full : Bool) (p : Program) (s : Solution) (n : ℕ) (values : List Octagon) (delay descend : ℕ)
    → n ≡ length s.values → AreRead s n values → text ≡ report bytes full (value_in values) s.rounds p → IsSolution (core_of p) delay descend s
    → text ≡ report bytes full (read_of (core_of p) delay descend) (rounds_of (core_of p) delay) p
report_solved bytes text full p s n values delay descend count e h solution =
    let points : n ≡ length (core_of p).owners = count ∙ solution.points in
    h ∙ ap (λ r. report bytes full (value_in values) r p) solution.rounds
    ∙ same_report bytes full (value_in values) (read_of (core_of p) delay descend) (rounds_of (core_of p) delay) p fails_are_at_points
    (λ k l. read_at s n k values e (omega (arith, points, l)) ∙ solution.read k l)

same_verdicts : (r t : ℕ → Octagon) (n : ℕ) (fails : List Fail) → ((k : ℕ) → k < n → r k ≡ t k) → All (λ (f : Fail). f.point < n) fails
    → list_all (λ (f : Fail). is_bottom (r f.point)) fails ≡ list_all (λ (f : Fail). is_bottom (t f.point)) fails
same_verdicts r t n [] e within = refl
same_verdicts r t n (f ∷ fails) e within =
    let rest = same_verdicts r t n fails e (All-tail (λ (x : Fail). x.point < n) f fails within) in
    rw (e f.point (All-head (λ (x : Fail). x.point < n) f fails within)) (rw rest refl)

-- so are the verdicts on its fails
pub verdicts_solved : (b : Bool) (p : Program) (c : Parts) (fails : List Fail) (s : Solution) (n : ℕ) (values : List Octagon) (delay descend : ℕ)
    → IsBuiltOf p c fails → n ≡ length s.values → AreRead s n values → b ≡ list_all (λ (f : Fail). is_bottom (value_in values f.point)) fails → IsSolution (core_of p) delay descend s
    → b ≡ all_unreachable (read_of (core_of p) delay descend) p
verdicts_solved b p c fails s n values delay descend built count e h solution =
    let points : n ≡ length (core_of p).owners = count ∙ solution.points in
    h ∙ ap (list_all (λ (f : Fail). is_bottom (value_in values f.point))) built.fails
    ∙ same_verdicts (value_in values) (read_of (core_of p) delay descend) (length (core_of p).owners) (fails_of p)
    (λ k l. read_at s n k values e (omega (arith, points, l)) ∙ solution.read k l) (fails_are_at_points p)

-- each fail is at a point that is read
pub fails_read : (p : Program) (c : Parts) (fails : List Fail) (s : Solution) (n : ℕ) (values : List Octagon)
    → IsBuiltOf p c fails → IsSolvedFor (core_of p) s → n ≡ length s.values → AreRead s n values → All (λ (f : Fail). f.point < length values) fails
fails_read p c fails s n values built solved count e =
    let points : length (core_of p).owners ≡ length values = sym (as_many_read s n values e ∙ count ∙ solved.solution.points) in
    subst (λ (fs : List Fail). All (λ (f : Fail). f.point < length values) fs) (sym built.fails)
    (subst (λ m. All (λ (f : Fail). f.point < m) (fails_of p)) points (fails_are_at_points p))
