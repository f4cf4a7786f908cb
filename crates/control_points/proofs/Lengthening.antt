-- How many edges and dimensions a core that is being built has.
use Rattle.std.proofs.Common.{◌≡◌, ℕ, ◌+◌, ◌*◌, ◌<◌, ◌≤◌, List, [], ◌∷◌, ◌++◌, length, length-append, ◌∙◌, arith, Result, Ok, Err, IfOk}
use Rattle.spl_tree.specs.Program.{BlockTree}
use Rattle.spl_types.specs.Checks.{met_before, met_by}
use Rattle.spl_core.specs.declared.parts.Edge.{Edge}
use Rattle.spl_core.specs.Parts.{Parts}
use Rattle.spl_core.specs.Graph.{Arc}
use Rattle.control_points.specs.declared.built.Fail.{Fail}
use Rattle.control_points.specs.Nodes.{Stretch}
use Rattle.control_points.specs.Building.{Building, building, Adds, Lengthens, IsSmall}
use Rattle.control_points.proofs.Counting.{rises_by}

pub longer_none : (a : Building) → Lengthens 0 0 a a
longer_none a = record { edges = omega arith; dims = omega arith }

pub longer_then : (e f d g : ℕ) (a b c : Building) → Lengthens e d a b → Lengthens f g b c → Lengthens (e + f) (d + g) a c
longer_then e f d g a b c h w = record { edges = omega (arith, h.edges, w.edges); dims = omega (arith, h.dims, w.dims) }

-- two dimensions more
pub two_longer : (k : ℕ) (a b c d : Building) → Lengthens 0 (2 * k) a b → Lengthens 0 1 b c → Lengthens 0 1 c d → Lengthens 0 (2 * (k + 1)) a d
two_longer k a b c d f g h = record { edges = omega (arith, f.edges, g.edges, h.edges); dims = omega (arith, f.dims, g.dims, h.dims) }

pub dims_longer : (n : Parts) (es : List Edge) (ds : List ℕ) (fs : List Fail) (points d : ℕ) (v : Stretch) → Lengthens 0 1 (building n es ds fs points v) (building n es (ds ++ d ∷ []) fs points v)
dims_longer n es ds fs points d v = record { edges = omega arith; dims = omega (arith, length-append ds (d ∷ [])) }

pub small_more : (j k : ℕ) (c : Parts) → j ≤ k → IsSmall j c → IsSmall k c
small_more j k c le h = record { edges = omega (arith, h.edges); dims = omega (arith, h.dims) }

-- what a point brings
pub small_later : (a b : Building) (e d : ℕ) → e ≤ 4 → d ≤ 256 → b.points ≡ a.points → Lengthens e d a b → IsSmall a.points a.parts → IsSmall (b.points + 1) b.parts
small_later a b e d le ld still h s = record { edges = omega (arith, still, h.edges, s.edges); dims = omega (arith, still, h.dims, s.dims) }

-- a point is met
pub small_met : (a b : Building) → IsSmall (a.points + 1) a.parts → Adds [] [] (a.points + 1) a b → Lengthens 0 0 a b → IsSmall b.points b.parts
small_met a b s f h = record { edges = omega (arith, s.edges, f.points, h.edges); dims = omega (arith, s.dims, f.points, h.dims) }

-- a statement's own edge, after what it names was added
pub moved_small : {E : Type 0} (r : Result (Unit {0}) E) (a b c : Building) (xs : List Arc) (ys : List Fail) (e d : ℕ) → e ≤ 4 → d ≤ 256 → b.points ≡ a.points → Lengthens 0 d a b → IsSmall a.points a.parts
    → IfOk r (λ _. Adds xs ys b.points b c) → IfOk r (λ _. Lengthens e 0 b c) → IfOk r (λ _. IsSmall (c.points + 1) c.parts)
moved_small (Ok v) a b c xs ys e d le ld still f s g h = small_later a c (0 + e) (d + 0) (omega arith) (omega arith) (g.points ∙ still) (longer_then 0 e d 0 a b c f h) s
moved_small (Err x) a b c xs ys e d le ld still f s g h = g

-- there are few edges where a block is to come
pub edges_few : (n : ℕ) (x : BlockTree) (c : Parts) → (met_by (met_before n) x).points ≤ 4096 → IsSmall n c → length c.edges < 16384
edges_few n x c few s = omega (arith, few, s.edges, rises_by (met_before n) x)
