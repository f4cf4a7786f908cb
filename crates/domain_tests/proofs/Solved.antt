-- How many variables the values of a solution have: those of the procedure that owns their point.
use Rattle.std.proofs.Common.{◌≡◌, ℕ, ◌<◌, length, sym, ap, ◌∙◌, arith}
use Rattle.oct_def.specs.Octagon.{Octagon}
use Rattle.spl_core.specs.declared.parts.Proc.{Proc}
use Rattle.spl_core.specs.Parts.{Parts, proc_at, owner_of}
use Rattle.spl_core.specs.Graph.{graph_of}
use Rattle.iteration.specs.Ends.{SolutionsAreSized}
use Rattle.iteration.specs.Solution.{Solution, IsSolution, stored_in, read_in}
use Rattle.iteration.proofs.Planned.{points}

pub points-in : (c : Parts) (delay descend point : ℕ) (s : Solution) → IsSolution (graph_of c) delay descend s → point < length c.owners
    → point < length s.values
points-in c delay descend point s solved lt = omega (arith, solved.points, points c, lt)

-- the dimensions of a point's procedure, found in two steps
owners-dims : (c : Parts) (point owner : ℕ) (p : Proc) → owner ≡ owner_of c point → p ≡ proc_at c owner → (proc_at c (owner_of c point)).dims ≡ p.dims
owners-dims c point owner p own is = sym (ap (λ (q : Proc). q.dims) is ∙ ap (λ (k : ℕ). (proc_at c k).dims) own)

pub stored-dims : SolutionsAreSized → (c : Parts) (delay descend point : ℕ) (s : Solution) (owner : ℕ) (p : Proc) (v : Octagon) → IsSolution (graph_of c) delay descend s
    → point < length c.owners → v ≡ stored_in s point → owner ≡ owner_of c point → p ≡ proc_at c owner → v.dims ≡ p.dims
unfolding graph_of
stored-dims sized c delay descend point s owner p v solved lt is own found =
    ap (λ (w : Octagon). w.dims) (is ∙ solved.stored point lt) ∙ (sized (graph_of c) delay descend).cells.dims point lt ∙ owners-dims c point owner p own found

pub read-dims : SolutionsAreSized → (c : Parts) (delay descend point : ℕ) (s : Solution) (owner : ℕ) (p : Proc) (v : Octagon) → IsSolution (graph_of c) delay descend s
    → point < length c.owners → v ≡ read_in s point → owner ≡ owner_of c point → p ≡ proc_at c owner → v.dims ≡ p.dims
unfolding graph_of
read-dims sized c delay descend point s owner p v solved lt is own found =
    ap (λ (w : Octagon). w.dims) (is ∙ solved.read point lt) ∙ (sized (graph_of c) delay descend).dims point lt ∙ owners-dims c point owner p own found
