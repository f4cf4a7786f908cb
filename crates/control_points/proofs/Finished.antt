-- From the graph and the parts that were built to a core.
use Rattle.std.proofs.Common.{◌≡◌, ℕ, List, [], ◌∷◌, map, get_or, refl, sym, ap, ◌∙◌, subst, arith}
use Rattle.spl_core.specs.declared.parts.Proc.{Proc}
use Rattle.spl_core.specs.declared.parts.Edge.{Edge}
use Rattle.spl_core.specs.declared.parts.Action.{Action}
use Rattle.spl_core.specs.declared.parts.Action.TheVariants as action
use Rattle.spl_core.specs.Parts.{Parts}
use Rattle.spl_core.specs.Facts.{IsCore}
use Rattle.spl_core.specs.GraphFacts.{ActionIsIn, NumbersFit, IsGraph, GraphsAreCores}
use Rattle.spl_core.specs.Graph.{Arc, Graph, move_of, arc_of, graph_of}
use Rattle.control_points.specs.Nodes.{AreNodes, Stretch}
use Rattle.control_points.specs.Building.{Building, building, with_edges, IsBuilding, arcs_in}
use Rattle.control_points.specs.declared.built.Fail.{Fail}
use Rattle.control_points.specs.declared.nodes_made.Made.{Made}
use Rattle.control_points.proofs.Growing.{fits_more}

-- the parts of the whole core
abbrev pub whole : Parts → List Edge → List ℕ → List Proc → List ℕ → Parts
whole n es ds procs owners = record { procs = procs; owners = owners; edges = es; dims = ds; exprs = n.exprs; conds = n.conds }

move_same : (n : Parts) (es : List Edge) (ds : List ℕ) (procs : List Proc) (owners : List ℕ) (a : Action) → move_of (whole n es ds procs owners) a ≡ move_of (with_edges n es ds) a
move_same n es ds procs owners action.Skip = refl
move_same n es ds procs owners (action.Assign t e) = refl
move_same n es ds procs owners (action.Havoc t) = refl
move_same n es ds procs owners (action.Test e w) = refl
move_same n es ds procs owners (action.Call p args targets) = refl
move_same n es ds procs owners (action.Start pairs) = refl

arcs_same : (n : Parts) (es : List Edge) (ds : List ℕ) (procs : List Proc) (owners : List ℕ) (xs : List Edge) → map (arc_of (whole n es ds procs owners)) xs ≡ map (arc_of (with_edges n es ds)) xs
arcs_same n es ds procs owners [] = refl
arcs_same n es ds procs owners (x ∷ xs) =
    ap (λ m. record { source = x.source; target = x.target; move = m } ∷ map (arc_of (whole n es ds procs owners)) xs) (move_same n es ds procs owners x.action)
    ∙ ap (λ l. arc_of (with_edges n es ds) x ∷ l) (arcs_same n es ds procs owners xs)

-- what an edge names is within the lists of the whole
in_whole : (n : Parts) (es : List Edge) (ds : List ℕ) (procs : List Proc) (owners : List ℕ) (a : Action) → ActionIsIn (with_edges n es ds) a → ActionIsIn (whole n es ds procs owners) a
in_whole n es ds procs owners action.Skip i = tt
in_whole n es ds procs owners (action.Assign t e) i = i
in_whole n es ds procs owners (action.Havoc t) i = tt
in_whole n es ds procs owners (action.Test e w) i = i
in_whole n es ds procs owners (action.Call p args targets) i = i
in_whole n es ds procs owners (action.Start pairs) i = i

numbers_fit : (n : Parts) (es : List Edge) (ds : List ℕ) (procs : List Proc) (owners : List ℕ) (none : Made) → AreNodes n → IsBuilding (with_edges n es ds) none → NumbersFit (whole n es ds procs owners)
numbers_fit n es ds procs owners none a b = record {
  few_edges = b.few_edges;
  few_dims = b.few_dims;
  few_exprs = a.few_exprs;
  few_conds = a.few_conds;
  exprs = a.exprs;
  conds = λ k d lt. fits_more n (whole n es ds procs owners) k (get_or n.conds k d) (omega arith) (a.conds k d lt);
  edges = λ k d lt. in_whole n es ds procs owners (get_or es k d).action (b.edges k d lt);
}

pub finished_graph : (n : Parts) (es : List Edge) (ds : List ℕ) (procs : List Proc) (owners : List ℕ) → graph_of (whole n es ds procs owners) ≡ record { procs = procs; owners = owners; arcs = arcs_in (with_edges n es ds) }
unfolding graph_of
finished_graph n es ds procs owners = ap (λ (l : List Arc). record { procs = procs; owners = owners; arcs = l }) (arcs_same n es ds procs owners es)

pub finished : GraphsAreCores → (n : Parts) (es : List Edge) (ds : List ℕ) (procs : List Proc) (owners : List ℕ) (none : Made) → AreNodes n → IsBuilding (with_edges n es ds) none → IsGraph (record { procs = procs; owners = owners; arcs = arcs_in (with_edges n es ds) }) → IsCore (whole n es ds procs owners)
finished law n es ds procs owners none a b g = law (whole n es ds procs owners) (numbers_fit n es ds procs owners none a b) (subst IsGraph (sym (finished_graph n es ds procs owners)) g)

-- from a builder's state
pub finished_core : GraphsAreCores → (n0 n : Parts) (es : List Edge) (ds : List ℕ) (fs : List Fail) (points : ℕ) (v : Stretch) (b : Building) (procs : List Proc) (owners : List ℕ) (none : Made) → building n0 es ds fs points v ≡ b → n0 ≡ n → AreNodes n → IsBuilding (with_edges n0 es ds) none
    → IsGraph (record { procs = procs; owners = owners; arcs = arcs_in b.parts }) → IsCore (whole n es ds procs owners)
finished_core law n0 n es ds fs points v b procs owners none e f a h g =
    let P : Building → Type 0 = λ x. IsGraph (record { procs = procs; owners = owners; arcs = arcs_in x.parts }) in
    let Q : Parts → Type 0 = λ x. IsGraph (record { procs = procs; owners = owners; arcs = arcs_in (with_edges x es ds) }) in
    let R : Parts → Type 0 = λ x. IsBuilding (with_edges x es ds) none in
    finished law n es ds procs owners none a (subst R f h) (subst Q f (subst P (sym e) g))

pub core_graph : (n0 n c : Parts) (es : List Edge) (ds : List ℕ) (fs : List Fail) (points : ℕ) (v : Stretch) (b : Building) (procs : List Proc) (owners : List ℕ) → building n0 es ds fs points v ≡ b → n0 ≡ n → c ≡ whole n es ds procs owners
    → graph_of c ≡ record { procs = procs; owners = owners; arcs = arcs_in b.parts }
core_graph n0 n c es ds fs points v b procs owners e f g =
    let G : List Arc → Graph = λ l. record { procs = procs; owners = owners; arcs = l } in
    ap graph_of g ∙ (finished_graph n es ds procs owners ∙ (ap (λ (x : Parts). G (arcs_in (with_edges x es ds))) (sym f) ∙ ap (λ (x : Building). G (arcs_in x.parts)) e))
