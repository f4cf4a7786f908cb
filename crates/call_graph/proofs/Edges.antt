-- The edges of a core are the arcs of its graph, one for one.
use Rattle.std.proofs.Common.{◌≡◌, ◌≢◌, ℕ, ◌<◌, ◌≤◌, ◌⊎◌, inl, inr, Bool, true, false, ◌&&◌, eqb, leb, length, get_or, take, refl, sym, ap, ◌∙◌, subst, arith}
use Rattle.std.proofs.lemmas.Bool.Decides.{Decides-eqb, eqb_tells, leb_tells}
use Rattle.std.proofs.lemmas.List.{get_or-map, length-map, take_all}
use Rattle.spl_core.specs.declared.parts.Span.{Span}
use Rattle.spl_core.specs.declared.parts.Edge.{Edge}
use Rattle.spl_core.specs.declared.parts.Action.{Action}
use Rattle.spl_core.specs.declared.parts.Action.TheVariants as action
use Rattle.spl_core.specs.Parts.{Parts, edge_at, no_edge}
use Rattle.spl_core.specs.Graph.{graph_of, move_of, arc_of, no_arc}
use Rattle.call_graph.specs.Reach.{is_call_of, is_call_from}
use Rattle.call_graph.specs.Order.{closes_loop_at}

pub procs_same : (c : Parts) → length c.procs ≡ length (graph_of c).procs
unfolding graph_of
procs_same c = refl

pub edges_long : (c : Parts) → length (graph_of c).arcs ≡ length c.edges
unfolding graph_of
edges_long c = length-map c.edges (arc_of c)

pub all_arcs : (c : Parts) (e : ℕ) → length c.edges ≤ e → take e (graph_of c).arcs ≡ (graph_of c).arcs
all_arcs c e h = take_all e (graph_of c).arcs (omega (arith, edges_long c))

pub arc_is : (c : Parts) (e : ℕ) → e < length c.edges → get_or (graph_of c).arcs e no_arc ≡ arc_of c (edge_at c e)
unfolding graph_of
arc_is c e lt = get_or-map (arc_of c) c.edges e no_edge no_arc lt

-- an edge of p that calls, and that calls nothing
pub calls_one : (c : Parts) (p callee e : ℕ) (edge : Edge) (args targets : Span) → e < length c.edges → edge ≡ edge_at c e → get_or c.owners edge.source 0 ≡ p → edge.action ≡ action.Call callee args targets → (x : ℕ) → is_call_from (graph_of c) p x (get_or (graph_of c).arcs e no_arc) ≡ eqb callee x
unfolding graph_of
calls_one c p callee e edge args targets lt found own is x =
    ap (is_call_from (graph_of c) p x) (arc_is c e lt ∙ ap (arc_of c) (sym found))
    ∙ ap (λ b. b && is_call_of x (move_of c edge.action)) ((Decides-eqb (get_or c.owners edge.source 0) p).1 own)
    ∙ ap (λ a. is_call_of x (move_of c a)) is

quiet : (c : Parts) (x : ℕ) (a : Action) → ((q : ℕ) (args targets : Span) → a ≡ action.Call q args targets → ⊥) → is_call_of x (move_of c a) ≡ false
quiet c x action.Skip none = refl
quiet c x (action.Assign target e) none = refl
quiet c x (action.Havoc target) none = refl
quiet c x (action.Test e wanted) none = refl
quiet c x (action.Call q args targets) none = absurd (none q args targets refl)
quiet c x (action.Start pairs) none = refl

pub calls_none : (c : Parts) (p e : ℕ) (edge : Edge) → e < length c.edges → edge ≡ edge_at c e → get_or c.owners edge.source 0 ≡ p → ((q : ℕ) (args targets : Span) → edge.action ≡ action.Call q args targets → ⊥) → (x : ℕ) → is_call_from (graph_of c) p x (get_or (graph_of c).arcs e no_arc) ≡ false
unfolding graph_of
calls_none c p e edge lt found own none x =
    ap (is_call_from (graph_of c) p x) (arc_is c e lt ∙ ap (arc_of c) (sym found))
    ∙ ap (λ b. b && is_call_of x (move_of c edge.action)) ((Decides-eqb (get_or c.owners edge.source 0) p).1 own)
    ∙ quiet c x edge.action none

-- an edge of another procedure
pub other_owner : (c : Parts) (p e : ℕ) (edge : Edge) → e < length c.edges → edge ≡ edge_at c e → (get_or c.owners edge.source 0 ≡ p → ⊥) → (x : ℕ) → is_call_from (graph_of c) p x (get_or (graph_of c).arcs e no_arc) ≡ false
unfolding graph_of
other_owner c p e edge lt found none x =
    ap (is_call_from (graph_of c) p x) (arc_is c e lt ∙ ap (arc_of c) (sym found))
    ∙ ap (λ b. b && is_call_of x (move_of c edge.action)) apart
  where
    apart : eqb (get_or c.owners edge.source 0) p ≡ false
    apart = elim (eqb_tells (get_or c.owners edge.source 0) p) [ inl t ↦ absurd (none t.1) | inr t ↦ t.0 ]

-- an edge onward closes no loop
pub onward_edge : (c : Parts) (e : ℕ) (edge : Edge) → e < length c.edges → edge ≡ edge_at c e → edge.source < edge.target → (x : ℕ) → closes_loop_at x (get_or (graph_of c).arcs e no_arc) ≡ false
onward_edge c e edge lt found onward x = ap (closes_loop_at x) (arc_is c e lt ∙ ap (arc_of c) (sym found)) ∙ by (eqb_tells edge.target x)
  where
    closed : (b : Bool) → (b && false) ≡ false
    closed true = refl
    closed false = refl

    far : leb edge.target edge.source ≡ false
    far = elim (leb_tells edge.target edge.source) [ inl t ↦ absurd (omega (arith, t.1)) | inr t ↦ t.0 ]

    by : ((eqb edge.target x ≡ true) × (edge.target ≡ x)) ⊎ ((eqb edge.target x ≡ false) × (edge.target ≢ x)) → (eqb edge.target x && leb x edge.source) ≡ false
    by (inl s) = ap (λ b. eqb edge.target x && b) (subst (λ y. leb y edge.source ≡ false) s.1 far) ∙ closed (eqb edge.target x)
    by (inr s) = ap (λ b. b && leb x edge.source) s.0

-- an edge back closes the loop at its target alone
pub edge_back : (c : Parts) (e : ℕ) (edge : Edge) → e < length c.edges → edge ≡ edge_at c e → edge.target ≤ edge.source → (x : ℕ) → closes_loop_at x (get_or (graph_of c).arcs e no_arc) ≡ eqb edge.target x
edge_back c e edge lt found back x = ap (closes_loop_at x) (arc_is c e lt ∙ ap (arc_of c) (sym found)) ∙ by (eqb_tells edge.target x)
  where
    near : leb edge.target edge.source ≡ true
    near = elim (leb_tells edge.target edge.source) [ inl t ↦ t.0 | inr t ↦ absurd (omega (arith, t.1)) ]

    open_right : (b : Bool) → (b && true) ≡ b
    open_right true = refl
    open_right false = refl

    by : ((eqb edge.target x ≡ true) × (edge.target ≡ x)) ⊎ ((eqb edge.target x ≡ false) × (edge.target ≢ x)) → (eqb edge.target x && leb x edge.source) ≡ eqb edge.target x
    by (inl s) = ap (λ b. eqb edge.target x && b) (subst (λ y. leb y edge.source ≡ true) s.1 near) ∙ open_right (eqb edge.target x)
    by (inr s) = ap (λ b. b && leb x edge.source) s.0 ∙ sym s.0
