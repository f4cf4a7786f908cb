-- What the code brings from a source is what the definition brings, over the dimensions of the point.
use Rattle.std.proofs.Common.{◌≡◌, ℕ, ◌<◌, true, [], length, get_or, map, refl, sym, ap, subst, arith, ◌∙◌, eqb-true}
use Rattle.std.specs.List.{range_with_len}
use Rattle.std.proofs.lemmas.Bool.{false≢true}
use Rattle.std.proofs.lemmas.List.{get_or-map, length-map}
use Rattle.std.proofs.lemmas.List.FromFn.{length-range_with_len, get_or-map-range_with_len}
use Rattle.oct_def.specs.Octagon.{Octagon, bottom_value, top_value}
use Rattle.spl_core.specs.declared.parts.Edge.{Edge}
use Rattle.spl_core.specs.Parts.{Parts, edge_at, no_edge, owner_of, proc_at}
use Rattle.spl_core.specs.Facts.{EdgeFits, IsCore}
use Rattle.spl_core.specs.Graph.{Move, skips, assigns, havocs, tests, calls, starts, Graph, Arc, no_arc, arc_at, arc_of, move_of, proc_of, dims_at, graph_of}
use Rattle.spl_core.specs.GraphFacts.{ArcFits}
use Rattle.spl_core.proofs.Graphs.{arc_is, arc_count, cores_are_graphs}
use Rattle.transfer_def.specs.Enter.{enter_value}
use Rattle.transfer_def.specs.Back.{back_value}
use Rattle.transfer_def.specs.Move.{move_value, IsMoveOver}
use Rattle.transfer_def.proofs.Moves.{over-fits, dims-move_value}
use Rattle.call_graph.specs.Reach.{is_call_of}
use Rattle.equations.specs.declared.source.Source.{Source}
use Rattle.equations.specs.declared.source.Source.TheVariants.{Always, Flow, Enter, Back}
use Rattle.equations.specs.Sources.{SourceFits, sources, readers}
use Rattle.equations.specs.Table.{Table, table_of}
use Rattle.equations.specs.Equations.{entered_by, returned_by, brought, AreSized}

pub points : (c : Parts) → length (graph_of c).owners ≡ length c.owners
unfolding graph_of
points c = refl

pub proc-dims : (c : Parts) (p : ℕ) → dims_at (graph_of c) p ≡ (proc_at c (owner_of c p)).dims
unfolding graph_of
proc-dims c p = refl

-- ---- the edge of a source

pub edge_fits : (c : Parts) (e : ℕ) (edge : Edge) → IsCore c → e < length c.edges → edge ≡ edge_at c e → EdgeFits c edge
edge_fits c e edge core l is = subst (EdgeFits c) (sym is) (core.edges e no_edge l)

pub old-dims : (c : Parts) (r : ℕ → Octagon) (e : ℕ) (edge : Edge) (old : Octagon) → IsCore c → AreSized (graph_of c) r → e < length c.edges → edge ≡ edge_at c e → old ≡ r edge.source
    → old.dims ≡ (proc_at c (owner_of c edge.source)).dims
old-dims c r e edge old core sized l is o =
    let f = edge_fits c e edge core l is in
    ap (λ (v : Octagon). v.dims) o ∙ sized.dims edge.source (omega (arith, f.source, points c)) ∙ proc-dims c edge.source

pub move_over : (c : Parts) (r : ℕ → Octagon) (e : ℕ) (edge : Edge) (old : Octagon) → IsCore c → AreSized (graph_of c) r → e < length c.edges → edge ≡ edge_at c e → old ≡ r edge.source
    → IsMoveOver old.dims (move_of c edge.action)
unfolding graph_of
move_over c r e edge old core sized l is o =
    let f = cores_are_graphs c core in
    let fit = f.1.arcs e (arc_of c no_edge) (omega (arith, l, arc_count c)) in
    let at : get_or (map (arc_of c) c.edges) e (arc_of c no_edge) ≡ arc_of c edge = get_or-map (arc_of c) c.edges e no_edge (arc_of c no_edge) l ∙ ap (arc_of c) (sym is) in
    let acts = subst (λ (a : Arc). IsMoveOver (proc_at c (owner_of c a.source)).dims a.move) at (over-fits c.procs (proc_at c (owner_of c (get_or (map (arc_of c) c.edges) e (arc_of c no_edge)).source)) (get_or (map (arc_of c) c.edges) e (arc_of c no_edge)).move fit.acts) in
    subst (λ (n : ℕ). IsMoveOver n (move_of c edge.action)) (sym (old-dims c r e edge old core sized l is o)) acts

-- ---- what a source brings

pub flow_is : (c : Parts) (r : ℕ → Octagon) (p e : ℕ) (edge : Edge) (old v : Octagon) → edge ≡ edge_at c e → old ≡ r edge.source → v ≡ move_value (move_of c edge.action) old → v ≡ brought (graph_of c) r p (Flow e)
flow_is c r p e edge old v is o h =
    h ∙ ap (move_value (move_of c edge.action)) o
    ∙ ap (λ (x : Edge). move_value (move_of c x.action) (r x.source)) is
    ∙ sym (ap (λ (a : Arc). move_value a.move (r a.source)) (arc_is c e))

pub enter_is : (c : Parts) (r : ℕ → Octagon) (p e : ℕ) (edge : Edge) (old v : Octagon) → edge ≡ edge_at c e → old ≡ r edge.source → v ≡ entered_by (graph_of c) (move_of c edge.action) old → v ≡ brought (graph_of c) r p (Enter e)
enter_is c r p e edge old v is o h =
    h ∙ ap (entered_by (graph_of c) (move_of c edge.action)) o
    ∙ ap (λ (x : Edge). entered_by (graph_of c) (move_of c x.action) (r x.source)) is
    ∙ sym (ap (λ (a : Arc). entered_by (graph_of c) a.move (r a.source)) (arc_is c e))

pub back_is : (c : Parts) (r : ℕ → Octagon) (p e : ℕ) (edge : Edge) (old v : Octagon) → edge ≡ edge_at c e → old ≡ r edge.source → v ≡ returned_by (graph_of c) r (move_of c edge.action) old → v ≡ brought (graph_of c) r p (Back e)
back_is c r p e edge old v is o h =
    h ∙ ap (returned_by (graph_of c) r (move_of c edge.action)) o
    ∙ ap (λ (x : Edge). returned_by (graph_of c) r (move_of c x.action) (r x.source)) is
    ∙ sym (ap (λ (a : Arc). returned_by (graph_of c) r a.move (r a.source)) (arc_is c e))

-- ---- its dimensions

entered-dims : (g : Graph) (q : ℕ) (m : Move) (v : Octagon) → is_call_of q m ≡ true → (entered_by g m v).dims ≡ (proc_of g q).dims
unfolding enter_value
entered-dims g q skips v t = absurd (false≢true t)
entered-dims g q (assigns x e) v t = absurd (false≢true t)
entered-dims g q (havocs x) v t = absurd (false≢true t)
entered-dims g q (tests w wanted) v t = absurd (false≢true t)
entered-dims g q (calls callee args targets) v t = ap (λ (k : ℕ). (proc_of g k).dims) (eqb-true callee q t)
entered-dims g q (starts copies) v t = absurd (false≢true t)

returned-dims : (g : Graph) (r : ℕ → Octagon) (m : Move) (v : Octagon) → (returned_by g r m v).dims ≡ v.dims
unfolding back_value
returned-dims g r skips v = refl
returned-dims g r (assigns x e) v = refl
returned-dims g r (havocs x) v = refl
returned-dims g r (tests w wanted) v = refl
returned-dims g r (calls callee args targets) v = refl
returned-dims g r (starts copies) v = refl

pub fit_arc : (c : Parts) (e : ℕ) → IsCore c → e < length c.edges → ArcFits (graph_of c) (arc_at (graph_of c) e)
fit_arc c e core l = let f = cores_are_graphs c core in f.1.arcs e no_arc (omega (arith, l, arc_count c))

-- the value read at an edge's source has the dimensions of its target
along : (c : Parts) (r : ℕ → Octagon) (p e : ℕ) → IsCore c → AreSized (graph_of c) r → e < length c.edges → (edge_at c e).target ≡ p
    → (r (arc_at (graph_of c) e).source).dims ≡ dims_at (graph_of c) p
along c r p e core sized l t =
    let f = fit_arc c e core l in
    sized.dims (arc_at (graph_of c) e).source f.source
    ∙ ap (λ (o : ℕ). (proc_of (graph_of c) o).dims) f.one_owner
    ∙ ap (dims_at (graph_of c)) (ap (λ (a : Arc). a.target) (arc_is c e) ∙ t)

owner_is : (c : Parts) (p q : ℕ) → owner_of c p ≡ q → (proc_of (graph_of c) q).dims ≡ dims_at (graph_of c) p
unfolding graph_of
owner_is c p q e = ap (λ (o : ℕ). (proc_of (graph_of c) o).dims) (sym e)

pub brought-dims : (c : Parts) (r : ℕ → Octagon) (p : ℕ) (s : Source) → IsCore c → AreSized (graph_of c) r → SourceFits c p s → (brought (graph_of c) r p s).dims ≡ dims_at (graph_of c) p
unfolding top_value
brought-dims c r p Always core sized h = refl
brought-dims c r p (Flow e) core sized h =
    dims-move_value (arc_at (graph_of c) e).move (r (arc_at (graph_of c) e).source) ∙ along c r p e core sized h.0 h.1
brought-dims c r p (Enter e) core sized h =
    entered-dims (graph_of c) (owner_of c p) (arc_at (graph_of c) e).move (r (arc_at (graph_of c) e).source)
    (ap (λ (a : Arc). is_call_of (owner_of c p) a.move) (arc_is c e) ∙ h.1)
    ∙ owner_is c p (owner_of c p) refl
brought-dims c r p (Back e) core sized h =
    returned-dims (graph_of c) r (arc_at (graph_of c) e).move (r (arc_at (graph_of c) e).source) ∙ along c r p e core sized h.0 h.1

pub bottom-dims : (n : ℕ) → (bottom_value n).dims ≡ n
unfolding bottom_value
bottom-dims n = refl

-- ---- the tables

pub sources_read : (c : Parts) (table : Table) (p : ℕ) → table ≡ table_of (graph_of c) → p < length c.owners → get_or table.lists p [] ≡ sources (graph_of c) p
unfolding table_of graph_of
sources_read c table p e l =
    ap (λ (t : Table). get_or t.lists p []) e ∙ get_or-map-range_with_len (sources (graph_of c)) 0 (length c.owners) p p [] l (omega arith)

pub readers_read : (c : Parts) (table : Table) (p : ℕ) → table ≡ table_of (graph_of c) → p < length c.owners → get_or table.readers p [] ≡ readers (graph_of c) p
unfolding table_of graph_of
readers_read c table p e l =
    ap (λ (t : Table). get_or t.readers p []) e ∙ get_or-map-range_with_len (readers (graph_of c)) 0 (length c.owners) p p [] l (omega arith)

pub lists_long : (c : Parts) (table : Table) → table ≡ table_of (graph_of c) → length table.lists ≡ length c.owners
unfolding table_of graph_of
lists_long c table e =
    ap (λ (t : Table). length t.lists) e ∙ length-map (range_with_len 0 (length c.owners)) (sources (graph_of c)) ∙ length-range_with_len 0 (length c.owners)

pub readers_long : (c : Parts) (table : Table) → table ≡ table_of (graph_of c) → length table.readers ≡ length c.owners
unfolding table_of graph_of
readers_long c table e =
    ap (λ (t : Table). length t.readers) e ∙ length-map (range_with_len 0 (length c.owners)) (readers (graph_of c)) ∙ length-range_with_len 0 (length c.owners)
