-- Parts are those of a core exactly where their numbers fit and they stand for a graph with a core's facts.
use Rattle.std.proofs.Common.{◌≡◌, ℕ, suc, ◌%◌, ◌<◌, List, [], ◌∷◌, length, map, get_or, drop, sym, ap, ◌∙◌, subst, arith, length-drop}
use Rattle.std.specs.List.{All}
use Rattle.std.proofs.lemmas.List.{length-map, length-take}
use Rattle.std.proofs.lemmas.List.Elements.{All-nil, All-cons, All-head}
use Rattle.std.proofs.Math.ListN.{get_or-map}
use Rattle.spl_core.specs.declared.parts.Span.{Span}
use Rattle.spl_core.specs.declared.parts.Edge.{Edge}
use Rattle.spl_core.specs.declared.parts.Action.{Action}
use Rattle.spl_core.specs.declared.parts.Action.TheVariants as action
use Rattle.spl_core.specs.declared.parts.Proc.{Proc}
use Rattle.spl_core.specs.Parts.{Parts, no_edge, proc_at, edge_at, owner_of, span_dims}
use Rattle.spl_core.specs.Facts.{IsWritable, CallFits, ActionFits, EdgeFits, IsCall}
use Rattle.spl_core.specs.Graph.{Copy, Arc, pairs_in, arc_at, move_of, arc_of, graph_of}
use Rattle.spl_core.specs.GraphFacts.{CallMoveFits, CopyFits, MoveFits, ArcFits, IsCallMove, SpanIsIn, ActionIsIn, CoresAreGraphs, GraphsAreCores}

-- ---- edges of the parts and of their graph

pub arc_is : (c : Parts) (e : ℕ) → arc_at (graph_of c) e ≡ arc_of c (edge_at c e)
unfolding graph_of
arc_is c e = get_or-map (arc_of c) c.edges e no_edge

pub arc_count : (c : Parts) → length (graph_of c).arcs ≡ length c.edges
unfolding graph_of
arc_count c = length-map c.edges (arc_of c)

-- how many dimensions a span has
pub span_length : (c : Parts) (s : Span) → SpanIsIn c s → length (span_dims c s) ≡ s.count
span_length c s l = omega (arith, l, length-take s.count (drop s.first c.dims), length-drop s.first c.dims)

-- ---- copies

All-tail : {X : Type 0} (P : X → Type 0) (x : X) (xs : List X) → All P (x ∷ xs) → All P xs
All-tail P x xs h = λ k d lt. h (suc k) d (omega (arith, lt))

copies_fit : (p : Proc) (xs : List ℕ) → All (λ d. d < p.dims) xs → All (λ (k : Copy). IsWritable p k.target) (pairs_in xs) → All (CopyFits p) (pairs_in xs)
copies_fit p [] a w = All-nil (CopyFits p)
copies_fit p (x ∷ []) a w = All-nil (CopyFits p)
copies_fit p (x ∷ y ∷ xs) a w =
    let k : Copy = record { target = x; origin = y } in
    All-cons (CopyFits p) k (pairs_in xs)
    (record { target = All-head (λ (k : Copy). IsWritable p k.target) k (pairs_in xs) w; origin = a 1 0 (omega arith) })
    (copies_fit p xs (λ i d lt. a (suc (suc i)) d (omega (arith, lt))) (All-tail (λ (k : Copy). IsWritable p k.target) k (pairs_in xs) w))

copies_below : (p : Proc) (xs : List ℕ) → length xs % 2 ≡ 0 → All (CopyFits p) (pairs_in xs) → All (λ d. d < p.dims) xs
copies_below p [] e h = All-nil (λ d. d < p.dims)
copies_below p (x ∷ []) e h = absurd (omega (arith, e))
copies_below p (x ∷ y ∷ xs) e h =
    let k : Copy = record { target = x; origin = y } in
    let f : CopyFits p k = All-head (CopyFits p) k (pairs_in xs) h in
    All-cons (λ d. d < p.dims) x (y ∷ xs) f.target.1
    (All-cons (λ d. d < p.dims) y xs f.origin
    (copies_below p xs (omega (arith, e)) (All-tail (CopyFits p) k (pairs_in xs) h)))

-- ---- what an edge does

call_moves : (c : Parts) (p : Proc) (callee : ℕ) (args targets : Span) → CallFits c p callee args targets → CallMoveFits c.procs p callee (span_dims c args) (span_dims c targets)
call_moves c p callee args targets f = record {
  callee_in_range = f.callee_in_range;
  args_below = f.args_fit.1;
  arguments = span_length c args f.args_fit.0 ∙ f.arguments;
  results = span_length c targets f.targets_fit.0 ∙ f.results;
  distinct = f.distinct;
  writable = f.writable;
}

move_fits : (c : Parts) (p : Proc) (a : Action) → ActionFits c p a → MoveFits c.procs p (move_of c a)
move_fits c p action.Skip f = tt
move_fits c p (action.Assign target e) f = (f.0, f.2)
move_fits c p (action.Havoc target) f = f
move_fits c p (action.Test e wanted) f = f.1
move_fits c p (action.Call callee args targets) f = call_moves c p callee args targets f
move_fits c p (action.Start pairs) f = copies_fit p (span_dims c pairs) f.pairs_fit.1 f.copies

action_is_in : (c : Parts) (p : Proc) (a : Action) → ActionFits c p a → ActionIsIn c a
action_is_in c p action.Skip f = tt
action_is_in c p (action.Assign target e) f = f.1
action_is_in c p (action.Havoc target) f = tt
action_is_in c p (action.Test e wanted) f = f.0
action_is_in c p (action.Call callee args targets) f = (f.args_fit.0, f.targets_fit.0)
action_is_in c p (action.Start pairs) f = (f.pairs_fit.0, f.even)

action_fits : (c : Parts) (p : Proc) (a : Action) → ActionIsIn c a → MoveFits c.procs p (move_of c a) → ActionFits c p a
action_fits c p action.Skip i h = tt
action_fits c p (action.Assign target e) i h = (h.0, i, h.1)
action_fits c p (action.Havoc target) i h = h
action_fits c p (action.Test e wanted) i h = (i, h)
action_fits c p (action.Call callee args targets) i h = record {
  callee_in_range = h.callee_in_range;
  args_fit = (i.0, h.args_below);
  targets_fit = (i.1, λ k d lt. let w = h.writable k d lt in w.1);
  arguments = sym (span_length c args i.0) ∙ h.arguments;
  results = sym (span_length c targets i.1) ∙ h.results;
  distinct = h.distinct;
  writable = h.writable;
}
action_fits c p (action.Start pairs) i h = record {
  pairs_fit = (i.0, copies_below p (span_dims c pairs) (ap (λ k. k % 2) (span_length c pairs i.0) ∙ i.1) h);
  even = i.1;
  copies = λ k d lt. let w = h k d lt in w.target;
}

is_call : (c : Parts) (a : Action) → IsCallMove (move_of c a) → IsCall a
is_call c action.Skip h = h
is_call c (action.Assign target e) h = h
is_call c (action.Havoc target) h = h
is_call c (action.Test e wanted) h = h
is_call c (action.Call callee args targets) h = h
is_call c (action.Start pairs) h = h

is_call_move : (c : Parts) (a : Action) → IsCall a → IsCallMove (move_of c a)
is_call_move c action.Skip h = h
is_call_move c (action.Assign target e) h = h
is_call_move c (action.Havoc target) h = h
is_call_move c (action.Test e wanted) h = h
is_call_move c (action.Call callee args targets) h = h
is_call_move c (action.Start pairs) h = h

-- ---- edges

arc_fits : (c : Parts) (e : Edge) → EdgeFits c e → ArcFits (graph_of c) (arc_of c e)
unfolding graph_of
arc_fits c e f = record {
  source = f.source;
  target = f.target;
  one_owner = f.one_owner;
  acts = move_fits c (proc_at c (owner_of c e.source)) e.action f.acts;
  no_entry = f.no_entry;
  no_exit = f.no_exit;
}

edge_fits : (c : Parts) (e : Edge) → ActionIsIn c e.action → ArcFits (graph_of c) (arc_of c e) → EdgeFits c e
unfolding graph_of
edge_fits c e i f = record {
  source = f.source;
  target = f.target;
  one_owner = f.one_owner;
  acts = action_fits c (proc_at c (owner_of c e.source)) e.action i f.acts;
  no_entry = f.no_entry;
  no_exit = f.no_exit;
}

-- a fact of each item of a list, told of what the items stand for
each_mapped : {X Y : Type 0} (P : Y → Type 0) (f : X → Y) (xs : List X) → ((k : ℕ) (d : X) → k < length xs → P (f (get_or xs k d))) → All P (map f xs)
each_mapped P f [] h = All-nil P
each_mapped P f (x ∷ xs) h = All-cons P (f x) (map f xs) (h 0 x (omega arith)) (each_mapped P f xs (λ k d lt. h (suc k) d (omega (arith, lt))))

mapped_each : {X Y : Type 0} (P : Y → Type 0) (f : X → Y) (xs : List X) → All P (map f xs) → (k : ℕ) (d : X) → k < length xs → P (f (get_or xs k d))
mapped_each P f xs h = λ k d lt. subst P (get_or-map f xs k d) (h k (f d) (omega (arith, lt, length-map xs f)))

-- ---- both ways

pub cores_are_graphs : CoresAreGraphs
unfolding graph_of
cores_are_graphs c is = (
  record {
    few_edges = is.few.edges;
    few_dims = is.few.dims;
    few_exprs = is.few.exprs;
    few_conds = is.few.conds;
    exprs = is.exprs;
    conds = is.conds;
    edges = λ k d lt. let f = is.edges k d lt in action_is_in c (proc_at c (owner_of c (get_or c.edges k d).source)) (get_or c.edges k d).action f.acts;
  },
  record {
    few_procs = is.few.procs;
    few_points = is.few.points;
    main = is.main;
    no_inputs = is.no_inputs;
    procs = λ k d lt. let f = is.procs k d lt in record { within = f.within; few = f.few; entry = f.entry; exit = f.exit; owns_entry = f.owns_entry; owns_exit = f.owns_exit };
    owners = λ k d lt. is.owners k d lt;
    arcs = each_mapped (ArcFits (graph_of c)) (arc_of c) c.edges (λ k d lt. arc_fits c (get_or c.edges k d) (is.edges k d lt));
    calls_alone = λ i j li lj call same.
        is.calls_alone i j (omega (arith, li, arc_count c)) (omega (arith, lj, arc_count c))
        (is_call c (edge_at c i).action (subst (λ (a : Arc). IsCallMove a.move) (arc_is c i) call))
        (ap (λ (a : Arc). a.source) (sym (arc_is c i)) ∙ (same ∙ ap (λ (a : Arc). a.source) (arc_is c j)));
  },
)

pub graphs_are_cores : GraphsAreCores
unfolding graph_of
graphs_are_cores c n g = record {
  few = record { procs = g.few_procs; points = g.few_points; edges = n.few_edges; dims = n.few_dims; exprs = n.few_exprs; conds = n.few_conds };
  main = g.main;
  no_inputs = g.no_inputs;
  procs = λ k d lt. let f = g.procs k d lt in record { within = f.within; few = f.few; entry = f.entry; exit = f.exit; owns_entry = f.owns_entry; owns_exit = f.owns_exit };
  owners = λ k d lt. g.owners k d lt;
  exprs = n.exprs;
  conds = n.conds;
  edges = λ k d lt. edge_fits c (get_or c.edges k d) (n.edges k d lt) (mapped_each (ArcFits (graph_of c)) (arc_of c) c.edges g.arcs k d lt);
  calls_alone = λ i j li lj call same.
      g.calls_alone i j (omega (arith, li, arc_count c)) (omega (arith, lj, arc_count c))
      (subst (λ (a : Arc). IsCallMove a.move) (sym (arc_is c i)) (is_call_move c (edge_at c i).action call))
      (ap (λ (a : Arc). a.source) (arc_is c i) ∙ (same ∙ ap (λ (a : Arc). a.source) (sym (arc_is c j))));
}
