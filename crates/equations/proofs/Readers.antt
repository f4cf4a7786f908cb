-- The points that read a point, as a loop over the points gathers them.
use Rattle.std.proofs.Common.{◌≡◌, ◌≢◌, ℕ, ◌+◌, ◌<◌, Bool, true, false, cond, ◌||◌, eqb, eq-eqb, ne_eqb, length, get_or, set, map, Vec, Global, List, [], ◌∷◌, ◌++◌, refl, sym, ap, subst, ◌∙◌, arith}
use Rattle.std.proofs.Math.Bool.{or-false}
use Rattle.std.specs.List.{All, Contains, filter, range_with_len}
use Rattle.std.proofs.lemmas.Bool.Decides.{Decides-eqb}
use Rattle.std.proofs.lemmas.List.{append-nil, get_or-map}
use Rattle.std.proofs.lemmas.List.Elements.{All-filter, Contains-get_or}
use Rattle.std.proofs.lemmas.List.Folds.{list_any_at}
use Rattle.std.proofs.lemmas.List.FromFn.{get_or-map-range_with_len}
use Rattle.spl_core.specs.declared.parts.Action.{Action}
use Rattle.spl_core.specs.declared.parts.Action.TheVariants as action
use Rattle.spl_core.specs.declared.parts.Edge.{Edge}
use Rattle.spl_core.specs.declared.parts.Proc.{Proc}
use Rattle.spl_core.specs.declared.parts.Span.{Span}
use Rattle.spl_core.specs.Parts.{Parts, edge_at, no_proc, proc_at, owner_of}
use Rattle.spl_core.specs.Facts.{ActionFits, EdgeFits, IsCore}
use Rattle.spl_core.specs.Graph.{Graph, Arc, graph_of, move_of}
use Rattle.spl_core.proofs.Graphs.{arc_is}
use Rattle.call_graph.proofs.Lists.{from_flat_map}
use Rattle.call_graph.proofs.Ranges.{filter_more}
use Rattle.call_graph.proofs.Sorting.{into_filter, in_range, into_range}
use Rattle.equations.specs.declared.source.Source.{Source}
use Rattle.equations.specs.declared.source.Source.TheVariants.{Flow, Enter, Back}
use Rattle.equations.specs.Sources.{sources, exit_of, reads_of, reads_at, is_read_by, is_reader, readers}
use Rattle.equations.proofs.Gathering.{rows_long, row_put, rows_same, edge_fits}

pub list_read : (lists : List (Vec Source Global)) (f : ℕ → List Source) (n q : ℕ) (list : Vec Source Global) → map (λ (v : Vec Source Global). v.items) lists ≡ map f (range_with_len 0 n) → q < n → list ≡ get_or lists q list → list.items ≡ f q
list_read lists f n q list is lt at =
    ap (λ (v : Vec Source Global). v.items) at
    ∙ sym (get_or-map (λ (v : Vec Source Global). v.items) lists q list [] (omega (arith, lt, rows_long (λ (v : Vec Source Global). v.items) f n lists is)))
    ∙ ap (λ (l : List (List Source)). get_or l q []) is ∙ get_or-map-range_with_len f 0 n q q [] lt (omega arith)

-- ---- what a source reads

pub read_flow : (c : Parts) (p e : ℕ) (edge : Edge) (s : Source) → edge ≡ edge_at c e → s ≡ Flow e → eqb p edge.source ≡ is_read_by (graph_of c) p s
read_flow c p e edge s is h =
    sym (or-false (eqb p edge.source)) ∙ ap (λ (x : Edge). eqb p x.source || false) is ∙ sym (ap (λ (a : Arc). eqb p a.source || false) (arc_is c e)) ∙ sym (ap (is_read_by (graph_of c) p) h)

pub read_enter : (c : Parts) (p e : ℕ) (edge : Edge) (s : Source) → edge ≡ edge_at c e → s ≡ Enter e → eqb p edge.source ≡ is_read_by (graph_of c) p s
read_enter c p e edge s is h =
    sym (or-false (eqb p edge.source)) ∙ ap (λ (x : Edge). eqb p x.source || false) is ∙ sym (ap (λ (a : Arc). eqb p a.source || false) (arc_is c e)) ∙ sym (ap (is_read_by (graph_of c) p) h)

-- a return reads the point before the call, and the exit of the callee
pub read_back : (c : Parts) (p e x : ℕ) (edge : Edge) (s : Source) → edge ≡ edge_at c e → s ≡ Back e → x ≡ exit_of (graph_of c) (move_of c (edge_at c e).action) (edge_at c e).source
    → (eqb p edge.source || eqb p x) ≡ is_read_by (graph_of c) p s
read_back c p e x edge s is h at =
    ap (λ k. eqb p edge.source || eqb p k) at
    ∙ ap (λ (y : Edge). eqb p y.source || eqb p (exit_of (graph_of c) (move_of c (edge_at c e).action) (edge_at c e).source)) is
    ∙ ap (λ (b : Bool). eqb p (edge_at c e).source || b) (sym (or-false (eqb p (exit_of (graph_of c) (move_of c (edge_at c e).action) (edge_at c e).source))))
    ∙ sym (ap (λ (a : Arc). eqb p a.source || (eqb p (exit_of (graph_of c) a.move a.source) || false)) (arc_is c e)) ∙ sym (ap (is_read_by (graph_of c) p) h)

pub exit_called : (c : Parts) (e callee : ℕ) (edge : Edge) (args targets : Span) (q : Proc) → edge ≡ edge_at c e → edge.action ≡ action.Call callee args targets → q ≡ proc_at c callee
    → q.exit ≡ exit_of (graph_of c) (move_of c (edge_at c e).action) (edge_at c e).source
unfolding graph_of
exit_called c e callee edge args targets q is called at =
    ap (λ (r : Proc). r.exit) at
    ∙ sym (ap (λ (a : Action). exit_of (graph_of c) (move_of c a) (edge_at c e).source) (sym (ap (λ (x : Edge). x.action) is) ∙ called))

-- the points that are read are points of the core
pub source_below : (c : Parts) (e : ℕ) (edge : Edge) → IsCore c → e < length c.edges → edge ≡ edge_at c e → edge.source < length c.owners
source_below c e edge is lt found = let fit = edge_fits c e edge is lt found in fit.source

pub exit_below : (c : Parts) (e x : ℕ) → IsCore c → e < length c.edges → x ≡ exit_of (graph_of c) (move_of c (edge_at c e).action) (edge_at c e).source → x < length c.owners
unfolding graph_of
exit_below c e x is lt at = subst (λ k. k < length c.owners) (sym at) (by (edge_at c e).action fit.acts)
  where
    fit : EdgeFits c (edge_at c e)
    fit = edge_fits c e (edge_at c e) is lt refl

    called : (callee : ℕ) → callee + 1 < length c.procs → (proc_at c callee).exit < length c.owners
    called callee l = let fits = is.procs callee no_proc (omega (arith, l)) in fits.exit

    by : (a : Action) → ActionFits c (proc_at c (owner_of c (edge_at c e).source)) a → exit_of (graph_of c) (move_of c a) (edge_at c e).source < length c.owners
    by action.Skip f = fit.source
    by (action.Assign target w) f = fit.source
    by (action.Havoc target) f = fit.source
    by (action.Test w wanted) f = fit.source
    by (action.Call callee args targets) f = called callee f.callee_in_range
    by (action.Start pairs) f = fit.source

-- ---- a point that joins rows

-- a row of points, with one more where a test of the row's point says so
abbrev pub with_reader : (ℕ → List ℕ) → (ℕ → Bool) → ℕ → ℕ → List ℕ
with_reader base test q i = base i ++ cond (test i) (q ∷ []) []

pub tests_same : (base : ℕ → List ℕ) (t u : ℕ → Bool) (q n : ℕ) → ((i : ℕ) → t i ≡ u i) → map (with_reader base t q) (range_with_len 0 n) ≡ map (with_reader base u q) (range_with_len 0 n)
tests_same base t u q n same = rows_same (with_reader base t q) (with_reader base u q) n (λ i l. ap (λ (b : Bool). base i ++ cond b (q ∷ []) []) (same i))

pub reader_joined : (base : ℕ → List ℕ) (test : ℕ → Bool) (n p q : ℕ) (row longer : List ℕ) (old new : List (List ℕ)) → p < n → ((i : ℕ) → All (λ k. k < q) (base i))
    → old ≡ map (with_reader base test q) (range_with_len 0 n) → row ≡ get_or old p [] → ((xs : List ℕ) → row ≡ xs ++ q ∷ [] → longer ≡ row) → (All (λ k. k ≢ q) row → longer ≡ row ++ q ∷ [])
    → new ≡ set old p longer → new ≡ map (with_reader base (λ i. test i || eqb i p) q) (range_with_len 0 n)
reader_joined base test n p q row longer old new lt below is at there fresh now =
    row_put (with_reader base test q) (with_reader base (λ i. test i || eqb i p) q) n p longer old new lt is now (here (test p) refl)
    (λ i l apart. ap (λ (b : Bool). base i ++ cond (test i || b) (q ∷ []) []) (ne_eqb i p apart) ∙ ap (λ (b : Bool). base i ++ cond b (q ∷ []) []) (or-false (test i)))
  where
    was : row ≡ base p ++ cond (test p) (q ∷ []) []
    was = at ∙ ap (λ rows. get_or rows p []) is ∙ get_or-map-range_with_len (with_reader base test q) 0 n p p [] lt (omega arith)

    now_true : with_reader base (λ i. test i || eqb i p) q p ≡ base p ++ cond (test p || true) (q ∷ []) []
    now_true = ap (λ (b : Bool). base p ++ cond (test p || b) (q ∷ []) []) (eq-eqb p p refl)

    here : (b : Bool) → test p ≡ b → with_reader base (λ i. test i || eqb i p) q p ≡ longer
    here true t =
        let row_is : row ≡ base p ++ q ∷ [] = was ∙ ap (λ (b : Bool). base p ++ cond b (q ∷ []) []) t in
        now_true ∙ ap (λ (b : Bool). base p ++ cond (b || true) (q ∷ []) []) t ∙ sym (there (base p) row_is ∙ row_is)
    here false t =
        let row_is : row ≡ base p = was ∙ ap (λ (b : Bool). base p ++ cond b (q ∷ []) []) t ∙ append-nil (base p) in
        now_true ∙ ap (λ (b : Bool). base p ++ cond (b || true) (q ∷ []) []) t
        ∙ sym (fresh (subst (λ (xs : List ℕ). All (λ k. k ≢ q) xs) (sym row_is) (λ k d l e. absurd (omega (arith, below p k d l, e)))) ∙ ap (λ xs. xs ++ q ∷ []) row_is)

-- the rows before point q, and those with it
pub before_below : (g : Graph) (q p : ℕ) → All (λ k. k < q) (filter (is_reader g p) (range_with_len 0 q))
before_below g q p =
    All-filter (is_reader g p) (λ k. k < q) (range_with_len 0 q) (λ k d l. in_range q (get_or (range_with_len 0 q) k d) (Contains-get_or (range_with_len 0 q) k d l))

pub before_rows : (g : Graph) (q n : ℕ) (reads : ℕ → Bool) → ((p : ℕ) → reads p ≡ false)
    → map (λ p. filter (is_reader g p) (range_with_len 0 q)) (range_with_len 0 n) ≡ map (with_reader (λ p. filter (is_reader g p) (range_with_len 0 q)) reads q) (range_with_len 0 n)
before_rows g q n reads none =
    rows_same (λ p. filter (is_reader g p) (range_with_len 0 q)) (with_reader (λ p. filter (is_reader g p) (range_with_len 0 q)) reads q) n
    (λ p l. sym (ap (λ (b : Bool). filter (is_reader g p) (range_with_len 0 q) ++ cond b (q ∷ []) []) (none p) ∙ append-nil (filter (is_reader g p) (range_with_len 0 q))))

pub after_rows : (g : Graph) (q n : ℕ) (reads : ℕ → Bool) → ((p : ℕ) → reads p ≡ is_reader g p q)
    → map (with_reader (λ p. filter (is_reader g p) (range_with_len 0 q)) reads q) (range_with_len 0 n) ≡ map (λ p. filter (is_reader g p) (range_with_len 0 (q + 1))) (range_with_len 0 n)
after_rows g q n reads all =
    rows_same (with_reader (λ p. filter (is_reader g p) (range_with_len 0 q)) reads q) (λ p. filter (is_reader g p) (range_with_len 0 (q + 1))) n
    (λ p l. ap (λ (b : Bool). filter (is_reader g p) (range_with_len 0 q) ++ cond b (q ∷ []) []) (all p) ∙ sym (filter_more (is_reader g p) q))

-- ---- the readers of a point

-- a point one of whose sources reads a point is one of its readers
pub reader_told : (g : Graph) (p q : ℕ) → q < length g.owners → Contains (reads_at g q) p → Contains (readers g p) q
unfolding reads_at readers
reader_told g p q l h =
    let some = from_flat_map (reads_of g) (sources g q) p h in
    into_filter (is_reader g p) (range_with_len 0 (length g.owners)) q (into_range (length g.owners) q l)
    (list_any_at (is_read_by g p) (sources g q) some.0 some.1 some.2 (subst (λ s. is_read_by g p s ≡ true) (sym some.3)
    (list_any_at (eqb p) (reads_of g some.1) some.4.0 p some.4.1 ((Decides-eqb p (get_or (reads_of g some.1) some.4.0 p)).1 (sym some.4.2)))))

-- readers are points
pub readers_within : (g : Graph) (p : ℕ) → All (λ q. q < length g.owners) (readers g p)
unfolding readers
readers_within g p =
    All-filter (is_reader g p) (λ q. q < length g.owners) (range_with_len 0 (length g.owners))
    (λ k d l. in_range (length g.owners) (get_or (range_with_len 0 (length g.owners)) k d) (Contains-get_or (range_with_len 0 (length g.owners)) k d l))
