-- The lists of sources, as one edge after the other is read.
use Rattle.std.proofs.Common.{◌≡◌, ◌≢◌, ℕ, ◌+◌, ◌-◌, ◌<◌, ◌⊎◌, inl, inr, length, map, get_or, set, replicate, Bool, true, false, cond, ◌&&◌, eqb, eq-eqb, eqb-true, ne_eqb, List, [], ◌∷◌, ◌++◌, append_assoc, refl, sym, ap, subst, ◌∙◌, arith}
use Rattle.std.specs.List.{flat_map, range_with_len}
use Rattle.std.proofs.lemmas.Bool.{false≢true}
use Rattle.std.proofs.lemmas.Bool.Decides.{eqb_tells}
use Rattle.std.proofs.lemmas.List.{append-nil, flat_map_more, get_or-set_same, get_or-set_other, length-map, length-set, length-replicate, get_or-replicate}
use Rattle.std.proofs.lemmas.List.FromFn.{length-map-range_with_len, get_or-map-range_with_len, fill_by_all}
use Rattle.spl_core.specs.declared.parts.Action.{Action}
use Rattle.spl_core.specs.declared.parts.Action.TheVariants as action
use Rattle.spl_core.specs.declared.parts.Edge.{Edge}
use Rattle.spl_core.specs.declared.parts.Proc.{Proc}
use Rattle.spl_core.specs.declared.parts.Span.{Span}
use Rattle.spl_core.specs.Facts.{CallFits, ActionFits, EdgeFits, ProcFits, IsCore}
use Rattle.spl_core.specs.Parts.{Parts, proc_at, edge_at, no_edge, no_proc, owner_of}
use Rattle.spl_core.specs.Graph.{Graph, Arc, graph_of, move_of, arc_at, owner_of as graph_owner}
use Rattle.spl_core.proofs.Graphs.{arc_is, arc_count}
use Rattle.call_graph.specs.Reach.{is_call_of}
use Rattle.call_graph.specs.Order.{is_entry}
use Rattle.call_graph.proofs.Edges.{calls_none}
use Rattle.call_graph.proofs.Ranges.{range_more}
use Rattle.equations.specs.declared.source.Source.{Source}
use Rattle.equations.specs.declared.source.Source.TheVariants.{Always, Enter}
use Rattle.equations.specs.Sources.{source_by, source_at_start, source_into_entry, source_into_point, sources}

-- ---- a row of a table

-- there's a list for each number
pub rows_long : {V A : Type 0} → (items : V → List A) (f : ℕ → List A) (n : ℕ) (rows : List V) → map items rows ≡ map f (range_with_len 0 n) → length rows ≡ n
rows_long items f n rows is = sym (length-map rows items) ∙ ap length is ∙ length-map-range_with_len f 0 n

pub rows_kept : {V A : Type 0} → (items : V → List A) (old new : List V) (t : ℕ) (row : List A) → map items new ≡ set (map items old) t row → length new ≡ length old
rows_kept items old new t row is = sym (length-map new items) ∙ ap length is ∙ length-set (map items old) t row ∙ length-map old items

-- one of the lists is replaced
pub row_put : {A : Type 0} → (f h : ℕ → List A) (n t : ℕ) (row : List A) (old new : List (List A)) → t < n → old ≡ map f (range_with_len 0 n) → new ≡ set old t row
    → h t ≡ row → ((i : ℕ) → i < n → i ≢ t → h i ≡ f i) → new ≡ map h (range_with_len 0 n)
row_put f h n t row old new lt is now here other = fill_by_all h new n [] long (λ i l. by i l (eqb_tells t i))
  where
    old_long : length old ≡ n
    old_long = ap length is ∙ length-map-range_with_len f 0 n

    long : length new ≡ n
    long = ap length now ∙ length-set old t row ∙ old_long

    was : (i : ℕ) → i < n → get_or old i [] ≡ f i
    was i l = ap (λ rows. get_or rows i []) is ∙ get_or-map-range_with_len f 0 n i i [] l (omega arith)

    by : (i : ℕ) → i < n → ((eqb t i ≡ true) × (t ≡ i)) ⊎ ((eqb t i ≡ false) × (t ≢ i)) → get_or new i [] ≡ h i
    by i l (inl same) = subst (λ k. get_or new k [] ≡ h k) same.1 (ap (λ rows. get_or rows t []) now ∙ get_or-set_same old t row [] (omega (arith, old_long)) ∙ sym here)
    by i l (inr apart) =
        ap (λ rows. get_or rows i []) now ∙ get_or-set_other old t i row [] (λ e. apart.1 (sym e)) ∙ was i l ∙ sym (other i l (λ e. apart.1 (sym e)))

-- one item joins one of the lists
pub row_longer : {A : Type 0} → (f h : ℕ → List A) (n t : ℕ) (s : A) (old new : List (List A)) → t < n → old ≡ map f (range_with_len 0 n) → new ≡ set old t (get_or old t [] ++ s ∷ [])
    → h t ≡ f t ++ s ∷ [] → ((i : ℕ) → i < n → i ≢ t → h i ≡ f i) → new ≡ map h (range_with_len 0 n)
row_longer f h n t s old new lt is now here other = row_put f h n t (get_or old t [] ++ s ∷ []) old new lt is now (here ∙ ap (λ row. row ++ s ∷ []) (sym was)) other
  where
    was : get_or old t [] ≡ f t
    was = ap (λ rows. get_or rows t []) is ∙ get_or-map-range_with_len f 0 n t t [] lt (omega arith)

-- two tables whose lists are the same
pub rows_same : {A : Type 0} → (f h : ℕ → List A) (n : ℕ) → ((i : ℕ) → i < n → f i ≡ h i) → map f (range_with_len 0 n) ≡ map h (range_with_len 0 n)
rows_same f h n same =
    fill_by_all h (map f (range_with_len 0 n)) n [] (length-map-range_with_len f 0 n) (λ i l. get_or-map-range_with_len f 0 n i i [] l (omega arith) ∙ same i l)

-- a table of empty lists
pub rows_empty : {A : Type 0} → (f : ℕ → List A) (n : ℕ) → ((i : ℕ) → i < n → f i ≡ []) → replicate n [] ≡ map f (range_with_len 0 n)
rows_empty f n none = fill_by_all f (replicate n []) n [] (length-replicate n []) (λ i l. get_or-replicate n i [] [] l ∙ sym (none i l))

-- ---- the sources behind the first edges

-- those of a point: of an entry behind the first i edges, of another point behind the first j
unfoldable pub sources_before : Graph → ℕ → ℕ → ℕ → List Source
sources_before g i j x =
    cond (is_entry g x) (source_at_start g x ++ flat_map (source_into_entry g (graph_owner g x)) (range_with_len 0 i)) (flat_map (source_into_point g x) (range_with_len 0 j))

next_flat : (f : ℕ → List Source) (n : ℕ) → flat_map f (range_with_len 0 (n + 1)) ≡ flat_map f (range_with_len 0 n) ++ f n
next_flat f n = ap (flat_map f) (range_more n) ∙ sym (flat_map_more f [] (range_with_len 0 n) n)

next_into : (b : Bool) (ys : List Source) (f : ℕ → List Source) (j : ℕ) → cond b ys (flat_map f (range_with_len 0 (j + 1))) ≡ cond b ys (flat_map f (range_with_len 0 j)) ++ cond b [] (f j)
next_into true ys f j = sym (append-nil ys)
next_into false ys f j = next_flat f j

next_called : (b : Bool) (start ys : List Source) (f : ℕ → List Source) (i : ℕ)
    → cond b (start ++ flat_map f (range_with_len 0 (i + 1))) ys ≡ cond b (start ++ flat_map f (range_with_len 0 i)) ys ++ cond b (f i) []
next_called true start ys f i = ap (λ l. start ++ l) (next_flat f i) ∙ sym (append_assoc start (flat_map f (range_with_len 0 i)) (f i))
next_called false start ys f i = sym (append-nil ys)

-- one more edge into points, and one more into entries
next_point : (g : Graph) (i j x : ℕ) → sources_before g i (j + 1) x ≡ sources_before g i j x ++ cond (is_entry g x) [] (source_into_point g x j)
unfolding sources_before
next_point g i j x = next_into (is_entry g x) (source_at_start g x ++ flat_map (source_into_entry g (graph_owner g x)) (range_with_len 0 i)) (source_into_point g x) j

next_entry : (g : Graph) (i j x : ℕ) → sources_before g (i + 1) j x ≡ sources_before g i j x ++ cond (is_entry g x) (source_into_entry g (graph_owner g x) i) []
unfolding sources_before
next_entry g i j x = next_called (is_entry g x) (source_at_start g x) (flat_map (source_into_point g x) (range_with_len 0 j)) (source_into_entry g (graph_owner g x)) i

-- a point that gets nothing
same_point : (g : Graph) (i j x : ℕ) → cond (is_entry g x) [] (source_into_point g x j) ≡ [] → sources_before g i (j + 1) x ≡ sources_before g i j x
same_point g i j x none = next_point g i j x ∙ ap (λ l. sources_before g i j x ++ l) none ∙ append-nil (sources_before g i j x)

same_entry : (g : Graph) (i j x : ℕ) → cond (is_entry g x) (source_into_entry g (graph_owner g x) i) [] ≡ [] → sources_before g (i + 1) j x ≡ sources_before g i j x
same_entry g i j x none = next_entry g i j x ∙ ap (λ l. sources_before g i j x ++ l) none ∙ append-nil (sources_before g i j x)

-- behind all edges
pub all_before : (c : Parts) (e : ℕ) → e ≡ length c.edges → map (sources_before (graph_of c) e e) (range_with_len 0 (length c.owners)) ≡ map (sources (graph_of c)) (range_with_len 0 (length c.owners))
unfolding sources_before sources
all_before c e is = ap (λ k. map (sources_before (graph_of c) k k) (range_with_len 0 (length c.owners))) (is ∙ sym (arc_count c))

-- ---- entries

entry_test : (c : Parts) (x : ℕ) → is_entry (graph_of c) x ≡ eqb (proc_at c (owner_of c x)).entry x
unfolding is_entry graph_of
entry_test c x = refl

owner_same : (c : Parts) (x : ℕ) → graph_owner (graph_of c) x ≡ owner_of c x
unfolding graph_of
owner_same c x = refl

-- the entry of a procedure is an entry
entry_of : (c : Parts) (p : ℕ) (q : Proc) → ProcFits c p q → q ≡ proc_at c p → is_entry (graph_of c) q.entry ≡ true
entry_of c p q fit at =
    entry_test c q.entry ∙ eq-eqb (proc_at c (owner_of c q.entry)).entry q.entry (ap (λ o. (proc_at c o).entry) fit.owns_entry ∙ ap (λ (r : Proc). r.entry) (sym at))

-- ---- before any edge

start_here : (c : Parts) (x : ℕ) → (proc_at c (length c.procs - 1)).entry ≡ x → source_at_start (graph_of c) x ≡ Always ∷ []
unfolding graph_of
start_here c x h = ap (λ (b : Bool). cond b (Always ∷ []) []) (eq-eqb x (proc_at c (length c.procs - 1)).entry (sym h))

start_other : (c : Parts) (x : ℕ) → (proc_at c (length c.procs - 1)).entry ≢ x → source_at_start (graph_of c) x ≡ []
unfolding graph_of
start_other c x apart = ap (λ (b : Bool). cond b (Always ∷ []) []) (ne_eqb x (proc_at c (length c.procs - 1)).entry (λ e. apart (sym e)))

main_fits : (c : Parts) (q : Proc) → IsCore c → q ≡ proc_at c (length c.procs - 1) → ProcFits c (length c.procs - 1) q
main_fits c q is at = subst (ProcFits c (length c.procs - 1)) (sym at) (is.procs (length c.procs - 1) no_proc (omega (arith, is.main)))

pub start_below : (c : Parts) (q : Proc) → IsCore c → q ≡ proc_at c (length c.procs - 1) → q.entry < length c.owners
start_below c q is at = let fit = main_fits c q is at in fit.entry

-- main's entry has the source that is always there
pub started : (c : Parts) (q : Proc) (old new : List (List Source)) → IsCore c → q ≡ proc_at c (length c.procs - 1) → old ≡ replicate (length c.owners) []
    → new ≡ set old q.entry (get_or old q.entry [] ++ Always ∷ []) → new ≡ map (source_at_start (graph_of c)) (range_with_len 0 (length c.owners))
started c q old new is at before now =
    row_longer (λ x. []) (source_at_start (graph_of c)) (length c.owners) q.entry Always old new (start_below c q is at) (before ∙ rows_empty (λ x. []) (length c.owners) (λ i l. refl)) now
    (start_here c q.entry (ap (λ (r : Proc). r.entry) (sym at))) (λ i l apart. start_other c i (λ e. apart (sym e ∙ ap (λ (r : Proc). r.entry) (sym at))))

-- main's entry is an entry
pub none_before : (c : Parts) → IsCore c → map (source_at_start (graph_of c)) (range_with_len 0 (length c.owners)) ≡ map (sources_before (graph_of c) 0 0) (range_with_len 0 (length c.owners))
unfolding sources_before
none_before c is = rows_same (source_at_start (graph_of c)) (sources_before (graph_of c) 0 0) (length c.owners) (λ x l. by x (is_entry (graph_of c) x) refl)
  where
    by : (x : ℕ) (b : Bool) → is_entry (graph_of c) x ≡ b → source_at_start (graph_of c) x ≡ cond b (source_at_start (graph_of c) x ++ []) []
    by x true t = sym (append-nil (source_at_start (graph_of c) x))
    by x false t = start_other c x (λ e. absurd (false≢true (sym t ∙ subst (λ k. is_entry (graph_of c) k ≡ true) e
        (entry_of c (length c.procs - 1) (proc_at c (length c.procs - 1)) (main_fits c (proc_at c (length c.procs - 1)) is refl) refl))))

-- ---- the edge into a point

into_point : (c : Parts) (x e : ℕ) (edge : Edge) → edge ≡ edge_at c e → source_into_point (graph_of c) x e ≡ cond (eqb edge.target x) (source_by e (move_of c edge.action) ∷ []) []
into_point c x e edge found =
    ap (λ (a : Arc). cond (eqb a.target x) (source_by e a.move ∷ []) []) (arc_is c e)
    ∙ sym (ap (λ (y : Edge). cond (eqb y.target x) (source_by e (move_of c y.action) ∷ []) []) found)

both_empty : (b : Bool) → cond {A = List Source} b [] [] ≡ []
both_empty true = refl
both_empty false = refl

pub edge_fits : (c : Parts) (e : ℕ) (edge : Edge) → IsCore c → e < length c.edges → edge ≡ edge_at c e → EdgeFits c edge
edge_fits c e edge is lt found = subst (EdgeFits c) (sym found) (is.edges e no_edge lt)

pub target_below : (c : Parts) (e : ℕ) (edge : Edge) → IsCore c → e < length c.edges → edge ≡ edge_at c e → edge.target < length c.owners
target_below c e edge is lt found = let fit = edge_fits c e edge is lt found in fit.target

-- the source behind an edge joins the list of the edge's target, which is no entry
pub point_joined : (c : Parts) (i e : ℕ) (edge : Edge) (s : Source) (old new : List (List Source)) → IsCore c → e < length c.edges → edge ≡ edge_at c e → s ≡ source_by e (move_of c edge.action)
    → old ≡ map (sources_before (graph_of c) i e) (range_with_len 0 (length c.owners)) → new ≡ set old edge.target (get_or old edge.target [] ++ s ∷ [])
    → new ≡ map (sources_before (graph_of c) i (e + 1)) (range_with_len 0 (length c.owners))
point_joined c i e edge s old new is lt found behind before now =
    row_longer (sources_before g i e) (sources_before g i (e + 1)) (length c.owners) edge.target s old new (target_below c e edge is lt found) before now
    (next_point g i e edge.target ∙ ap (λ l. sources_before g i e edge.target ++ l) here)
    (λ x l apart. same_point g i e x (ap (λ ys. cond (is_entry g x) [] ys) (into_point c x e edge found ∙ ap (λ b. cond b (source_by e (move_of c edge.action) ∷ []) []) (ne_eqb edge.target x (λ k. apart (sym k)))) ∙ both_empty (is_entry g x)))
  where
    g : Graph
    g = graph_of c

    fit : EdgeFits c edge
    fit = edge_fits c e edge is lt found

    no_entry : is_entry (graph_of c) edge.target ≡ false
    no_entry = entry_test c edge.target ∙ ne_eqb (proc_at c (owner_of c edge.target)).entry edge.target (λ k. fit.no_entry (sym k))

    here : cond (is_entry (graph_of c) edge.target) [] (source_into_point (graph_of c) edge.target e) ≡ s ∷ []
    here =
        ap (λ b. cond b [] (source_into_point (graph_of c) edge.target e)) no_entry ∙ into_point c edge.target e edge found
        ∙ ap (λ b. cond b (source_by e (move_of c edge.action) ∷ []) []) (eq-eqb edge.target edge.target refl) ∙ ap (λ y. y ∷ []) (sym behind)

-- ---- the edge of a call into an entry

into_called : (c : Parts) (p e callee : ℕ) (edge : Edge) (args targets : Span) → edge ≡ edge_at c e → edge.action ≡ action.Call callee args targets → source_into_entry (graph_of c) p e ≡ cond (eqb callee p) (Enter e ∷ []) []
into_called c p e callee edge args targets found called =
    ap (λ (a : Arc). cond (is_call_of p a.move) (Enter e ∷ []) []) (arc_is c e)
    ∙ ap (λ (a : Action). cond (is_call_of p (move_of c a)) (Enter e ∷ []) []) (ap (λ (y : Edge). y.action) (sym found) ∙ called)

pub callee_below : (c : Parts) (e callee : ℕ) (edge : Edge) (args targets : Span) → IsCore c → e < length c.edges → edge ≡ edge_at c e → edge.action ≡ action.Call callee args targets → callee < length c.procs
callee_below c e callee edge args targets is lt found called =
    let fit = edge_fits c e edge is lt found in
    let call : CallFits c (proc_at c (owner_of c edge.source)) callee args targets = subst (ActionFits c (proc_at c (owner_of c edge.source))) called fit.acts in
    let l = call.callee_in_range in
    omega (arith, l)

callee_fits : (c : Parts) (callee : ℕ) (q : Proc) → IsCore c → callee < length c.procs → q ≡ proc_at c callee → ProcFits c callee q
callee_fits c callee q is lt at = subst (ProcFits c callee) (sym at) (is.procs callee no_proc lt)

pub entry_below : (c : Parts) (callee : ℕ) (q : Proc) → IsCore c → callee < length c.procs → q ≡ proc_at c callee → q.entry < length c.owners
entry_below c callee q is lt at = let fit = callee_fits c callee q is lt at in fit.entry

-- the entering by a call joins the list of the callee's entry
pub entry_joined : (c : Parts) (e j callee : ℕ) (edge : Edge) (args targets : Span) (q : Proc) (old new : List (List Source)) → IsCore c → e < length c.edges → edge ≡ edge_at c e
    → edge.action ≡ action.Call callee args targets → q ≡ proc_at c callee → old ≡ map (sources_before (graph_of c) e j) (range_with_len 0 (length c.owners))
    → new ≡ set old q.entry (get_or old q.entry [] ++ Enter e ∷ []) → new ≡ map (sources_before (graph_of c) (e + 1) j) (range_with_len 0 (length c.owners))
entry_joined c e j callee edge args targets q old new is lt found called at before now =
    row_longer (sources_before g e j) (sources_before g (e + 1) j) (length c.owners) q.entry (Enter e) old new (entry_below c callee q is inside at) before now
    (next_entry g e j q.entry ∙ ap (λ l. sources_before g e j q.entry ++ l) here) (λ x l apart. same_entry g e j x (other x apart (is_entry (graph_of c) x) refl))
  where
    g : Graph
    g = graph_of c

    inside : callee < length c.procs
    inside = callee_below c e callee edge args targets is lt found called

    fit : ProcFits c callee q
    fit = callee_fits c callee q is inside at

    calls : (p : ℕ) → source_into_entry (graph_of c) p e ≡ cond (eqb callee p) (Enter e ∷ []) []
    calls p = into_called c p e callee edge args targets found called

    here : cond (is_entry (graph_of c) q.entry) (source_into_entry (graph_of c) (graph_owner (graph_of c) q.entry) e) [] ≡ Enter e ∷ []
    here =
        ap (λ b. cond b (source_into_entry (graph_of c) (graph_owner (graph_of c) q.entry) e) []) (entry_of c callee q fit at) ∙ calls (graph_owner (graph_of c) q.entry)
        ∙ ap (λ b. cond b (Enter e ∷ []) []) (eq-eqb callee (graph_owner (graph_of c) q.entry) (sym (owner_same c q.entry ∙ fit.owns_entry)))

    other : (x : ℕ) → x ≢ q.entry → (b : Bool) → is_entry (graph_of c) x ≡ b → cond b (source_into_entry (graph_of c) (graph_owner (graph_of c) x) e) [] ≡ []
    other x apart true t =
        calls (graph_owner (graph_of c) x)
        ∙ ap (λ b. cond b (Enter e ∷ []) []) (ne_eqb callee (graph_owner (graph_of c) x) (λ k. apart
        (sym (ap (λ (r : Proc). r.entry) at ∙ ap (λ o. (proc_at c o).entry) (k ∙ owner_same c x) ∙ eqb-true (proc_at c (owner_of c x)).entry x (sym (entry_test c x) ∙ t)))))
    other x apart false t = refl

-- an edge of no call enters no entry
pub none_entered : (c : Parts) (e j : ℕ) (edge : Edge) → e < length c.edges → edge ≡ edge_at c e → ((q : ℕ) (args targets : Span) → edge.action ≡ action.Call q args targets → ⊥)
    → map (sources_before (graph_of c) e j) (range_with_len 0 (length c.owners)) ≡ map (sources_before (graph_of c) (e + 1) j) (range_with_len 0 (length c.owners))
none_entered c e j edge lt found none =
    rows_same (sources_before (graph_of c) e j) (sources_before (graph_of c) (e + 1) j) (length c.owners) (λ x l. sym (same_entry (graph_of c) e j x (empty x)))
  where
    owned : graph_owner (graph_of c) (arc_at (graph_of c) e).source ≡ get_or c.owners edge.source 0
    owned = ap (λ (a : Arc). graph_owner (graph_of c) a.source) (arc_is c e) ∙ owner_same c (edge_at c e).source ∙ sym (ap (λ (y : Edge). owner_of c y.source) found)

    quiet : (p : ℕ) → is_call_of p (arc_at (graph_of c) e).move ≡ false
    quiet p =
        ap (λ b. b && is_call_of p (arc_at (graph_of c) e).move) (sym (eq-eqb (graph_owner (graph_of c) (arc_at (graph_of c) e).source) (get_or c.owners edge.source 0) owned))
        ∙ calls_none c (get_or c.owners edge.source 0) e edge lt found refl none p

    empty : (x : ℕ) → cond (is_entry (graph_of c) x) (source_into_entry (graph_of c) (graph_owner (graph_of c) x) e) [] ≡ []
    empty x = ap (λ b. cond (is_entry (graph_of c) x) (cond b (Enter e ∷ []) []) []) (quiet (graph_owner (graph_of c) x)) ∙ both_empty (is_entry (graph_of c) x)
