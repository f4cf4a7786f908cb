-- What the code of the rounds reads of a core, its call graph, and its threads.
use Rattle.std.proofs.Common.{◌≡◌, ◌≢◌, ℕ, suc, ◌+◌, ◌-◌, ◌<◌, ◌≤◌, Bool, true, false, cond, nat_eq, List, [], ◌∷◌, length, map, get_or, take, Option, Some, None, refl, sym, ap, subst, arith, ◌∙◌, eqb-true}
use Rattle.std.specs.List.{fold, range_with_len}
use Rattle.std.proofs.lemmas.Bool.{ne_eqb}
use Rattle.std.proofs.lemmas.List.{length-map, get_or-map, get_or_read, take_all}
use Rattle.std.proofs.lemmas.List.FromFn.{length-range_with_len, get_or-range_with_len}
use Rattle.std.proofs.lemmas.List.Sums.{fold_more}
use Rattle.spl_core.specs.declared.parts.Proc.{Proc}
use Rattle.spl_core.specs.declared.parts.Edge.{Edge}
use Rattle.spl_core.specs.Parts.{Parts, proc_at, edge_at, owner_of as owner_at, no_proc, no_edge}
use Rattle.spl_core.specs.Facts.{IsCore}
use Rattle.spl_core.specs.Graph.{Move, skips, assigns, havocs, tests, calls, starts, Arc, Graph, graph_of, proc_of, main_of, owner_of, proc_owning, dims_at, arc_at, no_arc, arc_of, move_of}
use Rattle.spl_core.specs.GraphFacts.{IsGraph}
use Rattle.spl_core.proofs.Graphs.{arc_is, arc_count, cores_are_graphs}
use Rattle.call_graph.specs.Order.{is_entry, is_cut, order}
use Rattle.call_graph.specs.Tables.{Tables, tables_of}
use Rattle.interval_form.specs.declared.interval.Interval.{Interval}
use Rattle.interval_form.specs.Interval.{unbounded, range_at}
use Rattle.conc_front.specs.Sharing.{Sharing, variable_of, IsThreaded}
use Rattle.conc_analysis.specs.Environment.{Environment, join_environment, top_environment}
use Rattle.conc_analysis.specs.EnvironmentMove.{move_in}
use Rattle.conc_analysis.specs.Interference.{Interference, interference_at, with_writes, with_others, range_read, with_interference, heard_at, read_by}
use Rattle.conc_analysis.specs.Equations.{Stage, point_at, read_in, entry_range, entry_range_at, started_by, at_entry, with_arc, equation}
use Rattle.conc_analysis.specs.Fits.{IsMoveIn}
use Rattle.conc_analysis.specs.Plan.{Plan, IsPlan}
use Rattle.conc_analysis.proofs.Moving.{IsOf, IsMoveOver}
use Rattle.conc_analysis.proofs.Facts.{Known, known, over-fits}
use Rattle.conc_analysis.proofs.Equating.{of-read_by}

-- ---- the plan

pub plan_of : (a b : Plan) (t : Tables) → a ≡ b → IsPlan a t → IsPlan b t
plan_of a b t e h = subst (λ (p : Plan). IsPlan p t) e h

pub cuts_long : (c : Parts) (t : Tables) → t ≡ tables_of (graph_of c) → length t.cuts ≡ length c.owners
unfolding tables_of graph_of
cuts_long c t e =
    ap (λ (x : Tables). length x.cuts) e ∙ length-map (range_with_len 0 (length c.owners)) (is_cut (graph_of c)) ∙ length-range_with_len 0 (length c.owners)

pub cut_read : (c : Parts) (t : Tables) (p : ℕ) → t ≡ tables_of (graph_of c) → p < length c.owners → get_or t.cuts p false ≡ is_cut (graph_of c) p
unfolding tables_of graph_of
cut_read c t p e l =
    let plain : 0 + p ≡ p = omega arith in
    ap (λ (x : Tables). get_or x.cuts p false) e
    ∙ get_or-map (is_cut (graph_of c)) (range_with_len 0 (length c.owners)) p 0 false (omega (arith, length-range_with_len 0 (length c.owners)))
    ∙ ap (is_cut (graph_of c)) (get_or-range_with_len 0 (length c.owners) p 0 l ∙ plain)

pub order_read : (c : Parts) (t : Tables) → t ≡ tables_of (graph_of c) → t.order ≡ order (graph_of c)
unfolding tables_of
order_read c t e = ap (λ (x : Tables). x.order) e

-- ---- reading

pub own_entry : (sharing : Sharing) (t d : ℕ) (exit : List Interval) → None ≡ variable_of sharing t d → unbounded ≡ entry_range_at sharing t exit d
unfolding entry_range_at
own_entry sharing t d exit e = ap (entry_range exit) e

pub shared_entry : (sharing : Sharing) (t d v : ℕ) (exit : List Interval) (i : Interval) → Some v ≡ variable_of sharing t d → i ≡ range_at exit v → i ≡ entry_range_at sharing t exit d
unfolding entry_range_at
shared_entry sharing t d v exit i e h = h ∙ ap (entry_range exit) e

pub others_start : (writes : Interference) (t v : ℕ) (i : Interval) → i ≡ with_others writes t v 0 i
unfolding with_others
others_start writes t v i = refl

pub others_more : (writes : Interference) (t v u : ℕ) (i j k : Interval) → j ≡ with_others writes t v u i → k ≡ cond (nat_eq u t) j (with_writes (interference_at writes u v) j) → k ≡ with_others writes t v (u + 1) i
unfolding with_others
others_more writes t v u i j k e h =
    h ∙ (ap (λ (z : Interval). cond (nat_eq u t) z (with_writes (interference_at writes u v) z)) e ∙ ap (λ (n : ℕ). with_others writes t v n i) (next u))
  where
    next : (u : ℕ) → suc u ≡ u + 1
    next u = omega arith

pub own_read : (sharing : Sharing) (writes : Interference) (t d : ℕ) (ranges : List Interval) (i : Interval) → None ≡ variable_of sharing t d → i ≡ range_at ranges d → i ≡ range_read sharing writes t ranges d
unfolding range_read
own_read sharing writes t d ranges i e h = h ∙ ap (λ (o : Option ℕ). with_interference writes t o (range_at ranges d)) e

pub shared_read : (sharing : Sharing) (writes : Interference) (t d v n : ℕ) (ranges : List Interval) (i j : Interval) → Some v ≡ variable_of sharing t d → n ≡ length writes → i ≡ range_at ranges d → j ≡ with_others writes t v n i → j ≡ range_read sharing writes t ranges d
unfolding range_read
shared_read sharing writes t d v n ranges i j e l h q =
    q ∙ (ap (with_others writes t v n) h ∙ (ap (λ (k : ℕ). with_others writes t v k (range_at ranges d)) l ∙ ap (λ (o : Option ℕ). with_interference writes t o (range_at ranges d)) e))

pub point_read : (points : List Environment) (p : ℕ) (v : Environment) → p < length points → v ≡ get_or points p v → v ≡ point_at points p
point_read points p v l e = get_or_read points p v l e None

-- what the code knows of a point's procedure
pub record Owned (k : Parts) (p owner : ℕ) (q : Proc) : Type 0 where
  pub owner_is : owner ≡ owner_at k p
  pub proc_is : q ≡ proc_at k owner

own_dims : (k : Parts) (p owner : ℕ) (q : Proc) → Owned k p owner q → q.dims ≡ dims_at (graph_of k) p
unfolding graph_of
own_dims k p owner q o = ap (λ (z : Proc). z.dims) (o.proc_is ∙ ap (proc_at k) o.owner_is)

own_owner : (k : Parts) (p owner : ℕ) (q : Proc) → Owned k p owner q → owner ≡ owner_of (graph_of k) p
unfolding graph_of
own_owner k p owner q o = o.owner_is

main_is : (k : Parts) → main_of (graph_of k) ≡ length k.procs - 1
unfolding graph_of
main_is k = refl

main_proc : (k : Parts) → proc_at k (length k.procs - 1) ≡ proc_of (graph_of k) (main_of (graph_of k))
unfolding graph_of
main_proc k = refl

owning : (k : Parts) (p owner : ℕ) (q : Proc) → Owned k p owner q → q ≡ proc_owning (graph_of k) p
unfolding graph_of
owning k p owner q o = o.proc_is ∙ ap (proc_at k) o.owner_is

pub few_dims : (k : Parts) (p owner : ℕ) (q : Proc) → IsCore k → p < length k.owners → Owned k p owner q → q.dims ≤ 128
few_dims k p owner q core l o =
    let h = (core.procs (owner_at k p) no_proc (core.owners p 0 l)).few in
    let e : q.dims ≡ (proc_at k (owner_at k p)).dims = ap (λ (z : Proc). z.dims) (o.proc_is ∙ ap (proc_at k) o.owner_is) in
    omega (arith, h, e)

read_as : (g : Graph) (sharing : Sharing) (x : Stage) (p owner d : ℕ) (ranges r : List Interval) (heard : Interference) → owner ≡ owner_of g p → d ≡ dims_at g p → heard ≡ heard_at g x.writes p → Some ranges ≡ point_at x.points p
    → r ≡ map (range_read sharing heard owner ranges) (range_with_len 0 d) → Some r ≡ read_in g sharing x p
read_as g sharing x p owner d ranges r heard o e h v q =
    ap (λ (z : List Interval). Some z) q
    ∙ (ap (λ (t : ℕ). read_by sharing heard t d (Some ranges)) o ∙ (ap (λ (n : ℕ). read_by sharing heard (owner_of g p) n (Some ranges)) e
    ∙ (ap (λ (w : Interference). read_by sharing w (owner_of g p) (dims_at g p) (Some ranges)) h ∙ ap (read_by sharing (heard_at g x.writes p) (owner_of g p) (dims_at g p)) v)))

heard_main : (g : Graph) (writes : Interference) (p : ℕ) → owner_of g p ≡ main_of g → [] ≡ heard_at g writes p
unfolding heard_at
heard_main g writes p e =
    let t : nat_eq (owner_of g p) (main_of g) ≡ true = grind (arith, e) in
    sym (ap (λ (b : Bool). cond b [] writes) t)

heard_thread : (g : Graph) (writes : Interference) (p : ℕ) → owner_of g p ≢ main_of g → writes ≡ heard_at g writes p
unfolding heard_at
heard_thread g writes p n = sym (ap (λ (b : Bool). cond b [] writes) (ne_eqb (owner_of g p) (main_of g) n))

pub read_none : (g : Graph) (sharing : Sharing) (x : Stage) (p : ℕ) → None ≡ point_at x.points p → None ≡ read_in g sharing x p
read_none g sharing x p e = ap (read_by sharing (heard_at g x.writes p) (owner_of g p) (dims_at g p)) e

pub read_main : (k c : Parts) (sharing : Sharing) (x : Stage) (p owner n : ℕ) (q : Proc) (ranges r : List Interval) (none : Interference) → k ≡ c → Owned k p owner q → n ≡ length k.procs → owner + 1 ≡ n → none ≡ []
    → Some ranges ≡ point_at x.points p → r ≡ map (range_read sharing none owner ranges) (range_with_len 0 q.dims) → Some r ≡ read_in (graph_of c) sharing x p
read_main k c sharing x p owner n q ranges r none e o m main h v t =
    let own = own_owner k p owner q o in
    let last : owner ≡ main_of (graph_of k) = omega (arith, m, main, main_is k) in
    subst (λ (z : Parts). Some r ≡ read_in (graph_of z) sharing x p) e
    (read_as (graph_of k) sharing x p owner q.dims ranges r none own (own_dims k p owner q o) (h ∙ heard_main (graph_of k) x.writes p (sym own ∙ last)) v t)

pub read_thread : (k c : Parts) (sharing : Sharing) (x : Stage) (p owner n : ℕ) (q : Proc) (ranges r : List Interval) → k ≡ c → Owned k p owner q → n ≡ length k.procs → 0 < length k.procs → owner + 1 ≢ n
    → Some ranges ≡ point_at x.points p → r ≡ map (range_read sharing x.writes owner ranges) (range_with_len 0 q.dims) → Some r ≡ read_in (graph_of c) sharing x p
read_thread k c sharing x p owner n q ranges r e o m some main v t =
    let own = own_owner k p owner q o in
    let other : owner_of (graph_of k) p ≢ main_of (graph_of k) = λ same. main (omega (arith, m, some, main_is k, same, own)) in
    subst (λ (z : Parts). Some r ≡ read_in (graph_of z) sharing x p) e
    (read_as (graph_of k) sharing x p owner q.dims ranges r x.writes own (own_dims k p owner q o) (heard_thread (graph_of k) x.writes p other) v t)

-- ---- entries

pub top_entry : (k c : Parts) (sharing : Sharing) (x : Stage) (p owner n : ℕ) (q : Proc) (r : Environment) → k ≡ c → Owned k p owner q → n ≡ length k.procs → owner ≡ n - 1 → r ≡ top_environment q.dims → r ≡ at_entry (graph_of c) sharing x p
unfolding at_entry
top_entry k c sharing x p owner n q r e o m main t =
    let g = graph_of k in
    let own = own_owner k p owner q o in
    let here : owner_of g p ≡ main_of g = omega (arith, m, main, main_is k, own) in
    let b : nat_eq (owner_of g p) (main_of g) ≡ true = grind (arith, here) in
    subst (λ (z : Parts). r ≡ at_entry (graph_of z) sharing x p) e
    (t ∙ (ap top_environment (own_dims k p owner q o) ∙ sym (ap (λ (b : Bool). cond b (top_environment (dims_at g p)) (started_by sharing (owner_of g p) (dims_at g p) (read_in g sharing x (proc_of g (main_of g)).exit))) b)))

pub thread_entry : (k c : Parts) (sharing : Sharing) (x : Stage) (p owner n : ℕ) (q m : Proc) (exit r : Environment) → k ≡ c → Owned k p owner q → n ≡ length k.procs → owner ≢ n - 1 → m ≡ proc_at k (n - 1)
    → exit ≡ read_in (graph_of c) sharing x m.exit → r ≡ started_by sharing owner q.dims exit → r ≡ at_entry (graph_of c) sharing x p
unfolding at_entry
thread_entry k c sharing x p owner n q m exit r e o h main mm read t =
    let g = graph_of k in
    let own = own_owner k p owner q o in
    let other : owner_of g p ≢ main_of g = λ same. main (omega (arith, h, main_is k, own, same)) in
    let b : nat_eq (owner_of g p) (main_of g) ≡ false = ne_eqb (owner_of g p) (main_of g) other in
    let there : m ≡ proc_of g (main_of g) = mm ∙ (ap (λ (z : ℕ). proc_at k (z - 1)) h ∙ main_proc k) in
    let from : exit ≡ read_in g sharing x (proc_of g (main_of g)).exit = read ∙ (ap (λ (z : Parts). read_in (graph_of z) sharing x m.exit) (sym e) ∙ ap (λ (z : Proc). read_in g sharing x z.exit) there) in
    subst (λ (z : Parts). r ≡ at_entry (graph_of z) sharing x p) e
    (t ∙ (ap (λ (z : Environment). started_by sharing owner q.dims z) from
    ∙ (ap (λ (z : ℕ). started_by sharing z q.dims (read_in g sharing x (proc_of g (main_of g)).exit)) own
    ∙ (ap (λ (z : ℕ). started_by sharing (owner_of g p) z (read_in g sharing x (proc_of g (main_of g)).exit)) (own_dims k p owner q o)
    ∙ sym (ap (λ (b : Bool). cond b (top_environment (dims_at g p)) (started_by sharing (owner_of g p) (dims_at g p) (read_in g sharing x (proc_of g (main_of g)).exit))) b)))))

-- ---- edges

move_over : (n : ℕ) (v : Environment) (move : Move) → IsOf n v → IsMoveOver n move → IsMoveIn v move
move_over n None skips d o = tt
move_over n None (assigns x e) d o = tt
move_over n None (havocs x) d o = tt
move_over n None (tests c wanted) d o = tt
move_over n None (calls callee args targets) d o = tt
move_over n None (starts copies) d o = tt
move_over n (Some ranges) skips d o = tt
move_over n (Some ranges) (assigns x e) d o = subst (λ (k : ℕ). IsMoveOver k (assigns x e)) (sym d) o
move_over n (Some ranges) (havocs x) d o = tt
move_over n (Some ranges) (tests c wanted) d o = subst (λ (k : ℕ). IsMoveOver k (tests c wanted)) (sym d) o
move_over n (Some ranges) (calls callee args targets) d o = tt
move_over n (Some ranges) (starts copies) d o = tt

pub arc_move : (k : Parts) (e : ℕ) (edge : Edge) → edge ≡ edge_at k e → move_of k edge.action ≡ (arc_at (graph_of k) e).move
arc_move k e edge h = ap (λ (z : Edge). move_of k z.action) h ∙ sym (ap (λ (a : Arc). a.move) (arc_is k e))

pub arc_source : (k : Parts) (e : ℕ) (edge : Edge) → edge ≡ edge_at k e → edge.source ≡ (arc_at (graph_of k) e).source
arc_source k e edge h = ap (λ (z : Edge). z.source) h ∙ sym (ap (λ (a : Arc). a.source) (arc_is k e))

pub arc_target : (k : Parts) (e : ℕ) (edge : Edge) → edge ≡ edge_at k e → edge.target ≡ (arc_at (graph_of k) e).target
arc_target k e edge h = ap (λ (z : Edge). z.target) h ∙ sym (ap (λ (a : Arc). a.target) (arc_is k e))

pub move_fits : (k c : Parts) (sharing : Sharing) (x : Stage) (e : ℕ) (edge : Edge) (from : Environment) → k ≡ c → IsCore c → IsThreaded (graph_of c) sharing → e < length c.edges → edge ≡ edge_at k e
    → from ≡ read_in (graph_of c) sharing x edge.source → IsMoveIn from (move_of k edge.action)
move_fits k c sharing x e edge from q core threaded l h read =
    let g = graph_of c in
    let is = known g sharing (cores_are_graphs c core).1 threaded in
    let a : edge ≡ edge_at c e = h ∙ ap (λ (z : Parts). edge_at z e) q in
    let n = dims_at g (arc_at g e).source in
    let over : IsMoveOver n (arc_at g e).move = over-fits g (proc_owning g (arc_at g e).source) (arc_at g e).move (is.fits e (omega (arith, l, arc_count c))) in
    let sized : IsOf n (read_in g sharing x (arc_at g e).source) = of-read_by sharing (heard_at g x.writes (arc_at g e).source) (owner_of g (arc_at g e).source) n (point_at x.points (arc_at g e).source) in
    let from_is : from ≡ read_in g sharing x (arc_at g e).source = read ∙ ap (read_in g sharing x) (arc_source c e edge a) in
    subst (λ (z : Environment). IsMoveIn z (move_of k edge.action)) (sym from_is)
    (subst (IsMoveIn (read_in g sharing x (arc_at g e).source)) (sym (ap (λ (z : Parts). move_of z edge.action) q ∙ arc_move c e edge a))
    (move_over n (read_in g sharing x (arc_at g e).source) (arc_at g e).move sized over))

pub brings : (k c : Parts) (sharing : Sharing) (x : Stage) (e : ℕ) (edge : Edge) (from v : Environment) → k ≡ c → edge ≡ edge_at k e → from ≡ read_in (graph_of c) sharing x edge.source
    → v ≡ move_in (move_of k edge.action) from → v ≡ move_in (arc_at (graph_of c) e).move (read_in (graph_of c) sharing x (arc_at (graph_of c) e).source)
brings k c sharing x e edge from v q h read t =
    let g = graph_of c in
    let a : edge ≡ edge_at c e = h ∙ ap (λ (z : Parts). edge_at z e) q in
    t ∙ (ap (λ (z : Move). move_in z from) (ap (λ (z : Parts). move_of z edge.action) q ∙ arc_move c e edge a)
    ∙ ap (move_in (arc_at g e).move) (read ∙ ap (read_in g sharing x) (arc_source c e edge a)))

pub not_joined : (k c : Parts) (sharing : Sharing) (x : Stage) (p e : ℕ) (edge : Edge) (v : Environment) → k ≡ c → edge ≡ edge_at k e → edge.target ≢ p → v ≡ with_arc (graph_of c) sharing x p v (arc_at (graph_of c) e)
not_joined k c sharing x p e edge v q h n =
    let g = graph_of c in
    let a : edge ≡ edge_at c e = h ∙ ap (λ (z : Parts). edge_at z e) q in
    let b : nat_eq (arc_at g e).target p ≡ false = ne_eqb (arc_at g e).target p (λ same. n (arc_target c e edge a ∙ same)) in
    sym (ap (λ (t : Bool). cond t (join_environment v (move_in (arc_at g e).move (read_in g sharing x (arc_at g e).source))) v) b)

pub joined : (k c : Parts) (sharing : Sharing) (x : Stage) (p e : ℕ) (edge : Edge) (v new r : Environment) → k ≡ c → edge ≡ edge_at k e → edge.target ≡ p
    → new ≡ move_in (arc_at (graph_of c) e).move (read_in (graph_of c) sharing x (arc_at (graph_of c) e).source) → r ≡ join_environment v new → r ≡ with_arc (graph_of c) sharing x p v (arc_at (graph_of c) e)
joined k c sharing x p e edge v new r q h n t j =
    let g = graph_of c in
    let a : edge ≡ edge_at c e = h ∙ ap (λ (z : Parts). edge_at z e) q in
    let here : (arc_at g e).target ≡ p = sym (arc_target c e edge a) ∙ n in
    let b : nat_eq (arc_at g e).target p ≡ true = grind (arith, here) in
    j ∙ (ap (join_environment v) t ∙ sym (ap (λ (t : Bool). cond t (join_environment v (move_in (arc_at g e).move (read_in g sharing x (arc_at g e).source))) v) b))

pub entry_equation : (k c : Parts) (sharing : Sharing) (x : Stage) (p owner : ℕ) (q : Proc) (v : Environment) → k ≡ c → Owned k p owner q → q.entry ≡ p → v ≡ at_entry (graph_of c) sharing x p → v ≡ equation (graph_of c) sharing x p
unfolding equation is_entry
entry_equation k c sharing x p owner q v e o n t =
    let g = graph_of c in
    let here : (proc_owning g p).entry ≡ p = sym (ap (λ (z : Parts). (proc_owning (graph_of z) p).entry) e) ∙ (sym (ap (λ (z : Proc). z.entry) (owning k p owner q o)) ∙ n) in
    let b : nat_eq (proc_owning g p).entry p ≡ true = grind (arith, here) in
    t ∙ sym (ap (λ (t : Bool). cond t (at_entry g sharing x p) (fold (with_arc g sharing x p) None g.arcs)) b)

pub folded_equation : (k c : Parts) (sharing : Sharing) (x : Stage) (p owner n : ℕ) (q : Proc) (v : Environment) → k ≡ c → Owned k p owner q → q.entry ≢ p → length c.edges ≤ n
    → v ≡ fold (with_arc (graph_of c) sharing x p) None (take n (graph_of c).arcs) → v ≡ equation (graph_of c) sharing x p
unfolding equation is_entry
folded_equation k c sharing x p owner n q v e o other l t =
    let g = graph_of c in
    let b : nat_eq (proc_owning g p).entry p ≡ false =
    ne_eqb (proc_owning g p).entry p (λ same. other (ap (λ (z : Proc). z.entry) (owning k p owner q o) ∙ (ap (λ (z : Parts). (proc_owning (graph_of z) p).entry) e ∙ same))) in
    t ∙ (ap (fold (with_arc g sharing x p) None) (take_all n g.arcs (omega (arith, l, arc_count c)))
    ∙ sym (ap (λ (t : Bool). cond t (at_entry g sharing x p) (fold (with_arc g sharing x p) None g.arcs)) b))

pub edge_more : (c : Parts) (sharing : Sharing) (x : Stage) (p e : ℕ) (v new : Environment) → e < length c.edges → v ≡ fold (with_arc (graph_of c) sharing x p) None (take e (graph_of c).arcs)
    → new ≡ with_arc (graph_of c) sharing x p v (arc_at (graph_of c) e) → new ≡ fold (with_arc (graph_of c) sharing x p) None (take (e + 1) (graph_of c).arcs)
edge_more c sharing x p e v new l h n =
    let g = graph_of c in
    n ∙ (ap (λ (z : Environment). with_arc g sharing x p z (arc_at g e)) h ∙ sym (fold_more (with_arc g sharing x p) None g.arcs e no_arc (omega (arith, l, arc_count c))))
