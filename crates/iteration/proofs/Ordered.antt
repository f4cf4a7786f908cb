-- What a point that is no cut point reads is a cut point or stands before it in the order.
use Rattle.std.proofs.Common.{◌≡◌, ◌⊎◌, inl, inr, ℕ, ◌<◌, ◌≤◌, ◌++◌, Bool, true, false, cond, [], length, get_or, refl, sym, ap, subst, arith, ◌∙◌, nat_eq, leb, eqb-true}
use Rattle.std.specs.List.{Contains, flat_map, range_with_len}
use Rattle.std.proofs.lemmas.Bool.{cases_lt, or_right, or_parts, false≢true}
use Rattle.std.proofs.lemmas.Bool.Decides.{Decides-eqb, leb_tells}
use Rattle.std.proofs.lemmas.List.{get_or_default}
use Rattle.std.proofs.lemmas.List.Folds.{list_any_at}
use Rattle.spl_core.specs.declared.parts.Proc.{Proc}
use Rattle.spl_core.specs.Graph.{Move, skips, assigns, havocs, tests, calls, starts, Graph, no_arc, proc_of, arc_at, owner_of, proc_owning}
use Rattle.spl_core.specs.GraphFacts.{MoveFits, CallMoveFits}
use Rattle.call_graph.specs.Reach.{is_call_of, is_call_from, calls_directly, reaches, reach_count}
use Rattle.call_graph.specs.Order.{Before, order, closes_loop_at, is_loop_head, is_entry, is_recursive_exit, is_cut}
use Rattle.call_graph.proofs.Reaching.{and_from, reaches-joined, reaches-call, fewer}
use Rattle.call_graph.proofs.Lists.{from_flat_map, from_range, of_one, guarded, of_two}
use Rattle.call_graph.proofs.Sorting.{is_order, before_asym}
use Rattle.equations.specs.Sources.{source_by, source_at_start, source_into_entry, source_into_point, sources, exit_of, reads_of, reads_at}
use Rattle.equations.proofs.Facts.{Known}
use Rattle.iteration.specs.Solved.{system_of}
use Rattle.rounds.specs.System.{IsOrdered}
use Rattle.rounds.proofs.Layers.{layered-by, distinct-by}

leb_from : (a b : ℕ) → a ≤ b → leb a b ≡ true
leb_from a b h = elim (leb_tells a b) [ inl t ↦ t.0 | inr t ↦ absurd (omega (arith, t.1)) ]

-- ---- an edge into a point

-- the source of an edge into a point that is no loop head stands before it
source_before : (g : Graph) (e : ℕ) → Known g → e < length g.arcs → is_loop_head g (arc_at g e).target ≡ false → Before g (arc_at g e).source (arc_at g e).target
unfolding is_loop_head
source_before g e is lt none =
    let own = is.one_owner e lt in
    inr (ap (reach_count g) own, inr (own, by (cases_lt (arc_at g e).source (arc_at g e).target)))
  where
    by : ((arc_at g e).source < (arc_at g e).target) ⊎ ((arc_at g e).target ≤ (arc_at g e).source) → (arc_at g e).source < (arc_at g e).target
    by (inl less) = less
    by (inr back) = absurd (false≢true (sym none ∙ list_any_at (closes_loop_at (arc_at g e).target) g.arcs e no_arc lt
        (and_from _ _ ((Decides-eqb (arc_at g e).target (arc_at g e).target).1 refl) (leb_from _ _ back))))

-- an edge that calls
calls_at : (g : Graph) (e q : ℕ) → e < length g.arcs → is_call_of q (arc_at g e).move ≡ true → calls_directly g (owner_of g (arc_at g e).source) q ≡ true
unfolding calls_directly
calls_at g e q lt h = list_any_at (is_call_from g (owner_of g (arc_at g e).source) q) g.arcs e no_arc lt (and_from _ _ ((Decides-eqb (owner_of g (arc_at g e).source) (owner_of g (arc_at g e).source)).1 refl) h)

-- the exit of a called procedure is a cut point or stands before the points of the caller
exit_before : (g : Graph) (x p q : ℕ) → Known g → p < length g.procs → q < length g.procs → owner_of g x ≡ p → calls_directly g p q ≡ true → (is_cut g (proc_of g q).exit ≡ true) ⊎ Before g (proc_of g q).exit x
unfolding is_cut is_recursive_exit
exit_before g x p q is pin qin own call = by (reaches g q p) refl
  where
    exit_owner : owner_of g (proc_of g q).exit ≡ q
    exit_owner = is.owns_exit q qin

    less : reach_count g q < reach_count g p → reach_count g (owner_of g (proc_of g q).exit) < reach_count g (owner_of g x)
    less h = rw exit_owner (rw own h)

    by : (b : Bool) → reaches g q p ≡ b → (is_cut g (proc_of g q).exit ≡ true) ⊎ Before g (proc_of g q).exit x
    by true back = inl (or_right _ _ (or_right _ _ (and_from _ _
        ((Decides-eqb (proc_of g (owner_of g (proc_of g q).exit)).exit (proc_of g q).exit).1 (ap (λ k. (proc_of g k).exit) exit_owner))
        (subst (λ k. reaches g k k ≡ true) (sym exit_owner) (reaches-joined g q p q is.graph back (reaches-call g p q call))))))
    by false none = inr (inl (less (fewer g p q is.graph pin (reaches-call g p q call) none)))

-- what a source behind an edge into a non-cut point reads
of_edge : (g : Graph) (e y : ℕ) → Known g → e < length g.arcs → is_cut g (arc_at g e).target ≡ false → Contains (reads_of g (source_by e (arc_at g e).move)) y → (is_cut g y ≡ true) ⊎ Before g y (arc_at g e).target
unfolding is_cut
of_edge g e y is lt none = by (arc_at g e).move refl
  where
    first : (arc_at g e).source ≡ y → (is_cut g y ≡ true) ⊎ Before g y (arc_at g e).target
    first same = inr (subst (λ z. Before g z (arc_at g e).target) same (source_before g e is lt (or_parts _ _ none).0))

    by : (m : Move) → (arc_at g e).move ≡ m → Contains (reads_of g (source_by e m)) y → (is_cut g y ≡ true) ⊎ Before g y (arc_at g e).target
    by skips k h = first (of_one _ y h)
    by (assigns target x) k h = first (of_one _ y h)
    by (havocs target) k h = first (of_one _ y h)
    by (tests condition wanted) k h = first (of_one _ y h)
    by (starts copies) k h = first (of_one _ y h)
    by (calls callee args targets) k h = elim (of_two _ _ y h) [ inl same ↦ first same | inr same ↦ last (exit_of_call ∙ same) ]
      where
        acts : CallMoveFits g.procs (proc_owning g (arc_at g e).source) callee args targets
        acts = subst (MoveFits g.procs (proc_owning g (arc_at g e).source)) k (is.fits e lt)

        exit_of_call : (proc_of g callee).exit ≡ exit_of g (arc_at g e).move (arc_at g e).source
        exit_of_call = sym (ap (λ (b : Move). exit_of g b (arc_at g e).source) k)

        called : calls_directly g (owner_of g (arc_at g e).source) callee ≡ true
        called = calls_at g e callee lt (subst (λ b. is_call_of callee b ≡ true) (sym k) ((Decides-eqb callee callee).1 refl))

        last : (proc_of g callee).exit ≡ y → (is_cut g y ≡ true) ⊎ Before g y (arc_at g e).target
        last same = let below = acts.callee_in_range in subst (λ z. (is_cut g z ≡ true) ⊎ Before g z (arc_at g e).target) same
            (exit_before g (arc_at g e).target (owner_of g (arc_at g e).source) callee is (is.graph.owners (arc_at g e).source 0 (is.source e lt)) (omega (arith, below)) (sym (is.one_owner e lt)) called)

-- ---- what a point reads

-- what a point that is no entry reads comes from an edge into it
record IsRead (g : Graph) (p y : ℕ) : Type 0 where
  edge : ℕ
  in_range : edge < length g.arcs
  target : (arc_at g edge).target ≡ p
  read : Contains (reads_of g (source_by edge (arc_at g edge).move)) y

is_read : (g : Graph) (p y : ℕ) → is_entry g p ≡ false → Contains (reads_at g p) y → IsRead g p y
unfolding reads_at sources
is_read g p y plain h =
    let some = from_flat_map (reads_of g) (sources g p) y h in
    let there : Contains (sources g p) some.1 = (some.0, some.2, some.3) in
    let into : Contains (flat_map (source_into_point g p) (range_with_len 0 (length g.arcs))) some.1 =
    subst (λ b. Contains (cond b (source_at_start g p ++ flat_map (source_into_entry g (owner_of g p)) (range_with_len 0 (length g.arcs))) (flat_map (source_into_point g p) (range_with_len 0 (length g.arcs)))) some.1) plain there in
    let r = from_range (source_into_point g p) (length g.arcs) some.1 into in
    let q = guarded (nat_eq (arc_at g r.0).target p) (source_by r.0 (arc_at g r.0).move) some.1 r.2 in
    record { edge = r.0; in_range = r.1; target = eqb-true (arc_at g r.0).target p q.0; read = subst (λ o. Contains (reads_of g o) y) (sym q.1) some.4 }

exit_in_range : (g : Graph) (p : Proc) (m : Move) (d : ℕ) → Known g → MoveFits g.procs p m → d < length g.owners → exit_of g m d < length g.owners
exit_in_range g p skips d is f l = l
exit_in_range g p (assigns x e) d is f l = l
exit_in_range g p (havocs x) d is f l = l
exit_in_range g p (tests c wanted) d is f l = l
exit_in_range g p (calls callee args targets) d is f l = let below = f.callee_in_range in is.exit_in_range callee (omega (arith, below))
exit_in_range g p (starts copies) d is f l = l

read_in_range : (g : Graph) (p y : ℕ) → Known g → IsRead g p y → y < length g.owners
read_in_range g p y is r = by (arc_at g r.edge).move r.read refl
  where
    first : (arc_at g r.edge).source ≡ y → y < length g.owners
    first e = subst (λ k. k < length g.owners) e (is.source r.edge r.in_range)

    last : exit_of g (arc_at g r.edge).move (arc_at g r.edge).source ≡ y → y < length g.owners
    last e = subst (λ k. k < length g.owners) e
        (exit_in_range g (proc_owning g (arc_at g r.edge).source) (arc_at g r.edge).move (arc_at g r.edge).source is (is.fits r.edge r.in_range) (is.source r.edge r.in_range))

    by : (m : Move) → Contains (reads_of g (source_by r.edge m)) y → (arc_at g r.edge).move ≡ m → y < length g.owners
    by skips h k = first (of_one _ y h)
    by (assigns x e) h k = first (of_one _ y h)
    by (havocs x) h k = first (of_one _ y h)
    by (tests c wanted) h k = first (of_one _ y h)
    by (starts copies) h k = first (of_one _ y h)
    by (calls callee args targets) h k = elim (of_two _ _ y h) [ inl e ↦ first e | inr e ↦ last e ]

-- no entry is left among points that are no cut points
plain_point : (g : Graph) (p : ℕ) → is_cut g p ≡ false → is_entry g p ≡ false
unfolding is_cut
plain_point g p none = (or_parts _ _ (or_parts _ _ none).1).0

read_before : (g : Graph) (p y : ℕ) → Known g → is_cut g p ≡ false → IsRead g p y → (is_cut g y ≡ true) ⊎ Before g y p
read_before g p y is none r =
    subst (λ z. (is_cut g y ≡ true) ⊎ Before g y z) r.target
    (of_edge g r.edge y is r.in_range (subst (λ z. is_cut g z ≡ false) (sym r.target) none) r.read)

pub is_ordered : (g : Graph) → Known g → IsOrdered (system_of g)
is_ordered g is =
    let o = is_order g is.graph in
    record {
      distinct = distinct-by (Before g) (before_asym g) (order g) o.sorted;
      all = o.all;
      only = λ k d l. o.only (get_or (order g) k d) (k, l, get_or_default (order g) k (get_or (order g) k d) d l);
      layered = layered-by (system_of g) (Before g) (before_asym g) [] (order g) o.sorted (λ p h none k d l.
          let y = get_or (reads_at g p) k d in
          let r = is_read g p y (plain_point g p none) (k, l, get_or_default (reads_at g p) k y d l) in
          ready p y (o.all y (read_in_range g p y is r)) (read_before g p y is none r));
    }
  where
    ready : (p y : ℕ) → Contains (order g) y → (is_cut g y ≡ true) ⊎ Before g y p → (is_cut g y ≡ true) ⊎ (Before g y p × (Contains [] y ⊎ Contains (order g) y))
    ready p y there (inl e) = inl e
    ready p y there (inr b) = inr (b, inr there)
