-- The sources of a point name edges of the core.
use Rattle.std.proofs.Common.{◌≡◌, ℕ, zero, suc, ◌+◌, ◌-◌, ◌<◌, ◌++◌, Bool, true, false, cond, List, [], ◌∷◌, length, get_or, sym, ap, subst, arith, refl, ◌∙◌, nat_eq, eqb-true}
use Rattle.std.specs.List.{flat_map, range_with_len}
use Rattle.std.proofs.lemmas.List.FromFn.{length-range_with_len, get_or-range_with_len}
use Rattle.spl_core.specs.Parts.{Parts, edge_at, owner_of, proc_at}
use Rattle.spl_core.specs.Graph.{Move, skips, assigns, havocs, tests, calls, starts, Arc, arc_at, move_of, graph_of}
use Rattle.spl_core.proofs.Graphs.{arc_is, arc_count}
use Rattle.call_graph.specs.Reach.{is_call_of}
use Rattle.call_graph.specs.Order.{is_entry}
use Rattle.equations.specs.declared.source.Source.{Source}
use Rattle.equations.specs.declared.source.Source.TheVariants.{Always, Enter}
use Rattle.equations.specs.Sources.{SourceFits, source_by, source_at_start, source_into_entry, source_into_point, sources}

-- ---- a fact of each source of a list

abbrev pub AllOf : (Source → Type 0) → List Source → Type 0
AllOf P [] = Unit {0}
AllOf P (s ∷ ss) = P s × AllOf P ss

pub all-append : (P : Source → Type 0) (xs ys : List Source) → AllOf P xs → AllOf P ys → AllOf P (xs ++ ys)
all-append P [] ys h k = k
all-append P (x ∷ xs) ys h k = (h.0, all-append P xs ys h.1 k)

all-flat_map : (P : Source → Type 0) (f : ℕ → List Source) (es : List ℕ) → ((i : ℕ) → i < length es → AllOf P (f (get_or es i 0))) → AllOf P (flat_map f es)
all-flat_map P f [] h = tt
all-flat_map P f (e ∷ es) h = all-append P (f e) (flat_map f es) (h 0 (omega arith)) (all-flat_map P f es (λ i l. h (suc i) (omega arith)))

pub all-edges : (P : Source → Type 0) (f : ℕ → List Source) (n : ℕ) → ((e : ℕ) → e < n → AllOf P (f e)) → AllOf P (flat_map f (range_with_len 0 n))
all-edges P f n h = all-flat_map P f (range_with_len 0 n) (λ i l.
    let inside : i < n = omega (arith, length-range_with_len 0 n) in
    let plain : 0 + i ≡ i = omega arith in
    subst (λ (k : ℕ). AllOf P (f k)) (sym (get_or-range_with_len 0 n i 0 inside ∙ plain)) (h i inside))

all-at : (P : Source → Type 0) (ss : List Source) (i : ℕ) (d : Source) → i < length ss → AllOf P ss → P (get_or ss i d)
all-at P [] i d l h = absurd (omega arith)
all-at P (s ∷ ss) zero d l h = h.0
all-at P (s ∷ ss) (suc i) d l h = all-at P ss i d (omega arith) h.1

-- ---- all sources of a point fit

fit-into_point : (c : Parts) (p e : ℕ) → e < length (graph_of c).arcs → AllOf (SourceFits c p) (source_into_point (graph_of c) p e)
fit-into_point c p e l = by (nat_eq (arc_at (graph_of c) e).target p) refl
  where
    one : (m : Move) → (e < length c.edges) × ((edge_at c e).target ≡ p) → SourceFits c p (source_by e m)
    one skips h = h
    one (assigns x w) h = h
    one (havocs x) h = h
    one (tests w wanted) h = h
    one (calls callee args targets) h = h
    one (starts copies) h = h

    by : (t : Bool) → nat_eq (arc_at (graph_of c) e).target p ≡ t → AllOf (SourceFits c p) (cond t (source_by e (arc_at (graph_of c) e).move ∷ []) [])
    by true t = (one (arc_at (graph_of c) e).move (omega (arith, arc_count c), sym (ap (λ (a : Arc). a.target) (arc_is c e)) ∙ eqb-true (arc_at (graph_of c) e).target p t), tt)
    by false t = tt

fit-into_entry : (c : Parts) (p q e : ℕ) → q ≡ owner_of c p → e < length (graph_of c).arcs → AllOf (SourceFits c p) (source_into_entry (graph_of c) q e)
fit-into_entry c p q e same l = by (is_call_of q (arc_at (graph_of c) e).move) refl
  where
    by : (t : Bool) → is_call_of q (arc_at (graph_of c) e).move ≡ t → AllOf (SourceFits c p) (cond t (Enter e ∷ []) [])
    by true t = ((omega (arith, arc_count c), ap (λ (o : ℕ). is_call_of o (move_of c (edge_at c e).action)) (sym same) ∙ sym (ap (λ (a : Arc). is_call_of q a.move) (arc_is c e)) ∙ t), tt)
    by false t = tt

fit-at_start : (c : Parts) (p : ℕ) (b : Bool) → AllOf (SourceFits c p) (cond b (Always ∷ []) [])
fit-at_start c p true = (tt, tt)
fit-at_start c p false = tt

fit-sources : (c : Parts) (p : ℕ) → AllOf (SourceFits c p) (sources (graph_of c) p)
unfolding sources graph_of
fit-sources c p = by (is_entry (graph_of c) p)
  where
    by : (t : Bool) → AllOf (SourceFits c p) (cond t (source_at_start (graph_of c) p ++ flat_map (source_into_entry (graph_of c) (owner_of c p)) (range_with_len 0 (length (graph_of c).arcs))) (flat_map (source_into_point (graph_of c) p) (range_with_len 0 (length (graph_of c).arcs))))
    by true = all-append (SourceFits c p) (source_at_start (graph_of c) p) (flat_map (source_into_entry (graph_of c) (owner_of c p)) (range_with_len 0 (length (graph_of c).arcs)))
        (fit-at_start c p (nat_eq p (proc_at c (length c.procs - 1)).entry))
        (all-edges (SourceFits c p) (source_into_entry (graph_of c) (owner_of c p)) (length (graph_of c).arcs) (λ e l. fit-into_entry c p (owner_of c p) e refl l))
    by false = all-edges (SourceFits c p) (source_into_point (graph_of c) p) (length (graph_of c).arcs) (λ e l. fit-into_point c p e l)

pub source_fits : (c : Parts) (p : ℕ) (items : List Source) (i : ℕ) (d : Source) → items ≡ sources (graph_of c) p → i < length items → SourceFits c p (get_or items i d)
source_fits c p items i d e l = all-at (SourceFits c p) items i d l (subst (AllOf (SourceFits c p)) (sym e) (fit-sources c p))
