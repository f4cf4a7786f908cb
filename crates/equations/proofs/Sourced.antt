-- F depends on what it reads alone, and of values it is a value.
use Rattle.std.proofs.Common.{◌≡◌, ℕ, zero, suc, ◌<◌, ◌++◌, Bool, true, false, cond, List, [], ◌∷◌, length, get_or, refl, sym, ap, subst, arith, ◌∙◌, nat_eq, eqb-true}
use Rattle.std.specs.List.{All, fold, flat_map, range_with_len}
use Rattle.std.proofs.lemmas.Bool.{false≢true}
use Rattle.oct_def.specs.Octagon.{Octagon, IsOctagon, bottom_value, top_value, tight_value, join_value}
use Rattle.oct_def.specs.Below.{IsBelow}
use Rattle.oct_def.proofs.Lattice.{octagon-join, octagon-top}
use Rattle.spl_core.specs.declared.parts.Proc.{Proc}
use Rattle.transfer_def.specs.Move.{move_value}
use Rattle.transfer_def.specs.Enter.{enter_value}
use Rattle.transfer_def.specs.Back.{back_value}
use Rattle.transfer_def.proofs.Moves.{value-move_value, dims-move_value, move-bottom, enter-bottom, back-bottom_caller}
use Rattle.transfer_def.proofs.Enter.{value-enter_value}
use Rattle.transfer_def.proofs.Back.{value-back_value}
use Rattle.spl_core.specs.Graph.{Move, skips, assigns, havocs, tests, calls, starts, Graph, proc_of, arc_at, main_of, owner_of, proc_owning, dims_at}
use Rattle.spl_core.specs.GraphFacts.{MoveFits}
use Rattle.call_graph.specs.Reach.{is_call_of}
use Rattle.call_graph.specs.Order.{is_cut, is_entry}
use Rattle.equations.specs.declared.source.Source.{Source}
use Rattle.equations.specs.declared.source.Source.TheVariants as source
use Rattle.equations.specs.Sources.{source_by, source_at_start, source_into_entry, source_into_point, sources, exit_of, reads_of, reads_at}
use Rattle.equations.specs.Equations.{entered_by, returned_by, brought, with_source, equation, read}
use Rattle.equations.specs.Inductive.{Inductive}
use Rattle.equations.proofs.Facts.{Known}
use Rattle.equations.proofs.Fitting.{AllOf, all-append, all-edges}

-- ---- the equation depends on what is read

returned-alike : (g : Graph) (r t : ℕ → Octagon) (m : Move) (q : ℕ) (v w : Octagon) → v ≡ w → r (exit_of g m q) ≡ t (exit_of g m q) → returned_by g r m v ≡ returned_by g t m w
returned-alike g r t skips q v w e d = e
returned-alike g r t (assigns x a) q v w e d = e
returned-alike g r t (havocs x) q v w e d = e
returned-alike g r t (tests c wanted) q v w e d = e
returned-alike g r t (calls callee args targets) q v w e d =
    ap (λ (o : Octagon). back_value o (r (proc_of g callee).exit) args (proc_of g callee).outputs targets) e
    ∙ ap (λ (o : Octagon). back_value w o args (proc_of g callee).outputs targets) d
returned-alike g r t (starts pairs) q v w e d = e

brought-alike : (g : Graph) (r t : ℕ → Octagon) (p : ℕ) (o : Source) → All (λ (i : ℕ). r i ≡ t i) (reads_of g o) → brought g r p o ≡ brought g t p o
brought-alike g r t p source.Always h = refl
brought-alike g r t p (source.Flow e) h = ap (move_value (arc_at g e).move) (h 0 0 (omega arith))
brought-alike g r t p (source.Enter e) h = ap (entered_by g (arc_at g e).move) (h 0 0 (omega arith))
brought-alike g r t p (source.Back e) h =
    returned-alike g r t (arc_at g e).move (arc_at g e).source (r (arc_at g e).source) (t (arc_at g e).source) (h 0 0 (omega arith)) (h 1 0 (omega arith))

all-left : (P : ℕ → Type 0) (xs ys : List ℕ) → All P (xs ++ ys) → All P xs
all-left P [] ys h k d l = absurd (omega arith)
all-left P (x ∷ xs) ys h zero d l = h 0 d (omega arith)
all-left P (x ∷ xs) ys h (suc k) d l = all-left P xs ys (λ i c m. h (suc i) c (omega arith)) k d (omega arith)

all-right : (P : ℕ → Type 0) (xs ys : List ℕ) → All P (xs ++ ys) → All P ys
all-right P [] ys h = h
all-right P (x ∷ xs) ys h = all-right P xs ys (λ i c m. h (suc i) c (omega arith))

folded-alike : (g : Graph) (r t : ℕ → Octagon) (p : ℕ) (os : List Source) (v : Octagon) → All (λ (i : ℕ). r i ≡ t i) (flat_map (reads_of g) os) → fold (with_source g r p) v os ≡ fold (with_source g t p) v os
folded-alike g r t p [] v h = refl
folded-alike g r t p (o ∷ os) v h =
    ap (λ (w : Octagon). fold (with_source g r p) (join_value v w) os)
    (brought-alike g r t p o (all-left (λ (i : ℕ). r i ≡ t i) (reads_of g o) (flat_map (reads_of g) os) h))
    ∙ folded-alike g r t p os (with_source g t p v o) (all-right (λ (i : ℕ). r i ≡ t i) (reads_of g o) (flat_map (reads_of g) os) h)

pub equation-alike : (g : Graph) (r t : ℕ → Octagon) (p : ℕ) → All (λ (i : ℕ). r i ≡ t i) (reads_at g p) → equation g r p ≡ equation g t p
unfolding equation reads_at
equation-alike g r t p h = folded-alike g r t p (sources g p) (bottom_value (dims_at g p)) h

-- of functions that agree at each point
pub equation-same : (g : Graph) (r t : ℕ → Octagon) → ((p : ℕ) → r p ≡ t p) → (p : ℕ) → equation g r p ≡ equation g t p
equation-same g r t h p = equation-alike g r t p (λ k d l. h (get_or (reads_at g p) k d))

pub inductive-same : (g : Graph) (x y : ℕ → Octagon) → ((p : ℕ) → x p ≡ y p) → Inductive g x → Inductive g y
inductive-same g x y h i = record {
  below = λ p l.
      subst (λ (v : Octagon). IsBelow v (y p)) (equation-same g (read (is_cut g) x) (read (is_cut g) y) (λ q. ap (λ (v : Octagon). cond (is_cut g q) (tight_value v) v) (h q)) p)
      (subst (IsBelow (equation g (read (is_cut g) x) p)) (h p) (i.below p l));
}

-- ---- what is brought is a value with the point's dimensions

pub record IsFit (n : ℕ) (v : Octagon) : Type 0 where
  pub octagon : IsOctagon v
  pub dims : v.dims ≡ n

fit-move : (m : Move) (n : ℕ) (v : Octagon) → IsFit n v → IsFit n (move_value m v)
fit-move m n v h = record { octagon = value-move_value m v h.octagon; dims = dims-move_value m v ∙ h.dims }

fit-returned : (g : Graph) (p : Proc) (r : ℕ → Octagon) (m : Move) (v : Octagon) → MoveFits g.procs p m
    → ((callee : ℕ) → callee < length g.procs → IsFit (proc_of g callee).dims (r (proc_of g callee).exit)) → IsFit p.dims v → IsFit p.dims (returned_by g r m v)
unfolding back_value
fit-returned g p r skips v f x h = h
fit-returned g p r (assigns y e) v f x h = h
fit-returned g p r (havocs y) v f x h = h
fit-returned g p r (tests c wanted) v f x h = h
fit-returned g p r (calls callee args targets) v f x h =
    let below = f.callee_in_range in
    let e = x callee (omega (arith, below)) in
    record {
      octagon = value-back_value v (r (proc_of g callee).exit) args (proc_of g callee).outputs targets f.results h.octagon e.octagon;
      dims = h.dims;
    }
fit-returned g p r (starts copies) v f x h = h

fit-entered : (g : Graph) (n q : ℕ) (m : Move) (v : Octagon) → is_call_of q m ≡ true → IsFit n v → IsFit (proc_of g q).dims (entered_by g m v)
unfolding enter_value
fit-entered g n q skips v t h = absurd (false≢true t)
fit-entered g n q (assigns x e) v t h = absurd (false≢true t)
fit-entered g n q (havocs x) v t h = absurd (false≢true t)
fit-entered g n q (tests c wanted) v t h = absurd (false≢true t)
fit-entered g n q (calls callee args targets) v t h = record {
  octagon = value-enter_value v args (proc_of g callee).dims h.octagon;
  dims = ap (λ (k : ℕ). (proc_of g k).dims) (eqb-true callee q t);
}
fit-entered g n q (starts copies) v t h = absurd (false≢true t)

-- ---- over all sources of a point

abbrev Fits : Graph → (ℕ → Octagon) → ℕ → Source → Type 0
Fits g r p o = IsFit (dims_at g p) (brought g r p o)

fit-fold : (g : Graph) (r : ℕ → Octagon) (p : ℕ) (os : List Source) (v : Octagon) → IsFit (dims_at g p) v → AllOf (Fits g r p) os → IsOctagon (fold (with_source g r p) v os)
unfolding join_value
fit-fold g r p [] v h all = h.octagon
fit-fold g r p (o ∷ os) v h all =
    fit-fold g r p os (with_source g r p v o)
    (record { octagon = octagon-join v (brought g r p o) h.octagon all.0.octagon (h.dims ∙ sym all.0.dims); dims = h.dims }) all.1

-- each value that is read is a value with its point's dimensions
abbrev pub Readable : Graph → (ℕ → Octagon) → Type 0
Readable g r = (q : ℕ) → q < length g.owners → IsFit (dims_at g q) (r q)

fit-into_point : (g : Graph) (r : ℕ → Octagon) (p e : ℕ) → Known g → Readable g r → e < length g.arcs → AllOf (Fits g r p) (source_into_point g p e)
fit-into_point g r p e is h l = by (nat_eq (arc_at g e).target p) refl
  where
    here : IsFit (dims_at g (arc_at g e).source) (r (arc_at g e).source)
    here = h (arc_at g e).source (is.source e l)

    same : (arc_at g e).target ≡ p → dims_at g (arc_at g e).source ≡ dims_at g p
    same t = ap (λ (o : ℕ). (proc_of g o).dims) (is.one_owner e l) ∙ ap (dims_at g) t

    exits : (callee : ℕ) → callee < length g.procs → IsFit (proc_of g callee).dims (r (proc_of g callee).exit)
    exits callee c = subst (λ (o : ℕ). IsFit (proc_of g o).dims (r (proc_of g callee).exit)) (is.owns_exit callee c) (h (proc_of g callee).exit (is.exit_in_range callee c))

    flow : (arc_at g e).target ≡ p → IsFit (dims_at g p) (brought g r p (source.Flow e))
    flow t = subst (λ (n : ℕ). IsFit n (brought g r p (source.Flow e))) (same t) (fit-move (arc_at g e).move (dims_at g (arc_at g e).source) (r (arc_at g e).source) here)

    back : (arc_at g e).target ≡ p → IsFit (dims_at g p) (brought g r p (source.Back e))
    back t = subst (λ (n : ℕ). IsFit n (brought g r p (source.Back e))) (same t)
        (fit-returned g (proc_owning g (arc_at g e).source) r (arc_at g e).move (r (arc_at g e).source) (is.fits e l) exits here)

    one : (m : Move) → IsFit (dims_at g p) (brought g r p (source.Flow e)) → IsFit (dims_at g p) (brought g r p (source.Back e)) → IsFit (dims_at g p) (brought g r p (source_by e m))
    one skips a b = a
    one (assigns x w) a b = a
    one (havocs x) a b = a
    one (tests c wanted) a b = a
    one (calls callee args targets) a b = b
    one (starts pairs) a b = a

    by : (t : Bool) → nat_eq (arc_at g e).target p ≡ t → AllOf (Fits g r p) (cond t (source_by e (arc_at g e).move ∷ []) [])
    by true t = let q = eqb-true (arc_at g e).target p t in (one (arc_at g e).move (flow q) (back q), tt)
    by false t = tt

fit-into_entry : (g : Graph) (r : ℕ → Octagon) (p e : ℕ) → Known g → Readable g r → e < length g.arcs → AllOf (Fits g r p) (source_into_entry g (owner_of g p) e)
fit-into_entry g r p e is h l = by (is_call_of (owner_of g p) (arc_at g e).move) refl
  where
    by : (t : Bool) → is_call_of (owner_of g p) (arc_at g e).move ≡ t → AllOf (Fits g r p) (cond t (source.Enter e ∷ []) [])
    by true t = (fit-entered g (dims_at g (arc_at g e).source) (owner_of g p) (arc_at g e).move (r (arc_at g e).source) t (h (arc_at g e).source (is.source e l)), tt)
    by false t = tt

fit-start_of : (g : Graph) (r : ℕ → Octagon) (p : ℕ) → AllOf (Fits g r p) (source_at_start g p)
unfolding top_value
fit-start_of g r p = by (nat_eq p (proc_of g (main_of g)).entry)
  where
    by : (t : Bool) → AllOf (Fits g r p) (cond t (source.Always ∷ []) [])
    by true = (record { octagon = octagon-top (dims_at g p); dims = refl }, tt)
    by false = tt

fit-origins : (g : Graph) (r : ℕ → Octagon) (p : ℕ) → Known g → Readable g r → AllOf (Fits g r p) (sources g p)
unfolding sources
fit-origins g r p is h = by (is_entry g p)
  where
    by : (t : Bool) → AllOf (Fits g r p) (cond t (source_at_start g p ++ flat_map (source_into_entry g (owner_of g p)) (range_with_len 0 (length g.arcs))) (flat_map (source_into_point g p) (range_with_len 0 (length g.arcs))))
    by true = all-append (Fits g r p) (source_at_start g p) (flat_map (source_into_entry g (owner_of g p)) (range_with_len 0 (length g.arcs))) (fit-start_of g r p)
        (all-edges (Fits g r p) (source_into_entry g (owner_of g p)) (length g.arcs) (λ e l. fit-into_entry g r p e is h l))
    by false = all-edges (Fits g r p) (source_into_point g p) (length g.arcs) (λ e l. fit-into_point g r p e is h l)

pub equation-octagon : (g : Graph) (r : ℕ → Octagon) (p : ℕ) → Known g → Readable g r → IsOctagon (equation g r p)
unfolding equation bottom_value
equation-octagon g r p is h = fit-fold g r p (sources g p) (bottom_value (dims_at g p)) (record { octagon = tt; dims = refl }) (fit-origins g r p is h)

-- ---- Bottom goes to Bottom

abbrev pub ReadsBottom : Graph → (ℕ → Octagon) → Type 0
ReadsBottom g r = (q : ℕ) → q < length g.owners → r q ≡ bottom_value (dims_at g q)

abbrev BringsBottom : Graph → (ℕ → Octagon) → ℕ → Source → Type 0
BringsBottom g r p o = brought g r p o ≡ bottom_value (dims_at g p)

returned-bottom : (g : Graph) (r : ℕ → Octagon) (m : Move) (n : ℕ) → returned_by g r m (bottom_value n) ≡ bottom_value n
returned-bottom g r skips n = refl
returned-bottom g r (assigns x e) n = refl
returned-bottom g r (havocs x) n = refl
returned-bottom g r (tests c wanted) n = refl
returned-bottom g r (calls callee args targets) n = back-bottom_caller n (r (proc_of g callee).exit) args (proc_of g callee).outputs targets
returned-bottom g r (starts copies) n = refl

entered-bottom : (g : Graph) (q : ℕ) (m : Move) (n : ℕ) → is_call_of q m ≡ true → entered_by g m (bottom_value n) ≡ bottom_value (proc_of g q).dims
entered-bottom g q skips n t = absurd (false≢true t)
entered-bottom g q (assigns x e) n t = absurd (false≢true t)
entered-bottom g q (havocs x) n t = absurd (false≢true t)
entered-bottom g q (tests c wanted) n t = absurd (false≢true t)
entered-bottom g q (calls callee args targets) n t = enter-bottom n args (proc_of g callee).dims ∙ ap (λ (k : ℕ). bottom_value (proc_of g k).dims) (eqb-true callee q t)
entered-bottom g q (starts copies) n t = absurd (false≢true t)

bottom-into_point : (g : Graph) (r : ℕ → Octagon) (p e : ℕ) → Known g → ReadsBottom g r → e < length g.arcs → AllOf (BringsBottom g r p) (source_into_point g p e)
bottom-into_point g r p e is h l = by (nat_eq (arc_at g e).target p) refl
  where
    same : (arc_at g e).target ≡ p → bottom_value (dims_at g (arc_at g e).source) ≡ bottom_value (dims_at g p)
    same t = ap (λ (o : ℕ). bottom_value (proc_of g o).dims) (is.one_owner e l) ∙ ap (λ (q : ℕ). bottom_value (dims_at g q)) t

    flow : (arc_at g e).target ≡ p → BringsBottom g r p (source.Flow e)
    flow t = ap (move_value (arc_at g e).move) (h (arc_at g e).source (is.source e l)) ∙ move-bottom (arc_at g e).move (dims_at g (arc_at g e).source) ∙ same t

    back : (arc_at g e).target ≡ p → BringsBottom g r p (source.Back e)
    back t = ap (returned_by g r (arc_at g e).move) (h (arc_at g e).source (is.source e l)) ∙ returned-bottom g r (arc_at g e).move (dims_at g (arc_at g e).source) ∙ same t

    one : (m : Move) → BringsBottom g r p (source.Flow e) → BringsBottom g r p (source.Back e) → BringsBottom g r p (source_by e m)
    one skips a b = a
    one (assigns x w) a b = a
    one (havocs x) a b = a
    one (tests c wanted) a b = a
    one (calls callee args targets) a b = b
    one (starts pairs) a b = a

    by : (t : Bool) → nat_eq (arc_at g e).target p ≡ t → AllOf (BringsBottom g r p) (cond t (source_by e (arc_at g e).move ∷ []) [])
    by true t = let q = eqb-true (arc_at g e).target p t in (one (arc_at g e).move (flow q) (back q), tt)
    by false t = tt

bottom-into_entry : (g : Graph) (r : ℕ → Octagon) (p e : ℕ) → Known g → ReadsBottom g r → e < length g.arcs → AllOf (BringsBottom g r p) (source_into_entry g (owner_of g p) e)
bottom-into_entry g r p e is h l = by (is_call_of (owner_of g p) (arc_at g e).move) refl
  where
    by : (t : Bool) → is_call_of (owner_of g p) (arc_at g e).move ≡ t → AllOf (BringsBottom g r p) (cond t (source.Enter e ∷ []) [])
    by true t = (ap (entered_by g (arc_at g e).move) (h (arc_at g e).source (is.source e l)) ∙ entered-bottom g (owner_of g p) (arc_at g e).move (dims_at g (arc_at g e).source) t, tt)
    by false t = tt

bottom-sources : (g : Graph) (r : ℕ → Octagon) (p : ℕ) → Known g → ReadsBottom g r → nat_eq p (proc_of g (main_of g)).entry ≡ false → AllOf (BringsBottom g r p) (sources g p)
unfolding sources
bottom-sources g r p is h plain = by (is_entry g p)
  where
    by : (t : Bool) → AllOf (BringsBottom g r p) (cond t (source_at_start g p ++ flat_map (source_into_entry g (owner_of g p)) (range_with_len 0 (length g.arcs))) (flat_map (source_into_point g p) (range_with_len 0 (length g.arcs))))
    by true = all-append (BringsBottom g r p) (source_at_start g p) (flat_map (source_into_entry g (owner_of g p)) (range_with_len 0 (length g.arcs)))
        (subst (λ (b : Bool). AllOf (BringsBottom g r p) (cond b (source.Always ∷ []) [])) (sym plain) tt)
        (all-edges (BringsBottom g r p) (source_into_entry g (owner_of g p)) (length g.arcs) (λ e l. bottom-into_entry g r p e is h l))
    by false = all-edges (BringsBottom g r p) (source_into_point g p) (length g.arcs) (λ e l. bottom-into_point g r p e is h l)

join-bottom : (n : ℕ) → join_value (bottom_value n) (bottom_value n) ≡ bottom_value n
unfolding join_value bottom_value
join-bottom n = refl

folded-bottom : (g : Graph) (r : ℕ → Octagon) (p : ℕ) (os : List Source) → AllOf (BringsBottom g r p) os → fold (with_source g r p) (bottom_value (dims_at g p)) os ≡ bottom_value (dims_at g p)
folded-bottom g r p [] h = refl
folded-bottom g r p (o ∷ os) h =
    ap (λ (v : Octagon). fold (with_source g r p) (join_value (bottom_value (dims_at g p)) v) os) h.0
    ∙ ap (λ (v : Octagon). fold (with_source g r p) v os) (join-bottom (dims_at g p))
    ∙ folded-bottom g r p os h.1

-- where Bottom is read everywhere, every point but main's entry gets Bottom
pub equation-bottom : (g : Graph) (r : ℕ → Octagon) (p : ℕ) → Known g → ReadsBottom g r → nat_eq p (proc_of g (main_of g)).entry ≡ false → equation g r p ≡ bottom_value (dims_at g p)
unfolding equation
equation-bottom g r p is h plain = folded-bottom g r p (sources g p) (bottom-sources g r p is h plain)
