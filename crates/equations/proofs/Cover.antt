-- Values that solve the equations cover what comes to points, and the descent keeps this.
use Rattle.std.proofs.Common.{◌≡◌, ◌≢◌, ◌⊎◌, inl, inr, ℕ, zero, suc, ◌+◌, ◌<◌, ◌≤◌, ◌++◌, Bool, true, false, cond, List, [], ◌∷◌, length, get_or, map, take, drop, Option, Some, None, refl, sym, ap, subst, arith, ◌∙◌, nat_eq, eq-eqb, ne_eqb, eqb-true}
use Rattle.std.specs.List.{All, fold, flat_map, range_with_len}
use Rattle.std.specs.Option.{option_and_then}
use Rattle.std.proofs.lemmas.List.FromFn.{length-range_with_len, get_or-range_with_len}
use Rattle.oct_def.specs.Table.{Matrix}
use Rattle.oct_def.specs.Tight.{tight}
use Rattle.oct_def.specs.Matrix.{MeetsValue}
use Rattle.oct_def.specs.Octagon.{Octagon, MeetsOctagon, bottom_value, tight_value, join_value, narrow_value}
use Rattle.oct_def.proofs.Sound.{meets-tight}
use Rattle.oct_def.proofs.Lattice.{meets-top, meets-join, meets-narrow}
use Rattle.spl_core.specs.declared.parts.Proc.{Proc}
use Rattle.spl_core.specs.Expression.{State, value_of}
use Rattle.spl_core.specs.Graph.{Move, skips, assigns, havocs, tests, calls, starts, Graph, proc_of, arc_at, main_of, owner_of, proc_owning, dims_at}
use Rattle.spl_core.specs.GraphFacts.{CallMoveFits}
use Rattle.spl_runs.specs.Runs.{Flow, values_of, with_values, outputs_of, Enters}
use Rattle.spl_runs.specs.Comes.{Comes, begins, flows, goes_in, comes_back}
use Rattle.spl_runs.proofs.Coming.{keeps-flow, keeps-with_values, call_fits}
use Rattle.call_graph.specs.Reach.{is_call_of}
use Rattle.call_graph.specs.Order.{is_entry}
use Rattle.transfer_def.specs.Move.{move_value, IsMoveOver}
use Rattle.transfer_def.specs.Back.{back_value}
use Rattle.transfer_def.proofs.Moves.{meets-move_value, over-fits}
use Rattle.transfer_def.proofs.Enter.{meets-enter_value}
use Rattle.transfer_def.proofs.Back.{meets-back_value}
use Rattle.equations.specs.declared.source.Source.{Source}
use Rattle.equations.specs.declared.source.Source.TheVariants as source
use Rattle.equations.specs.Sources.{source_by, source_at_start, source_into_entry, source_into_point, sources}
use Rattle.equations.specs.Equations.{entered_by, returned_by, brought, with_source, equation, read, AreSized, Covers, replaced, lowered}
use Rattle.equations.proofs.Facts.{Known}

-- ---- moves

meets-move : (g : Graph) (e : ℕ) (v : Octagon) (s t : State) → Known g → e < length g.arcs → dims_at g (arc_at g e).source ≡ v.dims → length s ≡ v.dims → Flow (arc_at g e).move s t
    → MeetsOctagon s v → MeetsOctagon t (move_value (arc_at g e).move v)
meets-move g e v s t is l d n f h =
    meets-move_value (arc_at g e).move v s t n (subst (λ k. IsMoveOver k (arc_at g e).move) d (over-fits g.procs (proc_owning g (arc_at g e).source) (arc_at g e).move (is.fits e l))) f h

inside : {procs : List Proc} {p : Proc} {callee : ℕ} {args targets : List ℕ} → CallMoveFits procs p callee args targets → callee < length procs
inside fit = let l = fit.callee_in_range in omega (arith, l)

-- ---- sources

-- a source is one of a list
abbrev Has : List Source → Source → Type 0
Has [] o = ⊥
Has (y ∷ ys) o = (y ≡ o) ⊎ Has ys o

has-left : (xs ys : List Source) (o : Source) → Has xs o → Has (xs ++ ys) o
has-left [] ys o h = absurd h
has-left (x ∷ xs) ys o (inl e) = inl e
has-left (x ∷ xs) ys o (inr h) = inr (has-left xs ys o h)

has-right : (xs ys : List Source) (o : Source) → Has ys o → Has (xs ++ ys) o
has-right [] ys o h = h
has-right (x ∷ xs) ys o h = inr (has-right xs ys o h)

has-flat_map : (f : ℕ → List Source) (es : List ℕ) (i e : ℕ) (o : Source) → i < length es → get_or es i 0 ≡ e → Has (f e) o → Has (flat_map f es) o
has-flat_map f [] i e o l g h = absurd (omega arith)
has-flat_map f (x ∷ es) zero e o l g h = has-left (f x) (flat_map f es) o (subst (λ (k : ℕ). Has (f k) o) (sym g) h)
has-flat_map f (x ∷ es) (suc i) e o l g h = has-right (f x) (flat_map f es) o (has-flat_map f es i e o (omega arith) g h)

has-edge : (f : ℕ → List Source) (n e : ℕ) (o : Source) → e < n → Has (f e) o → Has (flat_map f (range_with_len 0 n)) o
has-edge f n e o l h = has-flat_map f (range_with_len 0 n) e e o (omega (arith, length-range_with_len 0 n)) (get_or-range_with_len 0 n e 0 l ∙ plain) h
  where
    plain : 0 + e ≡ e
    plain = omega arith

has-at_entry : (g : Graph) (x : ℕ) (o : Source) → x ≡ (proc_owning g x).entry → Has (source_at_start g x ++ flat_map (source_into_entry g (owner_of g x)) (range_with_len 0 (length g.arcs))) o → Has (sources g x) o
unfolding sources is_entry
has-at_entry g x o e h =
    subst (λ (b : Bool). Has (cond b (source_at_start g x ++ flat_map (source_into_entry g (owner_of g x)) (range_with_len 0 (length g.arcs))) (flat_map (source_into_point g x) (range_with_len 0 (length g.arcs)))) o)
    (sym (eq-eqb (proc_owning g x).entry x (sym e))) h

has-at_point : (g : Graph) (x : ℕ) (o : Source) → x ≢ (proc_owning g x).entry → Has (flat_map (source_into_point g x) (range_with_len 0 (length g.arcs))) o → Has (sources g x) o
unfolding sources is_entry
has-at_point g x o e h =
    subst (λ (b : Bool). Has (cond b (source_at_start g x ++ flat_map (source_into_entry g (owner_of g x)) (range_with_len 0 (length g.arcs))) (flat_map (source_into_point g x) (range_with_len 0 (length g.arcs)))) o)
    (sym (ne_eqb (proc_owning g x).entry x (λ same. e (sym same)))) h

-- ---- joins over sources

meets-kept : (g : Graph) (r : ℕ → Octagon) (x : ℕ) (s : State) (os : List Source) (v : Octagon) → MeetsOctagon s v → MeetsOctagon s (fold (with_source g r x) v os)
meets-kept g r x s [] v h = h
meets-kept g r x s (o ∷ os) v h = meets-kept g r x s os (with_source g r x v o) (meets-join v (brought g r x o) s (inl h))

meets-one : (g : Graph) (r : ℕ → Octagon) (x : ℕ) (s : State) (os : List Source) (v : Octagon) (o : Source) → Has os o → MeetsOctagon s (brought g r x o) → MeetsOctagon s (fold (with_source g r x) v os)
meets-one g r x s [] v o i h = absurd i
meets-one g r x s (y ∷ os) v o (inl e) h =
    meets-kept g r x s os (with_source g r x v y) (meets-join v (brought g r x y) s (inr (subst (λ (z : Source). MeetsOctagon s (brought g r x z)) (sym e) h)))
meets-one g r x s (y ∷ os) v o (inr i) h = meets-one g r x s os (with_source g r x v y) o i h

meets-equation : (g : Graph) (r : ℕ → Octagon) (x : ℕ) (s : State) (o : Source) → Has (sources g x) o → MeetsOctagon s (brought g r x o) → MeetsOctagon s (equation g r x)
unfolding equation
meets-equation g r x s o i h = meets-one g r x s (sources g x) (bottom_value (dims_at g x)) o i h

pub dims-fold : (g : Graph) (r : ℕ → Octagon) (x : ℕ) (os : List Source) (v : Octagon) → (fold (with_source g r x) v os).dims ≡ v.dims
unfolding join_value
dims-fold g r x [] v = refl
dims-fold g r x (o ∷ os) v = dims-fold g r x os (with_source g r x v o)

pub dims-equation : (g : Graph) (r : ℕ → Octagon) (x : ℕ) → (equation g r x).dims ≡ dims_at g x
unfolding equation bottom_value
dims-equation g r x = dims-fold g r x (sources g x) (bottom_value (dims_at g x))

-- ---- the four ways to come to a point

entry_here : (g : Graph) (p : ℕ) → Known g → p < length g.procs → (proc_of g p).entry ≡ (proc_owning g (proc_of g p).entry).entry
entry_here g p is l = ap (λ (o : ℕ). (proc_of g o).entry) (sym (is.owns_entry p l))

begin-meets : (g : Graph) (r : ℕ → Octagon) (s : State) → Known g → MeetsOctagon s (equation g r (proc_of g (main_of g)).entry)
begin-meets g r s is = meets-equation g r x s source.Always (has-at_entry g x source.Always (entry_here g (main_of g) is is.main)
    (has-left (source_at_start g x) (flat_map (source_into_entry g (owner_of g x)) (range_with_len 0 (length g.arcs))) source.Always here)) (meets-top (dims_at g x) s)
  where
    x : ℕ
    x = (proc_of g (main_of g)).entry

    here : Has (source_at_start g x) source.Always
    here = subst (λ (b : Bool). Has (cond b (source.Always ∷ []) []) source.Always) (sym (eq-eqb x x refl)) (inl refl)

source-flow : (e : ℕ) (m : Move) (s t : State) → Flow m s t → source_by e m ≡ source.Flow e
source-flow e skips s t h = refl
source-flow e (assigns x w) s t h = refl
source-flow e (havocs x) s t h = refl
source-flow e (tests c wanted) s t h = refl
source-flow e (calls callee args targets) s t h = absurd h
source-flow e (starts pairs) s t h = refl

has-into_point : (g : Graph) (e : ℕ) (o : Source) → Known g → e < length g.arcs → source_by e (arc_at g e).move ≡ o → Has (sources g (arc_at g e).target) o
has-into_point g e o is l is_o =
    has-at_point g (arc_at g e).target o (is.no_entry e l)
    (has-edge (source_into_point g (arc_at g e).target) (length g.arcs) e o l
    (subst (λ (b : Bool). Has (cond b (source_by e (arc_at g e).move ∷ []) []) o) (sym (eq-eqb (arc_at g e).target (arc_at g e).target refl)) (inl is_o)))

flow-meets : (g : Graph) (r : ℕ → Octagon) (e : ℕ) (s t : State) → Known g → e < length g.arcs → Flow (arc_at g e).move s t
    → (r (arc_at g e).source).dims ≡ dims_at g (arc_at g e).source → length s ≡ dims_at g (arc_at g e).source → MeetsOctagon s (r (arc_at g e).source)
    → MeetsOctagon t (equation g r (arc_at g e).target)
flow-meets g r e s t is l f d n h =
    meets-equation g r (arc_at g e).target t (source.Flow e) (has-into_point g e (source.Flow e) is l (source-flow e (arc_at g e).move s t f))
    (meets-move g e (r (arc_at g e).source) s t is l (sym d) (n ∙ sym d) f h)

enter-meets : (g : Graph) (r : ℕ → Octagon) (e callee : ℕ) (args targets : List ℕ) (s t : State) → Known g → e < length g.arcs
    → (arc_at g e).move ≡ calls callee args targets → Enters (proc_of g callee) args s t → MeetsOctagon s (r (arc_at g e).source)
    → MeetsOctagon t (equation g r (proc_of g callee).entry)
enter-meets g r e callee args targets s t is l m n h =
    let fit = call_fits g e callee args targets is.graph l m in
    let inputs : take (length args) t ≡ map (value_of s) args = ap (λ (k : ℕ). take k t) fit.arguments ∙ n.inputs in
    meets-equation g r x t (source.Enter e) (has-at_entry g x (source.Enter e) (entry_here g callee is (inside fit))
    (has-right (source_at_start g x) (flat_map (source_into_entry g (owner_of g x)) (range_with_len 0 (length g.arcs))) (source.Enter e)
    (has-edge (source_into_entry g (owner_of g x)) (length g.arcs) e (source.Enter e) l (here (sym (is.owns_entry callee (inside fit)))))))
    (subst (λ (w : Move). MeetsOctagon t (entered_by g w (r (arc_at g e).source))) (sym m)
    (meets-enter_value args (proc_of g callee).dims (r (arc_at g e).source) s t inputs h))
  where
    x : ℕ
    x = (proc_of g callee).entry

    here : callee ≡ owner_of g x → Has (source_into_entry g (owner_of g x) e) (source.Enter e)
    here o =
        let test : is_call_of (owner_of g x) (arc_at g e).move ≡ true = ap (is_call_of (owner_of g x)) m ∙ eq-eqb callee (owner_of g x) o in
        subst (λ (b : Bool). Has (cond b (source.Enter e ∷ []) []) (source.Enter e)) (sym test) (inl refl)

back-meets : (g : Graph) (r : ℕ → Octagon) (e callee : ℕ) (args targets : List ℕ) (s t : State) → Known g → e < length g.arcs
    → (arc_at g e).move ≡ calls callee args targets → take (proc_of g callee).inputs t ≡ values_of s args
    → (r (arc_at g e).source).dims ≡ dims_at g (arc_at g e).source → length s ≡ dims_at g (arc_at g e).source → length t ≡ (proc_of g callee).dims
    → MeetsOctagon s (r (arc_at g e).source) → MeetsOctagon t (r (proc_of g callee).exit)
    → MeetsOctagon (with_values s targets (outputs_of (proc_of g callee) t)) (equation g r (arc_at g e).target)
back-meets g r e callee args targets s t is l m inputs d n nt hs ht =
    meets-equation g r (arc_at g e).target after (source.Back e) (has-into_point g e (source.Back e) is l (ap (source_by e) m))
    (subst (λ (w : Move). MeetsOctagon after (returned_by g r w v)) (sym m) value)
  where
    v : Octagon
    v = r (arc_at g e).source

    q : Proc
    q = proc_of g callee

    after : State
    after = with_values s targets (outputs_of q t)

    fit : CallMoveFits g.procs (proc_owning g (arc_at g e).source) callee args targets
    fit = call_fits g e callee args targets is.graph l m

    taken : take (length args) t ≡ values_of s args
    taken = ap (λ (k : ℕ). take k t) fit.arguments ∙ inputs

    long : length args + q.outputs ≤ length t
    long = let w = is.within callee (inside fit) in omega (arith, fit.arguments, nt, w)

    args_in : All (λ z. z < v.dims) args
    args_in k z p = subst (λ (b : ℕ). get_or args k z < b) (sym d) (fit.args_below k z p)

    law : MeetsOctagon (with_values s targets (take q.outputs (drop (length args) t))) (back_value v (r q.exit) args q.outputs targets)
    law = meets-back_value args targets q.outputs v (r q.exit) s t (n ∙ sym d) long fit.results args_in fit.distinct taken hs ht

    value : MeetsOctagon after (back_value v (r q.exit) args q.outputs targets)
    value = subst (λ (k : ℕ). MeetsOctagon (with_values s targets (take q.outputs (drop k t))) (back_value v (r q.exit) args q.outputs targets)) fit.arguments law

-- ---- what comes to a point has the point's dimensions

pub record IsPlaced (g : Graph) (p : ℕ) (s : State) : Type 0 where
  pub in_range : p < length g.owners
  pub dims : length s ≡ dims_at g p

pub placed : (g : Graph) (p : ℕ) (s : State) → Known g → Comes g p s → IsPlaced g p s
placed g _ _ is (begins s n) = record {
  in_range = is.entry_in_range (main_of g) is.main;
  dims = n ∙ ap (λ (o : ℕ). (proc_of g o).dims) (sym (is.owns_entry (main_of g) is.main));
}
placed g _ _ is (flows e s t l f h) = record {
  in_range = is.target e l;
  dims = (keeps-flow g (proc_owning g (arc_at g e).source) (arc_at g e).move s t (is.fits e l) f).dims ∙ (placed g (arc_at g e).source s is h).dims
      ∙ ap (λ (o : ℕ). (proc_of g o).dims) (is.one_owner e l);
}
placed g _ _ is (goes_in e callee args targets s t l m n h) =
    let fit = call_fits g e callee args targets is.graph l m in
    record {
      in_range = is.entry_in_range callee (inside fit);
      dims = n.dims ∙ ap (λ (o : ℕ). (proc_of g o).dims) (sym (is.owns_entry callee (inside fit)));
    }
placed g _ _ is (comes_back e callee args targets s t l m i hs ht) = record {
  in_range = is.target e l;
  dims = (keeps-with_values (proc_owning g (arc_at g e).source) targets s (outputs_of (proc_of g callee) t) (call_fits g e callee args targets is.graph l m).writable).dims
      ∙ (placed g (arc_at g e).source s is hs).dims ∙ ap (λ (o : ℕ). (proc_of g o).dims) (is.one_owner e l);
}

exit_dims : (g : Graph) (e callee : ℕ) (args targets : List ℕ) (t : State) → Known g → e < length g.arcs → (arc_at g e).move ≡ calls callee args targets
    → Comes g (proc_of g callee).exit t → length t ≡ (proc_of g callee).dims
exit_dims g e callee args targets t is l m h =
    (placed g (proc_of g callee).exit t is h).dims ∙ ap (λ (o : ℕ). (proc_of g o).dims) (is.owns_exit callee (inside (call_fits g e callee args targets is.graph l m)))

-- ---- reading

dims-read : (cut : ℕ → Bool) (x : ℕ → Octagon) (p : ℕ) → (read cut x p).dims ≡ (x p).dims
unfolding tight_value
dims-read cut x p = by (cut p)
  where
    by : (b : Bool) → (cond b (tight_value (x p)) (x p)).dims ≡ (x p).dims
    by true = refl
    by false = refl

meets-tight_value : (v : Octagon) (s : State) → MeetsOctagon s v → MeetsOctagon s (tight_value v)
unfolding tight_value
meets-tight_value v s h = by v.matrix h
  where
    by : (w : Option Matrix) → MeetsValue s w → MeetsValue s (option_and_then tight w)
    by None k = absurd k
    by (Some m) k = meets-tight s m k

meets-read : (cut : ℕ → Bool) (x : ℕ → Octagon) (p : ℕ) (s : State) → MeetsOctagon s (x p) → MeetsOctagon s (read cut x p)
meets-read cut x p s h = by (cut p)
  where
    by : (b : Bool) → MeetsOctagon s (cond b (tight_value (x p)) (x p))
    by true = meets-tight_value (x p) s h
    by false = h

pub reading_covers : (g : Graph) (cut : ℕ → Bool) (x : ℕ → Octagon) → Covers g x → Covers g (read cut x)
reading_covers g cut x c = record { meets = λ p s h. meets-read cut x p s (c.meets p s h) }

-- ---- the laws

sized-read : (g : Graph) (cut : ℕ → Bool) (x : ℕ → Octagon) (p : ℕ) (s : State) → Known g → AreSized g x → Comes g p s → (read cut x p).dims ≡ dims_at g p
sized-read g cut x p s is z h = dims-read cut x p ∙ z.dims p (placed g p s is h).in_range

pub equation_met : (g : Graph) (cut : ℕ → Bool) (x : ℕ → Octagon) → Known g → AreSized g x → Covers g x → (p : ℕ) (s : State) → Comes g p s → MeetsOctagon s (equation g (read cut x) p)
equation_met g cut x is z c _ _ (begins s n) = begin-meets g (read cut x) s is
equation_met g cut x is z c _ _ (flows e s t l f h) =
    flow-meets g (read cut x) e s t is l f (sized-read g cut x (arc_at g e).source s is z h) (placed g (arc_at g e).source s is h).dims
    (meets-read cut x (arc_at g e).source s (c.meets (arc_at g e).source s h))
equation_met g cut x is z c _ _ (goes_in e callee args targets s t l m n h) =
    enter-meets g (read cut x) e callee args targets s t is l m n (meets-read cut x (arc_at g e).source s (c.meets (arc_at g e).source s h))
equation_met g cut x is z c _ _ (comes_back e callee args targets s t l m i hs ht) =
    back-meets g (read cut x) e callee args targets s t is l m i (sized-read g cut x (arc_at g e).source s is z hs) (placed g (arc_at g e).source s is hs).dims
    (exit_dims g e callee args targets t is l m ht)
    (meets-read cut x (arc_at g e).source s (c.meets (arc_at g e).source s hs)) (meets-read cut x (proc_of g callee).exit t (c.meets (proc_of g callee).exit t ht))

pub equations_cover : (g : Graph) (cut : ℕ → Bool) (x : ℕ → Octagon) → Known g → AreSized g x → Covers g x → Covers g (equation g (read cut x))
equations_cover g cut x is z c = record { meets = equation_met g cut x is z c }

pub lowering_covers : (g : Graph) (cut : ℕ → Bool) (x : ℕ → Octagon) (p : ℕ) → Known g → AreSized g x → Covers g x → Covers g (replaced x p (lowered g cut x p))
lowering_covers g cut x p is z c = record { meets = λ q s h. by q s h (nat_eq q p) refl }
  where
    low : (s : State) → Comes g p s → (b : Bool) → MeetsOctagon s (cond b (narrow_value (x p) (equation g (read cut x) p)) (equation g (read cut x) p))
    low s h true = meets-narrow (x p) (equation g (read cut x) p) s (c.meets p s h) (equation_met g cut x is z c p s h)
    low s h false = equation_met g cut x is z c p s h

    by : (q : ℕ) (s : State) → Comes g q s → (b : Bool) → nat_eq q p ≡ b → MeetsOctagon s (cond b (lowered g cut x p) (x q))
    by q s h true e = low s (subst (λ (k : ℕ). Comes g k s) (eqb-true q p e) h) (cut p)
    by q s h false e = c.meets q s h

solution_met : (g : Graph) (cut : ℕ → Bool) (x : ℕ → Octagon) → Known g → AreSized g x
    → ((p : ℕ) (s : State) → p < length g.owners → MeetsOctagon s (equation g (read cut x) p) → MeetsOctagon s (x p))
    → (p : ℕ) (s : State) → Comes g p s → MeetsOctagon s (x p)
solution_met g cut x is z solves _ _ (begins s n) =
    solves (proc_of g (main_of g)).entry s (is.entry_in_range (main_of g) is.main) (begin-meets g (read cut x) s is)
solution_met g cut x is z solves _ _ (flows e s t l f h) =
    solves (arc_at g e).target t (is.target e l)
    (flow-meets g (read cut x) e s t is l f (sized-read g cut x (arc_at g e).source s is z h) (placed g (arc_at g e).source s is h).dims
    (meets-read cut x (arc_at g e).source s (solution_met g cut x is z solves (arc_at g e).source s h)))
solution_met g cut x is z solves _ _ (goes_in e callee args targets s t l m n h) =
    solves (proc_of g callee).entry t (is.entry_in_range callee (inside (call_fits g e callee args targets is.graph l m)))
    (enter-meets g (read cut x) e callee args targets s t is l m n (meets-read cut x (arc_at g e).source s (solution_met g cut x is z solves (arc_at g e).source s h)))
solution_met g cut x is z solves _ _ (comes_back e callee args targets s t l m i hs ht) =
    solves (arc_at g e).target (with_values s targets (outputs_of (proc_of g callee) t)) (is.target e l)
    (back-meets g (read cut x) e callee args targets s t is l m i (sized-read g cut x (arc_at g e).source s is z hs) (placed g (arc_at g e).source s is hs).dims
    (exit_dims g e callee args targets t is l m ht)
    (meets-read cut x (arc_at g e).source s (solution_met g cut x is z solves (arc_at g e).source s hs))
    (meets-read cut x (proc_of g callee).exit t (solution_met g cut x is z solves (proc_of g callee).exit t ht)))

pub solutions_cover : (g : Graph) (cut : ℕ → Bool) (x : ℕ → Octagon) → Known g → AreSized g x
    → ((p : ℕ) (s : State) → p < length g.owners → MeetsOctagon s (equation g (read cut x) p) → MeetsOctagon s (x p)) → Covers g x
solutions_cover g cut x is z solves = record { meets = solution_met g cut x is z solves }
